-- What an end may offer: the HDLC rate codes and the pointers of CPRI Specification V7.0, sections 4.2.7.7.1 and
-- 4.2.7.7.2. That HDLC rate code 7 is never offered is this project's own choice.
use Rattle.std.specs.Prelude.{ℕ, Bool, ◌&&◌, nat_le}
use Rattle.control_words.specs.Announcement.{allows_pointer}

-- an HDLC rate code of 0 to 6, and a pointer of 20 to 63 or 0 for no fast channel
abbrev pub is_in_range : ℕ → ℕ → Bool
is_in_range hdlc pointer = nat_le hdlc 6 && allows_pointer pointer

-- What the 256 control words of a hyperframe say (CPRI Specification V7.0, sections 4.2.7.3 to 4.2.7.7). The two
-- spellings of the octet beside the comma are this project's own choice.
use Rattle.std.specs.Prelude.{ℕ, ◌+◌, ◌*◌, ◌%◌, List, Bool, ◌==◌, ◌&&◌, ◌||◌, if◌then◌else◌, slice_index, Result, Ok, Err}
use Rattle.control_words.specs.declared.announce.Announce.{Announce}
use Rattle.control_words.specs.declared.announce.BadControl.{BadControl}
use Rattle.control_words.specs.declared.announce.BadControl.TheVariants.{Sync, Version, Hdlc, Pointer}
use Rattle.control_words.specs.Announcement.{allows_hdlc, allows_pointer}

-- octet y of word x, where words have Y octets
abbrev pub control_octet : ℕ → List ℕ → ℕ → ℕ → ℕ
control_octet Y control x y = slice_index control (Y * x + y)

-- whether the words begin with the comma, and with a filler where there is room for one
abbrev pub is_synchronized : ℕ → List ℕ → Bool
is_synchronized Y control =
    control_octet Y control 0 0 == 188
    && (Y == 1 || control_octet Y control 0 1 == 80 || control_octet Y control 0 1 == 197)

-- the announcement, or the first octet that is outside its table
abbrev pub announced : ℕ → List ℕ → Result Announce BadControl
announced Y control =
    let version = control_octet Y control 2 0 in
    let rate = control_octet Y control 66 0 in
    let state = control_octet Y control 130 0 in
    let pointer = control_octet Y control 194 0 in
    if is_synchronized Y control then (
    if version == 1 then (
    if allows_hdlc Y (rate % 8) then (
    if allows_pointer (pointer % 64)
    then Ok (record { version = version; hdlc = rate % 8; pointer = pointer % 64; l1 = state % 32 })
    else Err (Pointer pointer))
    else Err (Hdlc rate))
    else Err (Version version))
    else Err Sync

-- Z and BFN
abbrev pub numbers : ℕ → List ℕ → ℕ × ℕ
numbers Y control =
    let low = control_octet Y control 128 0 in
    let high = control_octet Y control 192 0 % 16 in
    (control_octet Y control 64 0, low + 256 * high)

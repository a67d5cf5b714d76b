-- The places of the two management channels in the control words of a hyperframe.
use Rattle.std.specs.Prelude.{ℕ, ◌%◌, Bool, false, ◌==◌, ◌&&◌, ◌||◌, nat_le, nat_lt, if◌then◌else◌, count_by}
use Rattle.std.specs.List.{range_with_len}
use Rattle.control_words.specs.declared.announce.Announce.{Announce}

-- the words of subchannel 1, which the slow channel uses
abbrev pub is_slow_word : ℕ → Bool
is_slow_word x = x == 1 || x == 65 || x == 129 || x == 193

-- Whether octet y of word x belongs to the slow channel at an HDLC rate code. The codes and their rates are those of
-- CPRI Specification V7.0, section 4.2.7.7.1, and the places are this project's own.
unfoldable pub is_slow_place : ℕ → ℕ → ℕ → Bool
is_slow_place code x y =
    if code == 1 then (x == 1 || x == 129) && y == 0 else (
    if code == 2 then is_slow_word x && y == 0 else (
    if code == 3 then is_slow_word x && nat_lt y 2 else (
    if code == 4 then is_slow_word x && nat_lt y 4 else (
    if code == 5 then is_slow_word x && nat_lt y 5 else (
    if code == 6 then is_slow_word x else false)))))

-- Whether the octets of word x belong to the fast channel: those of the subchannels from the pointer on
-- (CPRI Specification V7.0, sections 4.2.7.4 and 4.2.7.7.2). The pointer 0 says that there is no such channel.
abbrev pub is_fast_place : ℕ → ℕ → Bool
is_fast_place pointer x = nat_le 20 pointer && nat_le pointer (x % 64)

-- whether octet y of word x belongs to one of the channels
abbrev pub is_managed_place : Announce → ℕ → ℕ → Bool
is_managed_place a x y = is_slow_place a.hdlc x y || is_fast_place a.pointer x

-- how many of the first y octets of word x belong to the channels
abbrev pub managed_before : ℕ → ℕ → Announce → ℕ
managed_before y x a = count_by (λ (i : ℕ). is_managed_place a x i) (range_with_len 0 y)

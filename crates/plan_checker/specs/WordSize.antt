-- The size of a word of the basic frame (CPRI V7.0, section 4.2.7.1), for the line bit rate options in 8B/10B code.
use Rattle.std.specs.Prelude.{ℕ, ◌*◌, ◌≤◌, ◌==◌, if◌then◌else◌}

-- the option is 1 to 7
abbrev pub IsLineOption : ℕ → Type 0
IsLineOption option = (1 ≤ option) × (option ≤ 7)

-- Y, the octets of a word: 614.4 Mbit/s times Y is the line bit rate of the option
abbrev pub word_size : ℕ → ℕ
word_size option =
    if option == 1 then 1 else (
    if option == 2 then 2 else (
    if option == 3 then 4 else (
    if option == 4 then 5 else (
    if option == 5 then 8 else (
    if option == 6 then 10 else (
    if option == 7 then 16 else 0))))))

-- the IQ bits of a basic frame: its words 1 to 15, of eight bits an octet
abbrev pub iq_bits : ℕ → ℕ
iq_bits option = 120 * word_size option

-- What a list of bits of the slow channel says, by places in the whole list: flags, the content between them and what comes
-- of each bit (ISO/IEC 13239: flag sequence, transparency, aborted frames). The longest content, the answers to a content
-- that is no frame, and that two flags may share a 0, are this project's own.
use Rattle.std.specs.Prelude.{ℕ, zero, suc, ◌-◌, ◌%◌, ◌==◌, nat_lt, ◌&&◌, not, Bool, true, false, if◌then◌else◌, List, [], ◌∷◌, ◌++◌, length, get_or, Option, Some, None}
use Rattle.std.specs.Bool.{beq}
use Rattle.hdlc_channel.specs.Bits.{octets_of}
use Rattle.hdlc_channel.specs.Fcs.{fcs_of, body_of, field_of}
use Rattle.hdlc_channel.specs.declared.slow_event.SlowEvent.{SlowEvent}
use Rattle.hdlc_channel.specs.declared.slow_event.SlowEvent.TheVariants.{Frame, Aborted, TooShort, Uneven, BadFcs, TooLong}

-- the bit at a place
abbrev pub bit : List Bool → ℕ → Bool
bit bits p = get_or bits p false

-- whether the first n bits end with these, which are written from the last one back
unfoldable pub ends_with : List Bool → List Bool → ℕ → Bool
ends_with [] bits n = true
ends_with (last ∷ before) bits zero = false
ends_with (last ∷ before) bits (suc n) = beq last (bit bits n) && ends_with before bits n

-- 01111110, which delimits frames
abbrev pub flag : List Bool
flag = false ∷ true ∷ true ∷ true ∷ true ∷ true ∷ true ∷ false ∷ []

-- 0111110: a 0 that follows exactly five 1s
abbrev pub stuffing : List Bool
stuffing = false ∷ true ∷ true ∷ true ∷ true ∷ true ∷ false ∷ []

-- 01111111, from its last bit back: the seventh 1 in a row
abbrev pub seven_ones : List Bool
seven_ones = true ∷ true ∷ true ∷ true ∷ true ∷ true ∷ true ∷ false ∷ []

-- the place after the last flag that ends within the first n bits
unfoldable pub after_flag : List Bool → ℕ → Option ℕ
after_flag bits zero = None
after_flag bits (suc n) = if ends_with flag bits (suc n) then Some (suc n) else after_flag bits n

-- the bits from one place up to another, without each 0 that follows exactly five 1s
unfoldable pub unstuffed : List Bool → ℕ → ℕ → List Bool
unstuffed bits from zero = []
unstuffed bits from (suc n) =
    if nat_lt n from then []
    else if ends_with stuffing bits (suc n) then unstuffed bits from n
    else unstuffed bits from n ++ bit bits n ∷ []

-- Whether the bits from one place up to another hold no seven 1s in a row. The bit before the first place is a 0.
unfoldable pub holds_no_seven : List Bool → ℕ → ℕ → Bool
holds_no_seven bits from zero = true
holds_no_seven bits from (suc n) =
    if nat_lt n from then true else not (ends_with seven_ones bits (suc n)) && holds_no_seven bits from n

-- the number of bits at which a frame is too long
abbrev pub too_long : ℕ
too_long = 12024

-- whether a frame that the flag before place `from` opened is open at place p
unfoldable pub is_open_since : List Bool → ℕ → ℕ → Bool
is_open_since bits from p = holds_no_seven bits from p && nat_lt (length (unstuffed bits from p)) too_long

-- the answer to a content of whole octets
unfoldable pub octets_answer : List ℕ → SlowEvent
octets_answer octets =
    if field_of octets == fcs_of (body_of octets) then Frame else BadFcs (field_of octets) (fcs_of (body_of octets))

-- the answer to a content, at the flag that closes it
unfoldable pub content_answer : List Bool → Option SlowEvent
content_answer content =
    if length content == 0 then None
    else if nat_lt (length content) 24 then Some (TooShort (length content))
    else if length content % 8 == 0 then Some (octets_answer (octets_of content))
    else Some (Uneven (length content))

-- the answer to the bit at place p, in a frame that the flag before place `from` opened
unfoldable pub open_answer : List Bool → ℕ → ℕ → Option SlowEvent
open_answer bits from p =
    if ends_with flag bits (suc p) then content_answer (unstuffed bits from (p - 7))
    else if ends_with seven_ones bits (suc p) then (if nat_lt 6 (length (unstuffed bits from p)) then Some Aborted else None)
    else if length (unstuffed bits from (suc p)) == too_long then Some TooLong
    else None

-- the place after the last flag before place p, where a frame is open at p
unfoldable pub opened_at : List Bool → ℕ → Option ℕ → Option ℕ
opened_at bits p None = None
opened_at bits p (Some from) = if is_open_since bits from p then Some from else None

abbrev pub opened : List Bool → ℕ → Option ℕ
opened bits p = opened_at bits p (after_flag bits p)

abbrev pub answer_since : List Bool → ℕ → Option ℕ → Option SlowEvent
answer_since bits p None = None
answer_since bits p (Some from) = open_answer bits from p

-- what comes of the bit at place p
unfoldable pub slow_at : List Bool → ℕ → Option SlowEvent
slow_at bits p = answer_since bits p (opened bits p)

abbrev pub is_frame : Option SlowEvent → Bool
is_frame (Some Frame) = true
is_frame _ = false

abbrev pub content_since : List Bool → ℕ → Option ℕ → List Bool
content_since bits p None = []
content_since bits p (Some from) = unstuffed bits from (p - 7)

-- the octets of the frame whose closing flag ends at place p, without its sequence
unfoldable pub frame_at : List Bool → ℕ → List ℕ
frame_at bits p = body_of (octets_of (content_since bits p (opened bits p)))

-- the octets of the last frame among the first n bits, and none before the first
unfoldable pub last_frame : List Bool → ℕ → List ℕ
last_frame bits zero = []
last_frame bits (suc p) = if is_frame (slow_at bits p) then frame_at bits p else last_frame bits p

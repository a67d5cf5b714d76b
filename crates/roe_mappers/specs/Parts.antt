-- The octets that carry one basic frame in a packet of a flow, by the payload mode. The modes stand for the structure-agnostic
-- and structure-aware mappers of IEEE 1914.3-2018; their layout is this project's own.
use Rattle.std.specs.Prelude.{ℕ, ◌≡◌, ◌+◌, ◌*◌, ◌==◌, ◌<◌, ◌≤◌, List, length, map, take, All, position, slice_index, Option, Some, None}
use Rattle.basic_frame.specs.Frames.{iq_bit}
use Rattle.carrier_plan.specs.declared.plan.Flow.{Flow}
use Rattle.carrier_plan.specs.declared.plan.Mode.{Mode}
use Rattle.carrier_plan.specs.declared.plan.Mode.TheVariants.{Tunnel, Bytes, Aware}
use Rattle.carrier_plan.specs.declared.plan.Plan.{Plan}
use Rattle.line_code.specs.Decoded.{octet_of}
use Rattle.line_code.specs.Line.{frame_characters, symbols_of, disparity_after_all}
use Rattle.line_code.specs.Packed.{symbols_in}
use Rattle.line_code.specs.declared.characters.Rd.{Rd}
use Rattle.link_base.specs.Bits.{bit_of}
use Rattle.plan_checker.specs.Flows.{control_octets, octets_of_frame}
use Rattle.plan_checker.specs.WordSize.{word_size}
use Rattle.roe_mappers.specs.CarriedBits.{carried_bits}

-- In mode `aware`: the control word, where the flow has control, then the IQ bits of its carriers without a gap, the lowest bit
-- of an octet first, and 0 to the end of the last octet.
pub record IsAwarePart (p : Plan) (f : Flow) (frame part : List ℕ) : Type 0 where
  pub control : take (control_octets p f) part ≡ take (control_octets p f) frame
  pub bits : (i : ℕ) → i < length (carried_bits p f)
      → bit_of part (8 * control_octets p f + i) ≡ iq_bit (word_size p.option) frame (slice_index (carried_bits p f) i)
  pub padding : (k : ℕ) → 8 * control_octets p f + length (carried_bits p f) ≤ k → bit_of part k ≡ 0

-- In mode `tunnel` the symbols that spell the frame's characters from disparity rd on, and in mode `bytes` the frame as it is.
abbrev pub Carries : Mode → Plan → Flow → ℕ → Rd → List ℕ → List ℕ → Type 0
Carries Tunnel p f n rd frame part = symbols_in part ≡ symbols_of rd (frame_characters n frame)
Carries Bytes p f n rd frame part = part ≡ frame
Carries Aware p f n rd frame part = IsAwarePart p f frame part

-- These octets carry the octets of frame n in a packet of the flow.
pub record IsPart (p : Plan) (f : Flow) (n : ℕ) (rd : Rd) (frame part : List ℕ) : Type 0 where
  pub size : length part ≡ octets_of_frame p f
  pub small : All (λ octet. octet < 256) part
  pub carries : Carries p.mode p f n rd frame part

-- the disparity after frame n: in mode `tunnel` that after its characters, and in the others the same as before
abbrev pub disparity_after_frame : Mode → ℕ → Rd → List ℕ → Rd
disparity_after_frame Tunnel n rd frame = disparity_after_all rd (frame_characters n frame)
disparity_after_frame Bytes n rd frame = rd
disparity_after_frame Aware n rd frame = rd

-- the octets that a part has or spells
abbrev pub spelled : Mode → List ℕ → List ℕ
spelled Tunnel part = map octet_of (symbols_in part)
spelled Bytes part = part
spelled Aware part = part

abbrev pub or_zero : Option ℕ → ℕ
or_zero None = 0
or_zero (Some i) = i

-- the first place of a number in a list
abbrev pub first_place : List ℕ → ℕ → ℕ
first_place numbers x = or_zero (position (λ y. y == x) numbers)

-- the bit of those octets that is IQ bit x of the frame
abbrev pub place_by : Mode → Plan → Flow → ℕ → ℕ
place_by Tunnel p f x = 8 * word_size p.option + x
place_by Bytes p f x = 8 * word_size p.option + x
place_by Aware p f x = 8 * control_octets p f + first_place (carried_bits p f) x

abbrev pub place_in_part : Plan → Flow → ℕ → ℕ
place_in_part p f x = place_by p.mode p f x

-- IQ bit x of the frame, by the octets that carry it in a packet of the flow
unfoldable pub part_bit : Plan → Flow → List ℕ → ℕ → ℕ
part_bit p f part x = bit_of (spelled p.mode part) (place_in_part p f x)

-- the control word of the frame, by the octets that carry it in a packet of the flow that has control
unfoldable pub part_control : Plan → List ℕ → List ℕ
part_control p part = take (word_size p.option) (spelled p.mode part)

-- how many octets a part has or spells
abbrev pub spelled_octets : Mode → Plan → Flow → ℕ
spelled_octets Tunnel p f = 16 * word_size p.option
spelled_octets Bytes p f = 16 * word_size p.option
spelled_octets Aware p f = octets_of_frame p f

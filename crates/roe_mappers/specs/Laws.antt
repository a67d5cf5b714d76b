-- Laws over the octets that carry a basic frame. This is the project's own.
use Rattle.std.specs.Prelude.{ℕ, ◌≡◌, ◌*◌, ◌%◌, ◌<◌, List, length, take, All, Contains, IsTrue, None, slice_get, Some}
use Rattle.basic_frame.specs.Frames as frames
use Rattle.carrier_plan.specs.declared.plan.Carrier.{Carrier}
use Rattle.carrier_plan.specs.declared.plan.Flow.{Flow}
use Rattle.carrier_plan.specs.declared.plan.Plan.{Plan}
use Rattle.line_code.specs.declared.characters.Rd.{Rd}
use Rattle.plan_checker.specs.Container.{container_size}
use Rattle.plan_checker.specs.Place.{iq_bit}
use Rattle.plan_checker.specs.Rules.{IsGood}
use Rattle.plan_checker.specs.WordSize.{word_size}
use Rattle.roe_mappers.specs.Parts.{IsPart, part_bit, part_control}
use Rattle.roe_mappers.specs.Symbols.{bad_symbol}

-- The octets of frame n. The first of a hyperframe is BCh.
pub record IsFrame (p : Plan) (n : ℕ) (frame : List ℕ) : Type 0 where
  pub size : length frame ≡ 16 * word_size p.option
  pub small : All (λ octet. octet < 256) frame
  pub comma : n % 256 ≡ 0 → slice_get frame 0 ≡ Some 188

-- What is read back of the octets that carry a frame is the frame, whatever the disparity was: no symbol is bad, and the control
-- word and the containers of the flow are those of the frame.
pub record IsGivenBack (p : Plan) (f : Flow) (n : ℕ) (frame part : List ℕ) : Type 0 where
  pub good : bad_symbol p.mode n part ≡ None
  pub control : IsTrue f.control → part_control p part ≡ take (word_size p.option) frame
  pub containers : (c b : ℕ) (carrier : Carrier) → Contains f.carriers c → slice_get p.carriers c ≡ Some carrier → b < container_size carrier
      → part_bit p f part (iq_bit carrier.pieces b) ≡ frames.iq_bit (word_size p.option) frame (iq_bit carrier.pieces b)

abbrev pub PartsAreGivenBack : Type 0
PartsAreGivenBack =
    (p : Plan) (f : Flow) (n : ℕ) (rd : Rd) (frame part : List ℕ) → IsGood p → Contains p.flows f → IsFrame p n frame
    → IsPart p f n rd frame part → IsGivenBack p f n frame part

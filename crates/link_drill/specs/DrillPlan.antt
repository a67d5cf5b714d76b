-- The plan of a drill, by its line bit rate option. This is the project's own.
use Rattle.std.specs.Prelude.{ℕ, ◌*◌, [], ◌∷◌, map, true}
use Rattle.std.specs.List.{range_with_len}
use Rattle.carrier_plan.specs.declared.plan.Carrier.{Carrier}
use Rattle.carrier_plan.specs.declared.plan.Flow.{Flow}
use Rattle.carrier_plan.specs.declared.plan.Method.TheVariants.{Sample}
use Rattle.carrier_plan.specs.declared.plan.Mode.TheVariants.{Bytes}
use Rattle.carrier_plan.specs.declared.plan.Plan.{Plan}
use Rattle.plan_checker.specs.WordSize.{word_size}

-- carrier c: four samples of 15 bits in each basic frame, in one piece after those of the carriers before
abbrev pub drill_carrier : ℕ → Carrier
drill_carrier c = record { method = Sample; s = 4; k = 1; m = 15; pieces = record { start = 120 * c; size = 120 } ∷ [] }

-- the flow, which has all Y carriers
abbrev pub drill_flow : ℕ → Flow
drill_flow Y = record {
  id = 1;
  dst = 2 ∷ 0 ∷ 0 ∷ 0 ∷ 0 ∷ 1 ∷ [];
  src = 2 ∷ 0 ∷ 0 ∷ 0 ∷ 0 ∷ 2 ∷ [];
  control = true;
  carriers = range_with_len 0 Y;
  frames = 4;
  lmin = 10;
  lmax = 30;
  cap = 6;
  p = 256;
  q = 256;
}

-- as many carriers as a word of the option has octets
unfoldable pub drill_plan : ℕ → Plan
drill_plan option = record {
  option = option;
  mode = Bytes;
  playout = 33;
  carriers = map drill_carrier (range_with_len 0 (word_size option));
  flows = drill_flow (word_size option) ∷ [];
}

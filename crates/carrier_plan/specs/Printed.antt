-- The line that tells of a fault in a plan, without its line feed. This project's own format.
use Rattle.std.specs.Prelude.{codes, decimal, ℕ, List, ◌++◌}
use Rattle.carrier_plan.specs.declared.fault.Part.{Part}
use Rattle.carrier_plan.specs.declared.fault.Part.TheVariants.{Top, Carrier, Flow}
use Rattle.carrier_plan.specs.declared.fault.Spot.{Spot}
use Rattle.carrier_plan.specs.declared.fault.PlanText.{PlanText}
use Rattle.carrier_plan.specs.declared.fault.PlanText.TheVariants.{Long, Utf8, Toml, Missing, Kind, Value, Extra}
use Rattle.carrier_plan.specs.Keys.{key_of}

-- `top`, or `carrier` or `flow` and the place
abbrev pub part_text : Part → List ℕ
part_text Top = codes "top"
part_text (Carrier i) = codes "carrier " ++ decimal i
part_text (Flow i) = codes "flow " ++ decimal i

-- the key, behind its carrier or flow where it is one's
abbrev pub key_text : Part → List ℕ → List ℕ
key_text Top key = key
key_text (Carrier i) key = codes "carrier " ++ decimal i ++ codes " " ++ key
key_text (Flow i) key = codes "flow " ++ decimal i ++ codes " " ++ key

abbrev pub spot_text : Spot → List ℕ
spot_text spot = key_text spot.part (key_of spot.field)

abbrev pub plan_text_line : PlanText → List ℕ
plan_text_line Long = codes "plan long"
plan_text_line Utf8 = codes "plan utf8"
plan_text_line Toml = codes "plan toml"
plan_text_line (Missing spot) = codes "plan missing " ++ spot_text spot
plan_text_line (Kind spot) = codes "plan kind " ++ spot_text spot
plan_text_line (Value spot) = codes "plan value " ++ spot_text spot
plan_text_line (Extra part) = codes "plan extra " ++ part_text part

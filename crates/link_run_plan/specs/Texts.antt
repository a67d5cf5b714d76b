-- The texts that are printed of a plan. Each line ends with one line feed. They are this project's own.
use Rattle.std.specs.Prelude.{codes, decimal, ℕ, List, [], ◌∷◌, ◌++◌, length}
use Rattle.carrier_plan.specs.declared.plan.Plan.{Plan}
use Rattle.carrier_plan.specs.declared.fault.PlanText.{PlanText}
use Rattle.carrier_plan.specs.Printed.{plan_text_line}
use Rattle.link_text.specs.Printed.{ended, lines_below}
use Rattle.plan_checker.specs.Run.{delay_of, packets_held}

-- the delay of the carrier at place c
unfoldable pub delay_line : Plan → ℕ → List ℕ
delay_line p c = codes "carrier " ++ decimal c ++ codes " delay " ++ decimal (delay_of p c) ++ 10 ∷ []

-- how many packets the buffer of the flow at place f has to hold
unfoldable pub need_line : Plan → ℕ → List ℕ
need_line p f = codes "flow " ++ decimal f ++ codes " holds " ++ decimal (packets_held p f) ++ 10 ∷ []

-- of a plan that meets the rules: yes, the delay of each carrier, and the need of each flow
unfoldable pub yes_text : Plan → List ℕ
yes_text p = (ended (codes "yes") ++ lines_below (delay_line p) (length p.carriers)) ++ lines_below (need_line p) (length p.flows)

-- of a plan that fails this rule first, at this item
unfoldable pub no_text : ℕ → ℕ → List ℕ
no_text rule item = codes "no " ++ decimal rule ++ codes " " ++ decimal item ++ 10 ∷ []

-- of a file that is no plan
unfoldable pub fault_text : PlanText → List ℕ
fault_text fault = ended (plan_text_line fault)

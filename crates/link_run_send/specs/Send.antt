-- The calls `send PLAN SAMPLES` and `line PLAN SAMPLES`. They are this project's own.
use Rattle.std.specs.Prelude.{ℕ, List}
use Rattle.carrier_plan.specs.declared.plan.Plan.{Plan}
use Rattle.link_base.specs.Shelf.{Files}
use Rattle.link_run_feed.specs.Course.{Course, on_feed}
use Rattle.link_run_plan.specs.OnPlan.{on_plan}
use Rattle.link_run_send.specs.Sent.{sent_form}
use Rattle.link_run_send.specs.declared.run_output.Output.{Output}
use Rattle.link_run_send.specs.declared.run_output.Output.TheVariants.{Packets, Symbols}

-- the samples of this name are sent by a plan that meets the rules
abbrev pub send_by : Output → List ℕ → Plan → Files → Course
send_by output samples p held = on_feed (sent_form output p) samples held

-- the packets of the samples of the second name by the plan of the first
abbrev pub send : List ℕ → List ℕ → Files → Course
send plan samples = on_plan plan (send_by Packets samples)

-- their symbols on the line
abbrev pub line : List ℕ → List ℕ → Files → Course
line plan samples = on_plan plan (send_by Symbols samples)

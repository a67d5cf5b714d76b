-- The call `replay PLAN CAPTURE`. This is the project's own.
use Rattle.std.specs.Prelude.{ℕ, List}
use Rattle.link_base.specs.Shelf.{Files}
use Rattle.carrier_plan.specs.declared.plan.Plan.{Plan}
use Rattle.link_run_feed.specs.Course.{Course, on_feed}
use Rattle.link_run_plan.specs.OnPlan.{on_plan}
use Rattle.link_run_replay.specs.Replayed.{replay_form}

-- the capture of this name is played by a plan that meets the rules
abbrev pub play : List ℕ → Plan → Files → Course
play capture p held = on_feed (replay_form p) capture held

-- what leaves of the capture of the second name, played by the plan of the first
abbrev pub replay : List ℕ → List ℕ → Files → Course
replay plan capture = on_plan plan (play capture)

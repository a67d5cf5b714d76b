-- The call `check PLAN`. This is the project's own.
use Rattle.std.specs.Prelude.{ℕ, List}
use Rattle.link_base.specs.Shelf.{Files}
use Rattle.link_run_feed.specs.declared.status.Status.TheVariants.{Done}
use Rattle.link_run_feed.specs.Course.{Course, says}
use Rattle.link_run_plan.specs.OnPlan.{on_plan}
use Rattle.link_run_plan.specs.Texts.{yes_text}

-- whether the plan of this name meets the rules
abbrev pub check : List ℕ → Files → Course
check name = on_plan name (λ p held. says Done (yes_text p))

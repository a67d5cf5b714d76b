-- The call `drill NUMBER`. This is the project's own.
use Rattle.std.specs.Prelude.{ℕ}
use Rattle.link_base.specs.Shelf.{Files}
use Rattle.link_run_feed.specs.declared.status.Status.TheVariants.{Done}
use Rattle.link_run_feed.specs.Course.{Course, says}
use Rattle.link_drill.specs.Text.{drill_text}

-- what the run of this number gives, whatever files are held
abbrev pub drill : ℕ → Files → Course
drill number held = says Done (drill_text number)

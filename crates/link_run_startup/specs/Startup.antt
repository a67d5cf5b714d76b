-- What the form `startup EVENTS` does. This is the project's own.
use Rattle.std.specs.Prelude.{ℕ, List}
use Rattle.link_base.specs.Shelf.{Files}
use Rattle.link_run_feed.specs.Course.{Course, on_feed}
use Rattle.link_run_startup.specs.Events.{events_form}

-- the events of this file are played at two ends, and each says how it leaves its end
abbrev pub startup : List ℕ → Files → Course
startup events held = on_feed events_form events held

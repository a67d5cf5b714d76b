-- What the form `inspect LINE` does. This is the project's own.
use Rattle.std.specs.Prelude.{ℕ, List}
use Rattle.link_base.specs.Shelf.{Files}
use Rattle.link_run_feed.specs.Course.{Course, on_feed}
use Rattle.link_run_inspect.specs.Inspect.{inspect_form}

-- the line of this file is read, and what its frames show is said
abbrev pub inspect : List ℕ → Files → Course
inspect line held = on_feed inspect_form line held

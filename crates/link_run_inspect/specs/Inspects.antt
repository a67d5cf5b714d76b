-- What the code keeps of the frames of a line.
use Rattle.std.specs.Prelude.{◌≡◌}
use Rattle.link_run_inspect.specs.declared.inspector.Inspector.{Inspector}
use Rattle.link_run_inspect.specs.Inspect.{Inspected}
use Rattle.link_run_inspect.specs.Managed.{managed}
use Rattle.link_run_inspect.specs.Receives.{Receives}
use Rattle.link_run_inspect.specs.Handed.{Manages}

pub record Inspects (i : Inspector) (s : Inspected) : Type 0 where
  pub width : i.reception.width ≡ s.width
  pub due : i.due ≡ s.due
  pub receives : Receives i.reception s.frames
  pub manages : Manages i.channels (managed s.width s.frames)

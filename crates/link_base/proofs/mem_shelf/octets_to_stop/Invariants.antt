use Rattle.std.proofs.Common.{map, take}
use Rattle.link_base.specs.MemShelf.{stop_of, IsFreeRun}
use Rattle.link_base.proofs.mem_shelf.octets_to_stop.Given as goal

-- the run before the next of the stops so far
abbrev pub invariant-loop-stop : goal.invariant-loop-stop
invariant-loop-stop l = IsFreeRun (map stop_of (take l.stop-index l.stops)) l.name l.position l.free

use Rattle.std.proofs.Common.{map, take}
use Rattle.link_base.specs.MemShelf.{stop_of}
use Rattle.link_base.proofs.Stops.{one_more}
use Rattle.link_base.proofs.mem_shelf.octets_to_stop.Goals as goal

pub loop-stop-preserved : goal.loop-stop-preserved
loop-stop-preserved c =
    rw (one_more c.args.stops.now c.loop-stop.stop-index c.stop-item.result c.loop-stop-test.true c.stop-item.is)
    (c.shortened-free.ensures (map stop_of (take c.loop-stop.stop-index c.args.stops.now)) c.loop-stop.invariant)

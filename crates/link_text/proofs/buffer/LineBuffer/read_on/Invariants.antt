use Rattle.std.proofs.Common.{◌-◌, length}
use Rattle.link_text.proofs.Advances.{Looks}
use Rattle.link_text.proofs.buffer.LineBuffer.read_on.Given as goal

abbrev pub invariant-loop-self : goal.invariant-loop-self
invariant-loop-self g l = Looks l.initial.self l.self (g.H.Shelf.shown l.initial.shelf) (g.H.Shelf.shown l.shelf) l.searched

abbrev pub decreases-loop-self : goal.decreases-loop-self
decreases-loop-self g l = 8193 - length l.self.rest

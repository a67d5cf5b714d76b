use Rattle.link_base.proofs.ShelfFiles.{NoneNamed}
use Rattle.link_base.proofs.mem_shelf.place_of.Given as goal

-- none of the files before this one has the name
abbrev pub invariant-loop-i : goal.invariant-loop-i
invariant-loop-i l = NoneNamed l.name l.files l.i

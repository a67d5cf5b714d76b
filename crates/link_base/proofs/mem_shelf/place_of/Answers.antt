use Rattle.std.proofs.Common.{arith, ◌∙◌, sym}
use Rattle.std.proofs.lemmas.Slice.Eq.{bytes_eq-Decides}
use Rattle.link_base.proofs.ShelfFiles.{name_is, first_from, get_none}
use Rattle.link_base.proofs.mem_shelf.place_of.Goals as goal

pub returns-then-eq-clause-found : goal.returns-then-eq-clause-found
returns-then-eq-clause-found c =
    let same = sym c.as_str.ensures.value ∙ (bytes_eq-Decides c.as_str.result.now c.args.name.now).0 (sym c.if-eq.ensures) in
    first_from c.args.name.now c.args.files.now c.loop-i.i c.index-files-i.result c.loop-i.invariant c.loop-i-test.true (name_is c.args.name.now c.index-files-i.result _ c.index-files-i.is same)

pub returns-clause-none : goal.returns-clause-none
returns-clause-none c =
    get_none c.args.name.now c.args.files.now (λ k d below. c.loop-i.invariant k d (omega arith))

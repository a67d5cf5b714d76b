use Rattle.std.proofs.Common.{sym, subst, Some}
use Rattle.link_text.specs.LineBuffer.{Advanced}
use Rattle.link_text.specs.declared.lines.Ending.TheVariants.{TooLong}
use Rattle.link_text.proofs.Advances.{too_long}
use Rattle.link_text.proofs.buffer.LineBuffer.read_on.Goals as goal

pub returns-in-TooLong-clause-advanced : goal.returns-in-TooLong-clause-advanced
returns-in-TooLong-clause-advanced g c =
    let cuts = c.in-TooLong.ensures.cuts in
    subst (λ now. Advanced c.args.self.now now (g.H.Shelf.shown c.args.shelf.now) (g.H.Shelf.shown c.loop-self.shelf) (Some TooLong)) (sym cuts.2)
    (too_long _ c.loop-self.self _ _ _ c.loop-self.invariant cuts.0 cuts.1)

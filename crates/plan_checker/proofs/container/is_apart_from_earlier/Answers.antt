use Rattle.std.proofs.Common.{arith, below_more}
use Rattle.std.specs.List.{HoldsAt}
use Rattle.std.proofs.lemmas.Bool.Decides.{not_from_Decides}
use Rattle.std.proofs.lemmas.List.Elements.{at_read}
use Rattle.carrier_plan.specs.declared.plan.Carrier.{Carrier}
use Rattle.plan_checker.specs.Container.{SharesNoPiece}
use Rattle.plan_checker.proofs.Distinct.{answers_no, answers_yes}
use Rattle.plan_checker.proofs.Places.{at_item}
use Rattle.plan_checker.proofs.container.is_apart_from_earlier.Goals as goal

pub loop-j-preserved : goal.loop-j-preserved
loop-j-preserved c =
    let P = λ (earlier : Carrier). SharesNoPiece earlier.pieces c.args.pieces.now in
    below_more (HoldsAt P c.args.carriers.now) _ c.loop-j.invariant
    (at_read c.args.carriers.now P c.loop-j.j c.index-carriers-j.result (omega arith) c.index-carriers-j.is (c.shares_no_piece.ensures.0 c.if-not-shares_no_piece.false))

pub returns-then-not-shares_no_piece : goal.returns-then-not-shares_no_piece
returns-then-not-shares_no_piece c =
    let P = λ (earlier : Carrier). SharesNoPiece earlier.pieces c.args.pieces.now in
    answers_no (λ h. not_from_Decides _ c.shares_no_piece.ensures c.if-not-shares_no_piece.true (at_item P c.args.carriers.now c.loop-j.j c.index-carriers-j.result c.index-carriers-j.is (λ d. h c.loop-j.j d (omega arith) c.loop-j-test.true)))

pub returns : goal.returns
returns c = answers_yes (λ k d _ lt. c.loop-j.invariant k (omega arith) d)

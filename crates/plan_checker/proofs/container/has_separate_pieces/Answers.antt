use Rattle.std.proofs.Common.{arith, below_more}
use Rattle.std.proofs.lemmas.Bool.Decides.{not_from_Decides}
use Rattle.plan_checker.specs.Container.{SharesNoBit}
use Rattle.plan_checker.proofs.Distinct.{IsNewAt, answers_no, answers_yes, new_from_pairs, pairs_from_new}
use Rattle.plan_checker.proofs.container.has_separate_pieces.Goals as goal

pub loop-i-preserved : goal.loop-i-preserved
loop-i-preserved c =
    below_more (IsNewAt SharesNoBit c.args.pieces.now) _ c.loop-i.invariant (c.is_new_piece.ensures.0 c.if-not-is_new_piece.false)

pub returns-then-not-is_new_piece : goal.returns-then-not-is_new_piece
returns-then-not-is_new_piece c =
    answers_no (λ pairs. not_from_Decides _ c.is_new_piece.ensures c.if-not-is_new_piece.true (new_from_pairs SharesNoBit c.args.pieces.now c.loop-i.i (omega arith) pairs))

pub returns : goal.returns
returns c = answers_yes (pairs_from_new SharesNoBit c.args.pieces.now (λ i lt. c.loop-i.invariant i (omega arith)))

use Rattle.std.proofs.Common.{◌≢◌, arith}
use Rattle.std.proofs.lemmas.Bool.Decides.{not_from_Decides}
use Rattle.carrier_plan.specs.declared.plan.Flow.{Flow}
use Rattle.plan_checker.proofs.Distinct.{answers_no, answers_yes, new_from_pairs, pairs_from_new}
use Rattle.plan_checker.proofs.flows.have_distinct_ids.Goals as goal

pub returns-then-not-has_new_id : goal.returns-then-not-has_new_id
returns-then-not-has_new_id c =
    answers_no (λ pairs. not_from_Decides _ c.has_new_id.ensures c.if-not-has_new_id.true (new_from_pairs (λ (f : Flow) (g : Flow). f.id ≢ g.id) c.args.flows.now c.loop-i.i (omega arith) pairs))

pub returns : goal.returns
returns c = answers_yes (pairs_from_new (λ (f : Flow) (g : Flow). f.id ≢ g.id) c.args.flows.now (λ i lt. c.loop-i.invariant i (omega arith)))

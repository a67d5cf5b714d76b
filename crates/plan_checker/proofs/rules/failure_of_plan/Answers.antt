use Rattle.std.proofs.Common.{arith, refl}
use Rattle.std.proofs.lemmas.Bool.Decides.{not_from_Decides}
use Rattle.plan_checker.specs.Rules.{IsMetBelow}
use Rattle.plan_checker.specs.Rules.Rule.{LineOption, Counts, WholeFrames}
use Rattle.plan_checker.proofs.Failures.{fails_at_0, met_at_0, first_at, met_below_1, met_below_next}
use Rattle.plan_checker.proofs.rules.failure_of_plan.Goals as goal

pub returns-then-not-has_line_option : goal.returns-then-not-has_line_option
returns-then-not-has_line_option c =
    let p = c.args.plan.now in
    first_at p LineOption 0 1 0 (fails_at_0 p LineOption (omega arith) (not_from_Decides _ c.has_line_option.ensures c.if-not-has_line_option.true)) (met_below_1 p) refl refl

pub returns-then-not-has_counts : goal.returns-then-not-has_counts
returns-then-not-has_counts c =
    let p = c.args.plan.now in
    let below_2 : IsMetBelow p 2 = met_below_next p LineOption (met_below_1 p) (met_at_0 p LineOption refl (c.has_line_option.ensures.0 c.if-not-has_line_option.false)) in
    first_at p Counts 0 2 0 (fails_at_0 p Counts (omega arith) (not_from_Decides _ c.has_counts.ensures c.if-not-has_counts.true)) below_2 refl refl

pub returns-then-not-carries_whole_frames : goal.returns-then-not-carries_whole_frames
returns-then-not-carries_whole_frames c =
    let p = c.args.plan.now in
    let below_2 : IsMetBelow p 2 = met_below_next p LineOption (met_below_1 p) (met_at_0 p LineOption refl (c.has_line_option.ensures.0 c.if-not-has_line_option.false)) in
    let below_3 : IsMetBelow p 3 = met_below_next p Counts below_2 (met_at_0 p Counts refl (c.has_counts.ensures.0 c.if-not-has_counts.false)) in
    first_at p WholeFrames 0 3 0 (fails_at_0 p WholeFrames (omega arith) (not_from_Decides _ c.carries_whole_frames.ensures c.if-not-carries_whole_frames.true)) below_3 refl refl

pub returns : goal.returns
returns c =
    let p = c.args.plan.now in
    let below_2 : IsMetBelow p 2 = met_below_next p LineOption (met_below_1 p) (met_at_0 p LineOption refl (c.has_line_option.ensures.0 c.if-not-has_line_option.false)) in
    let below_3 : IsMetBelow p 3 = met_below_next p Counts below_2 (met_at_0 p Counts refl (c.has_counts.ensures.0 c.if-not-has_counts.false)) in
    met_below_next p WholeFrames below_3 (met_at_0 p WholeFrames refl (c.carries_whole_frames.ensures.0 c.if-not-carries_whole_frames.false))

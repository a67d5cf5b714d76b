use Rattle.std.proofs.Common.{◌≡◌, ◌∙◌, arith, sym, subst, slice_get, Some}
use Rattle.carrier_plan.specs.declared.plan.Carrier.{Carrier}
use Rattle.carrier_plan.specs.declared.plan.Plan.{Plan}
use Rattle.link_sender.proofs.GoodCarriers.{good_carrier}
use Rattle.plan_checker.proofs.Places.{number_at}
use Rattle.sample_bits.specs.Samples.{IsWithin}
use Rattle.link_run_send.proofs.Kept.{next_none, next_some}
use Rattle.link_run_send.proofs.NextSamples.{line_counts, line_no_number, line_outside, line_reads, one_outside, one_within}
use Rattle.link_run_send.proofs.sample_run.SampleRun.next_sample.Goals as goal

pub returns-then-self-clause-err : goal.returns-then-self-clause-err
returns-then-self-clause-err c = λ s between. line_counts s c.args.line.now (next_none c.args.self.now s between.keeps c.if-self.true)

pub returns-in_default-clause-err : goal.returns-in_default-clause-err
returns-in_default-clause-err c = λ s between.
    let w = c.args.self.now in
    let within = w.next.within in
    line_no_number s c.args.line.now w.due.carrier (next_some w s between.keeps (omega (arith, within, c.if-self.false))) (sym c.read_sample.ensures ∙ c.in_default.is)

pub first_outside-requires : goal.first_outside-requires
first_outside-requires c = (good_carrier c.plan.result.now c.args.self.now.due.carrier c.at.result.now c.plan.ensures.good c.at.ensures).width

pub returns-in-None-clause-within : goal.returns-in-None-clause-within
returns-in-None-clause-within c =
    let w = c.args.self.now in
    let read = subst (λ (p : Plan). slice_get p.carriers w.due.carrier ≡ Some c.at.result.now) c.plan.ensures.same c.at.ensures in
    subst (λ m. IsWithin m c.in-Some.sample) (sym (number_at (λ (x : Carrier). x.m) w.checked.carriers w.due.carrier c.at.result.now read))
    (one_within c.at.result.now.m c.in-Some.sample c.in-None.ensures)

pub returns-in-None-clause-ok : goal.returns-in-None-clause-ok
returns-in-None-clause-ok c = λ s between.
    let w = c.args.self.now in
    let within = w.next.within in
    let read = subst (λ (p : Plan). slice_get p.carriers w.due.carrier ≡ Some c.at.result.now) (c.plan.ensures.same ∙ sym between.keeps.plan) c.at.ensures in
    line_reads s c.args.line.now w.due.carrier (next_some w s between.keeps (omega (arith, within, c.if-self.false))) c.in-Some.sample (sym c.read_sample.ensures ∙ c.in-Some.is)
    (subst (λ m. IsWithin m c.in-Some.sample) (sym (number_at (λ (x : Carrier). x.m) s.plan.carriers w.due.carrier c.at.result.now read))
    (one_within c.at.result.now.m c.in-Some.sample c.in-None.ensures))

pub returns-in-Some-first_outside-clause-err : goal.returns-in-Some-first_outside-clause-err
returns-in-Some-first_outside-clause-err c = λ s between.
    let w = c.args.self.now in
    let within = w.next.within in
    let read = subst (λ (p : Plan). slice_get p.carriers w.due.carrier ≡ Some c.at.result.now) (c.plan.ensures.same ∙ sym between.keeps.plan) c.at.ensures in
    line_outside s c.args.line.now w.due.carrier (next_some w s between.keeps (omega (arith, within, c.if-self.false))) c.in-Some.sample (sym c.read_sample.ensures ∙ c.in-Some.is)
    (subst (λ m. ¬ IsWithin m c.in-Some.sample) (sym (number_at (λ (x : Carrier). x.m) s.plan.carriers w.due.carrier c.at.result.now read))
    (one_outside c.at.result.now.m c.in-Some.sample c.in-Some-first_outside.field-0 c.in-Some-first_outside.ensures))

use Rattle.std.proofs.Common.{◌≡◌, ◌∙◌, [], take, refl, sym, ap, subst, arith}
use Rattle.carrier_plan.specs.declared.plan.Plan.{Plan}
use Rattle.link_sender.specs.HandedIn.{nothing_yet, with_samples}
use Rattle.link_sender.specs.Senders.{StandsFor}
use Rattle.link_sender.specs.Whole.{disparity_before}
use Rattle.link_sender.proofs.WholeLine.{disparity_before-first}
use Rattle.plan_checker.specs.Rules.{IsGood}
use Rattle.link_run_send.specs.Sent.{begun}
use Rattle.link_run_send.proofs.HandedStreams.{has_none, with_none}
use Rattle.link_run_send.proofs.sample_run.SampleRun.begin.Goals as goal

pub returns-clause-opens : goal.returns-clause-opens
returns-clause-opens c =
    let p = c.in_ok-copy.field-0 in
    let q = c.args.given.now.checked in
    let same : p ≡ q = c.in_ok-copy.ensures in
    let sender = c.in_ok-begin.field-0.sender in
    let begins = c.in_ok-begin.ensures in
    let due = c.begin-2.result in
    let σ = nothing_yet p c.args.header.announce in
    let output = begins.output in
    let none : take due.come due.samples ≡ [] = ap (λ n. take n due.samples) c.begin-2.ensures.none in record {
      keeps = record {
        plan = refl;
        header = refl;
        output = refl;
        handed = σ;
        sends = record {
          good = subst IsGood (sym begins.plan) begins.good;
          stands = subst (λ (r : Plan). StandsFor sender (nothing_yet r c.args.header.announce)) (sym same) begins.stands;
          spelled = λ symbols. begins.disparity ∙ sym (ap (disparity_before sender.plan σ) begins.tick ∙ disparity_before-first sender.plan σ);
        };
        stream = sym (ap (with_samples σ due.carrier) none ∙ with_none σ due.carrier);
        settled = sym begins.tick;
        sampled = sym (has_none p.carriers);
        room = refl;
      };
      first = begins.tick;
      unsampled = refl;
      none_come = c.begin-2.ensures.none;
      left = omega (arith, c.requires.run);
      state = ap (λ r. (begun c.args.given.now.output r c.args.header).0) (sym same) ∙ ap (λ o. (begun o p c.args.header).0) (sym output);
      written = ap (λ r. (begun c.args.given.now.output r c.args.header).1) (sym same) ∙ ap (λ o. (begun o p c.args.header).1) (sym output);
    }

use Rattle.std.proofs.Common.{refl, sym, subst, inl, inr, arith}
use Rattle.link_run_plan.specs.OfOctets.{AnswersFile}
use Rattle.roe_link_c.proofs.roe_check.Goals as goal

pub returns-then-out-text : goal.returns-then-out-text
returns-then-out-text c =
    inr (inl (record {
      status = c.in-Ok.answer.status;
      text = c.as_slice-text.result.now;
      answers = subst (AnswersFile c.args.plan.now c.in-Ok.answer.status) (sym c.as_slice-text.ensures.value) c.in-Ok.ensures.answers;
      code = refl;
      count = refl;
      room = omega (arith, c.if-out-text.true);
      buffer = refl;
    }))

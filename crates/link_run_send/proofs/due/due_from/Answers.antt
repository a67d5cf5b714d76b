use Rattle.std.proofs.Common.{◌<◌, length, subst, arith}
use Rattle.carrier_plan.specs.declared.plan.Plan.{Plan}
use Rattle.plan_checker.specs.Rules.{IsGood}
use Rattle.link_run_send.proofs.DuePlaces.{few_due}
use Rattle.link_run_send.proofs.due.due_from.Goals as goal

pub returns-then-count-gt0 : goal.returns-then-count-gt0
returns-then-count-gt0 c =
    let good : IsGood c.args.checked.now = subst IsGood c.plan.ensures.same c.plan.ensures.good in
    let inside : c.loop-c.c < length c.args.checked.now.carriers = subst (λ (p : Plan). c.loop-c.c < length p.carriers) c.plan.ensures.same (omega arith) in record {
      from = omega arith;
      carrier = inside;
      count_is = c.due-count.ensures.value;
      some = omega arith;
      few = omega (arith, few_due c.args.checked.now c.loop-c.c c.args.tick good inside, c.due-count.ensures.value);
      none_before = c.loop-c.invariant;
    }

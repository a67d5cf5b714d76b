use Rattle.std.proofs.Common.{sym, subst, arith, IsTrue}
use Rattle.link_base.specs.Sink.{Taken}
use Rattle.link_run_plan.specs.OfOctets.{AnswersFile, IsTold, is_verdict}
use Rattle.link_run_plan.proofs.Checks.{checks_file}
use Rattle.link_run_plan.proofs.FileAnswers.{answers_with}
use Rattle.link_run_plan.proofs.octets.check_octets.Goals as goal

pub returns-in-Done-clause-checks : goal.returns-in-Done-clause-checks
returns-in-Done-clause-checks c =
    let verdict : IsTrue (is_verdict c.tell-status.result) = grind arith in
    let told = subst (λ (s : Taken). IsTold c.args.octets.now s c.tell-status.new.out c.tell-status.result) c.new-out.ensures (c.tell-status.ensures verdict) in
    checks_file c.args.octets.now c.tell-status.result c.into_octets.result.items
    (subst (AnswersFile c.args.octets.now c.tell-status.result) (sym c.into_octets.ensures) (answers_with c.args.octets.now c.tell-status.new.out c.tell-status.result told))

use Rattle.std.proofs.Common.{◌≡◌, slice_get, Some, sym, subst}
use Rattle.carrier_plan.specs.declared.plan.Carrier.{Carrier}
use Rattle.carrier_plan.specs.declared.plan.Plan.{Plan}
use Rattle.link_sender.proofs.GoodCarriers.{good_carrier}
use Rattle.plan_checker.proofs.Places.{number_at}
use Rattle.link_run_send.proofs.sample_run.SampleRun.width.Goals as goal

pub returns-clause-width : goal.returns-clause-width
returns-clause-width c =
    let w = c.args.self.now in
    let read = subst (λ (p : Plan). slice_get p.carriers w.due.carrier ≡ Some c.at.result.now) c.plan.ensures.same c.at.ensures in
    sym (number_at (λ (x : Carrier). x.m) w.checked.carriers w.due.carrier c.at.result.now read)

pub returns-clause-known : goal.returns-clause-known
returns-clause-known c = (good_carrier c.plan.result.now c.args.self.now.due.carrier c.at.result.now c.plan.ensures.good c.at.ensures).width

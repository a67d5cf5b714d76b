use Rattle.std.proofs.Common.{◌≡◌, Some, slice_get, sym, ap, ◌∙◌, subst}
use Rattle.carrier_plan.specs.declared.plan.Flow.{Flow}
use Rattle.carrier_plan.specs.declared.plan.Plan.{Plan}
use Rattle.plan_checker.specs.Flows.{octets_of_frame}
use Rattle.plan_checker.specs.Packets.{run_packets}
use Rattle.plan_checker.specs.Rules.{IsGood}
use Rattle.playout_buffer.specs.Conditions.{IsWindow}
use Rattle.link_receiver.proofs.Arriving.{octets_of_payload}
use Rattle.link_receiver.proofs.Items.{at_place, contained}
use Rattle.link_receiver.proofs.Windows.{window-meets}
use Rattle.link_receiver.proofs.flow_in_hand.window_of.Goals as goal

pub returns-clause-meets : goal.returns-clause-meets
returns-clause-meets c =
    let same = c.plan-plan.ensures.same in
    let f = c.at-flow.result.now in
    let p = c.args.checked.now in
    let good = subst IsGood same c.plan-plan.ensures.good in
    let at : slice_get p.flows c.args.f ≡ Some f = subst (λ (q : Plan). slice_get q.flows c.args.f ≡ Some f) same c.at-flow.ensures in
    let octets = (octets_of_payload p c.args.f f c.frame_octets.result good at c.frame_octets.ensures).0 in
    let packets : c.packets.result ≡ run_packets p f c.args.frames = at_place (λ (g : Flow). c.packets.result ≡ run_packets p g c.args.frames) p.flows c.args.f f at c.packets.ensures in
    subst IsWindow
    (sym (ap (λ n. record { frames = f.frames; lmin = f.lmin; lmax = f.lmax; playout = c.plan-plan.result.now.playout; cap = f.cap; p = f.p; q = f.q; octets = n; packets = c.packets.result }) octets
    ∙ ap (λ n. record { frames = f.frames; lmin = f.lmin; lmax = f.lmax; playout = c.plan-plan.result.now.playout; cap = f.cap; p = f.p; q = f.q; octets = octets_of_frame p f; packets = n }) packets
    ∙ ap (λ (q : Plan). record { frames = f.frames; lmin = f.lmin; lmax = f.lmax; playout = q.playout; cap = f.cap; p = f.p; q = f.q; octets = octets_of_frame p f; packets = run_packets p f c.args.frames }) same))
    (window-meets p f c.args.frames good (contained p.flows c.args.f f at) c.requires.run)

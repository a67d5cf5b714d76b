use Rattle.std.proofs.Common.{◌≡◌, ◌+◌, ap, arith, ◌∙◌}
use Rattle.std.specs.Int.{div_ceil}
use Rattle.carrier_plan.specs.declared.plan.Flow.{Flow}
use Rattle.plan_checker.specs.Packets.{run_packets}
use Rattle.plan_checker.specs.Run.{longest_block}
use Rattle.plan_checker.proofs.Places.{flow_holds, frames_of}
use Rattle.plan_checker.proofs.checked.Checked.packets.Goals as goal

pub div_ceil-requires : goal.div_ceil-requires
div_ceil-requires c =
    let some = frames_of c.self.inside.plan c.args.self.now c.self.view_is c.self.invariant c.args.f _ c.requires.flow c.at.ensures in
    omega arith

pub returns : goal.returns
returns c =
    let longest : c.from.result ≡ longest_block c.args.self.now = c.from.ensures ∙ c.longest.ensures.value in
    flow_holds c.self.inside.plan c.args.self.now c.self.view_is (λ (f : Flow). c.div_ceil.result ≡ run_packets c.args.self.now f c.args.h) c.args.f c.at.result.now c.at.ensures
    (c.div_ceil.ensures ∙ (ap (λ n. div_ceil (c.args.h + n) c.from-2.result) longest ∙ ap (λ n. div_ceil (c.args.h + longest_block c.args.self.now) n) c.from-2.ensures))

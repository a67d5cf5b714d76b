use Rattle.std.proofs.Common.{◌≡◌, ◌*◌, replicate, arith}
use Rattle.std.proofs.lemmas.Grind.{common_steps}
use Rattle.playout_buffer.specs.Conditions.{payload_octets}
use Rattle.playout_buffer.proofs.SlotSteps.{begun}
use Rattle.playout_buffer.proofs.playout.Playout.begin.Goals as goal

pub returns : goal.returns
returns c =
    let numbered : c.in_ok-vec.field-0.items ≡ replicate c.args.window.cap 0 = grind (arith, common_steps) in
    let long : c.in_ok-vec-2.field-0.items ≡ replicate (c.args.window.cap * payload_octets c.args.window) 0 = grind (arith, common_steps) in
    (begun c.args.window c.requires c.in_ok-vec.field-0.items c.in_ok-vec-2.field-0.items numbered long).1

use Rattle.std.proofs.Common.{◌*◌, arith}
use Rattle.link_text.proofs.DigitLanes.{encoded_by_steps}
use Rattle.link_text.proofs.lanes.encode.Goals as goal

pub returns : goal.returns
returns c =
    let last = c.put_digits-2.ensures in
    record {
      text = encoded_by_steps c.args.octets.now c.loop-step.out c.put_digits-2.new.out (32 * c.loop-step.step) c.type_inv.octets (omega arith) (omega arith) (omega arith)
          (λ k within. c.loop-step.invariant k (omega arith)) (λ k from to. last.digits k (omega arith) (omega arith)) (λ k below. last.before k (omega arith));
    }

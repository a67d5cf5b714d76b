use Rattle.std.proofs.Common.{◌≡◌, ◌*◌, length, arith}
use Rattle.link_text.proofs.LaneLemmas.{decoded_by_steps}
use Rattle.link_text.proofs.lanes.decode.Goals as goal

pub returns-clause-value : goal.returns-clause-value
returns-clause-value c = λ good.
    let last = c.put_octets-2.ensures in
    let same : length c.loop-step.out ≡ length c.put_octets-2.new.out = omega arith in
    decoded_by_steps c.args.text.now c.loop-step.out c.put_octets-2.new.out (32 * c.loop-step.step) (omega arith) same (omega arith) (omega arith)
    (λ j from to. c.loop-step.invariant.digits j from (omega arith)) c.loop-step.invariant.octets
    (λ j from to. last.digits.0 good j (omega arith) (omega arith)) (λ k from to. last.octets k (omega arith) (omega arith)) (λ k below. last.before k (omega arith))

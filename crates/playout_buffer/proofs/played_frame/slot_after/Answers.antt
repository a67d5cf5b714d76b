use Rattle.std.proofs.Common.{◌+◌, ◌%◌, ◌<◌, ◌≤◌, sym, ap, ◌∙◌, arith}
use Rattle.playout_buffer.proofs.CountingOn.{within-mod, next-mod}
use Rattle.playout_buffer.proofs.played_frame.slot_after.Goals as goal

pub returns-then-next-cap : goal.returns-then-next-cap
returns-then-next-cap c i is =
    let less : i % c.args.cap + 1 < c.args.cap = omega (arith, c.if-next-cap.true, is) in
    ap (λ x. x + 1) is ∙ sym (within-mod i c.args.cap (omega arith) less)

pub returns-else-next-cap : goal.returns-else-next-cap
returns-else-next-cap c i is =
    let last : c.args.cap ≤ i % c.args.cap + 1 = omega (arith, c.if-next-cap.false, is) in
    sym (next-mod i c.args.cap (omega arith) last)

use Rattle.std.proofs.Common.{◌+◌, ◌/◌, ◌%◌, ◌<◌, ◌≤◌, sym, ap, ◌∙◌, arith}
use Rattle.playout_buffer.proofs.CountingOn.{within-div, within-mod, next-div, next-mod}
use Rattle.playout_buffer.proofs.played_frame.PlayedFrame.next.Goals as goal

pub returns-then-place-frames : goal.returns-then-place-frames
returns-then-place-frames c n is =
    let place = is.place in
    let less : n % c.args.frames + 1 < c.args.frames = omega (arith, c.if-place-frames.true, place) in
    let same = within-div n c.args.frames c.requires.some_frames less in record {
      number = is.number ∙ sym same;
      slot = is.slot ∙ ap (λ i. i % c.args.cap) (sym same);
      place = ap (λ x. x + 1) place ∙ sym (within-mod n c.args.frames c.requires.some_frames less);
    }

pub returns : goal.returns
returns c n is =
    let place = is.place in
    let last : c.args.frames ≤ n % c.args.frames + 1 = omega (arith, c.if-place-frames.false, place) in
    let next = next-div n c.args.frames c.requires.some_frames last in record {
      number = ap (λ x. x + 1) is.number ∙ sym next;
      slot = c.slot_after.ensures (n / c.args.frames) is.slot ∙ ap (λ i. i % c.args.cap) (sym next);
      place = sym (next-mod n c.args.frames c.requires.some_frames last);
    }

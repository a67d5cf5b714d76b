use Rattle.std.proofs.Common.{arith, length-drop, ◌∙◌}
use Rattle.std.proofs.lemmas.List.{take_rest}
use Rattle.link_base.proofs.Appended.{appends_more}
use Rattle.link_base.proofs.outside.put_all.Goals as goal

pub loop-done-preserved : goal.loop-done-preserved
loop-done-preserved g c =
    let piece = c.args.piece.now in
    let done = c.loop-done.done in
    let more = rw (take_rest piece done) at c.in_ok-done.ensures in
    record {
      within = omega (arith, more.bound, length-drop done piece);
      front = appends_more piece done c.in_ok-done.field-0 _ _ _ c.loop-done.invariant.front more.appends;
      count = more.cause.by_result ∙ c.loop-done.invariant.count;
    }

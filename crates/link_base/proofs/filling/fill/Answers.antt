use Rattle.std.proofs.Common.{arith, ◌∙◌, ◌-◌, ◌≤◌, length, length-drop, sym, subst, ap, IsTrue}
use Rattle.std.proofs.lemmas.List.{take_rest}
use Rattle.link_base.proofs.BufferLemmas.{fills_more, files_stay, part_length}
use Rattle.link_base.proofs.filling.fill.Goals as goal

pub loop-done-preserved : goal.loop-done-preserved
loop-done-preserved g c =
    let done = c.loop-done.done in
    let buffer = c.loop-done.buf in
    let so_far = c.loop-done.invariant in
    let read = rw (take_rest buffer done) at c.in_ok-count.ensures in
    let same = c.read.auto.buf ∙ ap length (take_rest buffer done) in
    let longer = part_length done buffer c.read.new.buf so_far.within same in
    let room : c.in_ok-count.count ≤ length buffer - done = omega (arith, read.bound, length-drop done buffer) in
    record {
      within = omega (arith, longer, room, so_far.within);
      longer = longer ∙ so_far.longer;
      files = files_stay _ _ _ so_far.files read.files;
      count = read.cause.by_result ∙ so_far.count;
      filled = λ told. fills_more done c.in_ok-count.count c.args.buf.now buffer c.read.new.buf _ _ _
          (so_far.filled told) so_far.longer so_far.within room (read.takes (subst IsTrue (sym so_far.files.tells) told));
    }

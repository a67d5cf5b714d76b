use Rattle.std.proofs.Common.{◌+◌, ◌++◌, ◌∷◌, [], append_assoc, ap, ◌∙◌, arith}
use Rattle.link_receiver.specs.Runs.{entries_of_run}
use Rattle.link_receiver.proofs.ListedEntries.{run-more, the_entry}
use Rattle.link_receiver.proofs.listing.list_carrier.Goals as goal

pub loop-i-preserved : goal.loop-i-preserved
loop-i-preserved c =
    let kept = c.args.kept.now in
    let run = entries_of_run c.args.tick c.args.c kept.number kept.marks kept.samples.items in
    let entry = the_entry c.args.tick c.args.c (kept.number + c.from.result) c.unless_marked.result in
    let few = c.requires.can.few in
    let long = c.requires.can.samples in (
      c.put.ensures.items
          ∙ ap (λ xs. xs ++ entry ∷ []) c.loop-i.invariant.0
          ∙ append_assoc c.args.entries.now.items (run c.loop-i.i) (entry ∷ [])
          ∙ ap (λ xs. c.args.entries.now.items ++ xs)
          (run-more c.args.tick c.args.c kept.number kept.marks kept.samples.items c.loop-i.i c.from.result c.index.result.now c.unless_marked.result
          (omega (arith, few, long, c.loop-i-test.true)) c.from.ensures c.index.ensures c.unless_marked.ensures),
      omega (arith, c.put.ensures.len, c.loop-i.invariant.1),
      omega (arith, c.put.ensures.room, c.loop-i.invariant.2),
    )

use Rattle.std.proofs.Common.{◌≡◌, suc, ◌+◌, ◌++◌, take, get_or, sym, ap, ◌∙◌, arith}
use Rattle.link_receiver.specs.Runs.{entries_from, entries_of_kept}
use Rattle.link_receiver.proofs.ListedEntries.{entries_from-more}
use Rattle.link_receiver.proofs.listing.list_carriers.Goals as goal

pub loop-c-preserved : goal.loop-c-preserved
loop-c-preserved c =
    let xs = c.args.carriers.now in
    let place = c.loop-c.c in
    let kept = get_or xs place c.index-carriers-c.result in
    let next : suc place ≡ place + 1 = omega arith in
    let here : 0 + place ≡ place = omega arith in
    let put : c.list_carrier.new.entries.items ≡ c.loop-c.entries.items ++ entries_of_kept c.args.tick place kept = c.list_carrier.ensures.items ∙ ap (λ k. c.loop-c.entries.items ++ entries_of_kept c.args.tick place k) c.index-carriers-c.is in (
      put
          ∙ ap (λ ys. ys ++ entries_of_kept c.args.tick place kept) c.loop-c.invariant.0
          ∙ ap (λ k. entries_from c.args.tick 0 (take place xs) ++ entries_of_kept c.args.tick k kept) (sym here)
          ∙ sym (entries_from-more c.args.tick 0 place xs c.index-carriers-c.result c.loop-c-test.true)
          ∙ ap (λ k. entries_from c.args.tick 0 (take k xs)) next,
      omega (arith, c.list_carrier.ensures.len, c.loop-c.invariant.1),
      omega (arith, c.list_carrier.ensures.room, c.loop-c.invariant.2),
    )

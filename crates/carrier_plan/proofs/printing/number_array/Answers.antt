use Rattle.std.proofs.Common.{◌≤◌, ◌∙◌, ap, Ok, get_or, arith, take_all}
use Rattle.toml.specs.Data.{depth}
use Rattle.toml.specs.View.{view}
use Rattle.toml.proofs.Views.{view-Array}
use Rattle.carrier_plan.specs.Keys.{number_of}
use Rattle.carrier_plan.specs.PlanOf.{numbers_of}
use Rattle.carrier_plan.proofs.Values.{number_reads, all_read_more, are_integers-push, items_depth-push, numbers_read}
use Rattle.carrier_plan.proofs.printing.number_array.Goals as goal

pub loop-n-preserved : goal.loop-n-preserved
loop-n-preserved c =
    let vs = c.loop-n.values.items in
    let i = c.loop-n.n-index in
    let n = get_or c.args.numbers.now i 0 in
    let flat : depth (view c.number.result) ≤ 0 = rw c.number.ensures.value (omega arith) in
    record {
      reads = λ spot. rw c.in_ok-push.ensures.items (all_read_more (λ _. number_of spot) vs c.number.result c.args.numbers.now i 0 (omega arith) (λ j. ap (number_of spot) c.number.ensures.value ∙ number_reads spot n c.number.ensures.range) (c.loop-n.invariant.reads spot));
      integers = rw c.in_ok-push.ensures.items (are_integers-push vs c.number.result n c.number.ensures.value c.loop-n.invariant.integers);
      depth = rw c.in_ok-push.ensures.items (items_depth-push vs c.number.result 0 c.loop-n.invariant.depth flat);
    }

pub returns-clause-reads : goal.returns-clause-reads
returns-clause-reads c spot =
    ap (numbers_of spot) (view-Array c.loop-n.values)
    ∙ numbers_read c.loop-n.values.items _ c.loop-n.invariant.integers c.loop-n.invariant.reads spot
    ∙ ap Ok (take_all c.loop-n.n-index c.args.numbers.now (omega arith))

pub returns-clause-depth : goal.returns-clause-depth
returns-clause-depth c = rw (view-Array c.loop-n.values) (omega (arith, c.loop-n.invariant.depth))

use Rattle.std.proofs.Common.{◌∙◌, ap, Ok, arith, take_all}
use Rattle.toml.proofs.Views.{view-Array}
use Rattle.carrier_plan.specs.PlanOf.{piece_of, pieces_of}
use Rattle.carrier_plan.proofs.Values.{all_read_more, are_pairs-push, items_depth-push, pieces_read}
use Rattle.carrier_plan.proofs.printing.pair_array.Goals as goal

pub loop-piece-preserved : goal.loop-piece-preserved
loop-piece-preserved c =
    let vs = c.loop-piece.values.items in
    let v = c.in_ok-pair.field-0 in
    record {
      reads = λ spot. rw c.in_ok-push.ensures.items (all_read_more (λ _. piece_of spot) vs v c.args.pieces.now c.loop-piece.piece-index _ (omega arith) (λ j. c.in_ok-pair.ensures.reads spot) (c.loop-piece.invariant.reads spot));
      pairs = rw c.in_ok-push.ensures.items (are_pairs-push vs v c.in_ok-pair.ensures.pair c.loop-piece.invariant.pairs);
      depth = rw c.in_ok-push.ensures.items (items_depth-push vs v 1 c.loop-piece.invariant.depth (omega (arith, c.in_ok-pair.ensures.depth)));
    }

pub returns-clause-reads : goal.returns-clause-reads
returns-clause-reads c spot =
    ap (pieces_of spot) (view-Array c.loop-piece.values)
    ∙ pieces_read c.loop-piece.values.items _ c.loop-piece.invariant.pairs c.loop-piece.invariant.reads spot
    ∙ ap Ok (take_all c.loop-piece.piece-index c.args.pieces.now (omega arith))

pub returns-clause-depth : goal.returns-clause-depth
returns-clause-depth c = rw (view-Array c.loop-piece.values) (omega (arith, c.loop-piece.invariant.depth))

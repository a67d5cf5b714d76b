use Rattle.std.proofs.Common.{◌≡◌, ◌∙◌, ap, sym, arith, rules, Err}
use Rattle.toml.specs.View.{view}
use Rattle.toml.proofs.Views.{view-Array}
use Rattle.carrier_plan.specs.PlanOf.{piece_of}
use Rattle.carrier_plan.proofs.Elements.{piece_of_two, piece_of_bad_start, piece_of_other}
use Rattle.carrier_plan.proofs.reading.piece_of.Goals as goal

pub returns-then-len-ne2 : goal.returns-then-len-ne2
returns-then-len-ne2 c =
    let seen = ap view c.in-Array.is ∙ view-Array c.in-Array.numbers in
    piece_of_other c.args.spot c.in-Array.numbers.items (λ e. omega arith) ∙ sym (ap (piece_of c.args.spot) seen)

pub returns-in_err-start : goal.returns-in_err-start
returns-in_err-start c =
    let seen = ap view c.in-Array.is ∙ view-Array c.in-Array.numbers in
    let bad = piece_of_bad_start c.args.spot c.in-Array.numbers.items c.index.result.now c.in_err-start.field-0.0 (omega arith) c.index.ensures c.in_err-start.ensures in
    rw (ap (piece_of c.args.spot) seen ∙ bad) (search rules)

pub returns-in_err-size : goal.returns-in_err-size
returns-in_err-size c =
    let seen = ap view c.in-Array.is ∙ view-Array c.in-Array.numbers in
    let two = piece_of_two c.args.spot c.in-Array.numbers.items c.index.result.now c.index-2.result.now (omega arith) c.index.ensures c.index-2.ensures in
    let bad : piece_of c.args.spot (view c.args.value.now) ≡ Err c.in_err-size.field-0.0 = ap (piece_of c.args.spot) seen ∙ two ∙ rw (← c.in_ok-start.ensures, ← c.in_err-size.ensures) in
    rw bad (search rules)

pub returns : goal.returns
returns c =
    let seen = ap view c.in-Array.is ∙ view-Array c.in-Array.numbers in
    let two = piece_of_two c.args.spot c.in-Array.numbers.items c.index.result.now c.index-2.result.now (omega arith) c.index.ensures c.index-2.ensures in
    sym (ap (piece_of c.args.spot) seen ∙ two ∙ rw (← c.in_ok-start.ensures, ← c.in_ok-size.ensures))

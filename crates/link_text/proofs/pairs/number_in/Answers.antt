use Rattle.std.proofs.Common.{◌+◌, ◌*◌, ◌/◌, ◌%◌, ◌^◌, eqb, w32, FitsSigned, sym, ap, ◌∙◌, arith}
use Rattle.std.proofs.lemmas.Int.{to_z-of_z}
use Rattle.link_text.proofs.WordNumbers.{number_is}
use Rattle.link_text.proofs.pairs.number_in.Goals as goal
use Rattle.link_text.proofs.pairs.number_in.Goals.{else-first-from-via-then-first-from+else-begin-end-gt1, else-first-from-via-else-first-from}

pub returns-clause-fits : goal.returns-clause-fits
returns-clause-fits c =
    let fits : FitsSigned w32 c.with_sign.result = record { sfits = c.with_sign.type_inv } in
    rw (to_z-of_z w32 c.with_sign.result fits) fits

pub returns-clause-value : goal.returns-clause-value
returns-clause-value c octets eight is =
    let word = c.args.word in
    let fits : FitsSigned w32 c.with_sign.result = record { sfits = c.with_sign.type_inv } in
    let minus = ap (λ code. eqb (word % 256) code) (sym c.from.ensures) in
    let digits = ap (λ sign. (word + 3 * sign) % 2 ^ 64) c.from-sign.ensures in
    let begin = c.from-begin.ensures in
    let place = ap (λ sign. word / 2 ^ (8 * sign) % 256) (sym c.from-sign.ensures) in
    rw (to_z-of_z w32 c.with_sign.result fits)
    (number_is octets word eight is c.in_ok-end.end c.in_ok-end.size c.in_ok-end.ensures.few
    (eqb (word % 256) c.from.result) _ c.with_sign.result c.ranges.word.fits minus digits c.in_ok-end.ensures.value
    (omega (arith, c.if-end-begin.false, begin))
    (λ zero. elim c.else-first-from.branch [
      | else-first-from-via-then-first-from+else-begin-end-gt1 w ↦ omega (arith, w.if-begin-end-gt1.false, begin)
      | else-first-from-via-else-first-from w ↦ absurd (w.if-first-from.false (sym place ∙ zero ∙ sym c.from-2.ensures))
    ])
    c.with_sign.ensures)

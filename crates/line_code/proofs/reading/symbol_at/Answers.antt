use Rattle.std.proofs.Common.{◌≡◌, ◌*◌, ◌/◌, ◌%◌, get_or, arith, sym, ◌∙◌, ap}
use Rattle.line_code.specs.Packed.{symbols_in, word_at}
use Rattle.line_code.proofs.ReadSymbols.{quarter, symbol_in}
use Rattle.line_code.proofs.reading.symbol_at.Goals as goal
use Rattle.line_code.proofs.reading.symbol_at.Goals.{in-0, in-1, in-2, in_default}

pub returns : goal.returns
unfolding quarter
returns c =
    let place = c.args.place in
    let here : get_or (symbols_in c.args.octets.now) place 0 ≡ quarter (word_at c.args.octets.now (5 * (place / 4))) (place % 4) =
    ap (λ n. get_or (symbols_in c.args.octets.now) n 0) (omega arith)
    ∙ symbol_in c.args.octets.now (place / 4) (place % 4) (omega arith) (omega arith) in
    let word : quarter c.word_at-word.result (place % 4) ≡ get_or (symbols_in c.args.octets.now) place 0 =
    ap (λ w. quarter w (place % 4)) c.word_at-word.ensures.value ∙ sym here in
    elim c.match-place-rem4.branch [
      | in-0 w ↦ w.bits-is ∙ ap (λ r. quarter c.word_at-word.result r) (sym w.in-0.is) ∙ word
      | in-1 w ↦ w.bits-is ∙ ap (λ r. quarter c.word_at-word.result r) (sym w.in-1.is) ∙ word
      | in-2 w ↦ w.bits-is ∙ ap (λ r. quarter c.word_at-word.result r) (sym w.in-2.is) ∙ word
      | in_default w ↦ w.bits-is ∙ ap (λ r. quarter c.word_at-word.result r) (let three : 3 ≡ place % 4 = omega arith in three) ∙ word
    ]

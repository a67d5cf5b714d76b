use Rattle.std.proofs.Common.{◌≡◌, Bool, true, false, not, get_or, sym, ap, ◌∙◌, refl, arith}
use Rattle.std.proofs.lemmas.Bool.{eqb-true, false≢true}
use Rattle.line_code.specs.Packed.{symbols_in}
use Rattle.line_code.proofs.PackedSymbols.{length-symbols_in}
use Rattle.roe_mappers.specs.Symbols.{is_bad_symbol}
use Rattle.roe_mappers.proofs.SymbolRuns.{clean_first, clean_within}
use Rattle.roe_mappers.proofs.symbols.is_clean.Goals as goal

not_true : (b : Bool) → not b ≡ true → b ≡ false
not_true true h = absurd (false≢true h)
not_true false h = refl

pub returns-then-others-eq1 : goal.returns-then-others-eq1
returns-then-others-eq1 c =
    λ clean.
    let symbols = symbols_in c.args.part.now in
    let good : is_bad_symbol c.args.n 0 (get_or symbols 0 0) ≡ false = sym (ap (is_bad_symbol c.args.n 0) c.symbol_at.ensures) ∙ sym c.is_bad.ensures ∙ not_true c.is_bad.result clean in
    clean_first c.args.n symbols c.if-n-eq0.true (omega (arith, length-symbols_in c.args.part.now, c.requires.some)) (sym c.requires.others ∙ c.if-others-eq1.true) good

pub returns-else-n-eq0 : goal.returns-else-n-eq0
returns-else-n-eq0 c = λ clean. clean_within c.args.n (symbols_in c.args.part.now) c.if-n-eq0.false (sym c.requires.others ∙ eqb-true c.args.others 0 clean)

use Rattle.std.proofs.Common.{◌≡◌, true, false, get_or, sym, ap, ◌∙◌, arith, below_more}
use Rattle.line_code.specs.Packed.{symbols_in}
use Rattle.line_code.proofs.PackedSymbols.{length-symbols_in}
use Rattle.roe_mappers.specs.Symbols.{is_bad_symbol}
use Rattle.roe_mappers.proofs.SymbolRuns.{first_bad-at, first_bad-none}
use Rattle.roe_mappers.proofs.symbols.first_bad.Goals as goal

pub loop-place-init : goal.loop-place-init
loop-place-init c = λ s lt. absurd (omega arith)

pub returns-then-is_bad : goal.returns-then-is_bad
returns-then-is_bad c =
    let symbols = symbols_in c.args.part.now in
    let k = c.loop-place.place in
    let bad : is_bad_symbol c.args.n k (get_or symbols k 0) ≡ true = sym (ap (is_bad_symbol c.args.n k) c.symbol_at.ensures) ∙ sym c.is_bad.ensures ∙ c.if-is_bad.true in
    first_bad-at c.args.n symbols k (omega (arith, length-symbols_in c.args.part.now)) bad c.loop-place.invariant

pub loop-place-preserved : goal.loop-place-preserved
loop-place-preserved c =
    let symbols = symbols_in c.args.part.now in
    let k = c.loop-place.place in
    let good : is_bad_symbol c.args.n k (get_or symbols k 0) ≡ false = sym (ap (is_bad_symbol c.args.n k) c.symbol_at.ensures) ∙ sym c.is_bad.ensures ∙ c.if-is_bad.false in
    below_more _ _ c.loop-place.invariant good

pub returns : goal.returns
returns c =
    first_bad-none c.args.n (symbols_in c.args.part.now) (λ s lt. c.loop-place.invariant s (omega (arith, length-symbols_in c.args.part.now)))

use Rattle.std.proofs.Common.{◌≡◌, get_or, length, sym, ap, ◌∙◌, arith}
use Rattle.std.proofs.lemmas.List.{length-map}
use Rattle.line_code.specs.declared.characters.Symbol.{Symbol}
use Rattle.line_code.proofs.PackedSymbols.{bits_of_four}
use Rattle.roe_mappers.specs.Symbols.{others_in}
use Rattle.roe_mappers.proofs.SymbolRuns.{others_in-four}
use Rattle.roe_mappers.proofs.symbols.read_four.Goals as goal

pub returns-clause-others : goal.returns-clause-others
returns-clause-others c =
    let symbols = c.four_symbols.result in
    let four = c.four_symbols.ensures in
    let long : length symbols ≡ 4 = sym (length-map symbols (λ (s : Symbol). s.bits)) ∙ ap length four in
    let a = c.index-four_symbols-0.result in
    let b = c.index-four_symbols-1.result in
    let d = c.index-four_symbols-2.result in
    let e = c.index-four_symbols-3.result in
    let bits = bits_of_four symbols a b d e long ∙ four in
    omega (
      arith,
      c.read-first.ensures.other,
      c.read-second.ensures.other,
      c.read-third.ensures.other,
      c.read-fourth.ensures.other,
      ap others_in bits,
      others_in-four (get_or symbols 0 a).bits (get_or symbols 1 b).bits (get_or symbols 2 d).bits (get_or symbols 3 e).bits,
    )

use Rattle.std.proofs.Common.{◌≡◌, ◌∙◌, get_or, length, refl, rules}
use Rattle.line_code.specs.declared.characters.Symbol.{Symbol}
use Rattle.line_code.proofs.PackedSymbols.{bits_of_four, symbols_of_octets}
use Rattle.line_code.proofs.packing.five_octets.Goals as goal

pub returns : goal.returns
returns c =
    let first : Symbol = get_or c.args.symbols 0 c.index-symbols-0.result in
    let second : Symbol = get_or c.args.symbols 1 c.index-symbols-1.result in
    let third : Symbol = get_or c.args.symbols 2 c.index-symbols-2.result in
    let fourth : Symbol = get_or c.args.symbols 3 c.index-symbols-3.result in
    let four : length c.args.symbols ≡ 4 = search rules in
    symbols_of_octets first.bits second.bits third.bits fourth.bits _ first.ten_bits second.ten_bits third.ten_bits fourth.ten_bits
    (rw (c.from.ensures, c.from-2.ensures, c.from-3.ensures, c.from-4.ensures) refl)
    ∙ bits_of_four c.args.symbols c.index-symbols-0.result c.index-symbols-1.result c.index-symbols-2.result c.index-symbols-3.result four

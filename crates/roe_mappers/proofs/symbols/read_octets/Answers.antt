use Rattle.std.proofs.Common.{◌≡◌, ◌+◌, ◌-◌, ◌*◌, ◌++◌, length, map, take, sym, ap, ◌∙◌, refl, arith}
use Rattle.std.proofs.lemmas.List.{map-append, take_all}
use Rattle.std.proofs.lemmas.Slice.{take-put_mid}
use borrow.Rule.Slice.PartMut.{put_mid}
use Rattle.line_code.specs.Decoded.{octet_of}
use Rattle.line_code.specs.Packed.{four_symbols, symbols_in, word_at}
use Rattle.line_code.proofs.PackedSymbols.{length-symbols_in}
use Rattle.line_code.proofs.ReadSymbols.{first_symbols}
use Rattle.roe_mappers.specs.Symbols.{others_in}
use Rattle.roe_mappers.proofs.SymbolRuns.{others_in-append, others_in-none}
use Rattle.roe_mappers.proofs.symbols.read_octets.Goals as goal

pub loop-group-init : goal.loop-group-init
loop-group-init c = record { read = refl; counted = sym others_in-none; few = omega arith }

pub overflow_add-others : goal.overflow_add-others
overflow_add-others c = record { fits = omega (arith, c.loop-group.invariant.few, c.read_four-more.ensures.few, c.requires.short) }

pub loop-group-preserved : goal.loop-group-preserved
loop-group-preserved c =
    let g = c.loop-group.group in
    let symbols = symbols_in c.args.part.now in
    let octets = c.loop-group.octets in
    let four = four_symbols (word_at c.args.part.now (5 * g)) in
    let written = c.copy_from_slice.new.self in
    let is : written ≡ map octet_of four = c.copy_from_slice.ensures.after ∙ c.read_four-more.ensures.octets in
    let long : length written ≡ 4 = ap length is in
    let next : 4 * g + 4 ≡ 4 * (g + 1) = omega arith in
    let more : take (4 * g + 4) symbols ≡ take (4 * g) symbols ++ four = first_symbols c.args.part.now g (omega arith) in
    let put = take-put_mid (4 * g) (4 * g + 4 - 4 * g) octets written (4 * g + 4) (omega (arith, long)) (omega (arith, c.loop-group.auto.octets)) in
    record {
      read = ap (λ m. take m (put_mid (4 * g) (4 * g + 4 - 4 * g) octets written)) (sym next) ∙ put ∙ ap (λ xs. xs ++ written) c.loop-group.invariant.read ∙ ap (λ xs. map octet_of (take (4 * g) symbols) ++ xs) is
          ∙ sym (map-append octet_of (take (4 * g) symbols) four) ∙ ap (map octet_of) (sym more ∙ ap (λ m. take m symbols) next);
      counted =
          let split = ap others_in (sym (ap (λ m. take m symbols) next) ∙ more) ∙ others_in-append (take (4 * g) symbols) four in
          omega (arith, split, c.loop-group.invariant.counted, c.read_four-more.ensures.others);
      few = omega (arith, c.loop-group.invariant.few, c.read_four-more.ensures.few);
    }

pub returns-clause-octets : goal.returns-clause-octets
returns-clause-octets c =
    let g = c.loop-group.group in
    let symbols = symbols_in c.args.part.now in
    let all = take_all (4 * g) c.loop-group.octets (omega (arith, c.loop-group.auto.octets)) in
    let whole = take_all (4 * g) symbols (omega (arith, length-symbols_in c.args.part.now)) in
    sym all ∙ c.loop-group.invariant.read ∙ ap (map octet_of) whole

pub returns-clause-others : goal.returns-clause-others
returns-clause-others c =
    let g = c.loop-group.group in
    let whole = take_all (4 * g) (symbols_in c.args.part.now) (omega (arith, length-symbols_in c.args.part.now)) in
    c.loop-group.invariant.counted ∙ ap others_in whole

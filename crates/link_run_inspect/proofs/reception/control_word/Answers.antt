use Rattle.std.proofs.Common.{◌≤◌, ◌*◌, ◌++◌, length, take, map, arith, ap, ◌∙◌, sym}
use Rattle.std.proofs.lemmas.List.{map-append, take-map, take-take}
use Rattle.line_code.specs.Packed.{symbols_in, word_at, four_symbols}
use Rattle.line_code.specs.Decoded.{octet_of}
use Rattle.line_code.proofs.ReadSymbols.{first_symbols}
use Rattle.link_run_inspect.specs.Frames.{control_word}
use Rattle.link_run_inspect.proofs.reception.control_word.Goals as goal

pub loop-group-preserved : goal.loop-group-preserved
loop-group-preserved c =
    let octets = c.args.octets.now in
    let symbols = symbols_in octets in
    let group = c.loop-group.group in
    let four = four_symbols (word_at octets (5 * group)) in
    let appended = rw c.unwrap.ensures at c.try_extend_from_slice.ensures.ok in
    record {
      items =
          appended ∙ ap (λ w. w ++ c.four_octets-four.result) c.loop-group.invariant.items
          ∙ ap (λ o. map octet_of (take (4 * group) symbols) ++ o) c.four_octets-four.ensures
          ∙ sym (map-append octet_of (take (4 * group) symbols) four)
          ∙ ap (map octet_of) (sym (first_symbols octets group (omega arith)))
          ∙ ap (λ n. map octet_of (take n symbols)) (omega arith);
      few = omega (arith, rw c.unwrap.ensures at c.try_extend_from_slice.ensures.len, ap length c.four_octets-four.ensures, c.loop-group.invariant.few);
    }

pub returns-clause-word : goal.returns-clause-word
unfolding control_word
returns-clause-word c =
    let symbols = symbols_in c.args.octets.now in
    let width = c.args.width in
    let groups = 4 * c.loop-group.group in
    let within : width ≤ groups = omega (arith, c.div_ceil-group-end.ensures) in
    c.truncate.ensures.items ∙ ap (take width) c.loop-group.invariant.items ∙ take-map octet_of width (take groups symbols)
    ∙ ap (map octet_of) (take-take width groups symbols within)

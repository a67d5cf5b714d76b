use Rattle.std.proofs.Common.{◌≡◌, ◌+◌, ◌*◌, ◌≤◌, drop}
use Rattle.line_code.specs.Packed.{symbols_in}
use Rattle.line_code.specs.Decoded.{violations_in, disparity_along}
use Rattle.line_code.proofs.reading.read_symbols.Given as goal

abbrev pub invariant-loop-group : goal.invariant-loop-group
invariant-loop-group l = record {
  violations : violations_in l.fn.disparity (symbols_in l.octets) ≡ l.line.violations + violations_in l.line.disparity (symbols_in (drop (5 * l.group) l.octets));
  disparity : disparity_along l.fn.disparity (symbols_in l.octets) ≡ disparity_along l.line.disparity (symbols_in (drop (5 * l.group) l.octets));
  few : l.line.violations ≤ 4 * l.group;
}

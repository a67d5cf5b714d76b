use Rattle.std.proofs.Common.{◌≡◌, ◌+◌, ◌*◌, ◌≤◌, drop}
use Rattle.line_code.specs.Packed.{symbols_in}
use Rattle.line_code.specs.Decoded.{violations_in, disparity_along}
use Rattle.line_code.proofs.reading.read_sixteens.Given as goal

abbrev pub invariant-loop-twenty : goal.invariant-loop-twenty
invariant-loop-twenty l = record {
  violations : violations_in l.fn.disparity (symbols_in l.octets) ≡ l.line.violations + violations_in l.line.disparity (symbols_in (drop (20 * l.twenty) l.octets));
  disparity : disparity_along l.fn.disparity (symbols_in l.octets) ≡ disparity_along l.line.disparity (symbols_in (drop (20 * l.twenty) l.octets));
  few : l.line.violations ≤ 16 * l.twenty;
}

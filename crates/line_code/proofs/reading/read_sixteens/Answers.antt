use Rattle.std.proofs.Common.{◌≡◌, ◌+◌, ◌*◌, drop, arith, ap, ◌∙◌}
use Rattle.line_code.specs.Packed.{symbols_in}
use Rattle.line_code.specs.Decoded.{violations_in, disparity_along}
use Rattle.line_code.proofs.ReadSymbols.{violations_sixteen, disparity_sixteen}
use Rattle.line_code.proofs.reading.read_sixteens.Goals as goal

pub loop-twenty-preserved : goal.loop-twenty-preserved
loop-twenty-preserved c =
    let octets = c.args.octets.now in
    let at = 20 * c.loop-twenty.twenty in
    let line = c.loop-twenty.line in
    let next = c.take_sixteen-line.result in
    let step : at + 20 ≡ 20 * (c.loop-twenty.twenty + 1) = omega arith in
    let v = violations_sixteen octets at line.violations (violations_in c.args.disparity (symbols_in octets)) line.disparity next.disparity next.violations (omega arith)
    c.loop-twenty.invariant.violations c.take_sixteen-line.ensures.violations c.take_sixteen-line.ensures.disparity in
    let d = disparity_sixteen octets at (disparity_along c.args.disparity (symbols_in octets)) line.disparity next.disparity (omega arith)
    c.loop-twenty.invariant.disparity c.take_sixteen-line.ensures.disparity in
    record {
      violations = v ∙ ap (λ n. next.violations + violations_in next.disparity (symbols_in (drop n octets))) step;
      disparity = d ∙ ap (λ n. disparity_along next.disparity (symbols_in (drop n octets))) step;
      few = omega arith;
    }

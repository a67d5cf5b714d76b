use Rattle.std.proofs.Common.{◌≡◌, ◌+◌, ◌*◌, drop, arith, ap, ◌∙◌}
use Rattle.line_code.specs.Packed.{symbols_in, four_symbols}
use Rattle.line_code.specs.Decoded.{violations_in, disparity_along}
use Rattle.line_code.proofs.ReadSymbols.{violations_more, disparity_more, violations_end, disparity_end}
use Rattle.line_code.proofs.reading.read_symbols.Goals as goal

pub loop-group-preserved : goal.loop-group-preserved
loop-group-preserved c =
    let octets = c.args.octets.now in
    let at = 5 * c.loop-group.group in
    let line = c.loop-group.line in
    let next = c.take_four-line.result in
    let step : at + 5 ≡ 5 * (c.loop-group.group + 1) = omega arith in
    let v = violations_more octets at line.violations (violations_in c.args.disparity (symbols_in octets)) line.disparity next.disparity next.violations (omega arith) c.loop-group.invariant.violations
    (c.take_four-line.ensures.violations ∙ ap (λ w. line.violations + violations_in line.disparity (four_symbols w)) c.word_at.ensures.value)
    (c.take_four-line.ensures.disparity ∙ ap (λ w. disparity_along line.disparity (four_symbols w)) c.word_at.ensures.value) in
    let d = disparity_more octets at (disparity_along c.args.disparity (symbols_in octets)) line.disparity next.disparity (omega arith) c.loop-group.invariant.disparity
    (c.take_four-line.ensures.disparity ∙ ap (λ w. disparity_along line.disparity (four_symbols w)) c.word_at.ensures.value) in
    record {
      violations = v ∙ ap (λ n. next.violations + violations_in next.disparity (symbols_in (drop n octets))) step;
      disparity = d ∙ ap (λ n. disparity_along next.disparity (symbols_in (drop n octets))) step;
      few = omega arith;
    }

pub returns-clause-violations : goal.returns-clause-violations
returns-clause-violations c =
    violations_end c.args.octets.now (5 * c.loop-group.group) c.loop-group.line.violations (violations_in c.args.disparity (symbols_in c.args.octets.now)) c.loop-group.line.disparity (omega arith)
    c.loop-group.invariant.violations

pub returns-clause-disparity : goal.returns-clause-disparity
returns-clause-disparity c =
    disparity_end c.args.octets.now (5 * c.loop-group.group) (disparity_along c.args.disparity (symbols_in c.args.octets.now)) c.loop-group.line.disparity (omega arith)
    c.loop-group.invariant.disparity

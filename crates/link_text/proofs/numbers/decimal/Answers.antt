use Rattle.std.proofs.Common.{◌∙◌, sym, ◌+◌, arith}
use Rattle.link_text.proofs.DecimalLemmas.{decimal_value-other, decimal_value-large, digits_more, value_more}
use Rattle.link_text.proofs.numbers.decimal.Goals as goal

pub returns-then-not-is_ascii_digit-clause-none : goal.returns-then-not-is_ascii_digit-clause-none
returns-then-not-is_ascii_digit-clause-none c =
    rw (decimal_value-other c.args.text.now c.loop-c.c-index c.loop-c-test.true (sym c.is_ascii_digit.ensures.value ∙ c.if-not-is_ascii_digit.true)) tt

pub returns-in_err-checked_mul-clause-none : goal.returns-in_err-checked_mul-clause-none
returns-in_err-checked_mul-clause-none c =
    let i = c.loop-c.c-index in
    let step = value_more c.args.text.now i c.loop-c.value c.loop-c-test.true (sym c.if-not-is_ascii_digit.ensures.value) c.loop-c.invariant.value in
    rw c.from_residual.ensures
    (decimal_value-large c.args.text.now (i + 1) c.args.max (omega (arith, step, c.in_err-checked_mul.ensures)))

pub returns-in_err-value-clause-none : goal.returns-in_err-value-clause-none
returns-in_err-value-clause-none c =
    let i = c.loop-c.c-index in
    let step = value_more c.args.text.now i c.loop-c.value c.loop-c-test.true (sym c.if-not-is_ascii_digit.ensures.value) c.loop-c.invariant.value in
    rw c.from_residual-in_err-value.ensures
    (decimal_value-large c.args.text.now (i + 1) c.args.max (omega (arith, step, c.in_ok-checked_mul.ensures, c.from.ensures, c.in_err-value.ensures)))

pub loop-c-preserved : goal.loop-c-preserved
loop-c-preserved c =
    let i = c.loop-c.c-index in
    let digit = sym c.if-not-is_ascii_digit.ensures.value in
    let step = value_more c.args.text.now i c.loop-c.value c.loop-c-test.true digit c.loop-c.invariant.value in record {
      digits = digits_more c.args.text.now i c.loop-c.invariant.digits c.loop-c-test.true digit;
      value = omega (arith, step, c.in_ok-checked_mul.ensures, c.in_ok-value.ensures, c.from.ensures);
    }

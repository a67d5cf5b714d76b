use Rattle.std.proofs.Common.{◌≤◌, ◌+◌, Bool, true, false, cond, sym, ap, subst, ◌∙◌, arith, below_more}
use Rattle.std.specs.Int.{bit_at}
use Rattle.std.proofs.lemmas.Nat.Bits.{bit_at-zero}
use Rattle.link_receiver_blocks.specs.Containers.{place_of_bit}
use Rattle.link_receiver_blocks.specs.Held.{is_missed}
use Rattle.link_receiver_blocks.proofs.Masks.{with_bit-below, with_bit-small, with_bit-there}
use Rattle.link_receiver_blocks.proofs.Spans.{not_missed}
use Rattle.link_receiver_blocks.proofs.marks.marks_of.Goals as goal

pub returns-then-missed-eq0-clause-marks : goal.returns-then-missed-eq0-clause-marks
returns-then-missed-eq0-clause-marks c i within =
    let w = c.args.mapping in
    bit_at-zero i
    ∙ ap (λ b. cond b 1 0) (sym (not_missed w c.args.missed (c.args.first + i)
    (λ b small. let p = (place_of_bit w (c.args.first + i) b).phase in ap (λ n. bit_at n p) c.if-missed-eq0.true ∙ bit_at-zero p)))

one_at_most : (b : Bool) → cond b 1 0 ≤ 1
one_at_most true = omega arith
one_at_most false = omega arith

pub loop-i-preserved : goal.loop-i-preserved
loop-i-preserved c =
    let i = c.loop-i.i in
    let marks = c.loop-i.marks in
    let mark = c.mark_of.result in
    let small = c.loop-i.invariant.no_others in
    let is_bit : mark ≤ 1 = subst (λ n. n ≤ 1) (sym c.mark_of.ensures) (one_at_most (is_missed c.args.mapping c.args.missed (c.args.first + i))) in
    record {
      marks = below_more _ _
          (λ j below. with_bit-below 32 marks mark i small is_bit (omega arith) j below ∙ c.loop-i.invariant.marks j below)
          (with_bit-there 32 marks mark i small is_bit (omega arith) ∙ c.mark_of.ensures);
      no_others = with_bit-small 32 marks mark i small is_bit (omega arith);
    }

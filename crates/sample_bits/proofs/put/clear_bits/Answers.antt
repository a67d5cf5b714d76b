use Rattle.std.proofs.Common.{◌≡◌, ◌+◌, ◌-◌, ◌∙◌, ap, arith, ⊎_elim}
use Rattle.std.proofs.lemmas.Bool.{cases_lt}
use Rattle.std.proofs.lemmas.Nat.Bits.{bit_at-zero}
use Rattle.link_base.specs.Bits.{bit_of}
use Rattle.sample_bits.proofs.put.clear_bits.Goals as goal

pub loop-next-preserved : goal.loop-next-preserved
loop-next-preserved c =
    let next = c.loop-next.next in
    let done = c.loop-next.invariant in
    let put = c.put_bits.ensures in
    record {
      begun = omega arith;
      cleared = λ k from below within. ⊎_elim
          (λ early. put.before k early ∙ done.cleared k from early within)
          (λ late.
          let e : k ≡ next + (k - next) = omega arith in
          ap (bit_of c.put_bits.new.octets) e ∙ put.put (k - next) (omega arith) ∙ bit_at-zero (k - next))
          (cases_lt k next);
      before = λ k h. put.before k (omega arith) ∙ done.before k h;
      after = λ k h. put.after k h ∙ done.after k h;
    }

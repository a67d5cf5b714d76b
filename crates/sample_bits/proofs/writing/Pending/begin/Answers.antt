use Rattle.std.proofs.Common.{ℕ, ◌+◌, ◌*◌, ◌/◌, ◌%◌, ◌∙◌, ap, sym, refl, arith}
use Rattle.std.specs.Int.{bit_at}
use Rattle.sample_bits.proofs.OctetLemmas.{bit_of-at}
use Rattle.sample_bits.proofs.SignLemmas.{bit_at-low_mask}
use Rattle.sample_bits.proofs.writing.Pending.begin.Goals as goal

pub returns-clause-filled : goal.returns-clause-filled
returns-clause-filled c =
    let octets = c.args.octets.now in
    let o : ℕ = c.args.at / 8 in
    let n : ℕ = c.args.at % 8 in
    record {
      written = λ k h. refl;
      waiting = λ j h.
          bit_at-low_mask c.from.result n j (omega arith) h ∙ ap (λ v. bit_at v j) c.from.ensures
          ∙ sym (bit_of-at octets o j (8 * o + j) (omega arith) refl);
    }

use Rattle.std.proofs.Common.{◌≡◌, ◌+◌, ◌-◌, ◌*◌, ◌∙◌, ap, sym, arith, ⊎_elim}
use Rattle.std.specs.Int.{bit_at}
use Rattle.std.proofs.lemmas.Bool.{cases_lt}
use Rattle.std.proofs.lemmas.Nat.{mul-le}
use Rattle.sample_bits.proofs.BlockLemmas.{bit_of_item-at}
use Rattle.sample_bits.proofs.writing.push_pairs.Goals as goal

pub push-pending-requires-clause-room : goal.push-pending-requires-clause-room
push-pending-requires-clause-room g c =
    let m = c.args.m in
    let pair = c.loop-pair.pair in
    let more = mul-le (2 * m) (2 * pair + 2) (2 * m) (2 * c.args.pairs) (omega arith) (omega arith) in
    omega (arith, c.loop-pair.invariant.place)

pub loop-pair-preserved : goal.loop-pair-preserved
loop-pair-preserved g c =
    let m = c.args.m in
    let pair = c.loop-pair.pair in
    let samples = c.args.samples.now in
    let word = c.pair_word-word.result in
    let known = c.loop-pair.invariant in
    record {
      place = omega (arith, known.place);
      filled = λ bits start items.
          c.push-pending.ensures.filled bits (known.filled bits start (λ r b h small. items r b (omega arith) small))
          (λ j h. ⊎_elim
          (λ early.
          c.pair_word-word.ensures.first j early
          ∙ sym (bit_of_item-at g.T.SampleWord.sample samples (2 * pair) j c.index-samples-pair.result (omega arith) c.index-samples-pair.is)
          ∙ items (2 * pair) j (omega arith) early ∙ ap bits (omega (arith, known.place)))
          (λ late.
          let e : 2 * m + (j - 2 * m) ≡ j = omega arith in
          ap (bit_at word) (sym e) ∙ c.pair_word-word.ensures.second (j - 2 * m) (omega arith)
          ∙ sym (bit_of_item-at g.T.SampleWord.sample samples (2 * pair + 1) (j - 2 * m) c.index-samples-pair-in-loop-pair.result (omega arith) c.index-samples-pair-in-loop-pair.is)
          ∙ items (2 * pair + 1) (j - 2 * m) (omega arith) (omega arith) ∙ ap bits (omega (arith, known.place)))
          (cases_lt j (2 * m)));
      after = λ k h. c.push-pending.ensures.after k h ∙ known.after k (omega arith);
    }

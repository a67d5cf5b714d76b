use Rattle.std.proofs.Common.{◌≡◌, ℕ, ◌+◌, ◌-◌, ◌*◌, ◌∙◌, length, ap, sym, arith}
use Rattle.std.proofs.lemmas.Nat.{mul-le}
use Rattle.sample_bits.specs.Blocks.{bit_of_item}
use Rattle.sample_bits.proofs.BlockLemmas.{bit_of_item-at}
use Rattle.sample_bits.proofs.writing.push_singles.Goals as goal

pub push-pending-requires-clause-room : goal.push-pending-requires-clause-room
push-pending-requires-clause-room g c =
    let m = c.args.m in
    let i : ℕ = c.loop-r.r - c.args.first in
    let more = mul-le (2 * m) (i + 1) (2 * m) (length c.args.samples.now - c.args.first) (omega arith) (omega arith) in
    omega (arith, c.loop-r.invariant.place)

pub loop-r-preserved : goal.loop-r-preserved
loop-r-preserved g c =
    let m = c.args.m in
    let i : ℕ = c.loop-r.r - c.args.first in
    let samples = c.args.samples.now in
    let known = c.loop-r.invariant in
    let here : c.loop-r.r ≡ c.args.first + i = omega arith in
    let next : c.loop-r.r + 1 - c.args.first ≡ i + 1 = omega arith in
    let scaled = ap (λ n. 2 * m * n) next in
    record {
      place = omega (arith, known.place);
      filled = λ bits start items.
          c.push-pending.ensures.filled bits (known.filled bits start (λ i b h small. items i b (omega arith) small))
          (λ j h.
          c.word.ensures.bits j h
          ∙ sym (bit_of_item-at g.T.SampleWord.sample samples c.loop-r.r j c.index-samples-r.result (omega arith) c.index-samples-r.is)
          ∙ ap (λ r. bit_of_item g.T.SampleWord.sample samples r j) here
          ∙ items i j (omega arith) h ∙ ap bits (omega (arith, known.place)));
      after = λ k h. c.push-pending.ensures.after k h ∙ known.after k (omega arith);
    }

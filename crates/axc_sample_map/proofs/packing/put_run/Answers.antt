use Rattle.std.proofs.Common.{◌≡◌, ℕ, ◌+◌, ◌-◌, ◌*◌, ◌/◌, ◌%◌, ◌∙◌, length, ap, sym, arith, ⊎_elim}
use Rattle.std.proofs.lemmas.Bool.{cases_lt}
use Rattle.std.proofs.lemmas.Nat.{mul-le, le-div}
use Rattle.link_base.specs.Bits.{bit_of}
use Rattle.sample_bits.specs.Blocks.{bit_of_item}
use Rattle.sample_bits.proofs.BitLemmas.{bit_at-shr}
use Rattle.sample_bits.proofs.BlockLemmas.{bit_of_item-at, bit_of_item-past}
use Rattle.axc_sample_map.proofs.Places.{bit_in_run-at}
use Rattle.axc_sample_map.proofs.packing.put_run.Goals as goal
use Rattle.axc_sample_map.proofs.packing.put_run.Goals.{else-loop-r-test, then-loop-r-test+then-next-end}

pub loop-r-preserved : goal.loop-r-preserved
loop-r-preserved g c =
    let w : ℕ = 2 * c.args.m in
    let r = c.loop-r.r in
    let next = c.loop-r.next in
    let skipped = c.loop-r.skipped in
    let done = c.loop-r.invariant in
    let bits = bit_of_item g.T.SampleWord.sample c.args.samples.now in
    let new = c.put_bits.new.octets in
    let next_sample : w * (r + 1) ≡ w * r + w = omega arith in
    let place = done.place (omega arith) in
    record {
      begun = omega arith;
      within = omega arith;
      part = omega arith;
      place = λ h. omega arith;
      put = λ x h. ⊎_elim
          (λ early. c.put_bits.ensures.before (c.args.at + x) early ∙ done.put x early)
          (λ late.
          let j : ℕ = c.args.at + x - next in
          let e : c.args.at + x ≡ next + j = omega arith in
          let there : c.args.from + x ≡ w * r + (skipped + j) = omega arith in
          ap (bit_of new) e ∙ c.put_bits.ensures.put j (omega arith) ∙ bit_at-shr c.word.result skipped j
          ∙ c.word.ensures.bits (skipped + j) (omega arith)
          ∙ sym (bit_of_item-at g.T.SampleWord.sample c.args.samples.now r (skipped + j) c.index-samples-r.result (omega arith) c.index-samples-r.is)
          ∙ sym (bit_in_run-at w bits r (skipped + j) (c.args.from + x) (omega arith) there))
          (cases_lt (c.args.at + x) next);
      before = λ x h. c.put_bits.ensures.before x (omega arith) ∙ done.before x h;
      after = λ x h. c.put_bits.ensures.after x h ∙ done.after x h;
    }

pub returns-clause-put : goal.returns-clause-put
returns-clause-put g c x h =
    let w : ℕ = 2 * c.args.m in
    let r = c.loop-r.r in
    let next = c.loop-r.next in
    let done = c.loop-r.invariant in
    let bits = bit_of_item g.T.SampleWord.sample c.args.samples.now in
    ⊎_elim
    (λ early. c.clear_bits.ensures.before (c.args.at + x) early ∙ done.put x early)
    (λ late. elim c.loop-r-test.branch [
      | else-loop-r-test t ↦
          let place = done.place (omega arith) in
          let samples = length c.args.samples.now in
          let product = mul-le w samples w r (omega arith) t.loop-r-test.false in
          c.clear_bits.ensures.cleared (c.args.at + x) late (omega arith)
          ∙ sym (bit_of_item-past g.T.SampleWord.sample c.args.samples.now ((c.args.from + x) / w) ((c.args.from + x) % w) (le-div samples (c.args.from + x) w (omega arith) (omega arith)))
      | then-loop-r-test+then-next-end t ↦ absurd (omega arith)
    ])
    (cases_lt (c.args.at + x) next)

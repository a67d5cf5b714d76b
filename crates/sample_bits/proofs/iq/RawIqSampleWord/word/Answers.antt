use Rattle.std.proofs.Common.{◌≡◌, ℕ, ◌<◌, ◌∙◌, ap, rules, w32, FitsSigned}
use Rattle.std.specs.Int.{bit_at}
use Rattle.std.proofs.lemmas.Int.{to_z-of_z}
use Rattle.sample_bits.specs.Samples.{int_bit}
use Rattle.sample_bits.proofs.SampleLemmas.{woven-sample, woven-lt}
use Rattle.sample_bits.proofs.iq.RawIqSampleWord.word.Goals as goal

pub returns-clause-bits : goal.returns-clause-bits
returns-clause-bits c k h =
    let s = c.args.self.now in
    let i_fits : FitsSigned w32 s.i = search rules in
    let q_fits : FitsSigned w32 s.q = search rules in
    let is : (j : ℕ) → j < c.args.m → bit_at c.low_bits.result j ≡ int_bit s.i j =
    λ j within. c.low_bits.ensures.bits j within ∙ ap (λ v. int_bit v j) (to_z-of_z w32 s.i i_fits) in
    let qs : (j : ℕ) → j < c.args.m → bit_at c.low_bits-2.result j ≡ int_bit s.q j =
    λ j within. c.low_bits-2.ensures.bits j within ∙ ap (λ v. int_bit v j) (to_z-of_z w32 s.q q_fits) in
    woven-sample c.args.m s c.weave.result c.low_bits.result c.low_bits-2.result c.weave.ensures.at_even c.weave.ensures.at_odd is qs k h

pub returns-clause-no_others : goal.returns-clause-no_others
returns-clause-no_others c =
    woven-lt c.args.m c.weave.result c.low_bits.result c.low_bits-2.result c.weave.ensures.at_even c.weave.ensures.at_odd c.low_bits.ensures.no_others c.low_bits-2.ensures.no_others

-- What a good plan says of a carrier of it.
use Rattle.std.proofs.Common.{◌≡◌, ℕ, ◌*◌, ◌/◌, ◌<◌, ◌≤◌, length, slice_get, slice_index, Some, ap, ◌∙◌, arith}
use Rattle.std.specs.List.{AllPairs}
use Rattle.std.proofs.lemmas.Option.{slice_get_within}
use Rattle.sample_bits.specs.SampleRate.{IsSampleRate, IsSampleWidth}
use Rattle.sample_bits.proofs.RateLemmas.{some_frames}
use Rattle.carrier_plan.specs.declared.plan.Carrier.{Carrier}
use Rattle.carrier_plan.specs.declared.plan.Plan.{Plan}
use Rattle.plan_checker.specs.Container.{HasPrescribedSize, HasSeparateBits, LiesWithin, SharesNoBit, container_size}
use Rattle.plan_checker.specs.Rules.{IsGood}
use Rattle.plan_checker.specs.Rules.Rule.{ContainerEnd, ContainerSize, SampleRate, SampleWidth, SeparateBits}
use Rattle.plan_checker.specs.Run.{block_lengths, block_samples, samples_before}
use Rattle.plan_checker.specs.SampleRate.{HasSampleRate, HasSampleWidth}
use Rattle.plan_checker.specs.WordSize.{iq_bits}
use Rattle.plan_checker.proofs.Places.{at_place, number_at}
use Rattle.link_sender_blocks.proofs.Sent.{frame_within, inside}
use Rattle.link_sender_blocks.specs.Containers.{mapping_of, place_of_bit}

pub record IsGoodCarrier (p : Plan) (c : ℕ) (carrier : Carrier) : Type 0 where
  pub inside : c < length p.carriers
  pub rate : IsSampleRate carrier.s carrier.k
  pub width : IsSampleWidth carrier.m
  pub size : HasPrescribedSize carrier
  pub within : LiesWithin (iq_bits p.option) carrier
  pub apart : AllPairs SharesNoBit carrier.pieces
  pub some_frames : 1 ≤ carrier.k
  pub samples : slice_index (block_samples p) c ≡ carrier.s
  pub lengths : slice_index (block_lengths p) c ≡ carrier.k

pub good_carrier : (p : Plan) (c : ℕ) (carrier : Carrier) → IsGood p → slice_get p.carriers c ≡ Some carrier → IsGoodCarrier p c carrier
good_carrier p c carrier good read =
    let lt = slice_get_within p.carriers c carrier read in
    let rate = at_place HasSampleRate p.carriers c carrier read (good SampleRate c lt) in
    record {
      inside = lt;
      rate = rate;
      width = at_place HasSampleWidth p.carriers c carrier read (good SampleWidth c lt);
      size = at_place HasPrescribedSize p.carriers c carrier read (good ContainerSize c lt);
      within = at_place (LiesWithin (iq_bits p.option)) p.carriers c carrier read (good ContainerEnd c lt);
      apart = (at_place (HasSeparateBits p.carriers c) p.carriers c carrier read (good SeparateBits c lt)).own;
      some_frames = some_frames carrier.s carrier.k rate;
      samples = number_at (λ (x : Carrier). x.s) p.carriers c carrier read;
      lengths = number_at (λ (x : Carrier). x.k) p.carriers c carrier read;
    }

pub samples_before-carrier : (p : Plan) (c : ℕ) (carrier : Carrier) (n : ℕ) → IsGoodCarrier p c carrier → samples_before p c n ≡ n * carrier.s / carrier.k
samples_before-carrier p c carrier n is =
    ap (λ s. n * s / slice_index (block_lengths p) c) is.samples ∙ ap (λ k. n * carrier.s / k) is.lengths

-- ---- the places of bits

module _ (p : Plan) (c : ℕ) (carrier : Carrier) (is : IsGoodCarrier p c carrier) (r b : ℕ) (low : r < carrier.s) (small : b < 2 * carrier.m) where
  pub phase_within : (place_of_bit (mapping_of carrier) r b).phase < carrier.k
  phase_within = frame_within (mapping_of carrier) r b is.width is.rate low small

  pub bit_within : (place_of_bit (mapping_of carrier) r b).bit < container_size carrier
  bit_within =
      let lt = inside (mapping_of carrier) r b is.width is.rate low small in
      omega (arith, lt, is.size.prescribed)

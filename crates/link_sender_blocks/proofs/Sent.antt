-- The container of a frame in the pieces in which it is sent.
use Rattle.std.proofs.Common.{◌≡◌, ℕ, ◌+◌, ◌*◌, ◌<◌, List, [], ◌∷◌, length, get_or, sym, ap, ◌∙◌, arith}
use Rattle.carrier_plan.specs.declared.plan.Method.{Method}
use Rattle.carrier_plan.specs.declared.plan.Method.TheVariants.{Sample, Compatible}
use Rattle.carrier_plan.specs.declared.plan.Piece.{Piece}
use Rattle.link_base.specs.Bits.{bit_of}
use Rattle.plan_checker.specs.Container.{pieces_size, size_by}
use Rattle.plan_checker.specs.Place.{iq_bit, place_in_block}
use Rattle.sample_bits.specs.Blocks.{PutsContainer, bit_of_sample}
use Rattle.sample_bits.specs.SampleRate.{IsSampleRate, IsSampleWidth}
use Rattle.sample_bits.specs.declared.iq.RawIq.{RawIq}
use Rattle.axc_sample_map.proofs.Places as sample_map
use Rattle.axc_compatible_map.proofs.Places as compatible_map
use Rattle.link_sender_blocks.specs.declared.mapping.Mapping.{Mapping}
use Rattle.link_sender_blocks.specs.Containers.{PutsPieces, SendsContainer, container_bits, place_of_bit}
use Rattle.link_sender_blocks.proofs.Pieces.{beside, iq_bit-piece}
use Rattle.link_sender_blocks.proofs.Pieces.IsBeside.{is_before, is_behind, is_inside}

within_by : (method : Method) (m s k r b : ℕ) → IsSampleWidth m → IsSampleRate s k → r < s → b < 2 * m
    → ((place_in_block method m s k r b).phase < k) × ((place_in_block method m s k r b).bit < size_by method m s k)
within_by Sample m s k r b = sample_map.PlacesAreWithin-holds m s k r b
within_by Compatible m s k r b = compatible_map.PlacesAreWithin-holds m s k r b

-- a bit of a sample stands in one of the frames of its block, within the container
pub frame_within : (w : Mapping) (r b : ℕ) → IsSampleWidth w.m → IsSampleRate w.s w.k → r < w.s → b < 2 * w.m → (place_of_bit w r b).phase < w.k
frame_within w r b width rate low small = (within_by w.method w.m w.s w.k r b width rate low small).0

pub inside : (w : Mapping) (r b : ℕ) → IsSampleWidth w.m → IsSampleRate w.s w.k → r < w.s → b < 2 * w.m → (place_of_bit w r b).bit < container_bits w
inside w r b width rate low small = (within_by w.method w.m w.s w.k r b width rate low small).1

module _ (w : Mapping) (phase : ℕ) (block : List RawIq) (width : IsSampleWidth w.m) (rate : IsSampleRate w.s w.k) (old new : List ℕ) where
  -- a container that is put where its one piece is
  pub sent_in_place : (pieces : List Piece) (d : Piece) → length pieces ≡ 1 → pieces_size pieces ≡ container_bits w
      → PutsContainer w.m w.s (container_bits w) (place_of_bit w) phase (bit_of_sample block) old new (get_or pieces 0 d).start
      → SendsContainer w phase block pieces old new
  sent_in_place [] d one size puts = absurd (omega arith)
  sent_in_place (p ∷ []) d one size puts =
      let at : ℕ = p.start in
      let there : (x : ℕ) → x < container_bits w → iq_bit (p ∷ []) x ≡ at + x =
      λ x lt. (let zero : 0 + x ≡ x = omega arith in
      let bit = iq_bit-piece (p ∷ []) 0 x d (omega arith) (omega arith) in
      ap (iq_bit (p ∷ [])) (sym zero) ∙ bit) in
      record {
        same_length = puts.same_length;
        samples = λ r b low small here. ap (bit_of new) (there (place_of_bit w r b).bit (inside w r b width rate low small)) ∙ puts.samples r b low small here;
        stuffing = λ x lt none. ap (bit_of new) (there x lt) ∙ puts.stuffing x lt none;
        others = λ k out. elim (beside at (container_bits w) k) [
          | is_before lt ↦ puts.before k lt
          | is_behind le ↦ puts.after k le
          | is_inside j small is ↦ absurd (out j (omega arith) (is ∙ sym (there j small)))
        ];
      }
  sent_in_place (p ∷ q ∷ ps) d one size puts = absurd (omega arith)

  -- a container that is put together and then cut into its pieces
  pub sent_in_pieces : (pieces : List Piece) (before container : List ℕ) → pieces_size pieces ≡ container_bits w
      → PutsContainer w.m w.s (container_bits w) (place_of_bit w) phase (bit_of_sample block) before container 0
      → PutsPieces container pieces old new
      → SendsContainer w phase block pieces old new
  sent_in_pieces pieces before container size puts cut =
      let zero : (x : ℕ) → x ≡ 0 + x = λ x. omega arith in
      record {
        same_length = cut.same_length;
        samples = λ r b low small here.
            let x = (place_of_bit w r b).bit in
            let lt = inside w r b width rate low small in
            cut.copied x (omega arith) ∙ ap (bit_of container) (zero x) ∙ puts.samples r b low small here;
        stuffing = λ x lt none. cut.copied x (omega arith) ∙ ap (bit_of container) (zero x) ∙ puts.stuffing x lt none;
        others = cut.others;
      }

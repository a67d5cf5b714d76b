-- The containers of the carriers, one carrier after another.
use Rattle.std.proofs.Common.{◌≡◌, ℕ, ◌+◌, ◌<◌, List, get_or, slice_get, Some, sym, ap, ◌∙◌, subst, arith, ⊎_elim}
use Rattle.std.specs.List.{HoldsAt}
use Rattle.std.proofs.lemmas.Bool.{cases_lt}
use Rattle.carrier_plan.specs.declared.plan.Carrier.{Carrier}
use Rattle.carrier_plan.specs.declared.plan.Piece.{Piece}
use Rattle.carrier_plan.specs.declared.plan.Plan.{Plan}
use Rattle.link_base.specs.Bits.{bit_of}
use Rattle.link_sender_blocks.specs.Containers.{IsOutside, SendsContainer, mapping_of, place_of_bit}
use Rattle.link_sender_blocks.specs.InHand.{SamplesView}
use Rattle.plan_checker.specs.Container.{HoldsBit, container_size}
use Rattle.plan_checker.specs.Place.{iq_bit}
use Rattle.plan_checker.specs.Rules.{IsGood}
use Rattle.plan_checker.proofs.IqBits.{in_pieces}
use Rattle.plan_checker.proofs.Places.{holds_at}
use Rattle.plan_checker.proofs.Separate.{EachBitHasOneCarrier-holds}
use Rattle.link_sender.specs.Containers.{CarriesContainer, IsFree}
use Rattle.link_sender.proofs.GoodCarriers.{bit_within, good_carrier}

module _ (p : Plan) (good : IsGood p) (i : ℕ) (carrier : Carrier) (read : slice_get p.carriers i ≡ Some carrier) where
  -- the bits of another carrier's container are outside of the pieces of this one
  outside : (j : ℕ) (other : Carrier) → slice_get p.carriers j ≡ Some other → j < i → (x : ℕ) → x < container_size other → IsOutside carrier.pieces (iq_bit other.pieces x)
  outside j other there less x small b low e =
      let here : HoldsBit carrier (iq_bit other.pieces x) = subst (λ y. HoldsBit carrier y) (sym e) (in_pieces carrier.pieces b low) in
      let mine = good_carrier p i carrier good read in
      let its = good_carrier p j other good there in
      let same : j ≡ i =
      EachBitHasOneCarrier-holds p (iq_bit other.pieces x) j i good its.inside mine.inside
      (holds_at (λ c. HoldsBit c (iq_bit other.pieces x)) p.carriers j other there (in_pieces other.pieces x small))
      (holds_at (λ c. HoldsBit c (iq_bit other.pieces x)) p.carriers i carrier read here) in
      omega arith

  module _ (h : SamplesView) (old new : List ℕ) (sends : SendsContainer (mapping_of carrier) h.phase h.sent carrier.pieces old new) where
    pub carries : CarriesContainer carrier new h
    carries = record { samples = sends.samples; stuffing = sends.stuffing }

    pub stays : (j : ℕ) (other : Carrier) (g : SamplesView) → slice_get p.carriers j ≡ Some other → j < i → CarriesContainer other old g → CarriesContainer other new g
    stays j other g there less before =
        let its = good_carrier p j other good there in
        record {
          samples = λ r b low small here.
              let x = (place_of_bit (mapping_of other) r b).bit in
              sends.others (iq_bit other.pieces x) (outside j other there less x (bit_within p j other its r b low small)) ∙ before.samples r b low small here;
          stuffing = λ x small none.
              sends.others (iq_bit other.pieces x) (outside j other there less x (omega (arith, its.size.prescribed))) ∙ before.stuffing x small none;
        }

    pub free_stays : (x : ℕ) → IsFree p x → bit_of new x ≡ bit_of old x
    free_stays x free = sends.others x (λ b low e. free i carrier read (subst (λ y. HoldsBit carrier y) (sym e) (in_pieces carrier.pieces b low)))

-- One carrier more.
module _ (p : Plan) (good : IsGood p) (hands : List SamplesView) (i : ℕ) (carrier : Carrier) (pieces : List Piece) (h : SamplesView) (old new : List ℕ)
    (read : slice_get p.carriers i ≡ Some carrier) (same_pieces : pieces ≡ carrier.pieces) (mapping : h.mapping ≡ mapping_of carrier) (is : (d : SamplesView) → get_or hands i d ≡ h)
    (sends : SendsContainer h.mapping h.phase h.sent pieces old new) where
  sends_carrier : SendsContainer (mapping_of carrier) h.phase h.sent carrier.pieces old new
  sends_carrier =
      subst (λ (ps : List Piece). SendsContainer (mapping_of carrier) h.phase h.sent ps old new) same_pieces
      (subst (λ w. SendsContainer w h.phase h.sent pieces old new) mapping sends)

  pub containers_more : ((j : ℕ) (other : Carrier) → j < i → slice_get p.carriers j ≡ Some other → HoldsAt (CarriesContainer other old) hands j)
      → (j : ℕ) (other : Carrier) → j < i + 1 → slice_get p.carriers j ≡ Some other → HoldsAt (CarriesContainer other new) hands j
  containers_more before j other less there d =
      ⊎_elim
      (λ earlier. stays p good i carrier read h old new sends_carrier j other (get_or hands j d) there earlier (before j other earlier there d))
      (λ here.
      let same : i ≡ j = omega arith in
      let one : Some carrier ≡ Some other = sym read ∙ ap (slice_get p.carriers) same ∙ there in
      let carrier_is : carrier ≡ other = cc in
      let hand : h ≡ get_or hands j d = sym (is d) ∙ ap (λ k. get_or hands k d) same in
      subst (λ (c : Carrier). CarriesContainer c new (get_or hands j d)) carrier_is
      (subst (λ (g : SamplesView). CarriesContainer carrier new g) hand (carries p good i carrier read h old new sends_carrier)))
      (cases_lt j i)

  pub free_more : (first : List ℕ) → ((x : ℕ) → IsFree p x → bit_of old x ≡ bit_of first x) → (x : ℕ) → IsFree p x → bit_of new x ≡ bit_of first x
  free_more first before x free = free_stays p good i carrier read h old new sends_carrier x free ∙ before x free

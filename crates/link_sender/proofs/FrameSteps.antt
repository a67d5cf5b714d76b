-- The frame that is made of the samples in hand is that of the stream.
use Rattle.std.proofs.Common.{◌≡◌, ◌==◌, ◌&&◌, ℕ, zero, suc, ◌+◌, ◌-◌, ◌*◌, ◌/◌, ◌%◌, ◌<◌, ◌≤◌, Bool, true, false, cond, List, length, get_or, take, slice_get, Some, eqb, sym, refl, ap, ◌∙◌, subst, arith, inl, inr}
use Rattle.std.specs.Int.{bit_at}
use Rattle.std.specs.List.{HoldsAt}
use Rattle.std.specs.Option.{option_map_or}
use Rattle.std.proofs.lemmas.Bool.{and_from, and_parts, cases_lt, eq-eqb, eqb-true, false≢true, le-ltb, lt-ltb}
use Rattle.std.proofs.lemmas.Nat.{div-add-mod', div-mul-add, le-div, mod-mul-add, mod_below, mul-le}
use Rattle.std.proofs.lemmas.Nat.Bits.{bit_at-zero}
use Rattle.std.proofs.lemmas.Option.{slice_get-get_or, slice_get_within}
use Rattle.carrier_plan.specs.declared.plan.Carrier.{Carrier}
use Rattle.carrier_plan.specs.declared.plan.Piece.{Piece}
use Rattle.carrier_plan.specs.declared.plan.Plan.{Plan}
use Rattle.link_base.specs.Bits.{bit_of}
use Rattle.link_sender_blocks.specs.Containers.{mapping_of, place_of_bit}
use Rattle.link_sender_blocks.specs.InHand.{SamplesView}
use Rattle.link_sender_blocks.proofs.Pieces.{iq_bit-piece, pieces_size-within}
use Rattle.plan_checker.specs.Container.{HoldsBit, container_size, pieces_size}
use Rattle.plan_checker.specs.Place.{iq_bit}
use Rattle.plan_checker.specs.Rules.{IsGood}
use Rattle.sample_bits.specs.Blocks.{IsStuffed, bit_of_sample}
use Rattle.sample_bits.specs.Samples.{sample_bit}
use Rattle.sample_bits.specs.declared.iq.RawIq.{RawIq}
use Rattle.link_sender.specs.Containers.{IsFree, SendsContainers}
use Rattle.link_sender.specs.Frames.{CarriesOne}
use Rattle.link_sender.specs.Senders.{KeepsSamples, StandsForSamples, sent_sample, zero_sample}
use Rattle.link_sender.specs.Stream.{Stream, sample_at}
use Rattle.link_sender.proofs.GoodCarriers.{IsGoodCarrier, good_carrier, phase_within}
use Rattle.link_sender.proofs.Items.{item, item_at}
use Rattle.link_sender.proofs.Search.{search_below}
use Rattle.link_sender.proofs.Search.Searched.{found, none}

-- ---- bits in containers

-- an IQ bit of a container is one of its bits
pub record IsContainerBit (carrier : Carrier) (x : ℕ) : Type 0 where
  pub bit : ℕ
  pub low : bit < container_size carrier
  pub is : iq_bit carrier.pieces bit ≡ x

bit_in : (carrier : Carrier) (x : ℕ) → HoldsBit carrier x → IsContainerBit carrier x
bit_in carrier x (k, piece, inside, read, (from, to)) =
    let pieces = carrier.pieces in
    let before = pieces_size (take k pieces) in
    let here = get_or pieces k piece in
    let j : ℕ = x - piece.start in
    let start : here.start ≡ piece.start = ap (λ (q : Piece). q.start) read in
    let size : here.size ≡ piece.size = ap (λ (q : Piece). q.size) read in
    let within = pieces_size-within pieces k piece inside in
    record { bit = before + j; low = omega arith; is = iq_bit-piece pieces k j piece inside (omega arith) ∙ omega arith }

-- where an IQ bit stands: in the container of a carrier, or in none
data IsPlaced (p : Plan) (x : ℕ) : Type 0 where
  placed : (c : ℕ) (carrier : Carrier) → slice_get p.carriers c ≡ Some carrier → IsContainerBit carrier x → IsPlaced p x
  free : IsFree p x → IsPlaced p x

abbrev in_container : Carrier → ℕ → ℕ → Bool
in_container carrier x b = eqb (iq_bit carrier.pieces b) x

-- the carriers from number c on
place_from : (p : Plan) (x n : ℕ) → n ≤ length p.carriers → ((c : ℕ) (carrier : Carrier) → n ≤ c → slice_get p.carriers c ≡ Some carrier → ¬ HoldsBit carrier x) → IsPlaced p x
place_from p x zero within later = free (λ c carrier read. later c carrier (omega arith) read)
place_from p x (suc n) within later =
    let carrier = item p.carriers n (omega arith) in
    let there = item_at p.carriers n (omega arith) in
    elim (search_below (container_size carrier) (in_container carrier x)) [
      | found b low passes ↦ placed n carrier there (record { bit = b; low = low; is = eqb-true (iq_bit carrier.pieces b) x passes })
      | none fails ↦ place_from p x n (omega arith) (λ c other more read holds. elim (cases_lt n c) [
        | inl past ↦ later c other (omega arith) read holds
        | inr here ↦
            let same : c ≡ n = omega arith in
            let one : Some carrier ≡ Some other = sym there ∙ ap (slice_get p.carriers) (sym same) ∙ read in
            let is : carrier ≡ other = cc in
            let bit = bit_in carrier x (subst (λ (y : Carrier). HoldsBit y x) (sym is) holds) in
            false≢true (sym (fails bit.bit bit.low) ∙ eq-eqb (iq_bit carrier.pieces bit.bit) x bit.is)
      ])
    ]

place : (p : Plan) (x : ℕ) → IsPlaced p x
place p x = place_from p x (length p.carriers) (omega arith) (λ c carrier past read. absurd (let inside = slice_get_within p.carriers c carrier read in omega arith))

-- ---- bits of samples

-- a bit of a container in this frame of the block belongs to a sample, or is stuffing
data IsFilled (carrier : Carrier) (phase x : ℕ) : Type 0 where
  of_sample : (r b : ℕ) → r < carrier.s → b < 2 * carrier.m → (place_of_bit (mapping_of carrier) r b).phase ≡ phase → (place_of_bit (mapping_of carrier) r b).bit ≡ x → IsFilled carrier phase x
  stuffed : IsStuffed carrier.m carrier.s (place_of_bit (mapping_of carrier)) phase x → IsFilled carrier phase x

abbrev at_bit : Carrier → (phase x r b : ℕ) → Bool
at_bit carrier phase x r b = eqb (place_of_bit (mapping_of carrier) r b).phase phase && eqb (place_of_bit (mapping_of carrier) r b).bit x

fill_from : (carrier : Carrier) (phase x n : ℕ) → n ≤ carrier.s
    → ((r b : ℕ) → n ≤ r → r < carrier.s → b < 2 * carrier.m → (place_of_bit (mapping_of carrier) r b).phase ≡ phase → ¬ ((place_of_bit (mapping_of carrier) r b).bit ≡ x)) → IsFilled carrier phase x
fill_from carrier phase x zero within later = stuffed (λ r b low small. later r b (omega arith) low small)
fill_from carrier phase x (suc n) within later =
    elim (search_below (2 * carrier.m) (at_bit carrier phase x n)) [
      | found b small passes ↦
          let w = place_of_bit (mapping_of carrier) n b in
          let parts = and_parts (eqb w.phase phase) (eqb w.bit x) passes in
          of_sample n b (omega arith) small (eqb-true w.phase phase parts.0) (eqb-true w.bit x parts.1)
      | none fails ↦ fill_from carrier phase x n (omega arith) (λ r b more low small here there. elim (cases_lt n r) [
        | inl past ↦ later r b (omega arith) low small here there
        | inr last ↦
            let w = place_of_bit (mapping_of carrier) n b in
            let same : r ≡ n = omega arith in
            let phase_is : w.phase ≡ phase = ap (λ k. (place_of_bit (mapping_of carrier) k b).phase) (sym same) ∙ here in
            let bit_is : w.bit ≡ x = ap (λ k. (place_of_bit (mapping_of carrier) k b).bit) (sym same) ∙ there in
            false≢true (sym (fails b small) ∙ and_from (eqb w.phase phase) (eqb w.bit x) (eq-eqb w.phase phase phase_is) (eq-eqb w.bit x bit_is))
      ])
    ]

fill : (carrier : Carrier) (phase x : ℕ) → IsFilled carrier phase x
fill carrier phase x = fill_from carrier phase x carrier.s (omega arith) (λ r b past low. absurd (omega arith))

-- a bit of a sample of a block
sample_in : (block : List RawIq) (r b : ℕ) (v d : RawIq) → r < length block → get_or block r d ≡ v → bit_of_sample block r b ≡ sample_bit v b
sample_in block r b v d low is =
    ap (λ o. option_map_or (λ s. sample_bit s b) o 0) (slice_get-get_or block r d low ∙ ap Some is)

same_either : (c : Bool) (n : ℕ) → cond c n n ≡ n
same_either true n = refl
same_either false n = refl

zero_bit : (b : ℕ) → sample_bit zero_sample b ≡ 0
zero_bit b = same_either (b % 2 == 0) (bit_at 0 (b / 2)) ∙ bit_at-zero (b / 2)

zero_not_one : (n : ℕ) → n ≡ 0 → n ≡ 1 → ⊥
zero_not_one n is other = omega arith

-- the sample that stands there
found_by : (p : Plan) (σ : Stream) (t x c : ℕ) (carrier : Carrier) → slice_get p.carriers c ≡ Some carrier → IsGoodCarrier p c carrier → (r b : ℕ) → r < carrier.s → b < 2 * carrier.m
    → (place_of_bit (mapping_of carrier) r b).phase ≡ t % carrier.k → iq_bit carrier.pieces (place_of_bit (mapping_of carrier) r b).bit ≡ x
    → carrier.k ≤ t → sample_bit (sample_at σ c ((t / carrier.k - 1) * carrier.s + r)) b ≡ 1 → CarriesOne p σ t x
found_by p σ t x c carrier read is r b low small phase bit late one =
    let s = carrier.s in
    let k = carrier.k in
    let q : ℕ = t / k - 1 in
    let j : ℕ = q * s + r in
    let split = div-add-mod' t k in
    let some : 1 ≤ t / k = le-div 1 t k is.some_frames (omega arith) in
    let block : j / s ≡ q = div-mul-add q s r low in
    let place : j % s ≡ r = mod-mul-add q s r low in
    let product : (q + 1) * k ≡ t / k * k = ap (λ n. n * k) (let e : q + 1 ≡ t / k = omega arith in e) in
    record {
      carrier = c;
      number = j;
      place = b;
      stands = record {
        carrier = carrier;
        at = read;
        within = small;
        frame = ap (λ n. (n + 1) * k + (place_of_bit (mapping_of carrier) (j % s) b).phase) block ∙ ap (λ n. (q + 1) * k + (place_of_bit (mapping_of carrier) n b).phase) place ∙ omega (arith, phase, product, split);
        bit = ap (λ n. iq_bit carrier.pieces (place_of_bit (mapping_of carrier) n b).bit) place ∙ bit;
      };
      one = one;
    }

-- ---- the frame of tick t

module _ (p : Plan) (σ : Stream) (t : ℕ) (good : IsGood p) (hands : List SamplesView) (handed : ℕ → ℕ)
    (keeps : (c : ℕ) (carrier : Carrier) → slice_get p.carriers c ≡ Some carrier → HoldsAt (KeepsSamples t (handed c) carrier) hands c)
    (stands : (c : ℕ) (carrier : Carrier) → slice_get p.carriers c ≡ Some carrier → HoldsAt (StandsForSamples σ t c carrier) hands c)
    (old new : List ℕ) (sends : SendsContainers p hands old new) (clear : (x : ℕ) → IsFree p x → bit_of old x ≡ 0) (d : SamplesView) where
  -- the sample that a place of the block in hand has
  block_bit : (c : ℕ) (carrier : Carrier) (read : slice_get p.carriers c ≡ Some carrier) (r b : ℕ) → r < carrier.s → bit_of_sample (get_or hands c d).sent r b ≡ sample_bit (sent_sample σ c carrier t r) b
  block_bit c carrier read r b low =
      let keep = keeps c carrier read d in
      sample_in (get_or hands c d).sent r b (sent_sample σ c carrier t r) zero_sample (omega (arith, keep.sent)) ((stands c carrier read d).sent r low zero_sample)

  found_one : (x c : ℕ) (carrier : Carrier) → slice_get p.carriers c ≡ Some carrier → IsGoodCarrier p c carrier → (r b : ℕ) → r < carrier.s → b < 2 * carrier.m
      → (place_of_bit (mapping_of carrier) r b).phase ≡ t % carrier.k → iq_bit carrier.pieces (place_of_bit (mapping_of carrier) r b).bit ≡ x
      → sample_bit (sent_sample σ c carrier t r) b ≡ 1 → CarriesOne p σ t x
  found_one x c carrier read is r b low small phase bit one = elim (cases_lt t carrier.k) [
    | inl early ↦
        let none : sent_sample σ c carrier t r ≡ zero_sample = ap (λ v. cond v zero_sample (sample_at σ c ((t / carrier.k - 1) * carrier.s + r))) (lt-ltb t carrier.k early) in
        absurd (zero_not_one (sample_bit (sent_sample σ c carrier t r) b) (ap (λ v. sample_bit v b) none ∙ zero_bit b) one)
    | inr late ↦
        let some : sent_sample σ c carrier t r ≡ sample_at σ c ((t / carrier.k - 1) * carrier.s + r) = ap (λ v. cond v zero_sample (sample_at σ c ((t / carrier.k - 1) * carrier.s + r))) (le-ltb t carrier.k late) in
        found_by p σ t x c carrier read is r b low small phase bit late (ap (λ v. sample_bit v b) (sym some) ∙ one)
  ]

  pub one_is_carried : (x : ℕ) → bit_of new x ≡ 1 → CarriesOne p σ t x
  one_is_carried x one = elim (place p x) [
    | free is_free ↦ absurd (zero_not_one (bit_of new x) (sends.free x is_free ∙ clear x is_free) one)
    | placed c carrier read bit ↦
        let is = good_carrier p c carrier good read in
        let h = get_or hands c d in
        let carries = sends.each c carrier read d in
        let keep = keeps c carrier read d in
        let here : bit_of new (iq_bit carrier.pieces bit.bit) ≡ 1 = ap (bit_of new) bit.is ∙ one in
        elim (fill carrier h.phase bit.bit) [
          | stuffed nothing ↦ absurd (zero_not_one (bit_of new (iq_bit carrier.pieces bit.bit)) (carries.stuffing bit.bit (omega (arith, bit.low, is.size.prescribed)) nothing) here)
          | of_sample r b low small phase place ↦
              let w = place_of_bit (mapping_of carrier) r b in
              let value : sample_bit (sent_sample σ c carrier t r) b ≡ 1 =
              sym (block_bit c carrier read r b low) ∙ sym (carries.samples r b low small phase) ∙ ap (λ k. bit_of new (iq_bit carrier.pieces k)) place ∙ here in
              found_one x c carrier read is r b low small (phase ∙ keep.phase) (ap (iq_bit carrier.pieces) place ∙ bit.is) value
        ]
  ]

  pub carried_is_one : (x : ℕ) → CarriesOne p σ t x → bit_of new x ≡ 1
  carried_is_one x one =
      let c = one.carrier in
      let carrier = one.stands.carrier in
      let j = one.number in
      let b = one.place in
      let s = carrier.s in
      let k = carrier.k in
      let read = one.stands.at in
      let is = good_carrier p c carrier good read in
      let keep = keeps c carrier read d in
      let r : ℕ = j % s in
      let q : ℕ = j / s in
      let w = place_of_bit (mapping_of carrier) r b in
      let low = mod_below j s is.rate.some_samples in
      let phase = phase_within p c carrier is r b low one.stands.within in
      let quotient : t / k ≡ q + 1 = ap (λ n. n / k) (sym one.stands.frame) ∙ div-mul-add (q + 1) k w.phase phase in
      let rest : t % k ≡ w.phase = ap (λ n. n % k) (sym one.stands.frame) ∙ mod-mul-add (q + 1) k w.phase phase in
      let product = mul-le 1 k (q + 1) k (omega arith) (omega arith) in
      let late : k ≤ t = omega (arith, product, one.stands.frame) in
      let whole = div-add-mod' j s in
      let one_less : q + 1 - 1 ≡ q = omega arith in
      let number : (t / k - 1) * s + r ≡ j = ap (λ n. (n - 1) * s + r) quotient ∙ ap (λ n. n * s + r) one_less ∙ whole in
      let sent : sent_sample σ c carrier t r ≡ sample_at σ c j = ap (λ v. cond v zero_sample (sample_at σ c ((t / k - 1) * s + r))) (le-ltb t k late) ∙ ap (sample_at σ c) number in
      sym (ap (bit_of new) one.stands.bit) ∙ (sends.each c carrier read d).samples r b low one.stands.within (sym rest ∙ sym keep.phase) ∙ block_bit c carrier read r b low ∙ ap (λ v. sample_bit v b) sent ∙ one.one

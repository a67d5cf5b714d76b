-- What a carrier needs to play a frame.
use Rattle.std.proofs.Common.{◌≡◌, ℕ, ◌+◌, ◌-◌, ◌*◌, ◌/◌, ◌<◌, ◌≤◌, ◌^◌, min, List, length, get_or, set, All, Some, slice_get, sym, ap, ◌∙◌, subst, arith, inl, inr}
use Rattle.std.proofs.lemmas.Bool.{cases_eq}
use Rattle.std.proofs.lemmas.List.{get_or-set_same, get_or-set_other, length-set}
use Rattle.std.proofs.lemmas.Nat.{div-add-mod', mul-le}
use Rattle.std.proofs.lemmas.Option.{get_or_from_slice_get, same_Some, slice_get-get_or, slice_get_within}
use Rattle.std.proofs.Math.Nat.{min-le_right}
use Rattle.carrier_plan.specs.declared.plan.Carrier.{Carrier}
use Rattle.carrier_plan.specs.declared.plan.Flow.{Flow}
use Rattle.carrier_plan.specs.declared.plan.Piece.{Piece}
use Rattle.carrier_plan.specs.declared.plan.Plan.{Plan}
use Rattle.link_receiver_blocks.specs.Containers.{container_bits}
use Rattle.plan_checker.specs.Container.{pieces_size}
use Rattle.plan_checker.specs.Rules.{IsGood}
use Rattle.plan_checker.specs.Run.{delay_of}
use Rattle.roe_mappers.specs.Parts.{spelled_octets}
use Rattle.link_receiver.specs.Playing.{KeepCarriers, Plays, octets_in_hand}
use Rattle.link_receiver.specs.Sessions.{KeepsCarrier}
use Rattle.link_receiver.specs.declared.carrier_in_hand.CarrierInHand.{CarrierInHand}
use Rattle.link_receiver.specs.declared.flow_in_hand.FlowInHand.{FlowInHand}
use Rattle.link_receiver.proofs.OctetsInHand.{item, item_at}
use Rattle.link_receiver.proofs.Places.{good_carrier, samples_before-carrier}

-- an item within a list is the same whatever stands for one past it
pub get_or-any : {A : Type 0} (xs : List A) (i : ℕ) (d e : A) → i < length xs → get_or xs i d ≡ get_or xs i e
get_or-any xs i d e inside = same_Some (get_or xs i d) (get_or xs i e) (sym (slice_get-get_or xs i d inside) ∙ slice_get-get_or xs i e inside)

pub quotient-le : (a k : ℕ) → 1 ≤ k → a / k ≤ a
quotient-le a k some =
    let split = div-add-mod' a k in
    let product = mul-le (a / k) 1 (a / k) k (omega arith) some in
    omega (arith, split, product)

module _ (p : Plan) (h t c : ℕ) (carrier : Carrier) (kept : CarrierInHand) (good : IsGood p) (read : slice_get p.carriers c ≡ Some carrier) (keeps : KeepsCarrier p h t c carrier kept) where
  pub ready_flow : kept.flow < length p.flows
  ready_flow = slice_get_within p.flows kept.flow keeps.flow keeps.at

  pub ready_route : pieces_size kept.route ≡ container_bits kept.block.mapping
  ready_route = keeps.route.size ∙ (good_carrier p c carrier good read).size.prescribed ∙ sym (ap container_bits keeps.mapping)

  pub ready_within : (n : ℕ) (d : Flow) → n ≡ spelled_octets p.mode p (get_or p.flows kept.flow d) → All (λ (r : Piece). r.start + r.size ≤ 8 * n) kept.route
  ready_within n d is =
      let flow = get_or_from_slice_get p.flows kept.flow keeps.flow d keeps.at in
      subst (λ m. All (λ (r : Piece). r.start + r.size ≤ 8 * m) kept.route) (sym (is ∙ ap (spelled_octets p.mode p) flow)) keeps.route.within

  pub ready_number : h ≤ 2 ^ 40 → kept.number + kept.count < 2 ^ 64
  ready_number few =
      let is = good_carrier p c carrier good read in
      let x = min (t - delay_of p c) h in
      let low = min-le_right (t - delay_of p c) h in
      let count = samples_before-carrier p c carrier x is in
      let less = quotient-le (x * carrier.s) carrier.k is.some_frames in
      let rate = is.rate in
      let many = mul-le x carrier.s (2 ^ 40) 3072 (omega arith) (omega arith) in
      let next = keeps.next in
      omega (arith, next, count, less, many)

-- ---- one carrier after another

module _ (p : Plan) (flows : List FlowInHand) (n h : ℕ) (old now : List CarrierInHand) (c : ℕ) (kept' e : CarrierInHand) (inside : c < length old) (as_many : length now ≡ length old)
    (played : (i : ℕ) (d : CarrierInHand) → i < c → Plays (get_or old i d) (get_or now i d) (octets_in_hand p flows (get_or old i d).flow n) n h)
    (unplayed : (i : ℕ) (d : CarrierInHand) → c ≤ i → get_or now i d ≡ get_or old i d)
    (plays : Plays (get_or now c e) kept' (octets_in_hand p flows (get_or now c e).flow n) n h) where
  pub plays-length : length (set now c kept') ≡ length old
  plays-length = length-set now c kept' ∙ as_many

  pub plays-next : (i : ℕ) (d : CarrierInHand) → i < c + 1 → Plays (get_or old i d) (get_or (set now c kept') i d) (octets_in_hand p flows (get_or old i d).flow n) n h
  plays-next i d low = elim (cases_eq i c) [
    | inl same ↦
        let before : get_or now c e ≡ get_or old i d = unplayed c e (omega arith) ∙ get_or-any old c e d inside ∙ ap (λ k. get_or old k d) (sym same) in
        let after : kept' ≡ get_or (set now c kept') i d = sym (ap (λ k. get_or (set now c kept') k d) same ∙ get_or-set_same now c kept' d (omega (arith, as_many, inside))) in
        subst (λ k. Plays (get_or old i d) k (octets_in_hand p flows (get_or old i d).flow n) n h) after
        (subst (λ (k : CarrierInHand). Plays k kept' (octets_in_hand p flows k.flow n) n h) before plays)
    | inr other ↦
        subst (λ k. Plays (get_or old i d) k (octets_in_hand p flows (get_or old i d).flow n) n h) (sym (get_or-set_other now c i kept' d other)) (played i d (omega arith))
  ]

  pub unplayed-next : (i : ℕ) (d : CarrierInHand) → c + 1 ≤ i → get_or (set now c kept') i d ≡ get_or old i d
  unplayed-next i d high = get_or-set_other now c i kept' d (λ same. absurd (omega arith)) ∙ unplayed i d (omega arith)

-- the carrier at a place is kept, also where others before it have played
pub kept_at : (p : Plan) (h t c : ℕ) (old now : List CarrierInHand) (e : CarrierInHand) (keep : KeepCarriers p h t old) (inside : c < length p.carriers) → get_or now c e ≡ get_or old c e
    → KeepsCarrier p h t c (item p.carriers c inside) (get_or now c e)
kept_at p h t c old now e keep inside same =
    subst (KeepsCarrier p h t c (item p.carriers c inside)) (sym same) (keep.each c (item p.carriers c inside) (item_at p.carriers c inside) e)

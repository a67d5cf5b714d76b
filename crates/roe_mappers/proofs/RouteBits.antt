-- Where the container of a carrier stands in a part.
use Rattle.std.proofs.Common.{◌≡◌, ℕ, ◌+◌, ◌-◌, ◌*◌, ◌<◌, ◌≤◌, ◌==◌, Bool, true, false, not, eqb, zero, suc, List, [], ◌∷◌, length, map, take, get_or, slice_index, All, Contains, Some, slice_get, refl, sym, ap, subst, ◌∙◌, inl, inr, arith}
use Rattle.std.specs.List.{HoldsAt, before_first, flat_map, position_or_len}
use Rattle.std.proofs.lemmas.Bool.{cases_lt, eq-eqb, eqb-true, false≢true, le-ltb, lt-ltb}
use Rattle.std.proofs.lemmas.List.{get_or-map, get_or_default, length-map}
use Rattle.std.proofs.lemmas.List.Concat.{get_or-flat_map}
use Rattle.std.proofs.lemmas.List.Sums.{prefix_len_passes, prefix_len_stops, sum_by_more_le}
use Rattle.carrier_plan.specs.declared.plan.Carrier.{Carrier}
use Rattle.carrier_plan.specs.declared.plan.Flow.{Flow}
use Rattle.carrier_plan.specs.declared.plan.Mode.{Mode}
use Rattle.carrier_plan.specs.declared.plan.Mode.TheVariants.{Aware}
use Rattle.carrier_plan.specs.declared.plan.Piece.{Piece}
use Rattle.carrier_plan.specs.declared.plan.Plan.{Plan}
use Rattle.plan_checker.specs.Container.{HasPrescribedSize, container_size, pieces_size}
use Rattle.plan_checker.specs.Flows.{bits_of_carriers, container_sizes, control_octets, octets_of_frame}
use Rattle.plan_checker.specs.Place.{iq_bit}
use Rattle.plan_checker.specs.Rules.{IsGood}
use Rattle.plan_checker.specs.Rules.Rule.{ContainerSize}
use Rattle.plan_checker.specs.WordSize.{word_size}
use Rattle.plan_checker.proofs.Places.{at_place, holds_at, number_at}
use Rattle.roe_mappers.specs.CarriedBits.{bits_of_carrier, carried_bits}
use Rattle.roe_mappers.specs.Parts.{first_place, place_by, place_in_part, spelled_octets}
use Rattle.roe_mappers.specs.Routes.{IsRoute, moved_by}
use Rattle.roe_mappers.proofs.AwareParts.{few_octets, first_place-distinct, octets_hold_bits, octets_of_aware}
use Rattle.roe_mappers.proofs.Carried.{bits_of_carrier-at, distinct_of_flow, flow_at, known, length-carried, pieces_within, some_at}
use Rattle.roe_mappers.proofs.PieceBits.{bit_of_pieces, length-bits_of_pieces, size-cons}

-- ---- pieces so many bits on

pub pieces_size-moved : (n : ℕ) (ps : List Piece) → pieces_size (map (moved_by n) ps) ≡ pieces_size ps
pieces_size-moved n [] = refl
pieces_size-moved n (p ∷ ps) = size-cons (moved_by n p) (map (moved_by n) ps) ∙ ap (λ s. p.size + s) (pieces_size-moved n ps) ∙ sym (size-cons p ps)

pub iq_bit-moved : (n : ℕ) (ps : List Piece) (b : ℕ) → b < pieces_size ps → iq_bit (map (moved_by n) ps) b ≡ n + iq_bit ps b
iq_bit-moved n [] b lt = absurd (omega arith)
iq_bit-moved n (p ∷ ps) b lt =
    elim (cases_lt b p.size) [
      | inl low ↦
          let left : iq_bit (map (moved_by n) (p ∷ ps)) b ≡ n + p.start + b = rw (lt-ltb b p.size low) refl in
          let right : iq_bit (p ∷ ps) b ≡ p.start + b = rw (lt-ltb b p.size low) refl in
          left ∙ (let e : n + p.start + b ≡ n + (p.start + b) = omega arith in e) ∙ ap (λ z. n + z) (sym right)
      | inr high ↦
          let left : iq_bit (map (moved_by n) (p ∷ ps)) b ≡ iq_bit (map (moved_by n) ps) (b - p.size) = rw (le-ltb b p.size high) refl in
          let right : iq_bit (p ∷ ps) b ≡ iq_bit ps (b - p.size) = rw (le-ltb b p.size high) refl in
          left ∙ iq_bit-moved n ps (b - p.size) (omega (arith, size-cons p ps)) ∙ ap (λ z. n + z) (sym right)
    ]

-- in the modes that carry whole frames
module _ (p : Plan) (f : Flow) (c : ℕ) (carrier : Carrier) (good : IsGood p) (lt : c < length p.carriers) (read : slice_get p.carriers c ≡ Some carrier) where
  prescribed : HasPrescribedSize carrier
  prescribed = at_place HasPrescribedSize p.carriers c carrier read (good ContainerSize c lt)

  abbrev moved : List Piece
  moved = map (moved_by (8 * word_size p.option)) carrier.pieces

  moved_within : All (λ (r : Piece). r.start + r.size ≤ 8 * (16 * word_size p.option)) moved
  moved_within k d below =
      let n = 8 * word_size p.option in
      let long = length-map carrier.pieces (moved_by n) in
      let at = get_or-map (moved_by n) carrier.pieces k d d (omega arith) in
      let within = pieces_within p c carrier (word_size p.option) good lt read refl k d (omega arith) in
      let P : Piece → Type 0 = λ r. r.start + r.size ≤ 8 * (16 * word_size p.option) in
      subst P (sym at) (omega arith)

  pub IsRoute-moved : (m : Mode) → p.mode ≡ m → spelled_octets m p f ≡ 16 * word_size p.option → ((x : ℕ) → place_by m p f x ≡ 8 * word_size p.option + x) → (route : List Piece) → route ≡ moved → IsRoute p f carrier route
  IsRoute-moved m mode octets place route is =
      let long = length-map carrier.pieces (moved_by (8 * word_size p.option)) in
      let whole : spelled_octets p.mode p f ≡ 16 * word_size p.option = ap (λ o. spelled_octets o p f) mode ∙ octets in
      let there : (x : ℕ) → place_in_part p f x ≡ 8 * word_size p.option + x = λ x. ap (λ o. place_by o p f x) mode ∙ place x in
      subst (IsRoute p f carrier) (sym is)
      (record {
        some = omega (arith, long, prescribed.some_pieces);
        few = omega (arith, long, prescribed.few_pieces);
        size = pieces_size-moved (8 * word_size p.option) carrier.pieces;
        within = subst (λ z. All (λ (r : Piece). r.start + r.size ≤ 8 * z) moved) (sym whole) moved_within;
        places = λ b below. iq_bit-moved (8 * word_size p.option) carrier.pieces b below ∙ sym (there (iq_bit carrier.pieces b));
      })

-- ---- before a carrier in a flow's list

not_false : (b : Bool) → not b ≡ false → b ≡ true
not_false true h = refl
not_false false h = absurd (false≢true (sym h))

not_itself : (c : ℕ) → ¬ (not (eqb c c) ≡ true)
not_itself c h = false≢true (ap not (sym (eq-eqb c c refl)) ∙ h)

-- the place of a carrier that a list has
pub record StandsFirst (numbers : List ℕ) (c : ℕ) : Type 0 where
  pub within : position_or_len (λ n. n == c) numbers < length numbers
  pub is : get_or numbers (position_or_len (λ n. n == c) numbers) 0 ≡ c

pub stands_first : (numbers : List ℕ) (c : ℕ) → Contains numbers c → StandsFirst numbers c
stands_first numbers c h =
    let test = λ (n : ℕ). not (eqb n c) in
    let j = position_or_len (λ n. n == c) numbers in
    let at : get_or numbers h.0 0 ≡ c = get_or_default numbers h.0 0 c h.1 ∙ h.2 in
    let low : j ≤ h.0 =
    elim (cases_lt h.0 j) [
      | inl before ↦ absurd (not_itself c (subst (λ z. not (eqb z c) ≡ true) at (prefix_len_passes test numbers h.0 0 before)))
      | inr le ↦ le
    ] in
    let within : j < length numbers = omega (arith, h.1) in
    record { within = within; is = eqb-true (get_or numbers j 0) c (not_false (eqb (get_or numbers j 0) c) (prefix_len_stops test numbers 0 within)) }

pub few_bits_of : (p : Plan) (f : Flow) → IsGood p → Contains p.flows f → p.mode ≡ Aware → bits_of_carriers p f.carriers ≤ 11_936
few_bits_of p f good flow mode =
    let hold = octets_hold_bits (bits_of_carriers p f.carriers) in
    omega (arith, hold, octets_of_aware p f mode, few_octets p f good flow)

module _ (p : Plan) (f : Flow) (c : ℕ) (carrier : Carrier) (good : IsGood p) (flow : Contains p.flows f) (mode : p.mode ≡ Aware) (listed : Contains f.carriers c) (read : slice_get p.carriers c ≡ Some carrier) where
  first : StandsFirst f.carriers c
  first = stands_first f.carriers c listed

  abbrev place : ℕ
  place = position_or_len (λ n. n == c) f.carriers

  abbrev before : ℕ
  before = bits_of_carriers p (before_first (λ n. n == c) f.carriers)

  -- the container ends within the bits of the flow's carriers
  pub ends_within : before + container_size carrier ≤ bits_of_carriers p f.carriers
  ends_within =
      let more = sum_by_more_le (slice_index (container_sizes p)) f.carriers place 0 first.within in
      let here : slice_index (container_sizes p) (get_or f.carriers place 0) ≡ container_size carrier = ap (slice_index (container_sizes p)) first.is ∙ number_at container_size p.carriers c carrier read in
      omega (arith, more, here)

  -- bit b of the container among the bits of the flow's carriers
  pub carried_at : (b : ℕ) → b < container_size carrier → get_or (carried_bits p f) (before + b) 0 ≡ iq_bit carrier.pieces b
  carried_at b below =
      let own : bits_of_carrier p (get_or f.carriers place 0) ≡ bits_of_carrier p c = ap (bits_of_carrier p) first.is in
      let bits = own ∙ bits_of_carrier-at p c carrier read in
      let long : b < length (bits_of_carrier p (get_or f.carriers place 0)) = omega (arith, ap length bits, length-bits_of_pieces carrier.pieces) in
      let start : length (flat_map (bits_of_carrier p) (take place f.carriers)) ≡ before = length-carried p (take place f.carriers) in
      ap (λ n. get_or (carried_bits p f) (n + b) 0) (sym start)
      ∙ get_or-flat_map (bits_of_carrier p) f.carriers place b 0 0 first.within long
      ∙ ap (λ bs. get_or bs b 0) bits ∙ bit_of_pieces carrier.pieces b below

  pub first_place-carried : (b : ℕ) → b < container_size carrier → first_place (carried_bits p f) (iq_bit carrier.pieces b) ≡ before + b
  first_place-carried b below =
      let all = length-carried p f.carriers in
      ap (first_place (carried_bits p f)) (sym (carried_at b below))
      ∙ first_place-distinct (carried_bits p f) (before + b) (distinct_of_flow p f good flow) (omega (arith, all, ends_within))

  pub IsRoute-whole : (start size : ℕ) (route : List Piece) → route ≡ record { start = start; size = size } ∷ [] → start ≡ 8 * control_octets p f + before → size ≡ container_size carrier → IsRoute p f carrier route
  IsRoute-whole start size route is from sized =
      let q : Piece = record { start = start; size = size } in
      let all : pieces_size (q ∷ []) ≡ size = size-cons q [] ∙ omega arith in
      let octets : spelled_octets p.mode p f ≡ octets_of_frame p f = ap (λ o. spelled_octets o p f) mode in
      let whole : start + size ≤ 8 * spelled_octets p.mode p f = omega (arith, octets, from, sized, ends_within, octets_of_aware p f mode, octets_hold_bits (bits_of_carriers p f.carriers)) in
      subst (IsRoute p f carrier) (sym is)
      (record {
        some = omega arith;
        few = omega arith;
        size = all ∙ sized;
        within = one_within q whole;
        places = λ b below.
            let low : b < size = omega arith in
            let here : iq_bit (q ∷ []) b ≡ start + b = rw (lt-ltb b size low) refl in
            let there : place_in_part p f (iq_bit carrier.pieces b) ≡ 8 * control_octets p f + first_place (carried_bits p f) (iq_bit carrier.pieces b) = ap (λ o. place_by o p f (iq_bit carrier.pieces b)) mode in
            here ∙ omega (arith, there, from, first_place-carried b below);
      })
    where
      one_within : (r : Piece) → r.start + r.size ≤ 8 * spelled_octets p.mode p f → All (λ (z : Piece). z.start + z.size ≤ 8 * spelled_octets p.mode p f) (r ∷ [])
      one_within r h zero d lt = h
      one_within r h (suc k) d lt = absurd (omega arith)

-- ---- routes of a plan that is seen as another

get_some : {A : Type 0} (xs : List A) (i : ℕ) (e : A) → i < length xs → slice_get xs i ≡ Some (get_or xs i e)
get_some [] i e lt = absurd (omega arith)
get_some (x ∷ xs) zero e lt = refl
get_some (x ∷ xs) (suc i) e lt = get_some xs i e (omega arith)

-- a carrier that a flow lists is in the plan
pub carrier_listed : (p : Plan) (i c : ℕ) → IsGood p → i < length p.flows → HoldsAt (λ (f : Flow). Contains f.carriers c) p.flows i → c < length p.carriers
carrier_listed p i c good lt listed =
    let here = some_at p.flows i lt in
    let has = at_place (λ (f : Flow). Contains f.carriers c) p.flows i here.0 here.1 listed in
    subst (λ n. n < length p.carriers) has.2 (known p here.0 good (flow_at p.flows i here.0 here.1) has.0 c has.1)

-- the route of a carrier of a flow, in each place
abbrev pub HasRoute : Plan → ℕ → ℕ → List Piece → Type 0
HasRoute p i c route = HoldsAt (λ f. HoldsAt (λ carrier. IsRoute p f carrier route) p.carriers c) p.flows i

module _ (q p : Plan) (same : q ≡ p) (i c : ℕ) (route : List Piece) where
  pub HasRoute-whole : (f : Flow) → slice_get q.flows i ≡ Some f → HoldsAt (λ carrier. IsRoute q f carrier route) q.carriers c → HasRoute p i c route
  HasRoute-whole f read h =
      subst (λ r. HasRoute r i c route) same (holds_at (λ (x : Flow). HoldsAt (λ carrier. IsRoute q x carrier route) q.carriers c) q.flows i f read h)

  pub HasRoute-moved : IsGood q → c < length q.carriers → (m : Mode) → q.mode ≡ m → ((f : Flow) → spelled_octets m q f ≡ 16 * word_size q.option) → ((f : Flow) (x : ℕ) → place_by m q f x ≡ 8 * word_size q.option + x)
      → HoldsAt (λ (carrier : Carrier). route ≡ map (moved_by (8 * word_size q.option)) carrier.pieces) q.carriers c → HasRoute p i c route
  HasRoute-moved good lt m mode octets place is =
      subst (λ r. HasRoute r i c route) same
      (λ d e. IsRoute-moved q (get_or q.flows i d) c (get_or q.carriers c e) good lt (get_some q.carriers c e lt) m mode (octets (get_or q.flows i d)) (place (get_or q.flows i d)) route (is e))

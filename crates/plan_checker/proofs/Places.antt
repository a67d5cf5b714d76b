-- What a plan that meets the rules says of a carrier or a flow that was read from it.
use Rattle.std.proofs.Common.{◌≡◌, ℕ, ◌<◌, ◌≤◌, zero, suc, List, [], ◌∷◌, length, map, get_or, slice_index, All, Some, slice_get, ap, arith, sym, subst, ◌∙◌}
use Rattle.std.specs.List.{HoldsAt}
use Rattle.std.proofs.lemmas.List.Elements.{at_read}
use Rattle.carrier_plan.specs.declared.plan.Carrier.{Carrier}
use Rattle.carrier_plan.specs.declared.plan.Flow.{Flow}
use Rattle.carrier_plan.specs.declared.plan.Plan.{Plan}
use Rattle.plan_checker.specs.SampleRate.{HasSampleRate}
use Rattle.plan_checker.specs.Flows.{octets_of_frame}
use Rattle.link_base.specs.Window.{IsMostHeld, most_held}
use Rattle.plan_checker.specs.Run.{frame_octets_of, least_delays, packet_frames, packets_held}
use Rattle.plan_checker.specs.Rules.{IsGood, IsMetBelow}
use Rattle.plan_checker.specs.Rules.Rule.{Counts, SampleRate, ContainerSize, SharedOut, PayloadSize, ArrivalWindow, PlayedInTime}
use Rattle.plan_checker.proofs.Counting.{length-ascending_below}
use Rattle.plan_checker.proofs.Divisors.{not_zero_from_dvd}

-- an item that was read has what holds at its place
pub at_place : {A : Type 0} (P : A → Type 0) (xs : List A) (i : ℕ) (x : A) → slice_get xs i ≡ Some x → HoldsAt P xs i → P x
at_place P [] i x e h = cc
at_place P (y ∷ ys) zero x e h = let same : y ≡ x = cc in subst P same (h y)
at_place P (y ∷ ys) (suc i) x e h = at_place P ys i x e h

pub at_item : {A : Type 0} (P : A → Type 0) (xs : List A) (i : ℕ) (x : A) → x ≡ get_or xs i x → HoldsAt P xs i → P x
at_item P xs i x e h = subst P (sym e) (h x)

-- the carriers that a flow lists are in the plan
pub known_at : (p : Plan) → IsMetBelow p 10 → (i : ℕ) → i < length p.flows → HoldsAt (λ (f : Flow). All (λ c. c < length p.carriers) f.carriers) p.flows i
known_at p met i lt d = (met SharedOut (omega arith) 0 (omega arith)).known i d lt

-- and are not more than those
pub few_at : (p : Plan) → IsMetBelow p 10 → (i : ℕ) → i < length p.flows → HoldsAt (λ (f : Flow). length f.carriers ≤ 64) p.flows i
few_at p met i lt d =
    let shared = met SharedOut (omega arith) 0 (omega arith) in
    let counts = met Counts (omega arith) 0 (omega arith) in
    let numbers = (get_or p.flows i d).carriers in
    let bound : length numbers ≤ length p.carriers = length-ascending_below numbers (length p.carriers) (shared.ascending i d lt) (shared.known i d lt) in
    let few : length p.carriers ≤ 64 = counts.few_carriers in
    omega arith

pub frames_at : (p : Plan) → IsMetBelow p 11 → (i : ℕ) → i < length p.flows → HoldsAt (λ (f : Flow). 1 ≤ f.frames) p.flows i
frames_at p met i lt d = (met PayloadSize (omega arith) i lt d).some_frames

pub window_at : (p : Plan) → IsMetBelow p 12 → (i : ℕ) → i < length p.flows → HoldsAt (λ (f : Flow). f.lmin ≤ f.lmax) p.flows i
window_at p met i lt d = (met ArrivalWindow (omega arith) i lt d).0

pub delays_at : (p : Plan) → IsMetBelow p 13 → (i : ℕ) → i < length p.flows → HoldsAt (λ (f : Flow). f.lmin ≤ p.playout) p.flows i
delays_at p met i lt d =
    let window = met ArrivalWindow (omega arith) i lt d in
    let played = met PlayedInTime (omega arith) i lt d in
    omega (arith, window.0, played.0)

-- the same of an item of a list that is the plan's, and back
pub at_item_of : {A : Type 0} (P : A → Type 0) (xs ys : List A) (i : ℕ) (x : A) → ys ≡ xs → x ≡ get_or ys i x → HoldsAt P xs i → P x
at_item_of P xs ys i x same e h = at_item P ys i x e (subst (λ zs. HoldsAt P zs i) (sym same) h)

pub item_holds : {A : Type 0} (P : A → Type 0) (xs ys : List A) (i : ℕ) (x : A) → ys ≡ xs → i < length ys → x ≡ get_or ys i x → P x → HoldsAt P xs i
item_holds P xs ys i x same lt e h = subst (λ zs. HoldsAt P zs i) same (at_read ys P i x lt e h)

-- an item that was read holds at its place
pub holds_at : {A : Type 0} (P : A → Type 0) (xs : List A) (i : ℕ) (x : A) → slice_get xs i ≡ Some x → P x → HoldsAt P xs i
holds_at P [] i x e h = cc
holds_at P (y ∷ ys) zero x e h = let same : y ≡ x = cc in λ d. subst P (sym same) h
holds_at P (y ∷ ys) (suc i) x e h = holds_at P ys i x e h

-- the containers are in a few pieces each
pub few_pieces : (p : Plan) → IsMetBelow p 10 → All (λ (c : Carrier). length c.pieces ≤ 4) p.carriers
few_pieces p met i d lt = (met ContainerSize (omega arith) i lt d).few_pieces

pub within_of : {A : Type 0} (xs ys : List A) (i : ℕ) → ys ≡ xs → i < length ys → i < length xs
within_of xs ys i same lt = subst (λ zs. i < length zs) same lt

-- a number of an item that was read is in the list of these numbers
pub number_at : {A : Type 0} (f : A → ℕ) (xs : List A) (i : ℕ) (x : A) → slice_get xs i ≡ Some x → slice_index (map f xs) i ≡ f x
number_at f [] i x e = cc
number_at f (y ∷ ys) zero x e = let same : y ≡ x = cc in ap f same
number_at f (y ∷ ys) (suc i) x e = number_at f ys i x e

-- the same of a plan q that is seen as p
module _ (p q : Plan) (same : p ≡ q) where
  pub carrier_number : (f : Carrier → ℕ) (i : ℕ) (x : Carrier) → slice_get p.carriers i ≡ Some x → f x ≡ slice_index (map f q.carriers) i
  carrier_number f i x e = subst (λ r. f x ≡ slice_index (map f r.carriers) i) same (sym (number_at f p.carriers i x e))

  pub flow_number : (f : Flow → ℕ) (i : ℕ) (x : Flow) → slice_get p.flows i ≡ Some x → f x ≡ slice_index (map f q.flows) i
  flow_number f i x e = subst (λ r. f x ≡ slice_index (map f r.flows) i) same (sym (number_at f p.flows i x e))

  pub flow_holds : (P : Flow → Type 0) (i : ℕ) (x : Flow) → slice_get p.flows i ≡ Some x → P x → HoldsAt P q.flows i
  flow_holds P i x e h = subst (λ r. HoldsAt P r.flows i) same (holds_at P p.flows i x e h)

  pub octets_number : (i : ℕ) (x : Flow) → slice_get p.flows i ≡ Some x → octets_of_frame p x ≡ frame_octets_of q i
  octets_number i x e = subst (λ r. octets_of_frame p x ≡ frame_octets_of r i) same (sym (number_at (octets_of_frame p) p.flows i x e))

  pub playout_number : p.playout ≡ q.playout
  playout_number = ap (λ (r : Plan). r.playout) same

  pub held_number : (i : ℕ) (x : Flow) → slice_get p.flows i ≡ Some x → most_held x.frames x.lmin p.playout ≡ packets_held q i
  held_number i x e =
      let frames = flow_number (λ (f : Flow). f.frames) i x e in
      let lmin = flow_number (λ (f : Flow). f.lmin) i x e in
      ap (λ n. most_held n x.lmin p.playout) frames ∙ (ap (λ n. most_held (slice_index (packet_frames q) i) n p.playout) lmin ∙ ap (λ n. most_held (slice_index (packet_frames q) i) (slice_index (least_delays q) i) n) playout_number)

  pub most_number : (i : ℕ) (x : Flow) (n : ℕ) → slice_get p.flows i ≡ Some x → IsMostHeld x.frames x.lmin p.playout n → IsMostHeld (slice_index (packet_frames q) i) (slice_index (least_delays q) i) q.playout n
  most_number i x n e h =
      let frames = flow_number (λ (f : Flow). f.frames) i x e in
      let lmin = flow_number (λ (f : Flow). f.lmin) i x e in
      subst (λ t. IsMostHeld (slice_index (packet_frames q) i) (slice_index (least_delays q) i) t n) playout_number
      (subst (λ t. IsMostHeld (slice_index (packet_frames q) i) t p.playout n) lmin
      (subst (λ t. IsMostHeld t x.lmin p.playout n) frames h))

-- what is known of an item of a good plan q that is seen as p
module _ (p q : Plan) (same : p ≡ q) (good : IsGood p) where
  pub rate_of : (i : ℕ) (x : Carrier) → i < length q.carriers → slice_get p.carriers i ≡ Some x → HasSampleRate x
  rate_of i x lt e = at_place HasSampleRate p.carriers i x e (good SampleRate i (subst (λ r. i < length r.carriers) (sym same) lt))

  flow_within : (i : ℕ) → i < length q.flows → i < length p.flows
  flow_within i lt = subst (λ r. i < length r.flows) (sym same) lt

  pub known_of : (i : ℕ) (x : Flow) → i < length q.flows → slice_get p.flows i ≡ Some x → All (λ c. c < length p.carriers) x.carriers
  known_of i x lt e = at_place (λ (f : Flow). All (λ c. c < length p.carriers) f.carriers) p.flows i x e (known_at p (λ r _. good r) i (flow_within i lt))

  pub few_of : (i : ℕ) (x : Flow) → i < length q.flows → slice_get p.flows i ≡ Some x → length x.carriers ≤ 64
  few_of i x lt e = at_place (λ (f : Flow). length f.carriers ≤ 64) p.flows i x e (few_at p (λ r _. good r) i (flow_within i lt))

  pub frames_of : (i : ℕ) (x : Flow) → i < length q.flows → slice_get p.flows i ≡ Some x → 1 ≤ x.frames
  frames_of i x lt e = at_place (λ (f : Flow). 1 ≤ f.frames) p.flows i x e (frames_at p (λ r _. good r) i (flow_within i lt))

  pub delays_of : (i : ℕ) (x : Flow) → i < length q.flows → slice_get p.flows i ≡ Some x → x.lmin ≤ p.playout
  delays_of i x lt e = at_place (λ (f : Flow). f.lmin ≤ p.playout) p.flows i x e (delays_at p (λ r _. good r) i (flow_within i lt))

pub some_frames_of_block : (x : Carrier) → HasSampleRate x → 1 ≤ x.k
some_frames_of_block x rate = let some = not_zero_from_dvd x.k 38_400 (omega arith) rate.divides in omega arith

pub few_samples_of_block : (x : Carrier) → HasSampleRate x → x.s ≤ 3_072
few_samples_of_block x rate = omega (arith, rate.short, rate.slow)

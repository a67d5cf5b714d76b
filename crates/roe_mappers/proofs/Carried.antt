-- The IQ bits that the carriers of a flow have.
use Rattle.std.proofs.Common.{◌≡◌, ℕ, ◌+◌, ◌-◌, ◌*◌, ◌<◌, ◌≤◌, ◌⊎◌, zero, suc, List, [], ◌∷◌, ◌++◌, length, map, get_or, slice_index, All, Contains, Some, slice_get, refl, sym, ap, subst, ◌∙◌, inl, inr, arith, length-append}
use Rattle.std.specs.List.{AllPairs, HoldsAt, flat_map}
use Rattle.std.specs.List.Sorted.{IsStrictlyIncreasing}
use Rattle.std.proofs.lemmas.Bool.{cases_lt}
use Rattle.std.proofs.lemmas.List.{get_or-append_right, get_or_append_left, get_or_default}
use Rattle.std.proofs.lemmas.List.Sums.{sum_by-cons}
use Rattle.carrier_plan.specs.declared.plan.Carrier.{Carrier}
use Rattle.carrier_plan.specs.declared.plan.Flow.{Flow}
use Rattle.carrier_plan.specs.declared.plan.Piece.{Piece}
use Rattle.carrier_plan.specs.declared.plan.Plan.{Plan}
use Rattle.plan_checker.specs.Container.{HasSeparateBits, HoldsBit, LiesWithin, SharesNoBit, container_size}
use Rattle.plan_checker.specs.Flows.{bits_of_carriers, container_sizes}
use Rattle.plan_checker.specs.Rules.{IsGood}
use Rattle.plan_checker.specs.Rules.Rule.{ContainerEnd, SeparateBits, SharedOut}
use Rattle.plan_checker.specs.WordSize.{iq_bits, word_size}
use Rattle.plan_checker.proofs.Counting.{above_first}
use Rattle.plan_checker.proofs.Places.{at_place, holds_at}
use Rattle.plan_checker.proofs.Separate.{EachBitHasOneCarrier-holds}
use Rattle.roe_mappers.specs.CarriedBits.{bits_if, bits_of_carrier, bits_of_container, carried_bits}
use Rattle.roe_mappers.proofs.PieceBits.{AreDistinct, AreDistinct-join, AreDistinct-none, AreDistinct-pieces, held_bit, length-bits_of_pieces}
use Rattle.roe_mappers.proofs.Moving.{AreApart}

-- ---- what holds of a flow of a plan

pub of_flow : (P : Flow → Type 0) (flows : List Flow) (f : Flow) → All P flows → Contains flows f → P f
of_flow P flows f all h = subst P h.2 (all h.0 f h.1)

pub flow_at : (flows : List Flow) (i : ℕ) (f : Flow) → slice_get flows i ≡ Some f → Contains flows f
flow_at [] i f e = cc
flow_at (g ∷ flows) zero f e = let same : g ≡ f = cc in (0, omega arith, same)
flow_at (g ∷ flows) (suc i) f e = let rest = flow_at flows i f e in (suc rest.0, omega (arith, rest.1), rest.2)

pub known : (p : Plan) (f : Flow) → IsGood p → Contains p.flows f → All (λ c. c < length p.carriers) f.carriers
known p f good h = of_flow (λ (g : Flow). All (λ c. c < length p.carriers) g.carriers) p.flows f (good SharedOut 0 (omega arith)).known h

pub ascending : (p : Plan) (f : Flow) → IsGood p → Contains p.flows f → IsStrictlyIncreasing f.carriers
ascending p f good h = of_flow (λ (g : Flow). IsStrictlyIncreasing g.carriers) p.flows f (good SharedOut 0 (omega arith)).ascending h

-- ---- how many they are

length-bits_if : (cs : List Carrier) (c : ℕ) → length (bits_if (slice_get cs c)) ≡ get_or (map container_size cs) c 0
length-bits_if [] c = refl
length-bits_if (x ∷ cs) zero = length-bits_of_pieces x.pieces
length-bits_if (x ∷ cs) (suc c) = length-bits_if cs c

pub length-carried : (p : Plan) (numbers : List ℕ) → length (flat_map (bits_of_carrier p) numbers) ≡ bits_of_carriers p numbers
length-carried p [] = refl
length-carried p (c ∷ numbers) =
    omega (arith, length-append (bits_of_carrier p c) (flat_map (bits_of_carrier p) numbers), length-bits_if p.carriers c, length-carried p numbers, sum_by-cons (slice_index (container_sizes p)) c numbers)

pub bits_of_carrier-at : (p : Plan) (c : ℕ) (carrier : Carrier) → slice_get p.carriers c ≡ Some carrier → bits_of_carrier p c ≡ bits_of_container carrier
bits_of_carrier-at p c carrier e = ap bits_if e

-- ---- that they are distinct

pub some_at : {A : Type 0} (xs : List A) (i : ℕ) → i < length xs → (x : A) × (slice_get xs i ≡ Some x)
some_at [] i lt = absurd (omega arith)
some_at (x ∷ xs) zero lt = (x, refl)
some_at (x ∷ xs) (suc i) lt = some_at xs i (omega arith)

pub separate_pieces : (p : Plan) (c : ℕ) (carrier : Carrier) → IsGood p → c < length p.carriers → slice_get p.carriers c ≡ Some carrier → AllPairs SharesNoBit carrier.pieces
separate_pieces p c carrier good lt e = (at_place (HasSeparateBits p.carriers c) p.carriers c carrier e (good SeparateBits c lt)).own

distinct_one : (p : Plan) (c : ℕ) → IsGood p → c < length p.carriers → AreDistinct (bits_of_carrier p c)
distinct_one p c good lt =
    let here = some_at p.carriers c lt in
    subst AreDistinct (sym (bits_of_carrier-at p c here.0 here.1)) (AreDistinct-pieces here.0.pieces (separate_pieces p c here.0 good lt here.1))

pub contains-append : (xs ys : List ℕ) (v : ℕ) → Contains (xs ++ ys) v → Contains xs v ⊎ Contains ys v
contains-append xs ys v h =
    elim (cases_lt h.0 (length xs)) [
      | inl low ↦ inl (h.0, low, sym (get_or_append_left xs ys v h.0 low) ∙ h.2)
      | inr high ↦ inr (h.0 - length xs, omega (arith, h.1, length-append xs ys), sym (get_or-append_right xs ys (length xs) h.0 v refl high) ∙ h.2)
    ]

-- a bit of the carriers is one of a carrier
pub contains-flat_map : (g : ℕ → List ℕ) (xs : List ℕ) (v : ℕ) → Contains (flat_map g xs) v → (k : ℕ) × (k < length xs) × Contains (g (get_or xs k 0)) v
contains-flat_map g [] v h = absurd (omega (arith, h.1))
contains-flat_map g (x ∷ xs) v h =
    elim (contains-append (g x) (flat_map g xs) v h) [
      | inl here ↦ (0, omega arith, here)
      | inr there ↦ let rest = contains-flat_map g xs v there in (suc rest.0, omega (arith, rest.1), rest.2)
    ]

-- a bit of a carrier is in its container
pub held_by : (p : Plan) (c v : ℕ) → c < length p.carriers → Contains (bits_of_carrier p c) v → HoldsAt (λ (x : Carrier). HoldsBit x v) p.carriers c
held_by p c v lt h =
    let here = some_at p.carriers c lt in
    let there = subst (λ bits. Contains bits v) (bits_of_carrier-at p c here.0 here.1) h in
    holds_at (λ (x : Carrier). HoldsBit x v) p.carriers c here.0 here.1 (held_bit here.0.pieces v there)

ascending-tail : (x : ℕ) (xs : List ℕ) → IsStrictlyIncreasing (x ∷ xs) → IsStrictlyIncreasing xs
ascending-tail x xs h k lt =
    let next : suc k + 1 ≡ suc (k + 1) = omega arith in
    let P : ℕ → Type 0 = λ n. get_or xs k 0 < get_or (x ∷ xs) n 0 in
    subst P next (h (suc k) (omega arith))

pub distinct_carried : (p : Plan) (numbers : List ℕ) → IsGood p → IsStrictlyIncreasing numbers → All (λ c. c < length p.carriers) numbers → AreDistinct (flat_map (bits_of_carrier p) numbers)
distinct_carried p [] good up known = AreDistinct-none
distinct_carried p (c ∷ numbers) good up known =
    let here : c < length p.carriers = known 0 0 (omega arith) in
    let later : All (λ n. n < length p.carriers) numbers = λ k d lt. known (suc k) d (omega arith) in
    let bits = bits_of_carrier p c in
    let apart : AreApart bits (flat_map (bits_of_carrier p) numbers) = λ i lt there.
    let v = get_or bits i 0 in
    let found = contains-flat_map (bits_of_carrier p) numbers v there in
    let other = get_or numbers found.0 0 in
    let in-other = held_by p other v (later found.0 0 found.1) found.2 in
    let in-this = held_by p c v here (i, lt, get_or_default bits i v 0 lt) in
    let same : c ≡ other = EachBitHasOneCarrier-holds p v c other good here (later found.0 0 found.1) in-this in-other in
    let above = above_first c numbers up found.0 found.1 in
    omega arith in
    AreDistinct-join bits (flat_map (bits_of_carrier p) numbers) (distinct_one p c good here) (distinct_carried p numbers good (ascending-tail c numbers up) later) apart

pub distinct_of_flow : (p : Plan) (f : Flow) → IsGood p → Contains p.flows f → AreDistinct (carried_bits p f)
distinct_of_flow p f good h = distinct_carried p f.carriers good (ascending p f good h) (known p f good h)

-- ---- where their containers end

pub pieces_within : (p : Plan) (c : ℕ) (carrier : Carrier) (y : ℕ) → IsGood p → c < length p.carriers → slice_get p.carriers c ≡ Some carrier → word_size p.option ≡ y
    → All (λ (q : Piece). q.start + q.size ≤ 120 * y) carrier.pieces
pieces_within p c carrier y good lt e word =
    subst (λ z. All (λ (q : Piece). q.start + q.size ≤ 120 * z) carrier.pieces) word (at_place (LiesWithin (iq_bits p.option)) p.carriers c carrier e (good ContainerEnd c lt))

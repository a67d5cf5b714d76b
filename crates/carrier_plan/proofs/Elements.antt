-- The elements of an array that are read, one after another.
use Rattle.std.proofs.Common.{◌≡◌, ℕ, true, false, ◌&&◌, arith, ◌+◌, ◌<◌, ◌≤◌, add-one, append-nil, List, [], ◌∷◌, ◌++◌, length, drop, get_or, Result, Ok, Err, ap, sym, ◌∙◌, refl, append_assoc}
use Rattle.std.proofs.lemmas.List.{drop_all}
use Rattle.std.proofs.Math.Bool.{and-true}
use Rattle.std.specs.Prelude.{is_some}
use Rattle.toml.specs.Data.{Data, array, as_integer}
use Rattle.toml.specs.View.{view, items_view}
use Rattle.toml.specs.declared.value.Value.{Value}
use Rattle.toml.proofs.Views.{items_view-drop}
use Rattle.carrier_plan.specs.declared.fault.Spot.{Spot}
use Rattle.carrier_plan.specs.declared.fault.PlanText.{PlanText}
use Rattle.carrier_plan.specs.declared.fault.PlanText.TheVariants.{Kind}
use Rattle.carrier_plan.specs.Keys.{number_of}
use Rattle.carrier_plan.specs.declared.fault.ReadError.{ReadError}
use Rattle.carrier_plan.specs.declared.fault.ReadError.TheVariants as error
use Rattle.carrier_plan.specs.PlanOf.{◌>>=◌, all_from, are_integers, is_pair, piece_of, are_pairs, IsFaultOf}

-- what is read, behind what was read before
abbrev pub with_front : {A : Type 0} → List A → Result (List A) PlanText → Result (List A) PlanText
with_front front read = read >>= (λ others. Ok (front ++ others))

pub with_front-nil : {A : Type 0} (read : Result (List A) PlanText) → with_front [] read ≡ read
with_front-nil (Ok xs) = refl
with_front-nil (Err e) = refl

with_front-push : {A : Type 0} (front : List A) (x : A) (read : Result (List A) PlanText) → with_front (front ++ x ∷ []) read ≡ with_front front (read >>= (λ others. Ok (x ∷ others)))
with_front-push front x (Ok xs) = ap Ok (append_assoc front (x ∷ []) xs)
with_front-push front x (Err e) = refl

-- the element at a place is judged, and then those after it
at_place : {A : Type 0} (judge : ℕ → Data → Result A PlanText) (vs : List Value) (i : ℕ) (d : Value) → i < length vs → all_from judge i (items_view (drop i vs)) ≡ (judge i (view (get_or vs i d)) >>= (λ first. all_from judge (i + 1) (items_view (drop (i + 1) vs)) >>= (λ others. Ok (first ∷ others))))
at_place judge vs i d h = rw (items_view-drop vs i d h, add-one)

-- a good element
pub with_front_more : {A : Type 0} (judge : ℕ → Data → Result A PlanText) (vs : List Value) (i : ℕ) (v : Value) (front : List A) (x : A) → i < length vs → v ≡ get_or vs i v → Ok x ≡ judge i (view v) → with_front (front ++ x ∷ []) (all_from judge (i + 1) (items_view (drop (i + 1) vs))) ≡ with_front front (all_from judge i (items_view (drop i vs)))
with_front_more judge vs i v front x h at good =
    with_front-push front x (all_from judge (i + 1) (items_view (drop (i + 1) vs)))
    ∙ ap (with_front front) (sym (at_place judge vs i v h ∙ rw (← at, ← good)))

-- a bad element ends the reading
pub with_front_fault : {A : Type 0} (judge : ℕ → Data → Result A PlanText) (vs : List Value) (i : ℕ) (v : Value) (front : List A) (e : PlanText) → i < length vs → v ≡ get_or vs i v → Err e ≡ judge i (view v) → with_front front (all_from judge i (items_view (drop i vs))) ≡ Err e
with_front_fault judge vs i v front e h at bad =
    let fault : all_from judge i (items_view (drop i vs)) ≡ Err e = at_place judge vs i v h ∙ rw (← at, ← bad) in
    ap (with_front front) fault

-- all were read
pub with_front_all : {A : Type 0} (judge : ℕ → Data → Result A PlanText) (vs : List Value) (i : ℕ) (front : List A) → length vs ≤ i → with_front front (all_from judge i (items_view (drop i vs))) ≡ Ok front
with_front_all judge vs i front h = ap (λ rest. with_front front (all_from judge i (items_view rest))) (drop_all i vs h) ∙ ap Ok (append-nil front)

-- a bad element, or want of memory, ends the reading
pub with_front_stop : {A : Type 0} (judge : ℕ → Data → Result A PlanText) (vs : List Value) (i : ℕ) (v : Value) (front : List A) (e : ReadError) → i < length vs → v ≡ get_or vs i v → IsFaultOf (judge i (view v)) e → IsFaultOf (with_front front (all_from judge i (items_view (drop i vs)))) e
with_front_stop judge vs i v front (error.Text fault) h at bad = with_front_fault judge vs i v front fault h at (sym bad)
with_front_stop judge vs i v front error.NoMemory h at bad = tt

-- a whole number, and the others
pub are_integers_more : (vs : List Value) (i : ℕ) (v : Value) → i < length vs → v ≡ get_or vs i v → true ≡ is_some (as_integer (view v)) → are_integers (items_view (drop (i + 1) vs)) ≡ are_integers (items_view (drop i vs))
are_integers_more vs i v h at good = sym (ap are_integers (items_view-drop vs i v h) ∙ rw (← at, ← good))

pub are_integers_not : (vs : List Value) (i : ℕ) (v : Value) → i < length vs → v ≡ get_or vs i v → false ≡ is_some (as_integer (view v)) → are_integers (items_view (drop i vs)) ≡ false
are_integers_not vs i v h at bad = ap are_integers (items_view-drop vs i v h) ∙ rw (← at, ← bad)

pub are_integers_all : (vs : List Value) (i : ℕ) → length vs ≤ i → are_integers (items_view (drop i vs)) ≡ true
are_integers_all vs i h = ap (λ rest. are_integers (items_view rest)) (drop_all i vs h)

-- a pair of whole numbers, and the others
pub are_pairs_more : (vs : List Value) (i : ℕ) (v : Value) → i < length vs → v ≡ get_or vs i v → true ≡ is_pair (view v) → are_pairs (items_view (drop (i + 1) vs)) ≡ are_pairs (items_view (drop i vs))
are_pairs_more vs i v h at good = sym (ap are_pairs (items_view-drop vs i v h) ∙ rw (← at, ← good))

pub are_pairs_not : (vs : List Value) (i : ℕ) (v : Value) → i < length vs → v ≡ get_or vs i v → false ≡ is_pair (view v) → are_pairs (items_view (drop i vs)) ≡ false
are_pairs_not vs i v h at bad = ap are_pairs (items_view-drop vs i v h) ∙ rw (← at, ← bad)

pub are_pairs_all : (vs : List Value) (i : ℕ) → length vs ≤ i → are_pairs (items_view (drop i vs)) ≡ true
are_pairs_all vs i h = ap (λ rest. are_pairs (items_view rest)) (drop_all i vs h)

-- an array of two values
pub pair_of_two : (vs : List Value) → length vs ≡ 2 → are_integers (items_view vs) ≡ is_pair (array (items_view vs))
pair_of_two [] e = absurd (omega arith)
pair_of_two (v ∷ []) e = absurd (omega arith)
pair_of_two (v ∷ w ∷ []) e = ap (λ b. is_some (as_integer (view v)) && b) (and-true (is_some (as_integer (view w))))
pair_of_two (v ∷ w ∷ x ∷ vs) e = absurd (omega arith)

pub pair_of_other : (vs : List Value) → (length vs ≡ 2 → ⊥) → false ≡ is_pair (array (items_view vs))
pair_of_other [] e = refl
pair_of_other (v ∷ []) e = refl
pair_of_other (v ∷ w ∷ []) e = absurd (e refl)
pair_of_other (v ∷ w ∷ x ∷ vs) e = refl

pub piece_of_two : (spot : Spot) (vs : List Value) (v w : Value) → length vs ≡ 2 → v ≡ get_or vs 0 v → w ≡ get_or vs 1 w
    → piece_of spot (array (items_view vs)) ≡ (number_of spot (view v) >>= (λ start. number_of spot (view w) >>= (λ size. Ok (record { start = start; size = size }))))
piece_of_two spot [] v w e at-v at-w = absurd (omega arith)
piece_of_two spot (a ∷ []) v w e at-v at-w = absurd (omega arith)
piece_of_two spot (a ∷ b ∷ []) v w e at-v at-w = rw (at-v, at-w) refl
piece_of_two spot (a ∷ b ∷ c ∷ vs) v w e at-v at-w = absurd (omega arith)

pub piece_of_bad_start : (spot : Spot) (vs : List Value) (v : Value) (e : PlanText) → length vs ≡ 2 → v ≡ get_or vs 0 v → Err e ≡ number_of spot (view v) → piece_of spot (array (items_view vs)) ≡ Err e
piece_of_bad_start spot [] v e two at-v bad = absurd (omega arith)
piece_of_bad_start spot (a ∷ []) v e two at-v bad = absurd (omega arith)
piece_of_bad_start spot (a ∷ b ∷ []) v e two at-v bad = rw (← at-v, ← bad) refl
piece_of_bad_start spot (a ∷ b ∷ c ∷ vs) v e two at-v bad = absurd (omega arith)

pub piece_of_other : (spot : Spot) (vs : List Value) → (length vs ≡ 2 → ⊥) → Err (Kind spot) ≡ piece_of spot (array (items_view vs))
piece_of_other spot [] e = refl
piece_of_other spot (v ∷ []) e = refl
piece_of_other spot (v ∷ w ∷ []) e = absurd (e refl)
piece_of_other spot (v ∷ w ∷ x ∷ vs) e = refl

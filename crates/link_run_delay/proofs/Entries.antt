-- The entries of a run: what holds of each, and how many of them pass a test.
use Rattle.std.proofs.Common.{◌≡◌, ℕ, zero, suc, ◌+◌, ◌-◌, ◌<◌, ◌≤◌, Bool, true, false, List, [], ◌∷◌, ◌++◌, length, map, All, Option, Some, None, slice_get, cond, leb, ltb, ◌&&◌, inl, inr, refl, sym, ap, ◌∙◌, subst, arith, count_by}
use Rattle.std.specs.List.{flat_map, range_with_len}
use Rattle.std.proofs.lemmas.Bool.{and_from, and_parts, cases_eq, cond_both, cond-true, cond-false, le-leb, leb-true, lt-ltb, ltb-true}
use Rattle.std.proofs.lemmas.List.Concat.{flat_map_single}
use Rattle.std.proofs.lemmas.List.Elements.{All-append, All-map, All-nil, All-head, All-tail}
use Rattle.std.proofs.lemmas.List.FromFn.{get_or-range_with_len, length-range_with_len}
use Rattle.std.proofs.lemmas.List.Sums.{sum_by-append, sum_by-cons}
use Rattle.carrier_plan.specs.declared.plan.Carrier.{Carrier}
use Rattle.carrier_plan.specs.declared.plan.Plan.{Plan}
use Rattle.link_receiver.specs.declared.entry.Entry.{Entry}
use Rattle.link_receiver.specs.Output.{all_entries, entries_at, entries_by, entries_handed_in, entries_of, entry_of}
use Rattle.link_base.specs.Record.{Record}
use Rattle.plan_checker.specs.Run.{IsDue, delay_of, samples_before, samples_due, ticks_of_run}

-- ---- lists over ranges of numbers

All-range : (P : ℕ → Type 0) (a n : ℕ) → ((i : ℕ) → a ≤ i → i < a + n → P i) → All P (range_with_len a n)
All-range P a n each k d lt =
    let within : k < n = omega (arith, length-range_with_len a n) in
    subst P (sym (get_or-range_with_len a n k d within)) (each (a + k) (omega arith) (omega arith))

All-flat_map : {X : Type 0} (P : X → Type 0) (f : ℕ → List X) (a n : ℕ) → ((i : ℕ) → a ≤ i → i < a + n → All P (f i)) → All P (flat_map f (range_with_len a n))
All-flat_map P f a zero each = All-nil P
All-flat_map P f a (suc n) each =
    All-append P (f a) (flat_map f (range_with_len (a + 1) n)) (each a (omega arith) (omega arith))
    (All-flat_map P f (a + 1) n (λ i low high. each i (omega arith) (omega arith)))

count_by-none : {X : Type 0} (test : X → Bool) (xs : List X) → All (λ x. test x ≡ false) xs → count_by test xs ≡ 0
count_by-none test [] none = omega arith
count_by-none test (x ∷ xs) none =
    sum_by-cons (λ y. cond (test y) 1 0) x xs
    ∙ omega (arith, cond-false {A = ℕ} (test x) 1 0 (All-head (λ y. test y ≡ false) x xs none), count_by-none test xs (All-tail (λ y. test y ≡ false) x xs none))

count_by-append : {X : Type 0} (test : X → Bool) (xs ys : List X) → count_by test (xs ++ ys) ≡ count_by test xs + count_by test ys
count_by-append test xs ys = sum_by-append (λ y. cond (test y) 1 0) xs ys

pub count_by-flat_map_none : {X : Type 0} (test : X → Bool) (f : ℕ → List X) (a n : ℕ) → ((i : ℕ) → a ≤ i → i < a + n → count_by test (f i) ≡ 0) → count_by test (flat_map f (range_with_len a n)) ≡ 0
count_by-flat_map_none test f a zero none = omega arith
count_by-flat_map_none test f a (suc n) none =
    count_by-append test (f a) (flat_map f (range_with_len (a + 1) n))
    ∙ omega (arith, none a (omega arith) (omega arith), count_by-flat_map_none test f (a + 1) n (λ i low high. none i (omega arith) (omega arith)))

-- of so many lists one has one element that passes, and the others have none
pub count_by-flat_map_one : {X : Type 0} (test : X → Bool) (f : ℕ → List X) (a n k : ℕ) → a ≤ k → k < a + n → count_by test (f k) ≡ 1
    → ((i : ℕ) → (i ≡ k → ⊥) → count_by test (f i) ≡ 0) → count_by test (flat_map f (range_with_len a n)) ≡ 1
count_by-flat_map_one test f a zero k low high one none = absurd (omega arith)
count_by-flat_map_one test f a (suc n) k low high one none =
    count_by-append test (f a) (flat_map f (range_with_len (a + 1) n))
    ∙ elim (cases_eq a k) [
      | inl same ↦
          let first = subst (λ i. count_by test (f i) ≡ 1) (sym same) one in
          let rest = count_by-flat_map_none test f (a + 1) n (λ i more less. none i (λ e. omega arith)) in
          omega arith
      | inr other ↦
          let first = none a other in
          let rest = count_by-flat_map_one test f (a + 1) n k (omega arith) (omega arith) one none in
          omega arith
    ]

single : {X : Type 0} (test : X → Bool) (x : X) → count_by test (x ∷ []) ≡ cond (test x) 1 0
single test x = sum_by-cons (λ y. cond (test y) 1 0) x [] ∙ omega arith

pub count_by-map_one : {X : Type 0} (test : X → Bool) (f : ℕ → X) (a n k : ℕ) → a ≤ k → k < a + n → test (f k) ≡ true
    → ((i : ℕ) → (i ≡ k → ⊥) → test (f i) ≡ false) → count_by test (map f (range_with_len a n)) ≡ 1
count_by-map_one test f a n k low high passes fails =
    ap (count_by test) (sym (flat_map_single f (range_with_len a n)))
    ∙ count_by-flat_map_one test (λ i. f i ∷ []) a n k low high
    (single test (f k) ∙ cond-true {A = ℕ} (test (f k)) 1 0 passes)
    (λ i other. single test (f i) ∙ cond-false {A = ℕ} (test (f i)) 1 0 (fails i other))

-- ---- entries

-- what holds of the entry of each sample of a carrier that leaves at a tick
abbrev pub OfEach : (Entry → Type 0) → Plan → ℕ → List Record → ℕ → ℕ → Type 0
OfEach P p h records t c =
    (carrier : Carrier) (j : ℕ) → slice_get p.carriers c ≡ Some carrier → delay_of p c ≤ t → t - delay_of p c < h → IsDue p c (t - delay_of p c) j
    → P (entry_of p h records t c carrier j)

module _ (P : Entry → Type 0) (p : Plan) (h : ℕ) (records : List Record) where
  All-handed_in : (t c : ℕ) (carrier : Carrier) (n : ℕ) → ((j : ℕ) → IsDue p c n j → P (entry_of p h records t c carrier j)) → All P (entries_handed_in p h records t c carrier n)
  All-handed_in t c carrier n each =
      All-map P (entry_of p h records t c carrier) (range_with_len (samples_before p c n) (samples_due p c n))
      (All-range (λ j. P (entry_of p h records t c carrier j)) (samples_before p c n) (samples_due p c n) (λ j low high. each j (low, omega arith)))

  All-entries_by : (t c : ℕ) (found : Option Carrier) → slice_get p.carriers c ≡ found → OfEach P p h records t c → All P (entries_by p h records t c found)
  All-entries_by t c None e each = All-nil P
  All-entries_by t c (Some carrier) e each =
      cond_both (leb (delay_of p c) t && ltb (t - delay_of p c) h) (entries_handed_in p h records t c carrier (t - delay_of p c)) [] (All P)
      (λ test.
      let parts = and_parts (leb (delay_of p c) t) (ltb (t - delay_of p c) h) test in
      All-handed_in t c carrier (t - delay_of p c)
      (λ j due. each carrier j e (leb-true (delay_of p c) t parts.0) (ltb-true (t - delay_of p c) h parts.1) due))
      (λ _. All-nil P)

  pub All-entries_of : (t c : ℕ) → OfEach P p h records t c → All P (entries_of p h records t c)
  unfolding entries_of
  All-entries_of t c each = All-entries_by t c (slice_get p.carriers c) refl each

  All-entries_at : (t : ℕ) → ((c : ℕ) → OfEach P p h records t c) → All P (entries_at p h records t)
  unfolding entries_at
  All-entries_at t each = All-flat_map P (entries_of p h records t) 0 (length p.carriers) (λ c _ _. All-entries_of t c (each c))

  pub All-all_entries : ((t c : ℕ) → OfEach P p h records t c) → All P (all_entries p h records)
  All-all_entries each = All-flat_map P (entries_at p h records) 0 (ticks_of_run p h) (λ t _ _. All-entries_at t (each t))

module _ (test : Entry → Bool) (p : Plan) (h : ℕ) (records : List Record) where
  pub count_by-entries_of_none : (t c : ℕ) → OfEach (λ entry. test entry ≡ false) p h records t c → count_by test (entries_of p h records t c) ≡ 0
  count_by-entries_of_none t c each = count_by-none test (entries_of p h records t c) (All-entries_of (λ entry. test entry ≡ false) p h records t c each)

  -- the entries of a carrier at its delay after tick n
  entries_of-delayed : (c : ℕ) (carrier : Carrier) (n : ℕ) → slice_get p.carriers c ≡ Some carrier → n < h → entries_of p h records (n + delay_of p c) c ≡ entries_handed_in p h records (n + delay_of p c) c carrier n
  unfolding entries_of
  entries_of-delayed c carrier n read lt =
      let t = n + delay_of p c in
      let back : t - delay_of p c ≡ n = omega arith in
      let now = entries_handed_in p h records t c carrier (t - delay_of p c) in
      let run = and_from (leb (delay_of p c) t) (ltb (t - delay_of p c) h) (le-leb (delay_of p c) t (omega arith)) (lt-ltb (t - delay_of p c) h (omega arith)) in
      ap (entries_by p h records t c) read
      ∙ cond-true (leb (delay_of p c) t && ltb (t - delay_of p c) h) now [] run
      ∙ ap (entries_handed_in p h records t c carrier) back

  pub count_by-entries_of_one : (c : ℕ) (carrier : Carrier) (n j : ℕ) → slice_get p.carriers c ≡ Some carrier → n < h → IsDue p c n j
      → test (entry_of p h records (n + delay_of p c) c carrier j) ≡ true
      → ((i : ℕ) → (i ≡ j → ⊥) → test (entry_of p h records (n + delay_of p c) c carrier i) ≡ false)
      → count_by test (entries_of p h records (n + delay_of p c) c) ≡ 1
  count_by-entries_of_one c carrier n j read lt due passes fails =
      ap (count_by test) (entries_of-delayed c carrier n read lt)
      ∙ count_by-map_one test (entry_of p h records (n + delay_of p c) c carrier) (samples_before p c n) (samples_due p c n) j due.0 (omega (arith, due.0, due.1)) passes fails

  pub count_by-entries_at_one : (t c : ℕ) → c < length p.carriers → count_by test (entries_of p h records t c) ≡ 1
      → ((d : ℕ) → (d ≡ c → ⊥) → count_by test (entries_of p h records t d) ≡ 0) → count_by test (entries_at p h records t) ≡ 1
  unfolding entries_at
  count_by-entries_at_one t c lt one none = count_by-flat_map_one test (entries_of p h records t) 0 (length p.carriers) c (omega arith) (omega arith) one none

  pub count_by-entries_at_none : (t : ℕ) → ((d : ℕ) → count_by test (entries_of p h records t d) ≡ 0) → count_by test (entries_at p h records t) ≡ 0
  unfolding entries_at
  count_by-entries_at_none t none = count_by-flat_map_none test (entries_of p h records t) 0 (length p.carriers) (λ d _ _. none d)

  pub count_by-all_entries_one : (t : ℕ) → t < ticks_of_run p h → count_by test (entries_at p h records t) ≡ 1
      → ((u : ℕ) → (u ≡ t → ⊥) → count_by test (entries_at p h records u) ≡ 0) → count_by test (all_entries p h records) ≡ 1
  count_by-all_entries_one t lt one none = count_by-flat_map_one test (entries_at p h records) 0 (ticks_of_run p h) t (omega arith) (omega arith) one none

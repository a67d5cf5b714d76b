-- What is held of a packet, by the slot that it has.
use Rattle.std.proofs.Common.{◌≡◌, ◌≢◌, ◌==◌, ◌&&◌, nat_lt, ℕ, zero, suc, ◌+◌, ◌-◌, ◌%◌, ◌<◌, ◌≤◌, Bool, true, false, cond, List, [], ◌∷◌, length, get_or, filter_map, Option, Some, None, refl, arith, sym, ap, ◌∙◌, inl, inr}
use Rattle.std.specs.Cmp.{nat_cmp_total, unsigned_tied}
use Rattle.std.specs.FinMap.{from_entries, get, get-from_entries, len, len-empty, len-insert, contains_key}
use Rattle.std.specs.FinMap.Entries.{find}
use Rattle.std.specs.List.{range_with_len, cons_option}
use Rattle.std.specs.Ordering.{nat_cmp, eq_by_cmp}
use Rattle.std.proofs.lemmas.Bool.{cases_eq, cases_lt, eq-eqb, ne_eqb, lt-ltb, and_left}
use Rattle.std.proofs.lemmas.List.FromFn.{length-range_with_len}
use Rattle.std.proofs.lemmas.Nat.{mod_below}
use Rattle.playout_buffer.specs.declared.window.Window.{Window}
use Rattle.playout_buffer.specs.Held.{is_awaited}
use Rattle.playout_buffer.specs.Slots.{AreSlots, entry_in, held_in, payload_at}

-- the value of an entry, at its own key
abbrev keyed : ℕ → Option (ℕ × List ℕ) → Option (List ℕ)
keyed q None = None
keyed q (Some e) = cond (eq_by_cmp nat_cmp q e.0) (Some e.1) None

-- the first of two values
abbrev or_else : Option (List ℕ) → Option (List ℕ) → Option (List ℕ)
or_else None y = y
or_else (Some x) y = Some x

or_else-none : (x : Option (List ℕ)) → or_else x None ≡ x
or_else-none None = refl
or_else-none (Some x) = refl

one_or_rest : (b : Bool) (x : List ℕ) (y : Option (List ℕ)) → cond b (Some x) y ≡ or_else (cond b (Some x) None) y
one_or_rest true x y = refl
one_or_rest false x y = refl

find-cons_option : (q : ℕ) (e : Option (ℕ × List ℕ)) (es : List (ℕ × List ℕ)) → find nat_cmp q (cons_option e es) ≡ or_else (keyed q e) (find nat_cmp q es)
find-cons_option q None es = refl
find-cons_option q (Some e) es = one_or_rest (eq_by_cmp nat_cmp q e.0) e.1 (find nat_cmp q es)

-- a key that one number of a range has, or none
find-none : (f : ℕ → Option (ℕ × List ℕ)) (q a n : ℕ) → ((k : ℕ) → a ≤ k → k < a + n → keyed q (f k) ≡ None)
    → find nat_cmp q (filter_map f (range_with_len a n)) ≡ None
find-none f q a zero none = refl
find-none f q a (suc n) none =
    find-cons_option q (f a) (filter_map f (range_with_len (a + 1) n))
    ∙ ap (λ x. or_else x (find nat_cmp q (filter_map f (range_with_len (a + 1) n)))) (none a (omega arith) (omega arith))
    ∙ find-none f q (a + 1) n (λ k low high. none k (omega arith) (omega arith))

find-only : (f : ℕ → Option (ℕ × List ℕ)) (q a n p : ℕ) → a ≤ p → p < a + n → ((k : ℕ) → a ≤ k → k < a + n → k ≢ p → keyed q (f k) ≡ None)
    → find nat_cmp q (filter_map f (range_with_len a n)) ≡ keyed q (f p)
find-only f q a zero p low high none = absurd (omega arith)
find-only f q a (suc n) p low high none =
    let rest = filter_map f (range_with_len (a + 1) n) in
    elim (cases_eq a p) [
      | inl same ↦
          find-cons_option q (f a) rest
          ∙ ap (or_else (keyed q (f a))) (find-none f q (a + 1) n (λ k above below. none k (omega arith) (omega arith) (λ e. absurd (omega arith))))
          ∙ or_else-none (keyed q (f a)) ∙ ap (λ k. keyed q (f k)) same
      | inr other ↦
          find-cons_option q (f a) rest
          ∙ ap (λ x. or_else x (find nat_cmp q rest)) (none a (omega arith) (omega arith) other)
          ∙ find-only f q (a + 1) n p (omega arith) (omega arith) (λ k above below. none k (omega arith) (omega arith))
    ]

-- a number of a slot is one more than its packet's
keyed-other : (q n : ℕ) (b : Bool) (payload : List ℕ) → q ≢ n → keyed q (cond b (Some (n, payload)) None) ≡ None
keyed-other q n true payload differ = ap (λ b. cond b (Some payload) None) (unsigned_tied q n ∙ ne_eqb q n differ)
keyed-other q n false payload differ = refl

keyed-itself : (q : ℕ) (b : Bool) (payload : List ℕ) → keyed q (cond b (Some (q, payload)) None) ≡ cond b (Some payload) None
keyed-itself q true payload = ap (λ b. cond b (Some payload) None) (unsigned_tied q q ∙ eq-eqb q q refl)
keyed-itself q false payload = refl

module _ (w : Window) (t : ℕ) where
  entry_by : ℕ → List ℕ → Option (ℕ × List ℕ)
  entry_by number payload = cond (nat_lt 0 number && is_awaited w t (number - 1)) (Some (number - 1, payload)) None

  keyed-entry_other : (q number : ℕ) (payload : List ℕ) → number ≢ q + 1 → keyed q (entry_by number payload) ≡ None
  unfolding entry_by
  keyed-entry_other q number payload other =
      elim (cases_lt 0 number) [
        | inl some ↦ keyed-other q (number - 1) (nat_lt 0 number && is_awaited w t (number - 1)) payload (λ e. other (omega arith))
        | inr none ↦
            let zero_is : number ≡ 0 = omega arith in
            ap (λ n. keyed q (cond (nat_lt 0 n && is_awaited w t (number - 1)) (Some (number - 1, payload)) None)) zero_is
      ]

  keyed-entry_same : (q number : ℕ) (payload : List ℕ) → number ≡ q + 1 → keyed q (entry_by number payload) ≡ cond (is_awaited w t q) (Some payload) None
  unfolding entry_by
  keyed-entry_same q number payload same =
      let back : number - 1 ≡ q = omega arith in
      let some : nat_lt 0 number ≡ true = lt-ltb 0 number (omega arith) in
      ap (λ n. keyed q (cond (nat_lt 0 number && is_awaited w t n) (Some (n, payload)) None)) back
      ∙ ap (λ b. keyed q (cond (b && is_awaited w t q) (Some (q, payload)) None)) some
      ∙ keyed-itself q (is_awaited w t q) payload

  keyed-entry : (q number : ℕ) (payload : List ℕ) → keyed q (entry_by number payload) ≡ cond (number == q + 1 && is_awaited w t q) (Some payload) None
  keyed-entry q number payload =
      elim (cases_eq number (q + 1)) [
        | inl same ↦ keyed-entry_same q number payload same ∙ sym (ap (λ b. cond (b && is_awaited w t q) (Some payload) None) (eq-eqb number (q + 1) same))
        | inr other ↦ keyed-entry_other q number payload other ∙ sym (ap (λ b. cond b (Some payload) None) (and_left (number == q + 1) (is_awaited w t q) (ne_eqb number (q + 1) other)))
      ]

  module _ (numbers octets : List ℕ) where
    -- what the slot of packet q has of it
    abbrev pub in_own_slot : ℕ → Option (List ℕ)
    in_own_slot q = cond (get_or numbers (q % w.cap) 0 == q + 1 && is_awaited w t q) (Some (payload_at w octets (q % w.cap))) None

    pub get-held_in : AreSlots w t numbers octets → (q : ℕ) → get (held_in w t numbers octets) q ≡ in_own_slot q
    unfolding held_in entry_by
    get-held_in are q =
        let own : q % w.cap < w.cap = mod_below q w.cap (let some = are.window.some_room in omega arith) in
        get-from_entries nat_cmp_total _ q
        ∙ find-only (entry_in w t numbers octets) q 0 w.cap (q % w.cap) (omega arith) (omega arith)
        (λ k low high other. keyed-entry_other q (get_or numbers k 0) (payload_at w octets k) (λ same. other (sym (are.placed k q (omega arith) same).0)))
        ∙ keyed-entry q (get_or numbers (q % w.cap) 0) (payload_at w octets (q % w.cap))

-- ---- how many packets are held

length-cons_option : {X : Type 0} (x : Option X) (xs : List X) → length (cons_option x xs) ≤ length xs + 1
length-cons_option None xs = omega arith
length-cons_option (Some x) xs = omega arith

length-filter_map : {X Y : Type 0} (f : X → Option Y) (xs : List X) → length (filter_map f xs) ≤ length xs
length-filter_map f [] = omega arith
length-filter_map f (x ∷ xs) =
    let more = length-cons_option (f x) (filter_map f xs) in
    let rest = length-filter_map f xs in
    omega arith

one_at_most : (b : Bool) (n m : ℕ) → n ≤ m → cond b n (n + 1) ≤ m + 1
one_at_most true n m less = omega arith
one_at_most false n m less = omega arith

len-from_entries : (es : List (ℕ × List ℕ)) → len (from_entries {R = nat_cmp} es) ≤ length es
len-from_entries [] = let none = len-empty nat_cmp (List ℕ) in omega arith
len-from_entries (e ∷ es) =
    let more = len-insert nat_cmp_total (from_entries es) e.0 e.1 in
    let rest = one_at_most (contains_key (from_entries {R = nat_cmp} es) e.0) _ _ (len-from_entries es) in
    omega arith

pub len-held_in : (w : Window) (t : ℕ) (numbers octets : List ℕ) → len (held_in w t numbers octets) ≤ w.cap
unfolding held_in
len-held_in w t numbers octets =
    let entries = filter_map (entry_in w t numbers octets) (range_with_len 0 w.cap) in
    let a = len-from_entries entries in
    let b = length-filter_map (entry_in w t numbers octets) (range_with_len 0 w.cap) in
    let c = length-range_with_len 0 w.cap in
    omega arith

-- One more bit where no frame has begun.
use Rattle.std.proofs.Common.{◌≡◌, ℕ, suc, ◌%◌, ◌^◌, ◌<◌, ◌≤◌, Bool, true, false, cond, eqb, ◌⊎◌, inl, inr, List, [], ◌∷◌, ◌++◌, length, drop, Option, Some, None, refl, sym, ◌∙◌, ap, arith, lit<}
use Rattle.std.proofs.Math.Nat.{pow-le-pow_right}
use Rattle.std.proofs.lemmas.Bool.{cond-true, cond-false, ne_eqb, cases_lt, cases_eq}
use Rattle.std.proofs.lemmas.List.{length_push, drop_all}
use Rattle.ethernet_channel.specs.Codes.{number, start}
use Rattle.ethernet_channel.specs.Events.{begins_with, after_start}
use Rattle.ethernet_channel.proofs.Numbers.{number-below, number-mod, begins_with-number}
use Rattle.ethernet_channel.proofs.Readings.{begins_with-append, length-after_start}

length_start : length start ≡ 10
unfolding start
length_start = refl

pub number_start : number start ≡ 785
unfolding start
number_start = refl

-- whether the last ten bits are J K
abbrev pub is_started : List Bool → Bool
is_started bits = eqb (number bits % 1024) (number start)

abbrev pub started : List Bool → Option (List Bool)
started bits = cond (is_started bits) (Some []) None

-- no frame begins in fewer than ten bits
short_none : (bits : List Bool) (o : Option (List Bool)) → after_start bits ≡ o → length bits < 10 → after_start bits ≡ None
short_none bits None e h = e
short_none bits (Some rest) e h = absurd (omega (arith, length-after_start bits rest e))

low_powers : (n : ℕ) → n < 10 → 2 ^ n ≤ 512
low_powers n h = let below : n ≤ 9 = omega arith in pow-le-pow_right (lit< tt) below

short : (bits : List Bool) → length bits < 10 → after_start bits ≡ started bits
short bits h =
    let below : number bits < 512 = omega (arith, number-below bits, low_powers (length bits) h) in
    short_none bits (after_start bits) refl h
    ∙ sym (cond-false (is_started bits) (Some []) None (ne_eqb (number bits % 1024) (number start) (λ e. omega (arith, e, below, number_start))))

-- the same of the ten bits that end a list of ten
ten_by : (here : Bool) (bit : Bool) (bits : List Bool) → length bits ≡ 9 → eqb (number (bit ∷ bits)) (number start) ≡ here
    → cond (begins_with start (bit ∷ bits)) (Some (drop 10 (bit ∷ bits))) (after_start bits) ≡ cond here (Some []) None
ten_by true bit bits long e =
    let same : begins_with start (bit ∷ bits) ≡ true = begins_with-number start (bit ∷ bits) (omega (arith, long, length_start)) ∙ e in
    cond-true (begins_with start (bit ∷ bits)) (Some (drop 10 (bit ∷ bits))) (after_start bits) same
    ∙ ap Some (drop_all 10 (bit ∷ bits) (omega (arith, long)))
ten_by false bit bits long e =
    let other : begins_with start (bit ∷ bits) ≡ false = begins_with-number start (bit ∷ bits) (omega (arith, long, length_start)) ∙ e in
    cond-false (begins_with start (bit ∷ bits)) (Some (drop 10 (bit ∷ bits))) (after_start bits) other
    ∙ short_none bits (after_start bits) refl (omega (arith, long))

ten : (bit : Bool) (bits : List Bool) → length bits ≡ 9 → after_start (bit ∷ bits) ≡ started (bit ∷ bits)
ten bit bits long =
    let below : number (bit ∷ bits) < 1024 = omega (arith, number-below (bit ∷ bits), ap (λ n. 2 ^ suc n) long) in
    let same : number (bit ∷ bits) % 1024 ≡ number (bit ∷ bits) = omega (arith, below) in
    ten_by (eqb (number (bit ∷ bits)) (number start)) bit bits long refl
    ∙ ap (λ n. cond (eqb n (number start)) (Some []) None) (sym same)

none_here : (here : Bool) (x o : Option (List Bool)) (rest : List Bool) → x ≡ Some rest → cond here x o ≡ None → (here ≡ false) × (o ≡ None)
none_here true x o rest e h = absurd (cc)
none_here false x o rest e h = (refl, h)

-- one more bit after bits in which no frame has begun
pub after_start-push : (bits : List Bool) (bit : Bool) → after_start bits ≡ None → after_start (bits ++ bit ∷ []) ≡ started (bits ++ bit ∷ [])
after_start-push [] bit e = short (bit ∷ []) (omega arith)
after_start-push (first ∷ bits) bit e =
    let parts = none_here (begins_with start (first ∷ bits)) (Some (drop 10 (first ∷ bits))) (after_start bits) (drop 10 (first ∷ bits)) refl e in
    push_by first bits bit parts.0 (after_start-push bits bit parts.1) (cases_lt (length bits) 9) (cases_eq (length bits) 8)
  where
    push_by : (first : Bool) (bits : List Bool) (bit : Bool) → begins_with start (first ∷ bits) ≡ false
        → after_start (bits ++ bit ∷ []) ≡ started (bits ++ bit ∷ [])
        → (length bits < 9) ⊎ (9 ≤ length bits) → (length bits ≡ 8) ⊎ (length bits ≡ 8 → ⊥)
        → after_start ((first ∷ bits) ++ bit ∷ []) ≡ started ((first ∷ bits) ++ bit ∷ [])
    push_by first bits bit other later (inl few) (inl eight) = ten first (bits ++ bit ∷ []) (omega (arith, length_push bits bit))
    push_by first bits bit other later (inl few) (inr fewer) = short ((first ∷ bits) ++ bit ∷ []) (omega (arith, length_push bits bit, fewer))
    push_by first bits bit other later (inr many) eight =
        let test : begins_with start ((first ∷ bits) ++ bit ∷ []) ≡ false =
        begins_with-append start (first ∷ bits) (bit ∷ []) (omega (arith, length_start)) ∙ other in
        let last : number (first ∷ bits ++ bit ∷ []) % 1024 ≡ number (bits ++ bit ∷ []) % 1024 =
        number-mod 10 first (bits ++ bit ∷ []) (omega (arith, length_push bits bit)) in
        cond-false (begins_with start ((first ∷ bits) ++ bit ∷ [])) (Some (drop 10 ((first ∷ bits) ++ bit ∷ []))) (after_start (bits ++ bit ∷ [])) test
        ∙ later
        ∙ ap (λ n. cond (eqb n (number start)) (Some []) None) (sym last)

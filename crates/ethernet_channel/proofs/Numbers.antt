-- Bits as numbers.
use Rattle.std.proofs.Common.{◌≡◌, ℕ, suc, ◌+◌, ◌-◌, ◌*◌, ◌%◌, ◌^◌, ◌<◌, ◌≤◌, Bool, true, false, cond, eqb, ◌⊎◌, inl, inr, List, [], ◌∷◌, ◌++◌, length, refl, sym, ◌∙◌, ap, arith, length-append, zero-add, pow-add}
use Rattle.std.proofs.Math.Nat.{pow-succ', add-mul, mul-add-mod_self_right}
use Rattle.std.proofs.lemmas.Nat.{mod_low}
use Rattle.std.proofs.lemmas.Bool.{ne_eqb, eq-eqb, cases_eq}
use Rattle.ethernet_channel.specs.Codes.{number}
use Rattle.ethernet_channel.specs.Events.{begins_with}

-- a bit as a number
abbrev pub bit_number : Bool → ℕ
bit_number bit = cond bit 1 0

pow_more : (n : ℕ) → 2 ^ suc n ≡ 2 * 2 ^ n
pow_more n = pow-succ' 2 n

pub number-below : (bits : List Bool) → number bits < 2 ^ length bits
number-below [] = omega arith
number-below (true ∷ bits) = omega (arith, number-below bits, pow_more (length bits))
number-below (false ∷ bits) = omega (arith, number-below bits, pow_more (length bits))

pub number-append : (bits more : List Bool) → number (bits ++ more) ≡ number bits * 2 ^ length more + number more
number-append [] more = omega arith
number-append (true ∷ bits) more =
    let power : 2 ^ length (bits ++ more) ≡ 2 ^ length bits * 2 ^ length more = ap (λ n. 2 ^ n) (length-append bits more) ∙ pow-add 2 (length bits) (length more) in
    let here : (2 ^ length bits + number bits) * 2 ^ length more ≡ 2 ^ length bits * 2 ^ length more + number bits * 2 ^ length more =
    add-mul (2 ^ length bits) (number bits) (2 ^ length more) in
    omega (arith, number-append bits more, power, here)
number-append (false ∷ bits) more =
    let here : (0 + number bits) * 2 ^ length more ≡ number bits * 2 ^ length more = ap (λ n. n * 2 ^ length more) (zero-add (number bits)) in
    omega (arith, number-append bits more, here)

pub number-push : (bits : List Bool) (bit : Bool) → number (bits ++ bit ∷ []) ≡ 2 * number bits + bit_number bit
number-push bits true = omega (arith, number-append bits (true ∷ []))
number-push bits false = omega (arith, number-append bits (false ∷ []))

eqb_add : (n m a b : ℕ) → n ≡ m → (a ≡ b) ⊎ (a ≡ b → ⊥) → eqb a b ≡ eqb (n + a) (m + b)
eqb_add n m a b e (inl same) = eq-eqb a b same ∙ sym (eq-eqb (n + a) (m + b) (omega arith))
eqb_add n m a b e (inr other) = ne_eqb a b other ∙ sym (ne_eqb (n + a) (m + b) (λ h. other (omega arith)))

-- bits that are as many are the same where their numbers are
pub begins_with-number : (front bits : List Bool) → length front ≡ length bits → begins_with front bits ≡ eqb (number bits) (number front)
begins_with-number [] [] e = refl
begins_with-number [] (bit ∷ bits) e = absurd (omega arith)
begins_with-number (b ∷ front) [] e = absurd (omega arith)
begins_with-number (true ∷ front) (true ∷ bits) e =
    let short : length front ≡ length bits = omega arith in
    begins_with-number front bits short
    ∙ eqb_add (2 ^ length bits) (2 ^ length front) (number bits) (number front) (ap (λ n. 2 ^ n) (sym short)) (cases_eq (number bits) (number front))
begins_with-number (true ∷ front) (false ∷ bits) e =
    let short : length front ≡ length bits = omega arith in
    let power : 2 ^ length front ≡ 2 ^ length bits = ap (λ n. 2 ^ n) short in
    sym (ne_eqb (0 + number bits) (2 ^ length front + number front) (λ same. omega (arith, same, number-below bits, power)))
begins_with-number (false ∷ front) (true ∷ bits) e =
    let short : length front ≡ length bits = omega arith in
    let power : 2 ^ length front ≡ 2 ^ length bits = ap (λ n. 2 ^ n) short in
    sym (ne_eqb (2 ^ length bits + number bits) (0 + number front) (λ same. omega (arith, same, number-below front, power)))
begins_with-number (false ∷ front) (false ∷ bits) e =
    let short : length front ≡ length bits = omega arith in
    begins_with-number front bits short ∙ eqb_add 0 0 (number bits) (number front) refl (cases_eq (number bits) (number front))

-- ---- the last bits of a list

-- a longer list has the same last ten bits
pub number-mod : (n : ℕ) (bit : Bool) (bits : List Bool) → n ≤ length bits → number (bit ∷ bits) % 2 ^ n ≡ number bits % 2 ^ n
number-mod n true bits h =
    let power : 2 ^ length bits ≡ 2 ^ (length bits - n) * 2 ^ n =
    ap (λ k. 2 ^ k) (let split : length bits ≡ (length bits - n) + n = omega arith in split) ∙ pow-add 2 (length bits - n) n in
    ap (λ k. (k + number bits) % 2 ^ n) power ∙ mul-add-mod_self_right (2 ^ (length bits - n)) (2 ^ n) (number bits)
number-mod n false bits h = ap (λ k. k % 2 ^ n) (zero-add (number bits))

-- the last bits, as a number
pub number-last : (front part : List Bool) → number (front ++ part) % 2 ^ length part ≡ number part
number-last front part =
    ap (λ k. k % 2 ^ length part) (number-append front part) ∙ mod_low (number front) (length part) (number part) (number-below part)

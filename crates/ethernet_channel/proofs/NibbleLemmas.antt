-- Octets as nibbles.
use Rattle.std.proofs.Common.{◌≡◌, ℕ, zero, suc, ◌+◌, ◌*◌, ◌/◌, ◌%◌, ◌<◌, ◌≤◌, List, [], ◌∷◌, ◌++◌, length, take, set, get_or, length-take, refl, sym, ◌∙◌, ap, arith}
use Rattle.ethernet_channel.specs.Events.{octets_of}
use Rattle.ethernet_channel.specs.Nibbles.{nibbles_in}

-- twice a number, which computes at a successor
abbrev twice : ℕ → ℕ
twice zero = zero
twice (suc n) = suc (suc (twice n))

twice_is : (n : ℕ) → twice n ≡ 2 * n
twice_is zero = refl
twice_is (suc n) = omega (arith, twice_is n)

pub length-nibbles_in : (octets : List ℕ) → length (nibbles_in octets) ≡ 2 * length octets
length-nibbles_in [] = refl
length-nibbles_in (octet ∷ octets) = omega (arith, length-nibbles_in octets)

low_by : (octets : List ℕ) (k nibble : ℕ) → k < length octets → nibble < 16
    → take (suc (twice k)) (nibbles_in (set octets k nibble)) ≡ take (twice k) (nibbles_in octets) ++ nibble ∷ []
low_by [] k nibble within small = absurd (omega arith)
low_by (octet ∷ octets) zero nibble within small = let same : nibble % 16 ≡ nibble = omega arith in ap (λ n. n ∷ []) same
low_by (octet ∷ octets) (suc k) nibble within small =
    ap (λ rest. octet % 16 ∷ octet / 16 ∷ rest) (low_by octets k nibble (omega arith) small)

high_by : (octets : List ℕ) (k nibble d : ℕ) → k < length octets → nibble < 16
    → take (suc (suc (twice k))) (nibbles_in (set octets k (get_or octets k d % 16 + 16 * nibble)))
    ≡ take (suc (twice k)) (nibbles_in octets) ++ nibble ∷ []
high_by [] k nibble d within small = absurd (omega arith)
high_by (octet ∷ octets) zero nibble d within small =
    let low : (octet % 16 + 16 * nibble) % 16 ≡ octet % 16 = omega arith in
    let high : (octet % 16 + 16 * nibble) / 16 ≡ nibble = omega arith in
    rw (low, high) refl
high_by (octet ∷ octets) (suc k) nibble d within small =
    ap (λ rest. octet % 16 ∷ octet / 16 ∷ rest) (high_by octets k nibble d (omega arith) small)

pub take-nibbles_in-low : (octets : List ℕ) (count nibble : ℕ) → count < 2 * length octets → nibble < 16 → count % 2 ≡ 0
    → take (count + 1) (nibbles_in (set octets (count / 2) nibble)) ≡ take count (nibbles_in octets) ++ nibble ∷ []
take-nibbles_in-low octets count nibble within small even =
    let k = count / 2 in
    let same : twice k ≡ count = omega (arith, twice_is k) in
    let more : suc (twice k) ≡ count + 1 = omega arith in
    ap (λ n. take n (nibbles_in (set octets k nibble))) (sym more)
    ∙ low_by octets k nibble (omega arith) small
    ∙ ap (λ n. take n (nibbles_in octets) ++ nibble ∷ []) same

pub take-nibbles_in-high : (octets : List ℕ) (count nibble d : ℕ) → count < 2 * length octets → nibble < 16 → (count % 2 ≡ 0 → ⊥)
    → take (count + 1) (nibbles_in (set octets (count / 2) (get_or octets (count / 2) d % 16 + 16 * nibble)))
    ≡ take count (nibbles_in octets) ++ nibble ∷ []
take-nibbles_in-high octets count nibble d within small odd =
    let k = count / 2 in
    let same : suc (twice k) ≡ count = omega (arith, odd, twice_is k) in
    let more : suc (suc (twice k)) ≡ count + 1 = omega arith in
    ap (λ n. take n (nibbles_in (set octets k (get_or octets k d % 16 + 16 * nibble)))) (sym more)
    ∙ high_by octets k nibble d (omega arith) small
    ∙ ap (λ n. take n (nibbles_in octets) ++ nibble ∷ []) same

-- whole octets out of nibbles
octets_by : (octets : List ℕ) (k : ℕ) → (octets_of (take (twice k) (nibbles_in octets)) ≡ take k octets)
    × (octets_of (take (suc (twice k)) (nibbles_in octets)) ≡ take k octets)
octets_by [] zero = (refl, refl)
octets_by [] (suc k) = (refl, refl)
octets_by (octet ∷ octets) zero = (refl, refl)
octets_by (octet ∷ octets) (suc k) =
    let whole : octet % 16 + 16 * (octet / 16) ≡ octet = omega arith in
    let more = octets_by octets k in
    (rw (whole, more.0) refl, rw (whole, more.1) refl)

pub octets_of-take : (octets : List ℕ) (count : ℕ) → octets_of (take count (nibbles_in octets)) ≡ take (count / 2) octets
octets_of-take octets count = octets_at (count / 2) (count % 2) (omega arith) (omega arith)
  where
    octets_at : (k r : ℕ) → r < 2 → count ≡ 2 * k + r → octets_of (take count (nibbles_in octets)) ≡ take k octets
    octets_at k zero h e =
        let same : count ≡ twice k = omega (arith, twice_is k) in ap (λ n. octets_of (take n (nibbles_in octets))) same ∙ (octets_by octets k).0
    octets_at k (suc zero) h e =
        let same : count ≡ suc (twice k) = omega (arith, twice_is k) in ap (λ n. octets_of (take n (nibbles_in octets))) same ∙ (octets_by octets k).1
    octets_at k (suc (suc r)) h e = absurd (omega arith)

pub length-take-nibbles_in : (octets : List ℕ) (count : ℕ) → length octets ≡ 1522 → count ≤ 3044 → length (take count (nibbles_in octets)) ≡ count
length-take-nibbles_in octets count e h = omega (arith, e, length-take count (nibbles_in octets), length-nibbles_in octets)

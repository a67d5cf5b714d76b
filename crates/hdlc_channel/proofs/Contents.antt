-- Bits of numbers and of octets, one after another.
use Rattle.std.proofs.Common.{◌≡◌, ℕ, zero, suc, ◌+◌, ◌*◌, ◌/◌, ◌%◌, ◌^◌, ◌<◌, ◌≤◌, ◌==◌, Bool, List, [], ◌∷◌, ◌++◌, length, take, All, refl, ap, ◌∙◌, arith, append_assoc}
use Rattle.std.proofs.Math.Nat.{pow-suc}
use Rattle.std.proofs.lemmas.List.{length-append}
use Rattle.std.proofs.Math.Seq.{take-append-add}
use Rattle.std.proofs.lemmas.List.Elements.{All-head, All-tail}
use Rattle.hdlc_channel.specs.Bits.{low_bits, octet_bits, bits_of, octets_of}
use Rattle.hdlc_channel.proofs.Registers.{number_of-octet_bits}

pub length-low_bits : (k n : ℕ) → length (low_bits k n) ≡ k
unfolding low_bits
length-low_bits zero n = refl
length-low_bits (suc k) n = ap suc (length-low_bits k (n / 2))

pub length-bits_of : (octets : List ℕ) → length (bits_of octets) ≡ 8 * length octets
length-bits_of [] = refl
length-bits_of (x ∷ octets) =
    let e = length-append (octet_bits x) (bits_of octets) in
    let eight = length-low_bits 8 x in
    let rest = length-bits_of octets in
    omega arith

-- bits and those above them
pub low_bits-joined : (j k p d : ℕ) → p < 2 ^ j → low_bits (j + k) (p + d * 2 ^ j) ≡ low_bits j p ++ low_bits k d
unfolding low_bits
low_bits-joined zero k p d h =
    let same : p + d * 1 ≡ d = omega arith in
    let e : 0 + k ≡ k = omega arith in
    rw e (ap (low_bits k) same)
low_bits-joined (suc j) k p d h =
    let e : suc j + k ≡ suc (j + k) = omega arith in
    let twice : d * 2 ^ suc j ≡ 2 * (d * 2 ^ j) = ap (λ x. d * x) (pow-suc 2 j) ∙ omega arith in
    let even : (p + d * 2 ^ suc j) % 2 ≡ p % 2 = omega (arith, twice) in
    let half : (p + d * 2 ^ suc j) / 2 ≡ p / 2 + d * 2 ^ j = omega (arith, twice) in
    let less : p / 2 < 2 ^ j = let q = pow-suc 2 j in omega arith in
    rw e
    (ap (λ x. (x == 1) ∷ low_bits (j + k) ((p + d * 2 ^ suc j) / 2)) even ∙ ap (λ x. (p % 2 == 1) ∷ low_bits (j + k) x) half
    ∙ ap (λ xs. (p % 2 == 1) ∷ xs) (low_bits-joined j k (p / 2) d less))

-- the first octet of bits, and the others
pub low_bits-octet : (k n : ℕ) → low_bits (8 + k) n ≡ octet_bits (n % 256) ++ low_bits k (n / 256)
low_bits-octet k n =
    let whole : n ≡ n % 256 + n / 256 * 2 ^ 8 = omega arith in
    ap (low_bits (8 + k)) whole ∙ low_bits-joined 8 k (n % 256) (n / 256) (omega arith)

pub octets_of-bits_of : (octets : List ℕ) → All (λ x. x < 256) octets → octets_of (bits_of octets) ≡ octets
unfolding octets_of low_bits
octets_of-bits_of [] small = refl
octets_of-bits_of (x ∷ octets) small =
    ap (λ y. y ∷ octets_of (bits_of octets)) (number_of-octet_bits x (All-head (λ y. y < 256) x octets small))
    ∙ ap (λ ys. x ∷ ys) (octets_of-bits_of octets (All-tail (λ y. y < 256) x octets small))

pub take-bits_of : (k : ℕ) (octets : List ℕ) (rest : List Bool) → k ≤ length octets → take (8 * k) (bits_of octets ++ rest) ≡ bits_of (take k octets)
take-bits_of zero octets rest h = refl
take-bits_of (suc k) [] rest h = absurd (omega arith)
take-bits_of (suc k) (x ∷ octets) rest h =
    let e : 8 * suc k ≡ length (octet_bits x) + 8 * k = let eight = length-low_bits 8 x in omega arith in
    ap (λ n. take n (bits_of (x ∷ octets) ++ rest)) e
    ∙ ap (take (length (octet_bits x) + 8 * k)) (append_assoc (octet_bits x) (bits_of octets) rest)
    ∙ take-append-add (octet_bits x) (bits_of octets ++ rest) (8 * k)
    ∙ ap (λ xs. octet_bits x ++ xs) (take-bits_of k octets rest (omega arith))

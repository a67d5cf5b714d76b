-- The register after an octet, by a table of what eight bits that are 0 make of its low octet.
use Rattle.std.proofs.Common.{◌≡◌, ℕ, zero, suc, ◌+◌, ◌*◌, ◌/◌, ◌%◌, ◌^◌, ◌<◌, ◌==◌, if◌then◌else◌, Bool, true, false, List, [], ◌∷◌, ◌++◌, length, get_or, drop, refl, sym, ap, ◌∙◌, arith, bit_xor}
use Rattle.std.specs.Int.Bits.{xor_assoc, xor_zero_r, xor_zero_l}
use Rattle.std.proofs.lemmas.Nat.{xor_comm, xor_shr, xor_mod, xor_block}
use Rattle.std.proofs.lemmas.Bool.{agree_below, agree_below_at, eqb-true}
use Rattle.std.proofs.Math.Nat.{pow-suc}
use Rattle.std.proofs.lemmas.List.{drop_more}
use Rattle.hdlc_channel.specs.Bits.{low_bits, octet_bits, bits_of, number_of}
use Rattle.hdlc_channel.specs.Fcs.{divided, register_step, register_after, moved_on}
use Rattle.hdlc_channel.specs.declared.fcs.TheConstants.{REGISTERS}

-- ---- an exclusive or in the higher bits moves down

divided-xor : (x y : ℕ) → divided (bit_xor x (2 * y)) ≡ bit_xor (divided x) y
unfolding divided
divided-xor x y =
    let half : 2 * y / 2 ≡ y = omega arith in
    let even : 2 * y % 2 ≡ 0 = omega arith in
    let G : ℕ → ℕ = λ r. if r == 1 then 0x8408 else 0 in
    let low : bit_xor x (2 * y) % 2 ≡ x % 2 = xor_mod x (2 * y) 1 ∙ ap (bit_xor (x % 2)) even ∙ xor_zero_r (x % 2) in
    let high : bit_xor x (2 * y) / 2 ≡ bit_xor (x / 2) y = xor_shr x (2 * y) 1 ∙ ap (bit_xor (x / 2)) half in
    ap (λ r. bit_xor (bit_xor x (2 * y) / 2) (G r)) low
    ∙ ap (λ r. bit_xor r (G (x % 2))) high
    ∙ xor_assoc (x / 2) y (G (x % 2)) ∙ ap (bit_xor (x / 2)) (xor_comm y (G (x % 2))) ∙ sym (xor_assoc (x / 2) (G (x % 2)) y)

moved_on-xor : (n x y : ℕ) → moved_on n (bit_xor x (2 ^ n * y)) ≡ bit_xor (moved_on n x) y
unfolding moved_on
moved_on-xor zero x y = ap (bit_xor x) (let e : 1 * y ≡ y = omega arith in e)
moved_on-xor (suc n) x y =
    let twice : 2 ^ suc n * y ≡ 2 * (2 ^ n * y) = ap (λ p. p * y) (pow-suc 2 n) ∙ omega arith in
    ap (λ m. moved_on n (divided (bit_xor x m))) twice ∙ ap (moved_on n) (divided-xor x (2 ^ n * y)) ∙ moved_on-xor n (divided x) y

-- a lowest bit and the others
joined : (b : Bool) (m : ℕ) → (if b then 1 else 0) + 2 * m ≡ bit_xor (if b then 1 else 0) (2 * m)
joined true m = let e = xor_block 1 0 m 1 0 (omega arith) (omega arith) in let z : bit_xor 0 m ≡ m = xor_zero_l m in
    let left : bit_xor 1 (2 * m) ≡ bit_xor (0 * 2 ^ 1 + 1) (m * 2 ^ 1 + 0) = ap (bit_xor 1) (omega arith) in
    sym (left ∙ e ∙ ap (λ q. q * 2 ^ 1 + 1) z ∙ omega arith)
joined false m = let e : bit_xor 0 (2 * m) ≡ 2 * m = xor_zero_l (2 * m) in omega arith

pub register_after-is : (bits : List Bool) (r : ℕ) → register_after r bits ≡ moved_on (length bits) (bit_xor r (number_of bits))
unfolding register_after register_step moved_on number_of
register_after-is [] r = sym (xor_zero_r r)
register_after-is (b ∷ bits) r =
    let bit = if b then 1 else 0 in
    let all : bit_xor r (bit + 2 * number_of bits) ≡ bit_xor (bit_xor r bit) (2 * number_of bits) =
    ap (bit_xor r) (joined b (number_of bits)) ∙ sym (xor_assoc r bit (2 * number_of bits)) in
    register_after-is bits (divided (bit_xor r bit))
    ∙ ap (moved_on (length bits)) (sym (divided-xor (bit_xor r bit) (number_of bits)) ∙ ap divided (sym all))

-- ---- the table

entry_is : ℕ → Bool
entry_is low = get_or REGISTERS low 0 == moved_on 8 low

entries_are : agree_below entry_is (λ low. true) 256 ≡ true
unfolding entry_is moved_on divided
entries_are = refl

pub entry : (low : ℕ) → low < 256 → get_or REGISTERS low 0 ≡ moved_on 8 low
unfolding entry_is
entry low h = eqb-true (get_or REGISTERS low 0) (moved_on 8 low) (agree_below_at entry_is (λ k. true) 256 low entries_are h)

octet_is : ℕ → Bool
octet_is octet = number_of (octet_bits octet) == octet

octets_are : agree_below octet_is (λ octet. true) 256 ≡ true
unfolding octet_is number_of low_bits
octets_are = refl

pub number_of-octet_bits : (octet : ℕ) → octet < 256 → number_of (octet_bits octet) ≡ octet
unfolding octet_is
number_of-octet_bits octet h = eqb-true (number_of (octet_bits octet)) octet (agree_below_at octet_is (λ k. true) 256 octet octets_are h)

pub length-octet_bits : (octet : ℕ) → length (octet_bits octet) ≡ 8
unfolding low_bits
length-octet_bits octet = refl

-- ---- an octet at once

pub register_after-octet : (r octet : ℕ) → octet < 256 → register_after r (octet_bits octet) ≡ bit_xor (moved_on 8 (bit_xor r octet % 256)) (r / 256)
register_after-octet r octet h =
    let x = bit_xor r octet in
    let none : octet / 256 ≡ 0 = omega arith in
    let high : x / 256 ≡ r / 256 = xor_shr r octet 8 ∙ ap (bit_xor (r / 256)) none ∙ xor_zero_r (r / 256) in
    let left : bit_xor (0 * 2 ^ 8 + x % 256) ((x / 256) * 2 ^ 8 + 0) ≡ bit_xor 0 (x / 256) * 2 ^ 8 + bit_xor (x % 256) 0 =
    xor_block 8 0 (x / 256) (x % 256) 0 (omega arith) (omega arith) in
    let apart : x ≡ bit_xor (x % 256) (2 ^ 8 * (x / 256)) =
    let low : 0 * 2 ^ 8 + x % 256 ≡ x % 256 = omega arith in
    let up : (x / 256) * 2 ^ 8 + 0 ≡ 2 ^ 8 * (x / 256) = omega arith in
    let sum : bit_xor (x % 256) (2 ^ 8 * (x / 256)) ≡ (x / 256) * 2 ^ 8 + x % 256 =
    ap (λ a. bit_xor a (2 ^ 8 * (x / 256))) (sym low) ∙ ap (bit_xor (0 * 2 ^ 8 + x % 256)) (sym up) ∙ left
    ∙ ap (λ a. a * 2 ^ 8 + bit_xor (x % 256) 0) (xor_zero_l (x / 256)) ∙ ap (λ a. (x / 256) * 2 ^ 8 + a) (xor_zero_r (x % 256)) in
    omega (arith, sum) in
    register_after-is (octet_bits octet) r
    ∙ ap (λ n. moved_on n (bit_xor r (number_of (octet_bits octet)))) (length-octet_bits octet)
    ∙ ap (λ n. moved_on 8 (bit_xor r n)) (number_of-octet_bits octet h)
    ∙ ap (moved_on 8) apart ∙ moved_on-xor 8 (x % 256) (x / 256) ∙ ap (bit_xor (moved_on 8 (x % 256))) high

pub register_after-append : (xs ys : List Bool) (r : ℕ) → register_after r (xs ++ ys) ≡ register_after (register_after r xs) ys
unfolding register_after
register_after-append [] ys r = refl
register_after-append (b ∷ xs) ys r = register_after-append xs ys (register_step r b)

-- one more octet is taken
pub one_octet_more : (octets : List ℕ) (i r r' whole : ℕ) → i < length octets → r' ≡ register_after r (octet_bits (get_or octets i 0))
    → register_after r (bits_of (drop i octets)) ≡ whole → register_after r' (bits_of (drop (i + 1) octets)) ≡ whole
one_octet_more octets i r r' whole h next before =
    ap (λ x. register_after x (bits_of (drop (i + 1) octets))) next
    ∙ sym (register_after-append (octet_bits (get_or octets i 0)) (bits_of (drop (i + 1) octets)) r)
    ∙ ap (λ xs. register_after r (bits_of xs)) (sym (drop_more octets i 0 h)) ∙ before

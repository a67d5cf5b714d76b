-- Bits of numbers, the lowest first.
use Rattle.std.proofs.Common.{◌≡◌, ℕ, zero, suc, ◌+◌, ◌-◌, ◌*◌, ◌/◌, ◌%◌, ◌^◌, ◌<◌, ◌≤◌, eqb, ◌∷◌, ◌++◌, length, refl, sym, ◌∙◌, ap, arith, pow-add, Fits, w32, lit<}
use Rattle.std.proofs.Math.Nat.{pow-succ', mul-le-mul_right, pow-le-pow_right}
use Rattle.std.proofs.lemmas.Nat.{shl_whole}
use Rattle.ethernet_channel.specs.Bits.{low_bits}

pub length-low_bits : (k n : ℕ) → length (low_bits k n) ≡ k
unfolding low_bits
length-low_bits zero n = refl
length-low_bits (suc k) n = ap suc (length-low_bits k (n / 2))

twice_product : (code c : ℕ) → code * 2 ^ suc c ≡ 2 * (code * 2 ^ c)
twice_product code c = grind (arith, pow-succ' 2 c)

-- bits with others above them
pub low_bits-add : (c k b code : ℕ) → b < 2 ^ c → low_bits (c + k) (b + code * 2 ^ c) ≡ low_bits c b ++ low_bits k code
unfolding low_bits
low_bits-add zero k b code h =
    let count : 0 + k ≡ k = omega arith in
    let none : b + code * 2 ^ 0 ≡ code = omega (arith, h) in
    ap (λ m. low_bits m (b + code * 2 ^ 0)) count ∙ ap (low_bits k) none
low_bits-add (suc c) k b code h =
    let count : suc c + k ≡ suc (c + k) = omega arith in
    let product = twice_product code c in
    let low : (b + code * 2 ^ suc c) % 2 ≡ b % 2 = omega (arith, product) in
    let high : (b + code * 2 ^ suc c) / 2 ≡ b / 2 + code * 2 ^ c = omega (arith, product) in
    let half : b / 2 < 2 ^ c = omega (arith, h, pow-succ' 2 c) in
    ap (λ m. low_bits m (b + code * 2 ^ suc c)) count
    ∙ ap (λ n. eqb n 1 ∷ low_bits (c + k) ((b + code * 2 ^ suc c) / 2)) low
    ∙ ap (λ n. eqb (b % 2) 1 ∷ low_bits (c + k) n) high
    ∙ ap (λ xs. eqb (b % 2) 1 ∷ xs) (low_bits-add c k (b / 2) code half)

-- a shift of a few bits loses none
pub shifted : (code count k : ℕ) → code < 2 ^ count → count ≤ 15 → k < 8 → code * 2 ^ k % 4294967296 ≡ code * 2 ^ k
shifted code count k small few short = shl_whole code count k 32 small (omega arith)

pub sum_below : (b code c k : ℕ) → b < 2 ^ c → code < 2 ^ k → b + code * 2 ^ c < 2 ^ (c + k)
sum_below b code c k small small' =
    let power : 2 ^ (c + k) ≡ 2 ^ c * 2 ^ k = pow-add 2 c k in
    let most : suc code * 2 ^ c ≤ 2 ^ k * 2 ^ c = mul-le-mul_right (2 ^ c) small' in
    grind (arith, power, most, small)

-- the octet at the low end
pub split_octet : (count bits : ℕ) → 8 ≤ count → low_bits count bits ≡ low_bits 8 (bits % 256) ++ low_bits (count - 8) (bits / 256)
split_octet count bits h =
    let all : 8 + (count - 8) ≡ count = omega arith in
    let whole : bits % 256 + bits / 256 * 256 ≡ bits = omega arith in
    let small : bits % 256 < 256 = omega arith in
    sym (ap (λ n. low_bits n (bits % 256 + bits / 256 * 256)) all ∙ ap (low_bits count) whole) ∙ low_bits-add 8 (count - 8) (bits % 256) (bits / 256) small

pub octet_below : (count bits : ℕ) → 8 ≤ count → bits < 2 ^ count → bits / 256 < 2 ^ (count - 8)
octet_below count bits h small =
    let all : (count - 8) + 8 ≡ count = omega arith in
    let power : 2 ^ count ≡ 2 ^ (count - 8) * 256 = ap (λ n. 2 ^ n) (sym all) ∙ pow-add 2 (count - 8) 8 in
    omega (arith, power, small)

pub sum_fits : (b code c k : ℕ) → b < 2 ^ c → code < 2 ^ k → k ≤ 15 → c < 8 → Fits w32 (b + code * 2 ^ c % 4294967296)
sum_fits b code c k small small' few short =
    let below = sum_below b code c k small small' in
    let most : 2 ^ (c + k) ≤ 2 ^ 22 = pow-le-pow_right (lit< tt) (let h : c + k ≤ 22 = omega arith in h) in
    let same = shifted code k c small' few short in
    omega (arith, below, most, same)

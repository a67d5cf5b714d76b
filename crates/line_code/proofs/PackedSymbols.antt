-- Symbols in octets, bit by bit and piece by piece.
use Rattle.std.proofs.Common.{◌≡◌, ℕ, zero, suc, ◌+◌, ◌-◌, ◌*◌, ◌/◌, ◌%◌, ◌^◌, ◌<◌, ◌≤◌, List, [], ◌∷◌, ◌++◌, length, get_or, map, refl, sym, ◌∙◌, ap, arith, ⊎_elim, append_assoc}
use Rattle.std.specs.Prelude.{All}
use Rattle.std.specs.Int.{bit_at}
use Rattle.std.proofs.lemmas.Bool.{cases_lt}
use Rattle.std.proofs.lemmas.Nat.{shr-shr, shr_split}
use Rattle.std.proofs.lemmas.Nat.Bits.{bit_at-zero, bit_at_cat_low, bit_at_cat_high}
use Rattle.std.proofs.lemmas.List.Elements.{All-head, All-tail}
use Rattle.link_base.specs.Bits.{bit_of}
use Rattle.line_code.specs.declared.characters.Symbol.{Symbol}
use Rattle.line_code.specs.Packed.{word_of, four_symbols, symbols_in}

-- the number of octets, the first lowest
number_in : List ℕ → ℕ
number_in [] = 0
number_in (octet ∷ octets) = octet + 256 * number_in octets

low_bit : (a r j : ℕ) → j < 8 → bit_at (a + 256 * r) j ≡ bit_at a j
low_bit a r j h = ap (λ n. bit_at n j) (omega arith) ∙ bit_at_cat_low r 8 a j h

high_bit : (a r j : ℕ) → a < 256 → 8 ≤ j → bit_at (a + 256 * r) j ≡ bit_at r (j - 8)
high_bit a r j small h = ap (λ n. bit_at n j) (omega arith) ∙ bit_at_cat_high r 8 a j small h

first_bit : (a j : ℕ) (octets : List ℕ) → j < 8 → bit_at a j ≡ bit_of (a ∷ octets) j
first_bit a j octets h =
    let octet : j / 8 ≡ 0 = omega arith in
    let place : j % 8 ≡ j = omega arith in
    sym (ap (λ n. bit_at (get_or (a ∷ octets) n 0) (j % 8)) octet ∙ ap (bit_at a) place)

later_bit : (a j : ℕ) (octets : List ℕ) → 8 ≤ j → bit_of octets (j - 8) ≡ bit_of (a ∷ octets) j
later_bit a j octets h =
    let octet : j / 8 ≡ suc ((j - 8) / 8) = omega arith in
    let place : j % 8 ≡ (j - 8) % 8 = omega arith in
    sym (ap (λ n. bit_at (get_or (a ∷ octets) n 0) (j % 8)) octet ∙ ap (bit_at (get_or octets ((j - 8) / 8) 0)) place)

bit_in : (octets : List ℕ) (j : ℕ) → All (λ octet. octet < 256) octets → bit_at (number_in octets) j ≡ bit_of octets j
unfolding number_in
bit_in [] j small = bit_at-zero j ∙ sym (bit_at-zero (j % 8))
bit_in (a ∷ octets) j small =
    ⊎_elim
    (λ h. low_bit a (number_in octets) j h ∙ first_bit a j octets h)
    (λ h. high_bit a (number_in octets) j (All-head (λ octet. octet < 256) a octets small) h
    ∙ bit_in octets (j - 8) (All-tail (λ octet. octet < 256) a octets small) ∙ later_bit a j octets h)
    (cases_lt j 8)

-- of octets with more behind them, the bits from the first forty on
number_in-append : (a b c d e : ℕ) (octets : List ℕ) → number_in (a ∷ b ∷ c ∷ d ∷ e ∷ octets) ≡ word_of a b c d e + 1099511627776 * number_in octets
unfolding number_in
number_in-append a b c d e octets = omega arith

word_bit : (a b c d e : ℕ) (octets : List ℕ) (j : ℕ) → All (λ octet. octet < 256) (a ∷ b ∷ c ∷ d ∷ e ∷ octets) → j < 40
    → bit_at (word_of a b c d e) j ≡ bit_of (a ∷ b ∷ c ∷ d ∷ e ∷ octets) j
word_bit a b c d e octets j small h =
    sym (bit_at_cat_low (number_in octets) 40 (word_of a b c d e) j h)
    ∙ ap (λ n. bit_at n j) (omega arith ∙ sym (number_in-append a b c d e octets))
    ∙ bit_in (a ∷ b ∷ c ∷ d ∷ e ∷ octets) j small

-- ---- a symbol of four

symbol_bit : (word k i : ℕ) → i < 10 → bit_at (word / 2 ^ k % 1024) i ≡ bit_at word (k + i)
symbol_bit word k i h =
    let n = word / 2 ^ k in
    sym (bit_at_cat_low (n / 1024) 10 (n % 1024) i h) ∙ ap (λ m. bit_at m i) (shr_split n 10) ∙ ap (λ m. m % 2) (shr-shr word k i)

first_symbol : (word i : ℕ) → i < 10 → bit_at (word % 1024) i ≡ bit_at word i
first_symbol word i h = sym (bit_at_cat_low (word / 1024) 10 (word % 1024) i h) ∙ ap (λ m. bit_at m i) (shr_split word 10)

four_bits : (word k i : ℕ) (rest : List ℕ) → k < 4 → i < 10 → bit_at (get_or (four_symbols word ++ rest) k 0) i ≡ bit_at word (10 * k + i)
four_bits word zero i rest k-low h = first_symbol word i h ∙ ap (bit_at word) (omega arith)
four_bits word (suc zero) i rest k-low h = symbol_bit word 10 i h
four_bits word (suc (suc zero)) i rest k-low h = symbol_bit word 20 i h
four_bits word (suc (suc (suc zero))) i rest k-low h = symbol_bit word 30 i h
four_bits word (suc (suc (suc (suc k)))) i rest k-low h = absurd (omega arith)

-- ---- any symbol

pub length-symbols_in : (octets : List ℕ) → length (symbols_in octets) ≡ 4 * (length octets / 5)
unfolding symbols_in
length-symbols_in (a ∷ b ∷ c ∷ d ∷ e ∷ octets) = omega (arith, length-symbols_in octets)
length-symbols_in (a ∷ b ∷ c ∷ d ∷ []) = refl
length-symbols_in (a ∷ b ∷ c ∷ []) = refl
length-symbols_in (a ∷ b ∷ []) = refl
length-symbols_in (a ∷ []) = refl
length-symbols_in [] = refl

five_on : (a b c d e : ℕ) (octets : List ℕ) (j : ℕ) → 40 ≤ j → bit_of octets (j - 40) ≡ bit_of (a ∷ b ∷ c ∷ d ∷ e ∷ octets) j
five_on a b c d e octets j h =
    let octet : j / 8 ≡ suc (suc (suc (suc (suc ((j - 40) / 8))))) = omega arith in
    let place : j % 8 ≡ (j - 40) % 8 = omega arith in
    sym (ap (λ n. bit_at (get_or (a ∷ b ∷ c ∷ d ∷ e ∷ octets) n 0) (j % 8)) octet ∙ ap (bit_at (get_or octets ((j - 40) / 8) 0)) place)

four_on : (word k : ℕ) (rest : List ℕ) → 4 ≤ k → get_or (four_symbols word ++ rest) k 0 ≡ get_or rest (k - 4) 0
four_on word k rest h = let e : k ≡ suc (suc (suc (suc (k - 4)))) = omega arith in ap (λ n. get_or (four_symbols word ++ rest) n 0) e

pub bit_of_symbol : (octets : List ℕ) (k i : ℕ) → All (λ octet. octet < 256) octets → k < 4 * (length octets / 5) → i < 10
    → bit_at (get_or (symbols_in octets) k 0) i ≡ bit_of octets (10 * k + i)
unfolding symbols_in
bit_of_symbol (a ∷ b ∷ c ∷ d ∷ e ∷ octets) k i small within h =
    let P : ℕ → Type 0 = λ octet. octet < 256 in
    let rest = All-tail P e octets (All-tail P d (e ∷ octets) (All-tail P c (d ∷ e ∷ octets) (All-tail P b (c ∷ d ∷ e ∷ octets) (All-tail P a (b ∷ c ∷ d ∷ e ∷ octets) small)))) in
    ⊎_elim
    (λ low. four_bits (word_of a b c d e) k i (symbols_in octets) low h ∙ word_bit a b c d e octets (10 * k + i) small (omega arith))
    (λ high. ap (λ n. bit_at n i) (four_on (word_of a b c d e) k (symbols_in octets) high)
    ∙ bit_of_symbol octets (k - 4) i rest (omega arith) h
    ∙ ap (bit_of octets) (omega arith)
    ∙ five_on a b c d e octets (10 * k + i) (omega arith))
    (cases_lt k 4)
bit_of_symbol (a ∷ b ∷ c ∷ d ∷ []) k i small within h = absurd (omega arith)
bit_of_symbol (a ∷ b ∷ c ∷ []) k i small within h = absurd (omega arith)
bit_of_symbol (a ∷ b ∷ []) k i small within h = absurd (omega arith)
bit_of_symbol (a ∷ []) k i small within h = absurd (omega arith)
bit_of_symbol [] k i small within h = absurd (omega arith)

-- ---- piece by piece

pub symbols_in-append : (groups rest : List ℕ) → length groups % 5 ≡ 0 → symbols_in (groups ++ rest) ≡ symbols_in groups ++ symbols_in rest
unfolding symbols_in
symbols_in-append (a ∷ b ∷ c ∷ d ∷ e ∷ groups) rest h =
    ap (λ s. four_symbols (word_of a b c d e) ++ s) (symbols_in-append groups rest (omega arith))
    ∙ sym (append_assoc (four_symbols (word_of a b c d e)) (symbols_in groups) (symbols_in rest))
symbols_in-append (a ∷ b ∷ c ∷ d ∷ []) rest h = absurd (omega arith)
symbols_in-append (a ∷ b ∷ c ∷ []) rest h = absurd (omega arith)
symbols_in-append (a ∷ b ∷ []) rest h = absurd (omega arith)
symbols_in-append (a ∷ []) rest h = absurd (omega arith)
symbols_in-append [] rest h = refl

-- ---- the octets of four symbols

pub symbols_in-word : (a b c d e word : ℕ) → word_of a b c d e ≡ word → symbols_in (a ∷ b ∷ c ∷ d ∷ e ∷ []) ≡ four_symbols word
unfolding symbols_in
symbols_in-word a b c d e word same = ap four_symbols same

pub octets_of_word : (word : ℕ) → word < 1099511627776
    → word_of (word % 256) (word / 256 % 256) (word / 256 / 256 % 256) (word / 256 / 256 / 256 % 256) (word / 256 / 256 / 256 / 256) ≡ word
octets_of_word word h = omega arith

pub symbols_of_word : (p q r s : ℕ) → p < 1024 → q < 1024 → r < 1024 → s < 1024
    → four_symbols (p + 1024 * q + 1048576 * (r + 1024 * s)) ≡ p ∷ q ∷ r ∷ s ∷ []
symbols_of_word p q r s hp hq hr hs =
    let word = p + 1024 * q + 1048576 * (r + 1024 * s) in
    let one : word % 1024 ≡ p = omega arith in
    let two : word / 1024 % 1024 ≡ q = omega arith in
    let three : word / 1048576 % 1024 ≡ r = omega arith in
    let four : word / 1073741824 % 1024 ≡ s = omega arith in
    ap (λ n. n ∷ word / 1024 % 1024 ∷ word / 1048576 % 1024 ∷ word / 1073741824 % 1024 ∷ []) one
    ∙ ap (λ n. p ∷ n ∷ word / 1048576 % 1024 ∷ word / 1073741824 % 1024 ∷ []) two
    ∙ ap (λ n. p ∷ q ∷ n ∷ word / 1073741824 % 1024 ∷ []) three
    ∙ ap (λ n. p ∷ q ∷ r ∷ n ∷ []) four

pub bits_of_four : (symbols : List Symbol) (a b c d : Symbol) → length symbols ≡ 4
    → (get_or symbols 0 a).bits ∷ (get_or symbols 1 b).bits ∷ (get_or symbols 2 c).bits ∷ (get_or symbols 3 d).bits ∷ [] ≡ map (λ (sym : Symbol). sym.bits) symbols
bits_of_four (p ∷ q ∷ r ∷ s ∷ []) a b c d h = refl
bits_of_four (p ∷ q ∷ r ∷ s ∷ t ∷ more) a b c d h = absurd (omega arith)
bits_of_four (p ∷ q ∷ r ∷ []) a b c d h = absurd (omega arith)
bits_of_four (p ∷ q ∷ []) a b c d h = absurd (omega arith)
bits_of_four (p ∷ []) a b c d h = absurd (omega arith)
bits_of_four [] a b c d h = absurd (omega arith)

pub symbols_of_octets : (p q r s word : ℕ) → p < 1024 → q < 1024 → r < 1024 → s < 1024 → word ≡ p + 1024 * q + 1048576 * (r + 1024 * s)
    → symbols_in (word % 256 ∷ word / 256 % 256 ∷ word / 256 / 256 % 256 ∷ word / 256 / 256 / 256 % 256 ∷ word / 256 / 256 / 256 / 256 ∷ []) ≡ p ∷ q ∷ r ∷ s ∷ []
symbols_of_octets p q r s word hp hq hr hs is =
    symbols_in-word (word % 256) (word / 256 % 256) (word / 256 / 256 % 256) (word / 256 / 256 / 256 % 256) (word / 256 / 256 / 256 / 256) word
    (octets_of_word word (omega arith))
    ∙ ap four_symbols is ∙ symbols_of_word p q r s hp hq hr hs

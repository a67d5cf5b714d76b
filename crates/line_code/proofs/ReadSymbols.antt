-- Symbols that are read from octets, one group of four after another.
use Rattle.std.proofs.Common.{◌≡◌, ℕ, zero, suc, ◌+◌, ◌*◌, ◌/◌, ◌%◌, ◌<◌, ◌≤◌, List, [], ◌∷◌, ◌++◌, length, drop, get_or, refl, sym, ◌∙◌, ap, arith, length-drop, length-append, add-zero, take}
use Rattle.std.proofs.lemmas.List.{get_or-drop, get_or-append-add}
use Rattle.std.proofs.Math.Seq.{drop-drop}
use Rattle.line_code.specs.declared.characters.Rd.{Rd}
use Rattle.line_code.specs.Code.{disparity_by_ones}
use Rattle.line_code.specs.Packed.{word_at, four_symbols, sixteen_symbols, symbols_in}
use Rattle.line_code.specs.Decoded.{violations_in, disparity_along}

word_at-drop : (octets : List ℕ) (at : ℕ) → word_at (drop at octets) 0 ≡ word_at octets at
word_at-drop octets at = simp (get_or-drop {A = ℕ}, add-zero) refl

four_of : (octets : List ℕ) → 5 ≤ length octets → symbols_in octets ≡ four_symbols (word_at octets 0) ++ symbols_in (drop 5 octets)
unfolding symbols_in
four_of (a ∷ b ∷ c ∷ d ∷ e ∷ octets) h = refl
four_of (a ∷ b ∷ c ∷ d ∷ []) h = absurd (omega arith)
four_of (a ∷ b ∷ c ∷ []) h = absurd (omega arith)
four_of (a ∷ b ∷ []) h = absurd (omega arith)
four_of (a ∷ []) h = absurd (omega arith)
four_of [] h = absurd (omega arith)

few_none : (octets : List ℕ) → length octets < 5 → symbols_in octets ≡ []
unfolding symbols_in
few_none (a ∷ b ∷ c ∷ d ∷ e ∷ octets) h = absurd (omega arith)
few_none (a ∷ b ∷ c ∷ d ∷ []) h = refl
few_none (a ∷ b ∷ c ∷ []) h = refl
few_none (a ∷ b ∷ []) h = refl
few_none (a ∷ []) h = refl
few_none [] h = refl

-- the symbols of what is left, by the next five octets
pub four_more : (octets : List ℕ) (at : ℕ) → at + 5 ≤ length octets
    → symbols_in (drop at octets) ≡ four_symbols (word_at octets at) ++ symbols_in (drop (at + 5) octets)
four_more octets at h =
    four_of (drop at octets) (omega (arith, length-drop at octets))
    ∙ ap (λ w. four_symbols w ++ symbols_in (drop 5 (drop at octets))) (word_at-drop octets at)
    ∙ ap (λ rest. four_symbols (word_at octets at) ++ symbols_in rest) (drop-drop 5 at octets)

pub none_left : (octets : List ℕ) (at : ℕ) → length octets < at + 5 → symbols_in (drop at octets) ≡ []
none_left octets at h = few_none (drop at octets) (omega (arith, length-drop at octets))

pub violations_in-append : (rd : Rd) (a b : List ℕ) → violations_in rd (a ++ b) ≡ violations_in rd a + violations_in (disparity_along rd a) b
unfolding violations_in disparity_along
violations_in-append rd [] b = omega arith
violations_in-append rd (bits ∷ a) b = omega (arith, violations_in-append (disparity_by_ones rd bits) a b)

pub disparity_along-append : (rd : Rd) (a b : List ℕ) → disparity_along rd (a ++ b) ≡ disparity_along (disparity_along rd a) b
unfolding disparity_along
disparity_along-append rd [] b = refl
disparity_along-append rd (bits ∷ a) b = disparity_along-append (disparity_by_ones rd bits) a b

-- ---- a loop over groups of five octets

pub violations_more : (octets : List ℕ) (at count : ℕ) (all : ℕ) (rd next : Rd) (count' : ℕ) → at + 5 ≤ length octets
    → all ≡ count + violations_in rd (symbols_in (drop at octets))
    → count' ≡ count + violations_in rd (four_symbols (word_at octets at)) → next ≡ disparity_along rd (four_symbols (word_at octets at))
    → all ≡ count' + violations_in next (symbols_in (drop (at + 5) octets))
violations_more octets at count all rd next count' h e c n =
    let four = four_symbols (word_at octets at) in
    let split : violations_in rd (symbols_in (drop at octets)) ≡ violations_in rd four + violations_in next (symbols_in (drop (at + 5) octets)) =
    ap (violations_in rd) (four_more octets at h) ∙ violations_in-append rd four (symbols_in (drop (at + 5) octets))
    ∙ ap (λ r. violations_in rd four + violations_in r (symbols_in (drop (at + 5) octets))) (sym n) in
    omega (arith, e, c, split)

pub disparity_more : (octets : List ℕ) (at : ℕ) (all rd next : Rd) → at + 5 ≤ length octets
    → all ≡ disparity_along rd (symbols_in (drop at octets)) → next ≡ disparity_along rd (four_symbols (word_at octets at))
    → all ≡ disparity_along next (symbols_in (drop (at + 5) octets))
disparity_more octets at all rd next h e n =
    e ∙ ap (disparity_along rd) (four_more octets at h) ∙ disparity_along-append rd (four_symbols (word_at octets at)) (symbols_in (drop (at + 5) octets))
    ∙ ap (λ r. disparity_along r (symbols_in (drop (at + 5) octets))) (sym n)

pub violations_end : (octets : List ℕ) (at count all : ℕ) (rd : Rd) → length octets < at + 5
    → all ≡ count + violations_in rd (symbols_in (drop at octets)) → count ≡ all
unfolding violations_in
violations_end octets at count all rd h e =
    let none : violations_in rd (symbols_in (drop at octets)) ≡ 0 = ap (violations_in rd) (none_left octets at h) in omega (arith, e, none)

pub disparity_end : (octets : List ℕ) (at : ℕ) (all rd : Rd) → length octets < at + 5
    → all ≡ disparity_along rd (symbols_in (drop at octets)) → rd ≡ all
unfolding disparity_along
disparity_end octets at all rd h e = sym (e ∙ ap (disparity_along rd) (none_left octets at h))

-- ---- a loop over twenties of octets

four_next : (octets : List ℕ) (at next : ℕ) → next ≡ at + 5 → next ≤ length octets
    → symbols_in (drop at octets) ≡ four_symbols (word_at octets at) ++ symbols_in (drop next octets)
four_next octets at next e h = four_more octets at (omega (arith, e, h)) ∙ ap (λ n. four_symbols (word_at octets at) ++ symbols_in (drop n octets)) (sym e)

sixteen_more : (octets : List ℕ) (at : ℕ) → at + 20 ≤ length octets → symbols_in (drop at octets) ≡ sixteen_symbols octets at ++ symbols_in (drop (at + 20) octets)
sixteen_more octets at h =
    let f0 = four_symbols (word_at octets at) in
    let f1 = four_symbols (word_at octets (at + 5)) in
    let f2 = four_symbols (word_at octets (at + 10)) in
    four_next octets at (at + 5) refl (omega arith)
    ∙ ap (λ s. f0 ++ s) (four_next octets (at + 5) (at + 10) (omega arith) (omega arith))
    ∙ ap (λ s. f0 ++ (f1 ++ s)) (four_next octets (at + 10) (at + 15) (omega arith) (omega arith))
    ∙ ap (λ s. f0 ++ (f1 ++ (f2 ++ s))) (four_next octets (at + 15) (at + 20) (omega arith) (omega arith))

pub violations_sixteen : (octets : List ℕ) (at count all : ℕ) (rd next : Rd) (count' : ℕ) → at + 20 ≤ length octets
    → all ≡ count + violations_in rd (symbols_in (drop at octets))
    → count' ≡ count + violations_in rd (sixteen_symbols octets at) → next ≡ disparity_along rd (sixteen_symbols octets at)
    → all ≡ count' + violations_in next (symbols_in (drop (at + 20) octets))
violations_sixteen octets at count all rd next count' h e c n =
    let sixteen = sixteen_symbols octets at in
    let rest = symbols_in (drop (at + 20) octets) in
    let split : violations_in rd (symbols_in (drop at octets)) ≡ violations_in rd sixteen + violations_in next rest =
    ap (violations_in rd) (sixteen_more octets at h) ∙ violations_in-append rd sixteen rest ∙ ap (λ r. violations_in rd sixteen + violations_in r rest) (sym n) in
    omega (arith, e, c, split)

pub disparity_sixteen : (octets : List ℕ) (at : ℕ) (all rd next : Rd) → at + 20 ≤ length octets
    → all ≡ disparity_along rd (symbols_in (drop at octets)) → next ≡ disparity_along rd (sixteen_symbols octets at)
    → all ≡ disparity_along next (symbols_in (drop (at + 20) octets))
disparity_sixteen octets at all rd next h e n =
    e ∙ ap (disparity_along rd) (sixteen_more octets at h) ∙ disparity_along-append rd (sixteen_symbols octets at) (symbols_in (drop (at + 20) octets))
    ∙ ap (λ r. disparity_along r (symbols_in (drop (at + 20) octets))) (sym n)

-- ---- pieces one after another

pub record Reads (rd next : Rd) (count count' : ℕ) (symbols : List ℕ) : Type 0 where
  pub violations : count' ≡ count + violations_in rd symbols
  pub disparity : next ≡ disparity_along rd symbols

pub reads_both : (rd middle next : Rd) (count count' count'' : ℕ) (a b : List ℕ) → Reads rd middle count count' a → Reads middle next count' count'' b → Reads rd next count count'' (a ++ b)
reads_both rd middle next count count' count'' a b h k = record {
  violations = omega (arith, h.violations, k.violations, violations_in-append rd a b, ap (λ r. violations_in r b) h.disparity);
  disparity = k.disparity ∙ ap (λ r. disparity_along r b) h.disparity ∙ sym (disparity_along-append rd a b);
}

pub reads_four : (rd next : Rd) (count count' word same : ℕ) → word ≡ same → count' ≡ count + violations_in rd (four_symbols word) → next ≡ disparity_along rd (four_symbols word)
    → Reads rd next count count' (four_symbols same)
reads_four rd next count count' word same e c n = record {
  violations = c ∙ ap (λ w. count + violations_in rd (four_symbols w)) e;
  disparity = n ∙ ap (λ w. disparity_along rd (four_symbols w)) e;
}

-- ---- the symbol at a place

-- the symbol at a place among four
unfoldable pub quarter : ℕ → ℕ → ℕ
quarter word zero = word % 1024
quarter word (suc zero) = word / 1024 % 1024
quarter word (suc (suc zero)) = word / 1048576 % 1024
quarter word (suc (suc (suc n))) = word / 1073741824 % 1024

within_four : (word place : ℕ) (rest : List ℕ) → place < 4 → get_or (four_symbols word ++ rest) place 0 ≡ quarter word place
unfolding quarter
within_four word zero rest h = refl
within_four word (suc zero) rest h = refl
within_four word (suc (suc zero)) rest h = refl
within_four word (suc (suc (suc zero))) rest h = refl
within_four word (suc (suc (suc (suc n)))) rest h = absurd (omega arith)

past_four : (word place : ℕ) (rest : List ℕ) → get_or (four_symbols word ++ rest) (4 + place) 0 ≡ get_or rest place 0
past_four word place rest = get_or-append-add (four_symbols word) rest place 0

pub symbol_in : (octets : List ℕ) (group place : ℕ) → place < 4 → 5 * group + 5 ≤ length octets
    → get_or (symbols_in octets) (4 * group + place) 0 ≡ quarter (word_at octets (5 * group)) place
symbol_in octets zero place h long =
    ap (λ n. get_or (symbols_in octets) n 0) (omega arith)
    ∙ ap (λ s. get_or s place 0) (four_of octets (omega arith)) ∙ within_four (word_at octets 0) place (symbols_in (drop 5 octets)) h
    ∙ ap (λ n. quarter (word_at octets n) place) (omega arith)
symbol_in octets (suc group) place h long =
    let rest = drop 5 octets in
    let here : get_or (symbols_in octets) (4 * suc group + place) 0 ≡ get_or (symbols_in rest) (4 * group + place) 0 =
    ap (λ s. get_or s (4 * suc group + place) 0) (four_of octets (omega arith))
    ∙ ap (λ n. get_or (four_symbols (word_at octets 0) ++ symbols_in rest) n 0) (omega arith)
    ∙ past_four (word_at octets 0) (4 * group + place) (symbols_in rest) in
    let later : get_or (symbols_in rest) (4 * group + place) 0 ≡ quarter (word_at rest (5 * group)) place =
    symbol_in rest group place h (omega (arith, length-drop 5 octets)) in
    let same : word_at rest (5 * group) ≡ word_at octets (5 * suc group) =
    sym (word_at-drop rest (5 * group)) ∙ ap (λ s. word_at s 0) (drop-drop (5 * group) 5 octets ∙ ap (λ n. drop n octets) (omega arith)) ∙ word_at-drop octets (5 * suc group) in
    here ∙ later ∙ ap (λ w. quarter w place) same

-- ---- the first symbols

pub many_symbols : (octets : List ℕ) (groups : ℕ) → 5 * groups ≤ length octets → 4 * groups ≤ length (symbols_in octets)
many_symbols octets zero h = omega arith
many_symbols octets (suc groups) h =
    let rest = drop 5 octets in
    let split : length (symbols_in octets) ≡ 4 + length (symbols_in rest) =
    ap length (four_of octets (omega arith)) ∙ length-append (four_symbols (word_at octets 0)) (symbols_in rest) in
    omega (arith, split, many_symbols rest groups (omega (arith, length-drop 5 octets)))

-- the symbols of one group more
pub first_symbols : (octets : List ℕ) (group : ℕ) → 5 * group + 5 ≤ length octets
    → take (4 * group + 4) (symbols_in octets) ≡ take (4 * group) (symbols_in octets) ++ four_symbols (word_at octets (5 * group))
first_symbols octets zero h =
    let four = four_symbols (word_at octets 0) in
    let now : symbols_in octets ≡ four ++ symbols_in (drop 5 octets) = four_of octets h in
    let start : 4 * zero + 4 ≡ 4 = omega arith in
    let none : 4 * zero ≡ 0 = omega arith in
    let place : 5 * zero ≡ 0 = omega arith in
    let left : take (4 * zero + 4) (symbols_in octets) ≡ four = ap (λ n. take n (symbols_in octets)) start ∙ ap (take 4) now in
    let right : take (4 * zero) (symbols_in octets) ++ four_symbols (word_at octets (5 * zero)) ≡ four =
    ap (λ n. take n (symbols_in octets) ++ four_symbols (word_at octets (5 * zero))) none ∙ ap (λ n. four_symbols (word_at octets n)) place in
    left ∙ sym right
first_symbols octets (suc group) h =
    let rest = drop 5 octets in
    let four = four_symbols (word_at octets 0) in
    let now : symbols_in octets ≡ four ++ symbols_in rest = four_of octets (omega arith) in
    let word = four_symbols (word_at octets (5 * suc group)) in
    let same : word_at rest (5 * group) ≡ word_at octets (5 * suc group) =
    sym (word_at-drop rest (5 * group)) ∙ ap (λ s. word_at s 0) (drop-drop (5 * group) 5 octets ∙ ap (λ n. drop n octets) (omega arith)) ∙ word_at-drop octets (5 * suc group) in
    let long : 4 * suc group + 4 ≡ suc (suc (suc (suc (4 * group + 4)))) = omega arith in
    let short : 4 * suc group ≡ suc (suc (suc (suc (4 * group)))) = omega arith in
    let left : take (4 * suc group + 4) (symbols_in octets) ≡ four ++ take (4 * group + 4) (symbols_in rest) =
    ap (λ n. take n (symbols_in octets)) long ∙ ap (take (suc (suc (suc (suc (4 * group + 4)))))) now in
    let right : take (4 * suc group) (symbols_in octets) ++ word ≡ (four ++ take (4 * group) (symbols_in rest)) ++ word =
    ap (λ n. take n (symbols_in octets) ++ word) short ∙ ap (λ s. take (suc (suc (suc (suc (4 * group))))) s ++ word) now in
    let more : take (4 * group + 4) (symbols_in rest) ≡ take (4 * group) (symbols_in rest) ++ word =
    first_symbols rest group (omega (arith, length-drop 5 octets)) ∙ ap (λ w. take (4 * group) (symbols_in rest) ++ four_symbols w) same in
    left ∙ ap (λ s. four ++ s) more ∙ sym right

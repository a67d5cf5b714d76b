-- Octets that carry given symbols.
use Rattle.std.proofs.Common.{◌≡◌, ℕ, zero, suc, ◌+◌, ◌*◌, ◌/◌, ◌%◌, ◌<◌, List, [], ◌∷◌, ◌++◌, length, All, refl, ap, ◌∙◌, arith}
use Rattle.std.proofs.lemmas.List.Elements.{All-cons, All-head, All-nil, All-tail}
use Rattle.line_code.proofs.PackedSymbols.{symbols_in-append, symbols_of_octets}
use Rattle.line_code.specs.Packed.{symbols_in}

-- each symbol has ten bits
abbrev pub AreSymbols : List ℕ → Type 0
AreSymbols symbols = All (λ bits. bits < 1024) symbols

-- the octets of n groups of four symbols
pub record HasSymbols (n : ℕ) (symbols octets : List ℕ) : Type 0 where
  pub size : length octets ≡ 5 * n
  pub small : All (λ octet. octet < 256) octets
  pub same : symbols_in octets ≡ symbols

no_symbols : symbols_in [] ≡ []
unfolding symbols_in
no_symbols = refl

-- four symbols before the others
module _ (n p q r s : ℕ) (symbols octets : List ℕ) (p_small : p < 1024) (q_small : q < 1024) (r_small : r < 1024) (s_small : s < 1024) (others : HasSymbols n symbols octets) where
  abbrev word : ℕ
  word = p + 1024 * q + 1048576 * (r + 1024 * s)

  abbrev five : List ℕ
  five = word % 256 ∷ word / 256 % 256 ∷ word / 256 / 256 % 256 ∷ word / 256 / 256 / 256 % 256 ∷ word / 256 / 256 / 256 / 256 ∷ []

  five_small : All (λ octet. octet < 256) (five ++ octets)
  five_small =
      let S : ℕ → Type 0 = λ k. k < 256 in
      let b = word / 256 % 256 in
      let c = word / 256 / 256 % 256 in
      let d = word / 256 / 256 / 256 % 256 in
      let e = word / 256 / 256 / 256 / 256 in
      let last : e < 256 = omega arith in
      All-cons S (word % 256) (b ∷ c ∷ d ∷ e ∷ octets) (omega arith)
      (All-cons S b (c ∷ d ∷ e ∷ octets) (omega arith)
      (All-cons S c (d ∷ e ∷ octets) (omega arith)
      (All-cons S d (e ∷ octets) (omega arith)
      (All-cons S e octets last others.small))))

  four_more : HasSymbols (suc n) (p ∷ q ∷ r ∷ s ∷ symbols) (five ++ octets)
  four_more = record {
    size = omega (arith, others.size);
    small = five_small;
    same = symbols_in-append five octets refl ∙ ap (λ first. first ++ symbols_in octets) (symbols_of_octets p q r s word p_small q_small r_small s_small refl) ∙ ap (λ rest. p ∷ q ∷ r ∷ s ∷ rest) others.same;
  }

pub octets_of : (n : ℕ) (symbols : List ℕ) → length symbols ≡ 4 * n → AreSymbols symbols → (octets : List ℕ) × HasSymbols n symbols octets
octets_of zero [] size small = ([], record { size = omega arith; small = All-nil (λ octet. octet < 256); same = no_symbols })
octets_of (suc n) (p ∷ q ∷ r ∷ s ∷ symbols) size small =
    let S : ℕ → Type 0 = λ bits. bits < 1024 in
    let after_p = All-tail S p (q ∷ r ∷ s ∷ symbols) small in
    let after_q = All-tail S q (r ∷ s ∷ symbols) after_p in
    let after_r = All-tail S r (s ∷ symbols) after_q in
    let after_s = All-tail S s symbols after_r in
    let others = octets_of n symbols (omega arith) after_s in (
      five n p q r s symbols others.0 (All-head S p (q ∷ r ∷ s ∷ symbols) small) (All-head S q (r ∷ s ∷ symbols) after_p) (All-head S r (s ∷ symbols) after_q) (All-head S s symbols after_r) others.1 ++ others.0,
      four_more n p q r s symbols others.0 (All-head S p (q ∷ r ∷ s ∷ symbols) small) (All-head S q (r ∷ s ∷ symbols) after_p) (All-head S r (s ∷ symbols) after_q) (All-head S s symbols after_r) others.1,
    )
octets_of zero (p ∷ symbols) size small = absurd (omega arith)
octets_of (suc n) [] size small = absurd (omega arith)
octets_of (suc n) (p ∷ []) size small = absurd (omega arith)
octets_of (suc n) (p ∷ q ∷ []) size small = absurd (omega arith)
octets_of (suc n) (p ∷ q ∷ r ∷ []) size small = absurd (omega arith)

-- The IQ bits of a container in pieces.
use Rattle.std.proofs.Common.{◌≡◌, ℕ, ◌+◌, ◌-◌, ◌<◌, ◌≤◌, zero, suc, List, [], ◌∷◌, length, Any, All, take, ap, arith, refl, sym, subst, ◌∙◌, inl, inr}
use Rattle.std.specs.List.{AllPairs}
use Rattle.std.proofs.lemmas.Bool.{cases_lt, lt-ltb, le-ltb}
use Rattle.std.proofs.lemmas.List.Sums.{sum_by-cons}
use Rattle.carrier_plan.specs.declared.plan.Piece.{Piece}
use Rattle.plan_checker.specs.Container.{IsInPiece, SharesNoBit, SharesNoPiece, pieces_size}
use Rattle.plan_checker.specs.Place.{iq_bit}
use Rattle.plan_checker.specs.Laws.{BitsStandInPieces, StandsInPiece}

low_bit : (p : Piece) (ps : List Piece) (b : ℕ) → b < p.size → iq_bit (p ∷ ps) b ≡ p.start + b
low_bit p ps b low = rw (lt-ltb b p.size low) refl

high_bit : (p : Piece) (ps : List Piece) (b : ℕ) → p.size ≤ b → iq_bit (p ∷ ps) b ≡ iq_bit ps (b - p.size)
high_bit p ps b high = rw (le-ltb b p.size high) refl

size-cons : (p : Piece) (ps : List Piece) → pieces_size (p ∷ ps) ≡ p.size + pieces_size ps
size-cons p ps = sum_by-cons (λ (q : Piece). q.size) p ps

-- a bit of the container is a bit of one of its pieces
pub in_pieces : (ps : List Piece) (b : ℕ) → b < pieces_size ps → Any (IsInPiece (iq_bit ps b)) ps
in_pieces [] b lt = absurd (omega arith)
in_pieces (p ∷ ps) b lt =
    elim (cases_lt b p.size) [
      | inl low ↦ subst (λ x. Any (IsInPiece x) (p ∷ ps)) (sym (low_bit p ps b low)) (zero, p, omega arith, refl, (omega arith, omega arith))
      | inr high ↦
          let rest = in_pieces ps (b - p.size) (omega (arith, size-cons p ps)) in
          subst (λ x. Any (IsInPiece x) (p ∷ ps)) (sym (high_bit p ps b high)) (suc rest.0, rest.1, omega arith, rest.3, rest.4)
    ]

-- no bit of the first piece is one of those after it
first_apart : (p : Piece) (ps : List Piece) (b d : ℕ) → All (SharesNoBit p) ps → b < p.size → p.size ≤ d → d < pieces_size (p ∷ ps) → ¬ (iq_bit (p ∷ ps) b ≡ iq_bit (p ∷ ps) d)
first_apart p ps b d apart low high lt e =
    let other = in_pieces ps (d - p.size) (omega (arith, size-cons p ps)) in
    let same : p.start + b ≡ iq_bit ps (d - p.size) = sym (low_bit p ps b low) ∙ e ∙ high_bit p ps d high in
    let here : IsInPiece (iq_bit ps (d - p.size)) p = (omega arith, omega arith) in
    let there = subst (IsInPiece (iq_bit ps (d - p.size))) (sym other.3) other.4 in
    (apart other.0 other.1 other.2).apart (iq_bit ps (d - p.size)) here there

-- bits of a container in separate pieces stand apart
pub distinct_bits : (ps : List Piece) (b d : ℕ) → AllPairs SharesNoBit ps → b < pieces_size ps → d < pieces_size ps → iq_bit ps b ≡ iq_bit ps d → b ≡ d
distinct_bits [] b d apart lt-b lt-d e = absurd (omega arith)
distinct_bits (p ∷ ps) b d apart lt-b lt-d e =
    let first : All (SharesNoBit p) ps = λ j x lt. apart 0 (suc j) x (omega arith) (omega arith) in
    let later : AllPairs SharesNoBit ps = λ i j x less lt. apart (suc i) (suc j) x (omega arith) (omega arith) in
    elim (cases_lt b p.size) [
      | inl low-b ↦ elim (cases_lt d p.size) [
        | inl low-d ↦ let same : p.start + b ≡ p.start + d = sym (low_bit p ps b low-b) ∙ e ∙ low_bit p ps d low-d in omega arith
        | inr high-d ↦ absurd (first_apart p ps b d first low-b high-d lt-d e)
      ]
      | inr high-b ↦ elim (cases_lt d p.size) [
        | inl low-d ↦ absurd (first_apart p ps d b first low-d high-b lt-b (sym e))
        | inr high-d ↦
            let same : iq_bit ps (b - p.size) ≡ iq_bit ps (d - p.size) = sym (high_bit p ps b high-b) ∙ e ∙ high_bit p ps d high-d in
            let rest = distinct_bits ps (b - p.size) (d - p.size) later (omega (arith, size-cons p ps)) (omega (arith, size-cons p ps)) same in
            omega arith
      ]
    ]

-- no bit stands in the pieces of two containers that share none
pub pieces_apart : (xs ys : List Piece) (x : ℕ) → SharesNoPiece xs ys → Any (IsInPiece x) xs → ¬ Any (IsInPiece x) ys
pieces_apart xs ys x apart a b =
    (apart.apart a.0 a.1 a.2 b.0 b.1 b.2).apart x (subst (IsInPiece x) (sym a.3) a.4) (subst (IsInPiece x) (sym b.3) b.4)

stands_later : (p : Piece) (ps : List Piece) (b : ℕ) → p.size ≤ b → StandsInPiece ps (b - p.size) (iq_bit ps (b - p.size)) → StandsInPiece (p ∷ ps) b (iq_bit (p ∷ ps) b)
stands_later p ps b high rest =
    let sizes = size-cons p (take rest.place ps) in
    let after = rest.after in
    let before = rest.before in
    let there : rest.piece.start + (b - p.size - pieces_size (take rest.place ps)) ≡ rest.piece.start + (b - (p.size + pieces_size (take rest.place ps))) = omega arith in
    record {
      place = suc rest.place;
      piece = rest.piece;
      there = rest.there;
      after = omega (arith, sizes);
      before = omega (arith, sizes);
      is = high_bit p ps b high ∙ (rest.is ∙ (there ∙ ap (λ z. rest.piece.start + (b - z)) (sym sizes)));
    }

pub BitsStandInPieces-holds : BitsStandInPieces
BitsStandInPieces-holds [] b lt = absurd (omega arith)
BitsStandInPieces-holds (p ∷ ps) b lt =
    elim (cases_lt b p.size) [
      | inl low ↦ record { place = 0; piece = p; there = refl; after = omega arith; before = omega arith; is = low_bit p ps b low ∙ omega arith }
      | inr high ↦ stands_later p ps b high (BitsStandInPieces-holds ps (b - p.size) (omega (arith, size-cons p ps)))
    ]

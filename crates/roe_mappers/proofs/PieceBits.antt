-- The IQ bits of a container in pieces.
use Rattle.std.proofs.Common.{◌≡◌, ℕ, ◌+◌, ◌-◌, ◌<◌, ◌≤◌, List, [], ◌∷◌, ◌++◌, length, take, drop, get_or, Any, Contains, refl, sym, ap, subst, ◌∙◌, inl, inr, arith, length-append}
use Rattle.std.specs.List.{AllPairs, flat_map}
use Rattle.std.proofs.lemmas.Bool.{cases_lt, lt-ltb, le-ltb}
use Rattle.std.proofs.lemmas.List.{get_or-append_right, get_or_append_left, get_or_default, take-append-drop}
use Rattle.std.proofs.lemmas.List.Concat.{flat_map-append}
use Rattle.std.proofs.lemmas.List.FromFn.{get_or-range_with_len, length-range_with_len}
use Rattle.std.proofs.lemmas.List.Sums.{sum_by-cons}
use Rattle.carrier_plan.specs.declared.plan.Piece.{Piece}
use Rattle.plan_checker.specs.Container.{IsInPiece, SharesNoBit, pieces_size}
use Rattle.plan_checker.specs.Place.{iq_bit}
use Rattle.plan_checker.proofs.IqBits.{distinct_bits, in_pieces}
use Rattle.roe_mappers.specs.CarriedBits.{bits_of_piece}
use Rattle.roe_mappers.proofs.Moving.{AreApart, flat_map-take_more}

pub size-cons : (p : Piece) (ps : List Piece) → pieces_size (p ∷ ps) ≡ p.size + pieces_size ps
size-cons p ps = sum_by-cons (λ (q : Piece). q.size) p ps

pub length-bits_of_piece : (p : Piece) → length (bits_of_piece p) ≡ p.size
length-bits_of_piece p = length-range_with_len p.start p.size

pub length-bits_of_pieces : (ps : List Piece) → length (flat_map bits_of_piece ps) ≡ pieces_size ps
length-bits_of_pieces [] = refl
length-bits_of_pieces (p ∷ ps) = omega (arith, length-append (bits_of_piece p) (flat_map bits_of_piece ps), length-bits_of_piece p, length-bits_of_pieces ps, size-cons p ps)

-- bit b of the container is the IQ bit in place b of these
pub bit_of_pieces : (ps : List Piece) (b : ℕ) → b < pieces_size ps → get_or (flat_map bits_of_piece ps) b 0 ≡ iq_bit ps b
bit_of_pieces [] b lt = absurd (omega arith)
bit_of_pieces (p ∷ ps) b lt =
    let long = length-bits_of_piece p in
    let size = size-cons p ps in
    elim (cases_lt b p.size) [
      | inl low ↦
          get_or_append_left (bits_of_piece p) (flat_map bits_of_piece ps) 0 b (omega arith)
          ∙ get_or-range_with_len p.start p.size b 0 low
          ∙ (rw (lt-ltb b p.size low) refl)
      | inr high ↦
          get_or-append_right (bits_of_piece p) (flat_map bits_of_piece ps) p.size b 0 long high
          ∙ bit_of_pieces ps (b - p.size) (omega arith)
          ∙ (rw (le-ltb b p.size high) refl)
    ]

-- the bits of separate pieces are distinct
pub distinct_in_pieces : (ps : List Piece) (i j : ℕ) → AllPairs SharesNoBit ps → i < length (flat_map bits_of_piece ps) → j < length (flat_map bits_of_piece ps)
    → get_or (flat_map bits_of_piece ps) i 0 ≡ get_or (flat_map bits_of_piece ps) j 0 → i ≡ j
distinct_in_pieces ps i j apart lt-i lt-j same =
    let long = length-bits_of_pieces ps in
    let in-i : i < pieces_size ps = omega arith in
    let in-j : j < pieces_size ps = omega arith in
    distinct_bits ps i j apart in-i in-j (sym (bit_of_pieces ps i in-i) ∙ same ∙ bit_of_pieces ps j in-j)

-- each of these bits is in a piece
pub held_bit : (ps : List Piece) (x : ℕ) → Contains (flat_map bits_of_piece ps) x → Any (IsInPiece x) ps
held_bit ps x h =
    let long = length-bits_of_pieces ps in
    let lt : h.0 < pieces_size ps = omega (arith, h.1) in
    let is : iq_bit ps h.0 ≡ x = sym (bit_of_pieces ps h.0 lt) ∙ (get_or_default (flat_map bits_of_piece ps) h.0 0 x h.1 ∙ h.2) in
    subst (λ z. Any (IsInPiece z) ps) is (in_pieces ps h.0 lt)

-- the bit that a container has in this place is among its bits
pub contains_bit : (ps : List Piece) (b : ℕ) → b < pieces_size ps → Contains (flat_map bits_of_piece ps) (iq_bit ps b)
contains_bit ps b lt =
    let long = length-bits_of_pieces ps in
    (b, omega arith, get_or_default (flat_map bits_of_piece ps) b (iq_bit ps b) 0 (omega arith) ∙ bit_of_pieces ps b lt)

-- a list's numbers are distinct
pub record AreDistinct (xs : List ℕ) : Type 0 where
  pub distinct : (i j : ℕ) → i < length xs → j < length xs → get_or xs i 0 ≡ get_or xs j 0 → i ≡ j

pub AreDistinct-none : AreDistinct []
AreDistinct-none = record { distinct = λ i j lt-i lt-j e. absurd (omega arith) }

-- numbers before others that are apart from them
pub AreApart-from_distinct : (xs ys : List ℕ) → AreDistinct (xs ++ ys) → AreApart xs ys
AreApart-from_distinct xs ys h i lt there =
    let long = length-append xs ys in
    let left : get_or (xs ++ ys) i 0 ≡ get_or xs i 0 = get_or_append_left xs ys 0 i lt in
    let back : length xs + there.0 - length xs ≡ there.0 = omega arith in
    let right : get_or (xs ++ ys) (length xs + there.0) 0 ≡ get_or xs i 0 =
    get_or-append_right xs ys (length xs) (length xs + there.0) 0 refl (omega arith) ∙ ap (λ n. get_or ys n 0) back
    ∙ get_or_default ys there.0 0 (get_or xs i 0) there.1 ∙ there.2 in
    let same : i ≡ length xs + there.0 = h.distinct i (length xs + there.0) (omega arith) (omega (arith, there.1)) (left ∙ sym right) in
    omega arith

pub AreDistinct-left : (xs ys : List ℕ) → AreDistinct (xs ++ ys) → AreDistinct xs
AreDistinct-left xs ys h =
    let long = length-append xs ys in
    record { distinct = λ i j lt-i lt-j e. h.distinct i j (omega arith) (omega arith) (get_or_append_left xs ys 0 i lt-i ∙ e ∙ sym (get_or_append_left xs ys 0 j lt-j)) }

pub AreDistinct-join : (xs ys : List ℕ) → AreDistinct xs → AreDistinct ys → AreApart xs ys → AreDistinct (xs ++ ys)
AreDistinct-join xs ys first second apart =
    let long = length-append xs ys in
    let n = length xs in
    let left : (i : ℕ) → i < n → get_or (xs ++ ys) i 0 ≡ get_or xs i 0 = λ i lt. get_or_append_left xs ys 0 i lt in
    let right : (i : ℕ) → n ≤ i → get_or (xs ++ ys) i 0 ≡ get_or ys (i - n) 0 = λ i le. get_or-append_right xs ys n i 0 refl le in
    let within : (i j : ℕ) → i < n → n ≤ j → j < length (xs ++ ys) → ¬ (get_or (xs ++ ys) i 0 ≡ get_or (xs ++ ys) j 0) =
    λ i j lt le lt-j e. apart i lt (j - n, omega arith, get_or_default ys (j - n) (get_or xs i 0) 0 (omega arith) ∙ sym (right j le) ∙ sym e ∙ left i lt) in
    record {
      distinct = λ i j lt-i lt-j e. elim (cases_lt i n) [
        | inl low-i ↦ elim (cases_lt j n) [
          | inl low-j ↦ first.distinct i j low-i low-j (sym (left i low-i) ∙ e ∙ left j low-j)
          | inr high-j ↦ absurd (within i j low-i high-j lt-j e)
        ]
        | inr high-i ↦ elim (cases_lt j n) [
          | inl low-j ↦ absurd (within j i low-j high-i lt-i (sym e))
          | inr high-j ↦
              let same : i - n ≡ j - n = second.distinct (i - n) (j - n) (omega arith) (omega arith) (sym (right i high-i) ∙ e ∙ right j high-j) in
              omega arith
        ]
      ];
    }

pub AreDistinct-pieces : (ps : List Piece) → AllPairs SharesNoBit ps → AreDistinct (flat_map bits_of_piece ps)
AreDistinct-pieces ps apart = record { distinct = λ i j lt-i lt-j e. distinct_in_pieces ps i j apart lt-i lt-j e }

-- of distinct numbers in pieces, those of the pieces so far are apart from those of the next piece
pub apart_from_next : {A : Type 0} (g : A → List ℕ) (xs : List A) (i : ℕ) (d : A) → i < length xs → AreDistinct (flat_map g xs) → AreApart (flat_map g (take i xs)) (g (get_or xs i d))
apart_from_next g xs i d lt h =
    let so_far = take (i + 1) xs in
    let cut : flat_map g xs ≡ flat_map g so_far ++ flat_map g (drop (i + 1) xs) = ap (flat_map g) (sym (take-append-drop (i + 1) xs)) ∙ flat_map-append g so_far (drop (i + 1) xs) in
    let front = AreDistinct-left (flat_map g so_far) (flat_map g (drop (i + 1) xs)) (subst AreDistinct cut h) in
    AreApart-from_distinct (flat_map g (take i xs)) (g (get_or xs i d)) (subst AreDistinct (flat_map-take_more g xs i d lt) front)

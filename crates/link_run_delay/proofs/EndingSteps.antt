-- The frames of a channel become whole one after another.
use Rattle.std.proofs.Common.{◌≡◌, ℕ, zero, suc, ◌+◌, ◌-◌, ◌<◌, ◌≤◌, Bool, true, false, cond, leb, ltb, ◌&&◌, List, [], ◌∷◌, ◌++◌, length, map, inl, inr, refl, sym, ap, ◌∙◌, arith}
use Rattle.std.specs.List.{flat_map, range_with_len}
use Rattle.std.proofs.lemmas.Bool.{and_from, and_right, cases_lt, le-leb, lt-leb, le-ltb, lt-ltb}
use Rattle.std.proofs.lemmas.List.{map-append}
use Rattle.link_run_delay.specs.PrefixesAreRead.{Ending, between, endings}

-- ---- one of them

abbrev is_between : (from to at : ℕ) → Bool
is_between from to at = leb from at && ltb at to

inside : (from to at : ℕ) → from ≤ at → at < to → is_between from to at ≡ true
inside from to at low high = and_from (leb from at) (ltb at to) (le-leb from at low) (lt-ltb at to high)

early : (from to at : ℕ) → at < from → is_between from to at ≡ false
early from to at low = ap (λ b. b && ltb at to) (lt-leb from at low)

late : (from to at : ℕ) → to ≤ at → is_between from to at ≡ false
late from to at high = and_right (leb from at) (ltb at to) (le-ltb at to high)

module _ (from to : ℕ) (e : Ending) (rest : List Ending) where
  kept : from ≤ e.at → e.at < to → between from to (e ∷ rest) ≡ e ∷ between from to rest
  kept low high = ap (λ b. cond b (e ∷ between from to rest) (between from to rest)) (inside from to e.at low high)

  before : e.at < from → between from to (e ∷ rest) ≡ between from to rest
  before low = ap (λ b. cond b (e ∷ between from to rest) (between from to rest)) (early from to e.at low)

  behind_all : to ≤ e.at → between from to (e ∷ rest) ≡ between from to rest
  behind_all high = ap (λ b. cond b (e ∷ between from to rest) (between from to rest)) (late from to e.at high)

-- ---- all of them

-- each frame is written in more bits than follow the one with which it is whole
abbrev pub IsLonger : (List ℕ → List Bool) → ℕ → Type 0
IsLonger bits behind = (frame : List ℕ) → behind < length (bits frame)

module _ (bits : List ℕ → List Bool) (behind : ℕ) (long : IsLonger bits behind) where
  none_before : (from to p : ℕ) (frames : List (List ℕ)) → to ≤ p → between from to (endings bits behind p frames) ≡ []
  unfolding endings
  none_before from to p [] early = refl
  none_before from to p (frame ∷ frames) early =
      let more = long frame in
      let e : Ending = record { at = p + length (bits frame) - suc behind; frame = frame } in
      let rest = endings bits behind (p + length (bits frame)) frames in
      behind_all from to e rest (omega arith) ∙ none_before from to (p + length (bits frame)) frames (omega arith)

  -- those as far as below a place, and then those from it on
  pub between-split : (a b c p : ℕ) (frames : List (List ℕ)) → a ≤ b → b ≤ c
      → between a c (endings bits behind p frames) ≡ between a b (endings bits behind p frames) ++ between b c (endings bits behind p frames)
  unfolding endings
  between-split a b c p [] ab bc = refl
  between-split a b c p (frame ∷ frames) ab bc =
      let more = long frame in
      let next = p + length (bits frame) in
      let e : Ending = record { at = next - suc behind; frame = frame } in
      let rest = endings bits behind next frames in
      let split = between-split a b c next frames ab bc in
      elim (cases_lt e.at a) [
        | inl low ↦
            before a c e rest low ∙ split
            ∙ sym (ap (λ xs. xs ++ between b c (e ∷ rest)) (before a b e rest low) ∙ ap (λ xs. between a b rest ++ xs) (before b c e rest (omega arith)))
        | inr from_a ↦ elim (cases_lt e.at b) [
          | inl low ↦
              kept a c e rest from_a (omega arith) ∙ ap (λ xs. e ∷ xs) split
              ∙ sym (ap (λ xs. xs ++ between b c (e ∷ rest)) (kept a b e rest from_a low) ∙ ap (λ xs. e ∷ (between a b rest ++ xs)) (before b c e rest low))
          | inr from_b ↦
              let none : between a b rest ≡ [] = none_before a b next frames (omega arith) in
              let nothing : between a b (e ∷ rest) ≡ [] = behind_all a b e rest from_b ∙ none in
              let same : between a c rest ≡ between b c rest = split ∙ ap (λ xs. xs ++ between b c rest) none in
              elim (cases_lt e.at c) [
                | inl low ↦
                    kept a c e rest from_a low ∙ ap (λ xs. e ∷ xs) same ∙ sym (kept b c e rest from_b low)
                    ∙ ap (λ xs. xs ++ between b c (e ∷ rest)) (sym nothing)
                | inr high ↦
                    behind_all a c e rest high ∙ same ∙ sym (behind_all b c e rest high)
                    ∙ ap (λ xs. xs ++ between b c (e ∷ rest)) (sym nothing)
              ]
        ]
      ]

-- ---- piece by piece

-- a number that grows
abbrev pub Grows : (ℕ → ℕ) → Type 0
Grows f = (n : ℕ) → f n ≤ f (n + 1)

grown : (f : ℕ → ℕ) → Grows f → (n k : ℕ) → f n ≤ f (n + k)
grown f grows n zero = let e : n ≡ n + 0 = omega arith in let same = ap f e in omega arith
grown f grows n (suc k) =
    let rest = grown f grows n k in
    let one = grows (n + k) in
    let e : n + k + 1 ≡ n + suc k = omega arith in
    let same = ap f e in
    omega arith

module _ (bits : List ℕ → List Bool) (behind : ℕ) (long : IsLonger bits behind) (p : ℕ) (frames : List (List ℕ)) (f : ℕ → ℕ) (grows : Grows f) where
  abbrev whole : ℕ → ℕ → List (List ℕ)
  whole n m = map (λ (e : Ending). e.frame) (between (f n) (f m) (endings bits behind p frames))

  nothing_between : (n : ℕ) → whole n n ≡ []
  nothing_between n = ap (map (λ (e : Ending). e.frame)) (none_from (endings bits behind p frames))
    where
      none_from : (all : List Ending) → between (f n) (f n) all ≡ []
      none_from [] = refl
      none_from (e ∷ rest) =
          elim (cases_lt e.at (f n)) [
            | inl low ↦ before (f n) (f n) e rest low ∙ none_from rest
            | inr high ↦ behind_all (f n) (f n) e rest high ∙ none_from rest
          ]

  -- the frames that become whole from piece to piece are those that become whole in all the pieces
  pub pieces : (n k : ℕ) → flat_map (λ i. whole i (i + 1)) (range_with_len n k) ≡ whole n (n + k)
  pieces n zero = let e : n ≡ n + 0 = omega arith in sym (ap (whole n) (sym e) ∙ nothing_between n)
  pieces n (suc k) =
      let e : n + 1 + k ≡ n + suc k = omega arith in
      let split = between-split bits behind long (f n) (f (n + 1)) (f (n + 1 + k)) p frames (grows n) (grown f grows (n + 1) k) in
      ap (λ xs. whole n (n + 1) ++ xs) (pieces (n + 1) k)
      ∙ sym (ap (map (λ (e : Ending). e.frame)) split ∙ map-append (λ (e : Ending). e.frame) (between (f n) (f (n + 1)) (endings bits behind p frames)) (between (f (n + 1)) (f (n + 1 + k)) (endings bits behind p frames)))
      ∙ ap (whole n) e

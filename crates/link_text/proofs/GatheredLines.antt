-- Lines of the items of a list, or of the first places, that are gathered one after another.
use Rattle.std.proofs.Common.{◌≡◌, ◌∙◌, ◌+◌, ◌-◌, ◌<◌, ◌++◌, ◌∷◌, [], ℕ, zero, suc, List, length, take, get_or, sym, ap, subst, arith}
use Rattle.std.specs.List.{flat_map, range_with_len}
use Rattle.std.proofs.lemmas.List.{flat_map_more, take_more}
use Rattle.std.proofs.lemmas.List.Concat.{flat_map-append}
use Rattle.link_base.specs.Sink.{Taken, AppendsFront}
use Rattle.link_text.specs.Gathered.{Gathers, BreaksOff}
use Rattle.link_text.proofs.Gathering.{gathers_put, gathers_then, breaks_then, front_of_more}

-- one range after another
pub range_split : (a m n : ℕ) → range_with_len a (m + n) ≡ range_with_len a m ++ range_with_len (a + m) n
range_split a zero n =
    let none : zero + n ≡ n = omega arith in
    let here : a ≡ a + zero = omega arith in
    ap (range_with_len a) none ∙ ap (λ b. range_with_len b n) here
range_split a (suc m) n =
    let more : suc m + n ≡ suc (m + n) = omega arith in
    let there : a + 1 + m ≡ a + suc m = omega arith in
    ap (range_with_len a) more ∙ ap (λ xs. a ∷ xs) (range_split (a + 1) m n ∙ ap (λ b. range_with_len (a + 1) m ++ range_with_len b n) there)

module _ {X : Type 0} (line : X → List ℕ) (hand hand1 : List ℕ) (old mid : Taken) where
  -- a line more was gathered
  pub gathers_line : (xs : List X) (x : X) (hand2 hand3 : List ℕ) (new : Taken)
      → Gathers (flat_map line xs) hand old hand1 mid → Gathers [] hand1 mid hand2 new → hand3 ≡ hand2 ++ line x
      → Gathers (flat_map line (xs ++ x ∷ [])) hand old hand3 new
  gathers_line xs x hand2 hand3 new first room put =
      subst (λ more. Gathers more hand old hand3 new) (flat_map_more line [] xs x)
      (gathers_then (flat_map line xs) (line x) hand hand1 hand3 old mid new first
      (gathers_then [] (line x) hand1 hand2 hand3 mid new new room (gathers_put (line x) hand2 hand3 new put)))

  pub gathers_item : (xs : List X) (i : ℕ) (d : X) (hand2 hand3 : List ℕ) (new : Taken) → i < length xs
      → Gathers (flat_map line (take i xs)) hand old hand1 mid → Gathers [] hand1 mid hand2 new → hand3 ≡ hand2 ++ line (get_or xs i d)
      → Gathers (flat_map line (take (i + 1) xs)) hand old hand3 new
  gathers_item xs i d hand2 hand3 new within first room put =
      subst (λ items. Gathers (flat_map line items) hand old hand3 new) (sym (take_more xs i d within))
      (gathers_line (take i xs) (get_or xs i d) hand2 hand3 new first room put)

  -- a write failed before a further line
  pub breaks_line : (xs more : List X) (new : Taken)
      → Gathers (flat_map line xs) hand old hand1 mid → AppendsFront hand1 mid new → BreaksOff (flat_map line (xs ++ more)) hand old new
  breaks_line xs more new first front =
      subst (λ text. BreaksOff text hand old new) (sym (flat_map-append line xs more))
      (breaks_then (flat_map line xs) (flat_map line more) hand hand1 old mid new first (front_of_more hand1 (flat_map line more) mid new front))

module _ (line : ℕ → List ℕ) (hand hand1 : List ℕ) (old mid : Taken) where
  -- the line of a place more was gathered
  pub gathers_place : (n : ℕ) (hand2 hand3 : List ℕ) (new : Taken)
      → Gathers (flat_map line (range_with_len 0 n)) hand old hand1 mid → Gathers [] hand1 mid hand2 new → hand3 ≡ hand2 ++ line n
      → Gathers (flat_map line (range_with_len 0 (n + 1))) hand old hand3 new
  gathers_place n hand2 hand3 new first room put =
      let here : zero + n ≡ n = omega arith in
      subst (λ places. Gathers (flat_map line places) hand old hand3 new) (sym (range_split 0 n 1 ∙ ap (λ k. range_with_len 0 n ++ k ∷ []) here))
      (gathers_line line hand hand1 old mid (range_with_len 0 n) n hand2 hand3 new first room put)

  -- a write failed before the line of a place
  pub breaks_place : (n all : ℕ) (new : Taken) → n < all
      → Gathers (flat_map line (range_with_len 0 n)) hand old hand1 mid → AppendsFront hand1 mid new → BreaksOff (flat_map line (range_with_len 0 all)) hand old new
  breaks_place n all new within first front =
      let rest : n + (all - n) ≡ all = omega arith in
      subst (λ places. BreaksOff (flat_map line places) hand old new) (sym (range_split 0 n (all - n)) ∙ ap (range_with_len 0) rest)
      (breaks_line line hand hand1 old mid (range_with_len 0 n) (range_with_len (0 + n) (all - n)) new first front)

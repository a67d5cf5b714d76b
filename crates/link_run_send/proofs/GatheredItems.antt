-- Texts that are gathered item by item, each of them by a call that may fail.
use Rattle.std.proofs.Common.{◌≡◌, ◌∙◌, ◌+◌, ◌<◌, ◌++◌, ◌∷◌, [], ℕ, List, Some, length, take, drop, get_or, sym, ap, subst, arith, append_assoc, take-append-drop, inl, inr}
use Rattle.std.specs.Prelude.{slice_get}
use Rattle.std.specs.List.{flat_map}
use Rattle.std.proofs.lemmas.List.{flat_map_more, take_more}
use Rattle.std.proofs.lemmas.List.Concat.{flat_map-append}
use Rattle.std.proofs.lemmas.Option.{slice_get_cases}
use Rattle.link_base.specs.Sink.{Taken, AppendsFront}
use Rattle.link_text.specs.Gathered.{Gathers, BreaksOff}
use Rattle.link_text.proofs.Gathering.{gathers_then, breaks_then, front_of_more}

-- a write failed in a piece behind others
pub breaks_in : (before this rest hand hand1 : List ℕ) (old mid new : Taken) → Gathers before hand old hand1 mid → BreaksOff this hand1 mid new → BreaksOff (before ++ (this ++ rest)) hand old new
breaks_in before this rest hand hand1 old mid new first front =
    breaks_then before (this ++ rest) hand hand1 old mid new first
    (subst (λ text. AppendsFront text mid new) (append_assoc hand1 this rest) (front_of_more (hand1 ++ this) rest mid new front))

module _ {X : Type 0} (text : X → List ℕ) (xs : List X) (i : ℕ) (hand hand1 : List ℕ) (old mid new : Taken) (within : i < length xs)
    (first : Gathers (flat_map text (take i xs)) hand old hand1 mid) where
  item_more : (x : X) → get_or xs i x ≡ x → flat_map text (take i xs) ++ text x ≡ flat_map text (take (i + 1) xs)
  item_more x is =
      let all : take (i + 1) xs ≡ take i xs ++ x ∷ [] = take_more xs i x within ∙ ap (λ y. take i xs ++ y ∷ []) is in
      flat_map_more text [] (take i xs) x ∙ ap (flat_map text) (sym all)

  -- the text of an item more was gathered
  pub gathers_next : (hand2 : List ℕ) → ((x : X) → slice_get xs i ≡ Some x → Gathers (text x) hand1 mid hand2 new) → Gathers (flat_map text (take (i + 1) xs)) hand old hand2 new
  gathers_next hand2 next = elim (slice_get_cases xs i).1 [
    | inl some ↦
        subst (λ more. Gathers more hand old hand2 new) (item_more some.0 some.3)
        (gathers_then (flat_map text (take i xs)) (text some.0) hand hand1 hand2 old mid new first (next some.0 some.2))
    | inr past ↦ absurd (omega (arith, past.0))
  ]

  -- a write failed in the text of an item
  pub breaks_next : ((x : X) → slice_get xs i ≡ Some x → BreaksOff (text x) hand1 mid new) → BreaksOff (flat_map text xs) hand old new
  breaks_next next = elim (slice_get_cases xs i).1 [
    | inl some ↦
        let before = flat_map text (take i xs) in
        let this = text some.0 in
        let rest = flat_map text (drop (i + 1) xs) in
        let split : before ++ (this ++ rest) ≡ flat_map text xs =
        sym (append_assoc before this rest) ∙ ap (λ front. front ++ rest) (item_more some.0 some.3) ∙ sym (flat_map-append text (take (i + 1) xs) (drop (i + 1) xs))
        ∙ ap (flat_map text) (take-append-drop (i + 1) xs) in
        subst (λ all. BreaksOff all hand old new) split (breaks_in before this rest hand hand1 old mid new first (next some.0 some.2))
    | inr past ↦ absurd (omega (arith, past.0))
  ]

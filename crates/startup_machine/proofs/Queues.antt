-- The newest item of a list.
use Rattle.std.proofs.Common.{◌≡◌, ◌-◌, ◌<◌, List, [], ◌∷◌, length, get_or, drop, Some, None, ◌∙◌, subst, refl, suc, arith}
use Rattle.std.specs.List.{All}
use Rattle.std.proofs.Math.Seq.{drop-cons}
use Rattle.std.proofs.lemmas.List.{drop_all}
use Rattle.std.proofs.lemmas.List.Elements.{All-get_or}
use Rattle.std.proofs.lemmas.Option.{slice_get_within, get_or_from_slice_get, slice_get-get_or}
use Rattle.circular_buffer.specs.Buffer.{keep_last, last_item}

module _ {X : Type 0} where
  pub keep_last-newest : (xs : List X) (x : X) → last_item xs ≡ Some x → keep_last 1 xs ≡ x ∷ []
  keep_last-newest xs x e =
      let last = length xs - 1 in
      let within : last < length xs = slice_get_within xs last x e in
      let here : get_or xs last x ≡ x = get_or_from_slice_get xs last x x e in
      let rest : drop (suc last) xs ≡ [] = drop_all (suc last) xs (omega arith) in
      drop-cons xs last x within ∙ (cc)

  pub keep_last-none : (xs : List X) → last_item xs ≡ None → keep_last 1 xs ≡ []
  keep_last-none [] e = refl
  keep_last-none (y ∷ ys) e =
      let there = slice_get-get_or (y ∷ ys) (length (y ∷ ys) - 1) y (omega arith) in
      absurd (cc)

  pub All-newest : (P : X → Type 0) (xs : List X) (x : X) → last_item xs ≡ Some x → All P xs → P x
  All-newest P xs x e all =
      let last = length xs - 1 in
      subst P (get_or_from_slice_get xs last x x e) (All-get_or P xs last x (slice_get_within xs last x e) all)

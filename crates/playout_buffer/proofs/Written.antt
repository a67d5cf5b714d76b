-- The pieces of a list after one of them was written.
use Rattle.std.proofs.Common.{◌≡◌, ◌≢◌, ℕ, ◌+◌, ◌-◌, ◌*◌, ◌≤◌, List, ◌++◌, length, take, drop, arith, sym, ap, ◌∙◌, inl, inr}
use Rattle.std.proofs.lemmas.Bool.{cases_order}
use Rattle.std.proofs.lemmas.List.{append_assoc, length-take-le, length-append, length-drop, take_at, drop_at, take-append-le, take-take, drop-drop, drop-take}
use Rattle.std.proofs.lemmas.Nat.{mul-le}

module _ {X : Type 0} (xs piece : List X) (start : ℕ) (fits : start + length piece ≤ length xs) where
  abbrev pub written : List X
  written = take start xs ++ piece ++ drop (start + length piece) xs

  front_long : length (take start xs) ≡ start
  front_long = length-take-le start xs (omega arith)

  abbrev rest : List X
  rest = drop (start + length piece) xs

  regrouped : written ≡ take start xs ++ (piece ++ rest)
  regrouped = append_assoc (take start xs) piece rest

  both_long : length (take start xs ++ piece) ≡ start + length piece
  both_long = let a = length-append (take start xs) piece in let b = front_long in omega arith

  pub length-written : length written ≡ length xs
  length-written =
      let a = length-append (take start xs ++ piece) rest in
      let b = both_long in
      let c = length-drop (start + length piece) xs in
      omega arith

  -- the piece itself
  pub piece_written : take (length piece) (drop start written) ≡ piece
  piece_written =
      ap (λ ys. take (length piece) (drop start ys)) regrouped
      ∙ ap (take (length piece)) (drop_at (take start xs) (piece ++ rest) start front_long)
      ∙ take_at piece rest (length piece) (λ _. length piece)

  before : (n : ℕ) → n ≤ start → take n written ≡ take n xs
  before n less =
      let long = front_long in
      ap (take n) regrouped ∙ take-append-le n (take start xs) (piece ++ rest) (omega arith) ∙ take-take n start xs less

  -- what lies in front of it
  pub before_written : (from count : ℕ) → from + count ≤ start → take count (drop from written) ≡ take count (drop from xs)
  before_written from count less = sym (drop-take from count written) ∙ ap (drop from) (before (from + count) less) ∙ drop-take from count xs

  -- what lies behind it
  pub behind_written : (from : ℕ) → start + length piece ≤ from → drop from written ≡ drop from xs
  behind_written from more =
      let end = start + length piece in
      let split : end + (from - end) ≡ from = omega arith in
      ap (λ n. drop n written) (sym split) ∙ sym (drop-drop (from - end) end written)
      ∙ ap (drop (from - end)) (drop_at (take start xs ++ piece) rest end both_long)
      ∙ drop-drop (from - end) end xs ∙ ap (λ n. drop n xs) split

-- the pieces of one length that lie one after another
pub others_written : {X : Type 0} (xs piece : List X) (k other : ℕ) (fits : k * length piece + length piece ≤ length xs) → other ≢ k
    → take (length piece) (drop (other * length piece) (written xs piece (k * length piece) fits)) ≡ take (length piece) (drop (other * length piece) xs)
others_written xs piece k other fits differ =
    let size = length piece in
    elim (cases_order other k) [
      | inl same ↦ absurd (differ same)
      | inr (inl less) ↦
          let product : (other + 1) * size ≤ k * size = mul-le (other + 1) size k size (omega arith) (omega arith) in
          before_written xs piece (k * size) fits (other * size) size (omega (arith, product))
      | inr (inr more) ↦
          let product : (k + 1) * size ≤ other * size = mul-le (k + 1) size other size (omega arith) (omega arith) in
          ap (take size) (behind_written xs piece (k * size) fits (other * size) (omega (arith, product)))
    ]

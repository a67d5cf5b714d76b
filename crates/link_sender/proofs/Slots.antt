-- Octets that are written in the midst of others.
use Rattle.std.proofs.Common.{◌≡◌, ℕ, ◌+◌, ◌-◌, ◌*◌, ◌<◌, ◌≤◌, List, ◌++◌, length, take, drop, length-append, length-drop, sym, ap, ◌∙◌, arith, inl, inr}
use Rattle.std.proofs.Math.Seq.{drop-append_seam}
use Rattle.std.proofs.lemmas.Bool.{cases_lt}
use Rattle.std.proofs.lemmas.List.{drop-take, length-take-le, take-append-le, take_all}
use Rattle.std.proofs.lemmas.Nat.{mul-le}
use Rattle.std.proofs.lemmas.Slice.{between-put_mid, drop-put_mid, take-put_mid_below}
use borrow.Rule.Slice.PartMut.{put_mid}

module _ (a k : ℕ) (xs ys : List ℕ) (inside : a + k ≤ length xs) (long : length ys ≡ k) where
  -- what is before stays
  pub before_mid : (m n : ℕ) → m + n ≤ a → take n (drop m (put_mid a k xs ys)) ≡ take n (drop m xs)
  before_mid m n within =
      sym (drop-take m n (put_mid a k xs ys)) ∙ ap (drop m) (take-put_mid_below a k xs ys (m + n) within (omega arith)) ∙ drop-take m n xs

  -- what is behind stays
  pub behind_mid : (m : ℕ) → a + k ≤ m → drop m (put_mid a k xs ys) ≡ drop m xs
  behind_mid m past = drop-put_mid a k xs ys m past (omega arith) long

  -- and these are there
  pub at_mid : take k (drop a (put_mid a k xs ys)) ≡ ys
  at_mid =
      let width : a + k - a ≡ k = omega arith in
      ap (λ n. take n (drop a (put_mid a k xs ys))) (sym width) ∙ between-put_mid a k xs ys (a + k) (omega arith) (omega arith)

-- ---- slots of one size, one after another

module _ (size j0 : ℕ) (xs ys : List ℕ) (inside : j0 * size + size ≤ length xs) (long : length ys ≡ size) where
  pub slot_written : take size (drop (j0 * size) (put_mid (j0 * size) size xs ys)) ≡ ys
  slot_written = at_mid (j0 * size) size xs ys inside long

  pub slot_stays : (j : ℕ) → (j ≡ j0 → ⊥) → take size (drop (j * size) (put_mid (j0 * size) size xs ys)) ≡ take size (drop (j * size) xs)
  slot_stays j other =
      elim (cases_lt j j0) [
        | inl before ↦
            let less = mul-le (j + 1) size j0 size (omega arith) (omega arith) in
            before_mid (j0 * size) size xs ys inside long (j * size) size (omega arith)
        | inr behind ↦
            let more = mul-le (j0 + 1) size j size (omega arith) (omega arith) in
            ap (take size) (behind_mid (j0 * size) size xs ys inside long (j * size) (omega arith))
      ]

-- ---- octets that stand several times, one after another

pub more_copies : (octets all more : List ℕ) (n : ℕ) → more ≡ all ++ octets → length all ≡ n * length octets
    → ((j : ℕ) → j < n → take (length octets) (drop (j * length octets) all) ≡ octets)
    → (j : ℕ) → j < n + 1 → take (length octets) (drop (j * length octets) more) ≡ octets
more_copies octets all more n is count each j less =
    let size = length octets in
    ap (λ xs. take size (drop (j * size) xs)) is
    ∙ elim (cases_lt j n) [
      | inl before ↦
          let room = mul-le (j + 1) size n size (omega arith) (omega arith) in
          sym (drop-take (j * size) size (all ++ octets)) ∙ ap (drop (j * size)) (take-append-le (j * size + size) all octets (omega arith)) ∙ drop-take (j * size) size all ∙ each j before
      | inr last ↦
          let here : j ≡ n = omega arith in
          let place : j * size ≡ length all = ap (λ k. k * size) here ∙ sym count in
          ap (λ k. take size (drop k (all ++ octets))) place ∙ ap (take size) (drop-append_seam all octets) ∙ take_all size octets (omega arith)
    ]

pub length-more_copies : (octets all more : List ℕ) (n : ℕ) → more ≡ all ++ octets → length all ≡ n * length octets → length more ≡ (n + 1) * length octets
length-more_copies octets all more n is count = ap length is ∙ length-append all octets ∙ omega (arith, count)

pub length-mid : (a k : ℕ) (xs ys : List ℕ) → a + k ≤ length xs → length ys ≡ k → length (put_mid a k xs ys) ≡ length xs
length-mid a k xs ys inside long =
    let front = length-take-le a xs (omega arith) in
    let end = length-drop k (drop a xs) in
    let past = length-drop a xs in
    length-append (take a xs) (ys ++ drop k (drop a xs)) ∙ ap (λ n. length (take a xs) + n) (length-append ys (drop k (drop a xs))) ∙ omega (arith, front, end, past)

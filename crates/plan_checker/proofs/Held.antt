-- The greatest number of packets that may have to be held at one tick.
use Rattle.std.proofs.Common.{◌≡◌, ℕ, ◌+◌, ◌-◌, ◌*◌, ◌<◌, ◌≤◌, zero, suc, List, [], ◌∷◌, length, get_or, arith, subst, inl, inr}
use Rattle.std.specs.List.Sorted.{IsStrictlyIncreasing}
use Rattle.std.proofs.lemmas.Bool.{cases_lt}
use Rattle.std.proofs.lemmas.Nat.{mul-le}
use Rattle.std.proofs.lemmas.Grind.{div_ceil_times}
use Rattle.std.proofs.lemmas.List.Elements.{Contains-get_or}
use Rattle.link_base.specs.Count.{HasCount}
use Rattle.link_base.specs.Window.{IsHeld, most_held, IsMostHeld}
use Rattle.plan_checker.proofs.Counting.{above_first, length-ascending, HasCount-range}

-- two packets that are held at one tick are not further apart than what the first may be early
apart : (frames lmin playout t i d : ℕ) → 1 ≤ frames → IsHeld frames lmin playout t i → IsHeld frames lmin playout t (i + d) → d * frames + lmin ≤ playout
apart frames lmin playout t i d some a b = omega (arith, a.0, a.1, b.0, b.1)

below_most : (frames lmin playout d : ℕ) → 1 ≤ frames → d * frames + lmin ≤ playout → d < most_held frames lmin playout
below_most frames lmin playout d some h =
    let most = most_held frames lmin playout in
    let times = div_ceil_times (playout - lmin + 1) frames (omega arith) in
    elim (cases_lt d most) [
      | inl less ↦ less
      | inr more ↦
          let product : most * frames ≤ d * frames = mul-le most frames d frames (omega arith) (omega arith) in
          absurd (omega (arith, times.0, product))
    ]

not_below_first : (x : ℕ) (xs : List ℕ) → IsStrictlyIncreasing (x ∷ xs) → (k : ℕ) → k < suc (length xs) → x ≤ get_or (x ∷ xs) k 0
not_below_first x xs up zero lt = omega arith
not_below_first x xs up (suc k) lt = let more = above_first x xs up k (omega arith) in omega arith

some_factor : (n k : ℕ) → 1 ≤ n * k → 1 ≤ n
some_factor zero k h = absurd (omega arith)
some_factor (suc n) k h = omega arith

held_list : (frames lmin playout t : ℕ) (xs : List ℕ) → 1 ≤ frames → IsStrictlyIncreasing xs → ((k : ℕ) → k < length xs → IsHeld frames lmin playout t (get_or xs k 0)) → length xs ≤ most_held frames lmin playout
held_list frames lmin playout t [] some up held = omega arith
held_list frames lmin playout t (x ∷ xs) some up held =
    let most = most_held frames lmin playout in
    let low : (k : ℕ) → k < suc (length xs) → x ≤ get_or (x ∷ xs) k 0 = not_below_first x xs up in
    let high : (k : ℕ) → k < suc (length xs) → get_or (x ∷ xs) k 0 < x + most =
    λ k lt.
    let y = get_or (x ∷ xs) k 0 in
    let le : x ≤ y = low k lt in
    let gap : y ≡ x + (y - x) = omega arith in
    let first : IsHeld frames lmin playout t x = held 0 (omega arith) in
    let other : IsHeld frames lmin playout t (x + (y - x)) = subst (IsHeld frames lmin playout t) gap (held k lt) in
    let near = below_most frames lmin playout (y - x) some (apart frames lmin playout t x (y - x) some first other) in
    omega arith in
    let bound = length-ascending (x ∷ xs) x (x + most) up low high in
    omega arith

pub held_bound : (frames lmin playout t m : ℕ) → 1 ≤ frames → HasCount (IsHeld frames lmin playout t) m → m ≤ most_held frames lmin playout
held_bound frames lmin playout t m some c =
    let long = held_list frames lmin playout t c.numbers some c.ascending (λ k lt. (c.exactly (get_or c.numbers k 0)).1 (Contains-get_or c.numbers k 0 lt)) in
    omega (arith, long, c.counted)

-- at the tick at which the last of so many packets may arrive first, the packets from the first on are held
reached_within : (frames lmin n i : ℕ) → 1 ≤ frames → 1 ≤ n → (i + 1) * frames - 1 + lmin ≤ n * frames - 1 + lmin → i < n
reached_within frames lmin n i some more h =
    elim (cases_lt i n) [
      | inl less ↦ less
      | inr le ↦
          let product : (n + 1) * frames ≤ (i + 1) * frames = mul-le (n + 1) frames (i + 1) frames (omega arith) (omega arith) in
          let first : 1 * frames ≤ n * frames = mul-le 1 frames n frames more (omega arith) in
          absurd (omega (arith, product, first))
    ]

pub IsMostHeld-quotient : (frames lmin playout : ℕ) → 1 ≤ frames → lmin ≤ playout → IsMostHeld frames lmin playout (most_held frames lmin playout)
IsMostHeld-quotient frames lmin playout some order =
    let n = most_held frames lmin playout in
    let t = n * frames - 1 + lmin in
    let times = div_ceil_times (playout - lmin + 1) frames (omega arith) in
    let more : 1 ≤ n = some_factor n frames (omega (arith, times.0)) in
    record {
      reached_at = t;
      reached = HasCount-range (IsHeld frames lmin playout t) 0 n
          (λ i h. (omega arith, let lt = reached_within frames lmin n i some more h.0 in omega arith))
          (λ i _ lt.
          let product : (i + 1) * frames ≤ n * frames = mul-le (i + 1) frames n frames (omega arith) (omega arith) in
          let first : 1 * frames ≤ (i + 1) * frames = mul-le 1 frames (i + 1) frames (omega arith) (omega arith) in
          (omega (arith, product, first), omega (arith, times.1, product, first)));
      bound = λ t m c. held_bound frames lmin playout t m some c;
    }

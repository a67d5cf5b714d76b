-- How many packets may have to be held at one tick, and how far apart their numbers are.
use Rattle.std.proofs.Common.{◌≡◌, ℕ, zero, suc, ◌+◌, ◌-◌, ◌*◌, ◌%◌, ◌<◌, ◌≤◌, List, length, get_or, Contains, arith, sym, ap, subst, ◌∙◌, inl, inr}
use Rattle.std.specs.List.{range_with_len}
use Rattle.std.specs.List.Sorted.{IsStrictlyIncreasing}
use Rattle.std.proofs.lemmas.Bool.{cases_lt, cases_order}
use Rattle.std.proofs.lemmas.Grind.{div_ceil_times}
use Rattle.std.proofs.lemmas.List.Elements.{Contains-get_or}
use Rattle.std.proofs.lemmas.List.FromFn.{length-range_with_len, get_or-range_with_len}
use Rattle.std.proofs.lemmas.Nat.{mul-le}
use Rattle.link_base.specs.Count.{HasCount}
use Rattle.link_base.specs.Window.{IsHeld, last_frame, most_held}
use Rattle.playout_buffer.specs.Conditions.{IsWindow}
use Rattle.playout_buffer.specs.declared.window.Window.{Window}
use Rattle.playout_buffer.proofs.Numbers.{next_alike}

-- the number in a place of an ascending list is above the first by no less than the place
climbs : (xs : List ℕ) → IsStrictlyIncreasing xs → (k : ℕ) → k < length xs → get_or xs 0 0 + k ≤ get_or xs k 0
climbs xs up zero less = omega arith
climbs xs up (suc k) less =
    let before = climbs xs up k (omega arith) in
    let next : k + 1 ≡ suc k = omega arith in
    let P : ℕ → Type 0 = λ n. get_or xs k 0 < get_or xs n 0 in
    let above = subst P next (up k (omega arith)) in
    omega arith

-- two packets that are held at one tick are not further apart than what the first may be early
apart : (frames lmin playout t i j : ℕ) → 1 ≤ frames → IsHeld frames lmin playout t i → IsHeld frames lmin playout t j → i ≤ j → (j - i) * frames + lmin ≤ playout
apart frames lmin playout t i j some a b order =
    let first : 1 * frames ≤ (i + 1) * frames = mul-le 1 frames (i + 1) frames (omega arith) (omega arith) in
    let next : i + 1 + (j - i) ≡ j + 1 = omega arith in
    let split : (i + 1 + (j - i)) * frames ≡ (j + 1) * frames = ap (λ n. n * frames) next in
    omega (arith, a.1, b.0, first, split)

-- so there is room for all where the quotient says so
pub room_from_quotient : (frames lmin playout cap : ℕ) → 1 ≤ frames → lmin ≤ playout → most_held frames lmin playout ≤ cap
    → (t n : ℕ) → HasCount (IsHeld frames lmin playout t) n → n ≤ cap
room_from_quotient frames lmin playout cap some order enough t zero count = omega arith
room_from_quotient frames lmin playout cap some order enough t (suc n) count =
    let xs = count.numbers in
    let long = count.counted in
    let held : (k : ℕ) → k < length xs → IsHeld frames lmin playout t (get_or xs k 0) = λ k less. (count.exactly (get_or xs k 0)).1 (Contains-get_or xs k 0 less) in
    let high = climbs xs count.ascending n (omega arith) in
    let far = apart frames lmin playout t (get_or xs 0 0) (get_or xs n 0) some (held 0 (omega arith)) (held n (omega arith)) (omega arith) in
    let product : n * frames ≤ (get_or xs n 0 - get_or xs 0 0) * frames = mul-le n frames (get_or xs n 0 - get_or xs 0 0) frames (omega arith) (omega arith) in
    let times = div_ceil_times (playout - lmin + 1) frames (omega arith) in
    elim (cases_lt n (most_held frames lmin playout)) [
      | inl less ↦ omega arith
      | inr more ↦
          let over : most_held frames lmin playout * frames ≤ n * frames = mul-le (most_held frames lmin playout) frames n frames more (omega arith) in
          absurd (omega (arith, far, product, over, times.0))
    ]

-- ---- the numbers below n

ascending-range : (n : ℕ) → IsStrictlyIncreasing (range_with_len 0 n)
ascending-range n k less =
    let long = length-range_with_len 0 n in
    let this = get_or-range_with_len 0 n k 0 (omega arith) in
    let next = get_or-range_with_len 0 n (k + 1) 0 (omega arith) in
    omega arith

in_range : (n i : ℕ) → i < n → Contains (range_with_len 0 n) i
in_range n i less =
    let long = length-range_with_len 0 n in
    let at : get_or (range_with_len 0 n) i i ≡ i = get_or-range_with_len 0 n i i less ∙ (let back : 0 + i ≡ i = omega arith in back) in
    (i, omega arith, at)

from_range : (n i : ℕ) → Contains (range_with_len 0 n) i → i < n
from_range n i here =
    let long = length-range_with_len 0 n in
    let less : here.0 < n = omega (arith, here.1) in
    let at : i ≡ 0 + here.0 = sym here.2 ∙ get_or-range_with_len 0 n here.0 i less in
    omega arith

-- at the tick at which packet d may arrive first, the packets to d are held, where packet 0 is played so late
count_to : (frames lmin playout d : ℕ) → 1 ≤ frames → d * frames + lmin ≤ playout
    → HasCount (IsHeld frames lmin playout (last_frame frames d + lmin)) (d + 1)
count_to frames lmin playout d some near = record {
  numbers = range_with_len 0 (d + 1);
  ascending = ascending-range (d + 1);
  counted = length-range_with_len 0 (d + 1);
  exactly = λ i. (
    λ held. in_range (d + 1) i (elim (cases_lt i (d + 1)) [
      | inl less ↦ less
      | inr more ↦
          let product : (d + 1 + 1) * frames ≤ (i + 1) * frames = mul-le (d + 1 + 1) frames (i + 1) frames (omega arith) (omega arith) in
          let first : 1 * frames ≤ (d + 1) * frames = mul-le 1 frames (d + 1) frames (omega arith) (omega arith) in
          absurd (omega (arith, product, first, held.0))
    ]),
    λ here.
        let less = from_range (d + 1) i here in
        let product : (i + 1) * frames ≤ (d + 1) * frames = mul-le (i + 1) frames (d + 1) frames (omega arith) (omega arith) in
        let first : 1 * frames ≤ (i + 1) * frames = mul-le 1 frames (i + 1) frames (omega arith) (omega arith) in
        (omega (arith, product, first), omega (arith, near, product, first)),
  );
}

-- two packets that are held at one tick are fewer numbers apart than there are slots
near : (w : Window) (t i j : ℕ) → IsWindow w → IsHeld w.frames w.lmin w.playout t i → IsHeld w.frames w.lmin w.playout t j → i ≤ j → j - i < w.cap
near w t i j is a b order =
    let far = apart w.frames w.lmin w.playout t i j is.some_frames a b order in
    let count = count_to w.frames w.lmin w.playout (j - i) is.some_frames far in
    let room = is.enough_room (last_frame w.frames (j - i) + w.lmin) (j - i + 1) count in
    omega arith

pub own_slots : (w : Window) (t i j : ℕ) → IsWindow w → IsHeld w.frames w.lmin w.playout t i → IsHeld w.frames w.lmin w.playout t j → i % w.cap ≡ j % w.cap → i ≡ j
own_slots w t i j is a b alike =
    elim (cases_order i j) [
      | inl same ↦ same
      | inr (inl less) ↦
          let next = next_alike w.cap j i is.some_room (sym alike) less in
          let close = near w t i j is a b (omega arith) in
          absurd (omega arith)
      | inr (inr less) ↦
          let next = next_alike w.cap i j is.some_room alike less in
          let close = near w t j i is b a (omega arith) in
          absurd (omega arith)
    ]

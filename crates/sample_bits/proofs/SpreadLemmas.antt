-- Runs of bits parted in two and joined again, over the bits alone.
use Rattle.std.proofs.Common.{◌≡◌, ℕ, ◌+◌, ◌-◌, ◌*◌, ◌/◌, ◌%◌, ◌^◌, ◌<◌, ◌≤◌, IsTrue, true, bit_and, bit_or, max, Bool, eqb, ltb, cond, sym, refl, ap, ◌∙◌, arith, ⊎_elim, lit<, zero-add, zero, suc, subst}
use Rattle.std.specs.Int.{bit_at}
use Rattle.std.specs.List.{range_with_len}
use Rattle.std.proofs.lemmas.Bool.{cases_lt}
use Rattle.std.proofs.lemmas.Bool.Decides.{nat_tests}
use Rattle.std.proofs.lemmas.Nat.{mod-mul-add}
use Rattle.std.proofs.lemmas.Nat.Bits.{bit_at_above, bit_at-lt, bit_at_and, bit_at_or}
use Rattle.std.proofs.lemmas.List.FromFn.{length-range_with_len, get_or-range_with_len}
use Rattle.std.proofs.lemmas.List.Sums.{AllPass-from_list_all}
use Rattle.sample_bits.specs.Spread.{IsSpread, EndBelow32, is_mask}
use Rattle.sample_bits.proofs.BitLemmas.{bit_at-shr, even_or_odd, bit_at-mod, bit_at-shl, bit_at-shl_below, bit_at-mod_above}

-- ---- the bits of a mask

-- what a mask's test says of one bit
mask-bit : (w mask i : ℕ) → IsTrue (is_mask w mask) → i < 64 → eqb (bit_at mask i) (cond (ltb (i % (2 * w)) w) 1 0) ≡ true
mask-bit w mask i test h =
    let p : ℕ → Bool = λ k. eqb (bit_at mask k) (cond (ltb (k % (2 * w)) w) 1 0) in
    let places = range_with_len 0 64 in
    let passes = AllPass-from_list_all p places test i 0 (omega (arith, length-range_with_len 0 64)) in
    ap p (sym (get_or-range_with_len 0 64 i 0 h ∙ zero-add i)) ∙ passes

one_from_test : (bit m w : ℕ) → eqb bit (cond (ltb m w) 1 0) ≡ true → m < w → bit ≡ 1
one_from_test bit m w test h = grind (arith, nat_tests)

zero_from_test : (bit m w : ℕ) → eqb bit (cond (ltb m w) 1 0) ≡ true → w ≤ m → bit ≡ 0
zero_from_test bit m w test h = grind (arith, nat_tests)

mask-run : (w mask a r : ℕ) → IsTrue (is_mask w mask) → r < w → a * (2 * w) + r < 64 → bit_at mask (a * (2 * w) + r) ≡ 1
mask-run w mask a r test h within =
    let place = mod-mul-add a (2 * w) r (omega arith) in
    one_from_test _ _ w (mask-bit w mask (a * (2 * w) + r) test within) (omega arith)

mask-gap_below : (w mask a r : ℕ) → IsTrue (is_mask w mask) → r < w → a * (2 * w) + w + r < 64 → bit_at mask (a * (2 * w) + w + r) ≡ 0
mask-gap_below w mask a r test h within =
    let place : (a * (2 * w) + w + r) % (2 * w) ≡ w + r = ap (λ x. x % (2 * w)) (omega arith) ∙ mod-mul-add a (2 * w) (w + r) (omega arith) in
    zero_from_test _ _ w (mask-bit w mask (a * (2 * w) + w + r) test within) (omega arith)

mask-gap : (w mask a r : ℕ) → IsTrue (is_mask w mask) → mask < 2 ^ 64 → r < w → bit_at mask (a * (2 * w) + w + r) ≡ 0
mask-gap w mask a r test fits h = ⊎_elim (mask-gap_below w mask a r test h) (bit_at_above mask 64 (a * (2 * w) + w + r) fits) (cases_lt (a * (2 * w) + w + r) 64)

masked-off : (y mask i : ℕ) → bit_at mask i ≡ 0 → bit_at (bit_and y mask) i ≡ 0
masked-off y mask i off = let cut = bit_at_and y mask i in omega arith

masked-above : (y mask i : ℕ) → mask < 2 ^ 64 → 64 ≤ i → bit_at (bit_and y mask) i ≡ 0
masked-above y mask i fits h = masked-off y mask i (bit_at_above mask 64 i fits h)

masked-on : (x y mask i : ℕ) → bit_at mask i ≡ 1 → bit_at (bit_and (bit_or x y) mask) i ≡ max (bit_at x i) (bit_at y i)
masked-on x y mask i on =
    let cut = bit_at_and (bit_or x y) mask i in
    let both = bit_at_or x y i in
    omega (arith, bit_at-lt x i, bit_at-lt y i)

-- ---- a run of 2 * w bits parted in two

-- x, x shifted up by w, and the mask of runs of w
abbrev pub parted : ℕ → ℕ → ℕ → ℕ
parted x w mask = bit_and (bit_or x (x * 2 ^ w % 2 ^ 64)) mask

parted-bit : (x w mask i : ℕ) → i < 64 → bit_at mask i ≡ 1 → bit_at (parted x w mask) i ≡ max (bit_at x i) (bit_at (x * 2 ^ w) i)
parted-bit x w mask i within on =
    let shifted = bit_at-mod (x * 2 ^ w) 64 i within in
    masked-on x (x * 2 ^ w % 2 ^ 64) mask i on ∙ omega arith

-- what moves up into the first half of a run is the gap before it
nothing_moves : (x w b r : ℕ) (bits : ℕ → ℕ) → IsSpread (2 * w) x bits → r < w → w ≤ (2 * b) * (2 * w) + r → bit_at x ((2 * b) * (2 * w) + r - w) ≡ 0
nothing_moves x w zero r bits spread h above = absurd (omega arith)
nothing_moves x w (suc b) r bits spread h above = ap (bit_at x) (omega arith) ∙ spread.gaps b (w + r) (omega arith)

-- the first half of a run stays where it stood
parted-even : (x w mask : ℕ) (bits : ℕ → ℕ) (b r : ℕ) → IsTrue (is_mask w mask) → IsSpread (2 * w) x bits → r < w → (2 * b) * (2 * w) + r < 64 → bit_at (parted x w mask) ((2 * b) * (2 * w) + r) ≡ bits ((2 * b) * w + r)
parted-even x w mask bits b r test spread h within =
    let i : ℕ = (2 * b) * (2 * w) + r in
    let stays : bit_at x i ≡ bits ((2 * b) * w + r) = ap (bit_at x) (omega arith) ∙ spread.runs b r (omega arith) ∙ ap bits (omega arith) in
    let none : bit_at (x * 2 ^ w) i ≡ 0 =
    ⊎_elim (bit_at-shl_below x w i) (λ above. bit_at-shl x w i above ∙ nothing_moves x w b r bits spread h above) (cases_lt i w) in
    parted-bit x w mask i within (mask-run w mask (2 * b) r test h within) ∙ omega arith

-- the second half moves up
parted-odd : (x w mask : ℕ) (bits : ℕ → ℕ) (b r : ℕ) → IsTrue (is_mask w mask) → IsSpread (2 * w) x bits → r < w → (2 * b + 1) * (2 * w) + r < 64 → bit_at (parted x w mask) ((2 * b + 1) * (2 * w) + r) ≡ bits ((2 * b + 1) * w + r)
parted-odd x w mask bits b r test spread h within =
    let i : ℕ = (2 * b + 1) * (2 * w) + r in
    let none : bit_at x i ≡ 0 = ap (bit_at x) (omega arith) ∙ spread.gaps b r (omega arith) in
    let moves : bit_at (x * 2 ^ w) i ≡ bits ((2 * b + 1) * w + r) = bit_at-shl x w i (omega arith) ∙ ap (bit_at x) (omega arith) ∙ spread.runs b (w + r) (omega arith) ∙ ap bits (omega arith) in
    parted-bit x w mask i within (mask-run w mask (2 * b + 1) r test h within) ∙ omega arith

parted-run : (x w mask : ℕ) (bits : ℕ → ℕ) (a r : ℕ) → IsTrue (is_mask w mask) → mask < 2 ^ 64 → EndBelow32 bits → IsSpread (2 * w) x bits → r < w → bit_at (parted x w mask) (a * (2 * w) + r) ≡ bits (a * w + r)
parted-run x w mask bits a r test fits end spread h =
    let P : ℕ → Type 0 = λ k. k * (2 * w) + r < 64 → bit_at (parted x w mask) (k * (2 * w) + r) ≡ bits (k * w + r) in
    ⊎_elim
    (even_or_odd P (λ b. parted-even x w mask bits b r test spread h) (λ b. parted-odd x w mask bits b r test spread h) a)
    (λ above. masked-above (bit_or x (x * 2 ^ w % 2 ^ 64)) mask (a * (2 * w) + r) fits above ∙ sym (end (a * w + r) (omega arith)))
    (cases_lt (a * (2 * w) + r) 64)

pub IsSpread-parted : (x w mask : ℕ) (bits : ℕ → ℕ) → IsTrue (is_mask w mask) → mask < 2 ^ 64 → EndBelow32 bits → IsSpread (2 * w) x bits → IsSpread w (parted x w mask) bits
IsSpread-parted x w mask bits test fits end spread = record {
  runs = λ a r h. parted-run x w mask bits a r test fits end spread h;
  gaps = λ a r h. masked-off (bit_or x (x * 2 ^ w % 2 ^ 64)) mask (a * (2 * w) + w + r) (mask-gap w mask a r test fits h);
}

-- ---- two runs of w bits joined

-- x, x shifted down by w, and the mask of runs of 2 * w
abbrev pub joined : ℕ → ℕ → ℕ → ℕ
joined x w mask = bit_and (bit_or x (x / 2 ^ w)) mask

joined-bit : (x w mask i : ℕ) → bit_at mask i ≡ 1 → bit_at (joined x w mask) i ≡ max (bit_at x i) (bit_at x (w + i))
joined-bit x w mask i on = let shifted = bit_at-shr x w i in masked-on x (x / 2 ^ w) mask i on ∙ omega arith

-- the first of the two stays
joined-first : (x w mask : ℕ) (bits : ℕ → ℕ) (a r : ℕ) → IsTrue (is_mask (2 * w) mask) → IsSpread w x bits → r < w → a * (2 * (2 * w)) + r < 64 → bit_at (joined x w mask) (a * (2 * (2 * w)) + r) ≡ bits (a * (2 * w) + r)
joined-first x w mask bits a r test spread h within =
    let i : ℕ = a * (2 * (2 * w)) + r in
    let stays : bit_at x i ≡ bits (a * (2 * w) + r) = ap (bit_at x) (omega arith) ∙ spread.runs (2 * a) r h ∙ ap bits (omega arith) in
    let none : bit_at x (w + i) ≡ 0 = ap (bit_at x) (omega arith) ∙ spread.gaps (2 * a) r h in
    joined-bit x w mask i (mask-run (2 * w) mask a r test (omega arith) within) ∙ omega arith

-- the second moves down
joined-second : (x w mask : ℕ) (bits : ℕ → ℕ) (a s : ℕ) → IsTrue (is_mask (2 * w) mask) → IsSpread w x bits → s < w → a * (2 * (2 * w)) + (w + s) < 64 → bit_at (joined x w mask) (a * (2 * (2 * w)) + (w + s)) ≡ bits (a * (2 * w) + (w + s))
joined-second x w mask bits a s test spread h within =
    let i : ℕ = a * (2 * (2 * w)) + (w + s) in
    let none : bit_at x i ≡ 0 = ap (bit_at x) (omega arith) ∙ spread.gaps (2 * a) s h in
    let moves : bit_at x (w + i) ≡ bits (a * (2 * w) + (w + s)) = ap (bit_at x) (omega arith) ∙ spread.runs (2 * a + 1) s h ∙ ap bits (omega arith) in
    joined-bit x w mask i (mask-run (2 * w) mask a (w + s) test (omega arith) within) ∙ omega arith

joined-run : (x w mask : ℕ) (bits : ℕ → ℕ) (a r : ℕ) → IsTrue (is_mask (2 * w) mask) → mask < 2 ^ 64 → EndBelow32 bits → IsSpread w x bits → r < 2 * w → bit_at (joined x w mask) (a * (2 * (2 * w)) + r) ≡ bits (a * (2 * w) + r)
joined-run x w mask bits a r test fits end spread h =
    let y = joined x w mask in
    let place : ℕ → ℕ = λ k. a * (2 * (2 * w)) + k in
    ⊎_elim
    (λ within. ⊎_elim
    (λ first. joined-first x w mask bits a r test spread first within)
    (λ second.
    let e : w + (r - w) ≡ r = omega arith in
    let P : ℕ → Type 0 = λ k. bit_at y (place k) ≡ bits (a * (2 * w) + k) in
    subst P e (joined-second x w mask bits a (r - w) test spread (omega arith) (omega arith)))
    (cases_lt r w))
    (λ above. masked-above (bit_or x (x / 2 ^ w)) mask (place r) fits above ∙ sym (end (a * (2 * w) + r) (omega arith)))
    (cases_lt (place r) 64)

pub IsSpread-joined : (x w mask : ℕ) (bits : ℕ → ℕ) → IsTrue (is_mask (2 * w) mask) → mask < 2 ^ 64 → EndBelow32 bits → IsSpread w x bits → IsSpread (2 * w) (joined x w mask) bits
IsSpread-joined x w mask bits test fits end spread = record {
  runs = λ a r h. joined-run x w mask bits a r test fits end spread h;
  gaps = λ a r h. masked-off (bit_or x (x / 2 ^ w)) mask (a * (2 * (2 * w)) + 2 * w + r) (mask-gap (2 * w) mask a r test fits h);
}

-- ---- where the halvings begin and end

-- a number of 32 bits is one run
pub IsSpread-whole : (x : ℕ) → x < 2 ^ 32 → IsSpread 32 x (bit_at x)
IsSpread-whole x fits = record {
  runs = λ a r h. ⊎_elim
      (λ low. ap (bit_at x) (omega arith))
      (λ high. bit_at_above x 32 (a * 64 + r) fits high ∙ sym (bit_at_above x 32 (a * 32 + r) fits (omega arith)))
      (cases_lt (a * 64 + r) 32);
  gaps = λ a r h. bit_at_above x 32 (a * 64 + 32 + r) fits (omega arith);
}

-- runs of one bit stand at the even places
pub spread-even : (x : ℕ) (bits : ℕ → ℕ) → IsSpread 1 x bits → (j : ℕ) → bit_at x (2 * j) ≡ bits j
spread-even x bits spread j = ap (bit_at x) (omega arith) ∙ spread.runs j 0 (omega arith) ∙ ap bits (omega arith)

pub spread-odd : (x : ℕ) (bits : ℕ → ℕ) → IsSpread 1 x bits → (j : ℕ) → bit_at x (2 * j + 1) ≡ 0
spread-odd x bits spread j = ap (bit_at x) (omega arith) ∙ spread.gaps j 0 (omega arith)

-- the mask of the even places leaves the bits there
pub IsSpread-even_places : (x : ℕ) → x < 2 ^ 64 → IsSpread 1 (bit_and x 0x5555_5555_5555_5555) (λ j. bit_at x (2 * j))
IsSpread-even_places x fits = record {
  runs = λ a r h. ⊎_elim
      (λ within.
      let on = mask-run 1 0x5555_5555_5555_5555 a r refl h within in
      let cut = bit_at_and x 0x5555_5555_5555_5555 (a * 2 + r) in
      let bound = bit_at-lt x (a * 2 + r) in
      let place : bit_at x (a * 2 + r) ≡ bit_at x (2 * (a * 1 + r)) = ap (bit_at x) (omega arith) in
      omega arith)
      (λ above.
      let cut = bit_at_and x 0x5555_5555_5555_5555 (a * 2 + r) in
      let none = bit_at_above x 64 (a * 2 + r) fits above in
      let none_there = bit_at_above x 64 (2 * (a * 1 + r)) fits (omega arith) in
      omega arith)
      (cases_lt (a * 2 + r) 64);
  gaps = λ a r h. masked-off x 0x5555_5555_5555_5555 (a * 2 + 1 + r) (mask-gap 1 0x5555_5555_5555_5555 a r refl (lit< tt) h);
}

-- one run of 32 bits is the number
pub spread-whole : (x : ℕ) (bits : ℕ → ℕ) → EndBelow32 bits → IsSpread 32 x bits → (j : ℕ) → bit_at x j ≡ bits j
spread-whole x bits end spread j =
    let a = j / 64 in
    let r = j % 64 in
    ⊎_elim
    (λ low. ap (bit_at x) (omega arith) ∙ spread.runs a r low
    ∙ ⊎_elim (λ first. ap bits (omega arith)) (λ later. end (a * 32 + r) (omega arith) ∙ sym (end j (omega arith))) (cases_lt a 1))
    (λ high. ap (bit_at x) (omega arith) ∙ spread.gaps a (r - 32) (omega arith) ∙ sym (end j (omega arith)))
    (cases_lt r 32)

-- ---- two spread numbers woven into one

abbrev pub woven : ℕ → ℕ → ℕ
woven x y = bit_or x (y * 2 ^ 1 % 2 ^ 64)

pub woven-even : (x y j : ℕ) → ((k : ℕ) → bit_at y (2 * k + 1) ≡ 0) → bit_at (woven x y) (2 * j) ≡ bit_at x (2 * j)
woven-even x y j gaps =
    let none : bit_at (y * 2 ^ 1 % 2 ^ 64) (2 * j) ≡ 0 =
    ⊎_elim
    (λ within. bit_at-mod (y * 2 ^ 1) 64 (2 * j) within
    ∙ ⊎_elim (bit_at-shl_below y 1 (2 * j)) (λ up. bit_at-shl y 1 (2 * j) up ∙ ap (bit_at y) (omega arith) ∙ gaps (j - 1)) (cases_lt (2 * j) 1))
    (λ above. bit_at-mod_above (y * 2 ^ 1) 64 (2 * j) above)
    (cases_lt (2 * j) 64) in
    let both = bit_at_or x (y * 2 ^ 1 % 2 ^ 64) (2 * j) in
    omega arith

pub woven-odd : (x y j : ℕ) → y < 2 ^ 64 → bit_at x (2 * j + 1) ≡ 0 → ((k : ℕ) → 32 ≤ k → bit_at y (2 * k) ≡ 0) → bit_at (woven x y) (2 * j + 1) ≡ bit_at y (2 * j)
woven-odd x y j fits gap end =
    let moves : bit_at (y * 2 ^ 1 % 2 ^ 64) (2 * j + 1) ≡ bit_at y (2 * j) =
    ⊎_elim
    (λ within. bit_at-mod (y * 2 ^ 1) 64 (2 * j + 1) within ∙ bit_at-shl y 1 (2 * j + 1) (omega arith) ∙ ap (bit_at y) (omega arith))
    (λ above. bit_at-mod_above (y * 2 ^ 1) 64 (2 * j + 1) above ∙ sym (end j (omega arith)))
    (cases_lt (2 * j + 1) 64) in
    let both = bit_at_or x (y * 2 ^ 1 % 2 ^ 64) (2 * j + 1) in
    omega arith

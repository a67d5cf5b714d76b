-- At each tick a sequence number has one candidate at most, and which that is.
use Rattle.std.proofs.Common.{◌≡◌, ◌==◌, nat_le, nat_lt, ℕ, zero, suc, ◌+◌, ◌-◌, ◌*◌, ◌/◌, ◌%◌, ◌<◌, ◌≤◌, ◌⊎◌, Bool, cond, IsTrue, find, Some, None, refl, arith, subst, sym, ◌∙◌, ap, inl, inr}
use Rattle.std.specs.List.{range_with_len}
use Rattle.std.proofs.lemmas.Bool.{cases_lt, cases_eq, cases_Bool, false_from_ne_true, and_parts, and_from, ltb-true, leb-true, eqb-true, lt-ltb, le-leb, eq-eqb}
use Rattle.std.proofs.lemmas.Nat.{mul-le, le-div, div-add-mod', mod_below, mod-mul-add, div-mul-add}
use Rattle.std.proofs.lemmas.Option.{same_Some, none-some}
use Rattle.link_base.specs.Window.{last_frame}
use Rattle.playout_buffer.specs.Candidate.{IsCandidate, is_candidate, candidate_of, packets_opened, sequence_number}
use Rattle.playout_buffer.specs.Conditions.{IsWindow}
use Rattle.playout_buffer.specs.declared.window.Window.{Window}
use Rattle.playout_buffer.proofs.Numbers.{modulus, some_modulus, next_alike, low_half, high_half, remainder_of, alike_from_number, number_from_remainder, wide_numbers, later_by_numbers}

pub candidate_parts : (w : Window) (t seq i : ℕ) → IsTrue (is_candidate w t seq i) → IsCandidate w t seq i
unfolding is_candidate
candidate_parts w t seq i is =
    let a = and_parts (nat_lt i w.packets) _ is in
    let b = and_parts (sequence_number w i == seq) _ a.1 in
    let c = and_parts (nat_le (last_frame w.frames i + w.lmin) t) _ b.1 in record {
      within = ltb-true i w.packets a.0;
      number = eqb-true (sequence_number w i) seq b.0;
      arrives = (leb-true (last_frame w.frames i + w.lmin) t c.0, leb-true t (last_frame w.frames i + w.lmax) c.1);
    }

pub candidate_from : (w : Window) (t seq i : ℕ) → IsCandidate w t seq i → IsTrue (is_candidate w t seq i)
unfolding is_candidate
candidate_from w t seq i is =
    and_from (nat_lt i w.packets) _ (lt-ltb i w.packets is.within)
    (and_from (sequence_number w i == seq) _ (eq-eqb (sequence_number w i) seq is.number)
    (and_from (nat_le (last_frame w.frames i + w.lmin) t) _ (le-leb (last_frame w.frames i + w.lmin) t is.arrives.0) (le-leb t (last_frame w.frames i + w.lmax) is.arrives.1)))

-- ---- one candidate

not_later : (w : Window) (t seq i j : ℕ) → IsWindow w → IsCandidate w t seq i → IsCandidate w t seq j → i ≤ j
not_later w t seq i j is a b =
    elim (cases_lt j i) [
      | inr le ↦ le
      | inl less ↦
          let later = later_by_numbers w is i j (alike_from_number w is i j (a.number ∙ sym b.number)) less in
          let wide = wide_numbers w is in
          absurd (omega (arith, a.arrives.0, b.arrives.1))
    ]

pub one_candidate : (w : Window) (t seq i j : ℕ) → IsWindow w → IsCandidate w t seq i → IsCandidate w t seq j → i ≡ j
one_candidate w t seq i j is a b =
    let le = not_later w t seq i j is a b in
    let ge = not_later w t seq j i is b a in
    omega arith

-- ---- the number of a range at which alone a test passes

step : (test : ℕ → Bool) (a n : ℕ) → ¬ IsTrue (test a) → find test (range_with_len a (suc n)) ≡ find test (range_with_len (a + 1) n)
step test a n fails = ap (λ b. cond b (Some a) (find test (range_with_len (a + 1) n))) (false_from_ne_true (test a) fails)

find-none : (test : ℕ → Bool) (a n : ℕ) → ((i : ℕ) → ¬ IsTrue (test i)) → find test (range_with_len a n) ≡ None
find-none test a zero none = refl
find-none test a (suc n) none = step test a n (none a) ∙ find-none test (a + 1) n none

find-one : (test : ℕ → Bool) (a n i : ℕ) → IsTrue (test i) → ((j : ℕ) → IsTrue (test j) → j ≡ i) → a ≤ i → i < a + n → find test (range_with_len a n) ≡ Some i
find-one test a zero i is only low high = absurd (omega arith)
find-one test a (suc n) i is only low high =
    elim (cases_eq a i) [
      | inl same ↦ ap (λ b. cond b (Some a) (find test (range_with_len (a + 1) n))) (subst (λ k. IsTrue (test k)) (sym same) is) ∙ ap Some same
      | inr other ↦ step test a n (λ passes. other (only a passes)) ∙ find-one test (a + 1) n i is only (omega arith) (omega arith)
    ]

find-passes : (test : ℕ → Bool) (a n i : ℕ) → find test (range_with_len a n) ≡ Some i → IsTrue (test i)
find-passes test a zero i found = absurd (none-some i found)
find-passes test a (suc n) i found =
    elim (cases_Bool (test a)) [
      | inl passes ↦
          let here : a ≡ i = same_Some a i (sym (ap (λ b. cond b (Some a) (find test (range_with_len (a + 1) n))) passes) ∙ found) in
          subst (λ k. IsTrue (test k)) here passes
      | inr fails ↦ find-passes test (a + 1) n i (sym (ap (λ b. cond b (Some a) (find test (range_with_len (a + 1) n))) fails) ∙ found)
    ]

pub candidate_of-none : (w : Window) (t seq : ℕ) → ((i : ℕ) → ¬ IsCandidate w t seq i) → candidate_of w t seq ≡ None
unfolding candidate_of
candidate_of-none w t seq none = find-none (is_candidate w t seq) 0 w.packets (λ i is. none i (candidate_parts w t seq i is))

pub candidate_of-some : (w : Window) (t seq i : ℕ) → IsWindow w → IsCandidate w t seq i → candidate_of w t seq ≡ Some i
unfolding candidate_of
candidate_of-some w t seq i is candidate =
    find-one (is_candidate w t seq) 0 w.packets i (candidate_from w t seq i candidate)
    (λ j other. one_candidate w t seq j i is (candidate_parts w t seq j other) candidate) (omega arith) (let within = candidate.within in omega arith)

pub candidate_of-is : (w : Window) (t seq i : ℕ) → candidate_of w t seq ≡ Some i → IsCandidate w t seq i
unfolding candidate_of
candidate_of-is w t seq i found = candidate_parts w t seq i (find-passes (is_candidate w t seq) 0 w.packets i found)

-- ---- the candidate by arithmetic: the latest of the packets that have opened and have its remainder

pub latest_alike : (end r n : ℕ) → r < n → r < end → (end - 1 - (end - 1 - r) % n) % n ≡ r
latest_alike end r n small enough =
    let d = end - 1 - r in
    let split = div-add-mod' d n in
    let value : end - 1 - d % n ≡ d / n * n + r = omega (arith, split) in
    ap (λ x. x % n) value ∙ mod-mul-add (d / n) n r small

pub latest_near : (end r n : ℕ) → r < n → r < end → end ≤ end - 1 - (end - 1 - r) % n + n
latest_near end r n small enough = let less = mod_below (end - 1 - r) n (omega arith) in omega arith

-- the number itself, where the modulus is not gone through
pub alone_below : (end r n : ℕ) → r < n → r < end → end - 1 - r < n → (r < end) × (r % n ≡ r) × (end ≤ r + n)
alone_below end r n small enough short =
    let none : 0 * n + r ≡ r = omega arith in
    (enough, ap (λ k. k % n) (sym none) ∙ mod-mul-add 0 n r small, omega arith)

pub none_below : (end r n i : ℕ) → end ≤ r → i % n ≡ r → end ≤ i
none_below end r n i small alike = let a = div-add-mod' i n in omega (arith, a, alike)

-- a quotient, by what it is between
quotient_is : (n a k : ℕ) → a * k ≤ n → n < (a + 1) * k → n / k ≡ a
quotient_is n a k low high =
    let split : n ≡ a * k + (n - a * k) = omega arith in
    ap (λ m. m / k) split ∙ div-mul-add a k (n - a * k) (omega arith)

-- one more packet has opened at the tick at which the next one's window opens
pub one_more_opened : (w : Window) → IsWindow w → (t before : ℕ) → t + 1 ≡ (before + 1) * w.frames + w.lmin → before + 1 ≡ packets_opened w t
one_more_opened w is t before here =
    let some = is.some_frames in
    sym (quotient_is (t + 1 - w.lmin) (before + 1) w.frames (omega (arith, here)) (omega (arith, here)))

module _ (w : Window) (is : IsWindow w) (t : ℕ) where
  opened_below : (i : ℕ) → last_frame w.frames i + w.lmin ≤ t → i < packets_opened w t
  opened_below i early =
      let some = is.some_frames in
      let first : 1 * w.frames ≤ (i + 1) * w.frames = mul-le 1 w.frames (i + 1) w.frames (omega arith) (omega arith) in
      let next = le-div (i + 1) (t + 1 - w.lmin) w.frames some (omega (arith, first)) in omega arith

  opened_from : (i : ℕ) → i < packets_opened w t → last_frame w.frames i + w.lmin ≤ t
  opened_from i less =
      let some = is.some_frames in
      let split = div-add-mod' (t + 1 - w.lmin) w.frames in
      let product : (i + 1) * w.frames ≤ packets_opened w t * w.frames = mul-le (i + 1) w.frames (packets_opened w t) w.frames (omega arith) (omega arith) in
      let first : 1 * w.frames ≤ (i + 1) * w.frames = mul-le 1 w.frames (i + 1) w.frames (omega arith) (omega arith) in
      omega (arith, split, product, first)

  -- no packet has a number of which a half is too large
  pub no_such_number : (seq : ℕ) → (w.p ≤ seq % 65536) ⊎ (w.q ≤ seq / 65536) → (i : ℕ) → ¬ IsCandidate w t seq i
  no_such_number seq large i candidate =
      let low : seq % 65536 ≡ i % w.p = ap (λ n. n % 65536) (sym candidate.number) ∙ low_half w is i in
      let high : seq / 65536 ≡ i / w.p % w.q = ap (λ n. n / 65536) (sym candidate.number) ∙ high_half w is i in
      let a = mod_below i w.p is.some_p in
      let b = mod_below (i / w.p) w.q is.some_q in
      elim large [
        | inl more ↦ omega arith
        | inr more ↦ omega arith
      ]

  module _ (seq : ℕ) where
    abbrev pub remainder : ℕ
    remainder = seq / 65536 * w.p + seq % 65536

    pub none_opened : ((i : ℕ) → i % modulus w ≡ remainder → packets_opened w t ≤ i) → (i : ℕ) → ¬ IsCandidate w t seq i
    none_opened past i candidate =
        let late = past i (remainder_of w is i seq candidate.number) in
        let early = opened_below i candidate.arrives.0 in
        omega arith

    pub latest_is : (i : ℕ) → seq % 65536 < w.p → i < packets_opened w t → i % modulus w ≡ remainder → i < w.packets → t < (i + 1) * w.frames + w.lmax
        → IsCandidate w t seq i
    latest_is i small early alike within still = record {
      within = within;
      number = number_from_remainder w is i seq small alike;
      arrives = (
        opened_from i early,
        (
            let some = is.some_frames in
            let first : 1 * w.frames ≤ (i + 1) * w.frames = mul-le 1 w.frames (i + 1) w.frames (omega arith) (omega arith) in
            omega (arith, still, first)),
      );
    }

    pub latest_is_none : (i : ℕ) → i < packets_opened w t → i % modulus w ≡ remainder → packets_opened w t ≤ i + modulus w
        → (i < w.packets → (i + 1) * w.frames + w.lmax ≤ t) → (j : ℕ) → ¬ IsCandidate w t seq j
    latest_is_none i early alike near closed j candidate =
        let same = alike ∙ sym (remainder_of w is j seq candidate.number) in
        let here = opened_from i early in
        let there = opened_below j candidate.arrives.0 in
        let some = is.some_frames in
        elim (cases_lt i j) [
          | inl less ↦
              let gap = next_alike (modulus w) j i (some_modulus w is) (sym same) less in
              omega arith
          | inr ge ↦
              elim (cases_eq i j) [
                | inl equal ↦
                    let shut = closed (subst (λ n. n < w.packets) (sym equal) candidate.within) in
                    let still : t ≤ last_frame w.frames i + w.lmax = subst (λ n. t ≤ last_frame w.frames n + w.lmax) (sym equal) candidate.arrives.1 in
                    let first : 1 * w.frames ≤ (i + 1) * w.frames = mul-le 1 w.frames (i + 1) w.frames (omega arith) (omega arith) in
                    omega (arith, shut, still, first)
                | inr other ↦
                    let later = later_by_numbers w is i j same (omega arith) in
                    let wide = wide_numbers w is in
                    omega (arith, candidate.arrives.1)
              ]
        ]

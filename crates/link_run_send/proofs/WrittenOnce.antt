-- Each packet of a run is written at one of its ticks.
use Rattle.std.proofs.Common.{◌≡◌, ◌≢◌, ℕ, zero, suc, ◌+◌, ◌-◌, ◌<◌, ◌≤◌, List, [], ◌∷◌, ◌++◌, Bool, true, cond, refl, sym, ap, ◌∙◌, inl, inr, arith}
use Rattle.std.specs.Prelude.{◌==◌, filter, nat_lt}
use Rattle.std.specs.Int.{div_ceil}
use Rattle.std.specs.List.{flat_map, range_with_len}
use Rattle.std.proofs.lemmas.Bool.{cases_eq, cases_lt, cond-false, cond-true, eq-eqb, le-ltb, lt-ltb, ne_eqb}
use Rattle.std.proofs.lemmas.Grind.{div_ceil_times}
use Rattle.std.proofs.lemmas.List.{append-nil}
use Rattle.std.proofs.lemmas.List.Concat.{flat_map-append}
use Rattle.std.proofs.lemmas.Nat.{mul-le}
use Rattle.link_base.specs.Window.{last_frame}
use Rattle.link_sender.proofs.GoodFlows.{good_flow}
use Rattle.link_text.proofs.GatheredLines.{range_split}
use Rattle.plan_checker.proofs.Places.{at_place}
use Rattle.plan_checker.specs.Packets.{run_packets}
use Rattle.plan_checker.specs.Rules.Rule.{PlayedInTime}
use Rattle.plan_checker.specs.Run.{longest_block, ticks_of_run}
use Rattle.plan_checker.specs.Timing.{IsPlayedInTime}
use Rattle.link_run_send.specs.RunText.{PacketsAreWrittenOnce}
use Rattle.link_run_send.specs.SentText.{opening_at}
use Rattle.link_run_send.proofs.SentRecords.{none_passes}

-- ---- filters of numbers in a row

module _ (test : ℕ → Bool) where
  all_pass : (a n : ℕ) → ((i : ℕ) → a ≤ i → i < a + n → test i ≡ true) → filter test (range_with_len a n) ≡ range_with_len a n
  all_pass a zero passes = refl
  all_pass a (suc n) passes =
      cond-true (test a) _ _ (passes a (omega arith) (omega arith)) ∙ ap (λ xs. a ∷ xs) (all_pass (a + 1) n (λ i from below. passes i (omega (arith, from)) (omega (arith, below))))

filters_same : (f g : ℕ → Bool) (a n : ℕ) → ((i : ℕ) → a ≤ i → i < a + n → f i ≡ g i) → filter f (range_with_len a n) ≡ filter g (range_with_len a n)
filters_same f g a zero same = refl
filters_same f g a (suc n) same =
    ap (λ b. cond b (a ∷ filter f (range_with_len (a + 1) n)) (filter f (range_with_len (a + 1) n))) (same a (omega arith) (omega arith))
    ∙ ap (λ xs. cond (g a) (a ∷ xs) xs) (filters_same f g (a + 1) n (λ i from below. same i (omega (arith, from)) (omega (arith, below))))

-- ---- numbers by the tick at which each opens, later ones no earlier

module _ (tick : ℕ → ℕ) (grows : (i j : ℕ) → i ≤ j → tick i ≤ tick j) where
  more_at : (t a n : ℕ) → filter (λ i. nat_lt (tick i) t) (range_with_len a n) ++ filter (λ i. tick i == t) (range_with_len a n) ≡ filter (λ i. nat_lt (tick i) (t + 1)) (range_with_len a n)
  more_at t a zero = refl
  more_at t a (suc n) = elim (cases_lt (tick a) t) [
    | inl early ↦ early_on early (more_at t (a + 1) n)
    | inr late ↦ late_on late
  ]
    where
      early_on : tick a < t
          → filter (λ i. nat_lt (tick i) t) (range_with_len (a + 1) n) ++ filter (λ i. tick i == t) (range_with_len (a + 1) n) ≡ filter (λ i. nat_lt (tick i) (t + 1)) (range_with_len (a + 1) n)
          → filter (λ i. nat_lt (tick i) t) (range_with_len a (suc n)) ++ filter (λ i. tick i == t) (range_with_len a (suc n)) ≡ filter (λ i. nat_lt (tick i) (t + 1)) (range_with_len a (suc n))
      early_on early later =
          let other : tick a ≢ t = omega arith in
          ap (λ xs. xs ++ filter (λ i. tick i == t) (range_with_len a (suc n))) (cond-true (nat_lt (tick a) t) _ _ (lt-ltb (tick a) t early))
          ∙ ap (λ xs. (a ∷ filter (λ i. nat_lt (tick i) t) (range_with_len (a + 1) n)) ++ xs) (cond-false (tick a == t) _ _ (ne_eqb (tick a) t other))
          ∙ ap (λ xs. a ∷ xs) later
          ∙ sym (cond-true (nat_lt (tick a) (t + 1)) _ _ (lt-ltb (tick a) (t + 1) (omega (arith, early))))

      one_tick : t ≤ tick a → (i : ℕ) → a ≤ i → (tick i == t) ≡ nat_lt (tick i) (t + 1)
      one_tick late i from =
          let order = grows a i from in
          elim (cases_eq (tick i) t) [
            | inl here ↦ eq-eqb (tick i) t here ∙ sym (lt-ltb (tick i) (t + 1) (omega (arith, here)))
            | inr other ↦ ne_eqb (tick i) t other ∙ sym (le-ltb (tick i) (t + 1) (omega (arith, other, late, order)))
          ]

      late_on : t ≤ tick a → filter (λ i. nat_lt (tick i) t) (range_with_len a (suc n)) ++ filter (λ i. tick i == t) (range_with_len a (suc n)) ≡ filter (λ i. nat_lt (tick i) (t + 1)) (range_with_len a (suc n))
      late_on late =
          ap (λ xs. xs ++ filter (λ i. tick i == t) (range_with_len a (suc n)))
          (none_passes (λ i. nat_lt (tick i) t) a (suc n) (λ i from below. let order = grows a i from in le-ltb (tick i) t (omega (arith, order, late))))
          ∙ filters_same (λ i. tick i == t) (λ i. nat_lt (tick i) (t + 1)) a (suc n) (λ i from below. one_tick late i from)

  collected : (t n : ℕ) → flat_map (λ u. filter (λ i. tick i == u) (range_with_len 0 n)) (range_with_len 0 t) ≡ filter (λ i. nat_lt (tick i) t) (range_with_len 0 n)
  collected zero n = sym (none_passes (λ i. nat_lt (tick i) zero) 0 n (λ i from below. le-ltb (tick i) 0 (omega arith)))
  collected (suc t) n =
      let more : suc t ≡ t + 1 = omega arith in
      let here : 0 + t ≡ t = omega arith in
      let at : ℕ → List ℕ = λ u. filter (λ i. tick i == u) (range_with_len 0 n) in
      ap (λ k. flat_map at (range_with_len 0 k)) more ∙ ap (flat_map at) (range_split 0 t 1) ∙ flat_map-append at (range_with_len 0 t) (range_with_len (0 + t) 1)
      ∙ ap (λ xs. xs ++ flat_map at (range_with_len (0 + t) 1)) (collected t n)
      ∙ ap (λ k. filter (λ i. nat_lt (tick i) t) (range_with_len 0 n) ++ (at k ++ [])) here
      ∙ ap (λ xs. filter (λ i. nat_lt (tick i) t) (range_with_len 0 n) ++ xs) (append-nil (at t))
      ∙ more_at t 0 n ∙ ap (λ k. filter (λ i. nat_lt (tick i) k) (range_with_len 0 n)) (sym more)

  -- where all open before a tick, those of all ticks before it are all
  all_collected : (t n : ℕ) → ((i : ℕ) → i < n → tick i < t) → flat_map (λ u. filter (λ i. tick i == u) (range_with_len 0 n)) (range_with_len 0 t) ≡ range_with_len 0 n
  all_collected t n early = collected t n ∙ all_pass (λ i. nat_lt (tick i) t) 0 n (λ i from below. lt-ltb (tick i) t (early i (omega (arith, below))))

-- ---- the packets of a flow

opens_later : (frames lmin i j : ℕ) → i ≤ j → last_frame frames i + lmin ≤ last_frame frames j + lmin
opens_later frames lmin i j order =
    let more = mul-le (i + 1) frames (j + 1) frames (omega arith) (omega arith) in
    omega (arith, more)

opens_in_run : (frames lmin lmax playout n i : ℕ) → 1 ≤ frames → lmin ≤ lmax → frames - 1 + lmax ≤ playout → i < div_ceil n frames → last_frame frames i + lmin < n + playout
opens_in_run frames lmin lmax playout n i some window played inside =
    let whole = (div_ceil_times n frames (omega arith)).1 in
    let within = mul-le (i + 1) frames (div_ceil n frames) frames (omega (arith, inside)) (omega arith) in
    let least = mul-le 1 frames (i + 1) frames (omega arith) (omega arith) in
    omega (arith, whole, within, least)

pub PacketsAreWrittenOnce-holds : PacketsAreWrittenOnce
unfolding opening_at
PacketsAreWrittenOnce-holds p h place f good read =
    let is = good_flow p place f good read in
    let played = at_place (IsPlayedInTime p.playout) p.flows place f read (good PlayedInTime place is.inside) in
    all_collected (λ i. last_frame f.frames i + f.lmin) (opens_later f.frames f.lmin) (ticks_of_run p h) (run_packets p f h)
    (λ i inside. opens_in_run f.frames f.lmin f.lmax p.playout (h + longest_block p) i is.payload.some_frames is.window.0 played.0 inside)

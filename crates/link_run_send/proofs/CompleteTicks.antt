-- How many ticks of a run have their samples: as many as all carriers have samples for.
use Rattle.std.proofs.Common.{◌≡◌, ℕ, zero, suc, ◌+◌, ◌*◌, ◌/◌, ◌<◌, ◌≤◌, Bool, true, false, cond, length, slice_index, Option, Some, None, refl, sym, ap, ◌∙◌, subst, inl, inr, arith}
use Rattle.std.specs.Prelude.{is_some, is_none}
use Rattle.std.specs.List.{find, range_with_len}
use Rattle.std.proofs.Math.Nat.{zero-div}
use Rattle.std.proofs.lemmas.Bool.{cases_eq, cases_lt, le-ltb, ltb-false}
use Rattle.carrier_plan.specs.declared.plan.Plan.{Plan}
use Rattle.link_sender.specs.Stream.{Stream, samples_of}
use Rattle.plan_checker.specs.Run.{block_lengths, block_samples, samples_before}
use Rattle.link_run_send.specs.Lacking.{complete_ticks, lacking_carrier, lacking_tick, lacks, or_all}
use Rattle.link_run_send.specs.WholeText.{TicksAreComplete}
use Rattle.link_run_send.proofs.LackingPlaces.{find_none, samples_before-grows}

-- ---- the first number that passes a test, or this one where none does

-- nothing is found before a place where nothing passes
pub find_from : (test : ℕ → Bool) (h t a n : ℕ) → t ≤ h → ((i : ℕ) → i < t → test i ≡ false) → t ≤ or_all h (find test (range_with_len a n))
find_from test h t a zero within none = within
find_from test h t a (suc n) within none = by (test a) refl (find_from test h t (a + 1) n within none)
  where
    by : (b : Bool) → test a ≡ b → t ≤ or_all h (find test (range_with_len (a + 1) n)) → t ≤ or_all h (cond b (Some a) (find test (range_with_len (a + 1) n)))
    by true passes later = elim (cases_lt a t) [
      | inl early ↦ absurd (let e = sym passes ∙ none a early in cc)
      | inr late ↦ late
    ]
    by false fails later = later

-- nothing passes before the place that is found
found_before : (test : ℕ → Bool) (h a n k : ℕ) → a ≤ k → k < a + n → k < or_all h (find test (range_with_len a n)) → test k ≡ false
found_before test h a zero k from below early = absurd (omega arith)
found_before test h a (suc n) k from below early = by (test a) refl early (λ past. found_before test h (a + 1) n k past (omega arith))
  where
    by : (b : Bool) → test a ≡ b → k < or_all h (cond b (Some a) (find test (range_with_len (a + 1) n)))
        → (a + 1 ≤ k → k < or_all h (find test (range_with_len (a + 1) n)) → test k ≡ false) → test k ≡ false
    by true passes early later = absurd (omega (arith, early, from))
    by false fails early later = elim (cases_eq a k) [
      | inl here ↦ ap test (sym here) ∙ fails
      | inr other ↦ later (omega (arith, other, from)) early
    ]

found_within : (test : ℕ → Bool) (h a n : ℕ) → a + n ≤ h → or_all h (find test (range_with_len a n)) ≤ h
found_within test h a zero within = omega arith
found_within test h a (suc n) within = by (test a) (found_within test h (a + 1) n (omega arith))
  where
    by : (b : Bool) → or_all h (find test (range_with_len (a + 1) n)) ≤ h → or_all h (cond b (Some a) (find test (range_with_len (a + 1) n))) ≤ h
    by true later = omega (arith, within)
    by false later = later

none_found : (test : ℕ → Bool) (a n k : ℕ) → a ≤ k → k < a + n → find test (range_with_len a n) ≡ None → test k ≡ false
none_found test a n k from below none = found_before test (k + 1) a n k from below (subst (λ o. k < or_all (k + 1) o) (sym none) (omega arith))

is_none_from : {A : Type 0} (o : Option A) → is_some o ≡ false → o ≡ None
is_none_from None is = refl
is_none_from (Some x) is = absurd (cc)

-- ---- the ticks of a run

pub none_at_first : (p : Plan) (c : ℕ) → samples_before p c 0 ≡ 0
none_at_first p c =
    let none : 0 * slice_index (block_samples p) c ≡ 0 = omega arith in
    ap (λ m. m / slice_index (block_lengths p) c) none ∙ zero-div (slice_index (block_lengths p) c)

module _ (p : Plan) (h : ℕ) (σ : Stream) where
  pub complete_within : complete_ticks p h σ ≤ h
  unfolding lacking_tick
  complete_within = found_within (λ n. is_some (lacking_carrier p σ n)) h 0 h (omega arith)

  pub complete_whole : is_none (lacking_tick p h σ) ≡ true → complete_ticks p h σ ≡ h
  complete_whole is = by (lacking_tick p h σ) is
    where
      by : (o : Option ℕ) → is_none o ≡ true → or_all h o ≡ h
      by None is = refl
      by (Some n) is = absurd (cc)

  has_at : (n c : ℕ) → n < complete_ticks p h σ → c < length p.carriers → samples_before p c (n + 1) ≤ length (samples_of σ c)
  unfolding lacking_tick lacking_carrier
  has_at n c early inside =
      let found = found_before (λ n. is_some (lacking_carrier p σ n)) h 0 h n (omega arith) (omega (arith, early, complete_within)) early in
      let lacks_none = none_found (lacks p σ n) 0 (length p.carriers) c (omega arith) (omega (arith, inside)) (is_none_from (lacking_carrier p σ n) found) in
      ltb-false (length (samples_of σ c)) (samples_before p c (n + 1)) lacks_none

  -- all carriers have the samples of the ticks that are complete
  pub has_enough : (n c : ℕ) → n ≤ complete_ticks p h σ → c < length p.carriers → samples_before p c n ≤ length (samples_of σ c)
  has_enough zero c within inside = omega (arith, none_at_first p c)
  has_enough (suc n) c within inside =
      let more : n + 1 ≡ suc n = omega arith in
      omega (arith, has_at n c (omega (arith, within)) inside, ap (samples_before p c) more)

  -- and no later tick is one of which they have
  pub complete_at_least : (n : ℕ) → n ≤ h → ((c : ℕ) → c < length p.carriers → samples_before p c n ≤ length (samples_of σ c)) → n ≤ complete_ticks p h σ
  unfolding lacking_tick lacking_carrier
  complete_at_least n within enough =
      find_from (λ n. is_some (lacking_carrier p σ n)) h n 0 h within
      (λ m less. ap is_some
      (find_none (lacks p σ m) 0 (length p.carriers) (λ c low inside.
      let grows = samples_before-grows p c (m + 1) n (omega (arith, less)) in
      le-ltb (length (samples_of σ c)) (samples_before p c (m + 1)) (omega (arith, grows, enough c (omega (arith, inside)))))))

-- more samples complete no fewer ticks
pub complete_grows : (p : Plan) (h : ℕ) (σ τ : Stream) → ((c : ℕ) → c < length p.carriers → length (samples_of σ c) ≤ length (samples_of τ c)) → complete_ticks p h σ ≤ complete_ticks p h τ
complete_grows p h σ τ grows =
    complete_at_least p h τ (complete_ticks p h σ) (complete_within p h σ)
    (λ c inside. let enough = has_enough p h σ (complete_ticks p h σ) c (omega arith) inside in omega (arith, enough, grows c inside))

pub TicksAreComplete-holds : TicksAreComplete
TicksAreComplete-holds p h σ n = (
  λ within. (omega (arith, within, complete_within p h σ), λ c inside. has_enough p h σ n c within inside),
  λ all. complete_at_least p h σ n all.0 all.1,
)

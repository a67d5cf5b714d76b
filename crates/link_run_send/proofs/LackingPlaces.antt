-- Which sample comes next, by how many have come.
use Rattle.std.proofs.Common.{◌≡◌, ℕ, zero, suc, ◌+◌, ◌*◌, ◌/◌, ◌<◌, ◌≤◌, ◌≢◌, Bool, true, false, cond, List, [], ◌++◌, length, slice_index, Some, None, refl, sym, ap, ◌∙◌, subst, inl, inr, arith, length-append, get_or-set_other, get_or-set_same}
use Rattle.std.specs.Prelude.{is_none, is_some}
use Rattle.std.specs.List.{find, range_with_len}
use Rattle.std.proofs.Math.Nat.{div-zero}
use Rattle.std.proofs.lemmas.Bool.{cases_eq, cases_lt, le-ltb, lt-ltb}
use Rattle.std.proofs.lemmas.Nat.{div-add-mod', le-div, mul-le}
use Rattle.carrier_plan.specs.declared.plan.Plan.{Plan}
use Rattle.sample_bits.specs.declared.iq.RawIq.{RawIq}
use Rattle.plan_checker.specs.Run.{block_lengths, block_samples, samples_before, samples_due}
use Rattle.link_sender.specs.HandedIn.{with_samples}
use Rattle.link_sender.specs.Stream.{Stream, samples_of}
use Rattle.link_run_send.specs.ComesNext.{HandedTo}
use Rattle.link_run_send.specs.Lacking.{carrier_at, complete_ticks, lacking_carrier, lacking_tick, lacks, next_carrier, or_all}

-- ---- the first number of some that passes a test

pub find_none : (t : ℕ → Bool) (a m : ℕ) → ((s : ℕ) → a ≤ s → s < a + m → t s ≡ false) → find t (range_with_len a m) ≡ None
find_none t a zero fails = refl
find_none t a (suc m) fails =
    let here : t a ≡ false = fails a (omega arith) (omega arith) in
    let later = find_none t (a + 1) m (λ s low high. fails s (omega arith) (omega arith)) in
    ap (λ b. cond b (Some a) (find t (range_with_len (a + 1) m))) here ∙ later

find_at : (t : ℕ → Bool) (a m k : ℕ) → a ≤ k → k < a + m → t k ≡ true → ((s : ℕ) → a ≤ s → s < k → t s ≡ false) → find t (range_with_len a m) ≡ Some k
find_at t a zero k low high passes fails = absurd (omega arith)
find_at t a (suc m) k low high passes fails =
    elim (cases_eq a k) [
      | inl same ↦
          let here : t a ≡ true = ap t same ∙ passes in
          ap (λ b. cond b (Some a) (find t (range_with_len (a + 1) m))) here ∙ ap Some same
      | inr other ↦
          let above : a + 1 ≤ k = omega (arith, other) in
          let here : t a ≡ false = fails a (omega arith) (omega arith) in
          ap (λ b. cond b (Some a) (find t (range_with_len (a + 1) m))) here
          ∙ find_at t (a + 1) m k above (omega arith) passes (λ s le lt. fails s (omega arith) lt)
    ]

-- ---- the numbers of samples that have come

-- more samples are due before a later tick
quotient_grows : (m n s k : ℕ) → m ≤ n → m * s / k ≤ n * s / k
quotient_grows m n s k order =
    elim (cases_lt 0 k) [
      | inl some ↦
          let split = div-add-mod' (m * s) k in
          let more = mul-le m s n s order (omega arith) in
          le-div (m * s / k) (n * s) k some (omega (arith, split, more))
      | inr none ↦
          let zero_frames : k ≡ 0 = omega arith in
          subst (λ x. m * s / x ≤ n * s / x) (sym zero_frames) (omega (arith, div-zero (m * s), div-zero (n * s)))
    ]

pub samples_before-grows : (p : Plan) (c m n : ℕ) → m ≤ n → samples_before p c m ≤ samples_before p c n
samples_before-grows p c m n order = quotient_grows m n (slice_index (block_samples p) c) (slice_index (block_lengths p) c) order

-- All samples have come that stand before those of this carrier at this tick, and of those so many.
pub record LengthsAt (p : Plan) (σ : Stream) (tick carrier come : ℕ) : Type 0 where
  pub before : (c : ℕ) → c < carrier → c < length p.carriers → length (samples_of σ c) ≡ samples_before p c (tick + 1)
  pub here : carrier < length p.carriers → length (samples_of σ carrier) ≡ samples_before p carrier tick + come
  pub after : (c : ℕ) → carrier < c → c < length p.carriers → length (samples_of σ c) ≡ samples_before p c tick

module _ (p : Plan) (h : ℕ) (σ : Stream) (tick carrier come : ℕ) (lengths : LengthsAt p σ tick carrier come) where
  -- nothing is missing before the tick
  enough : (c : ℕ) → c < length p.carriers → samples_before p c tick ≤ length (samples_of σ c)
  enough c inside =
      elim (cases_lt c carrier) [
        | inl first ↦
            let grows = samples_before-grows p c tick (tick + 1) (omega arith) in
            omega (arith, lengths.before c first inside, grows)
        | inr later ↦ elim (cases_eq c carrier) [
          | inl same ↦
              let here = lengths.here (subst (λ x. x < length p.carriers) same inside) in
              subst (λ x. samples_before p x tick ≤ length (samples_of σ x)) (sym same) (omega (arith, here))
          | inr other ↦ omega (arith, lengths.after c (omega (arith, other)) inside)
        ]
      ]

  pub none_before : (n : ℕ) → n < tick → lacking_carrier p σ n ≡ None
  unfolding lacking_carrier
  none_before n less =
      find_none (lacks p σ n) 0 (length p.carriers) (λ c low inside.
      let grows = samples_before-grows p c (n + 1) tick (omega arith) in
      le-ltb (length (samples_of σ c)) (samples_before p c (n + 1)) (omega (arith, grows, enough c (omega arith))))

  pub missing_carrier : carrier < length p.carriers → come < samples_due p carrier tick → lacking_carrier p σ tick ≡ Some carrier
  unfolding lacking_carrier
  missing_carrier inside missing =
      find_at (lacks p σ tick) 0 (length p.carriers) carrier (omega arith) (omega arith)
      (lt-ltb (length (samples_of σ carrier)) (samples_before p carrier (tick + 1)) (omega (arith, lengths.here inside, missing)))
      (λ c low first. le-ltb (length (samples_of σ c)) (samples_before p c (tick + 1)) (omega (arith, lengths.before c first (omega arith))))

  -- where samples of the carrier are missing
  module _ (in_run : tick < h) (inside : carrier < length p.carriers) (missing : come < samples_due p carrier tick) where
    pub missing_tick : lacking_tick p h σ ≡ Some tick
    unfolding lacking_tick
    missing_tick =
        find_at (λ n. is_some (lacking_carrier p σ n)) 0 h tick (omega arith) (omega arith) (ap is_some (missing_carrier inside missing)) (λ n low less. ap is_some (none_before n less))

    pub missing_complete : complete_ticks p h σ ≡ tick
    missing_complete = ap (or_all h) missing_tick

    pub missing_next : next_carrier p h σ ≡ Some carrier
    missing_next = ap (carrier_at p σ) missing_tick ∙ missing_carrier inside missing

  -- after the run
  module _ (end : tick ≡ h) where
    pub none_missing : lacking_tick p h σ ≡ None
    unfolding lacking_tick
    none_missing = find_none (λ n. is_some (lacking_carrier p σ n)) 0 h (λ n low less. ap is_some (none_before n (omega arith)))

    pub none_complete : complete_ticks p h σ ≡ h
    none_complete = ap (or_all h) none_missing

    pub none_next : next_carrier p h σ ≡ None
    none_next = ap (carrier_at p σ) none_missing

    pub none_may_end : is_none (lacking_tick p h σ) ≡ true
    none_may_end = ap is_none none_missing

-- ---- the samples that have come, of those that were handed in and those of the carrier that comes next

pub lengths_with : (p : Plan) (handed : Stream) (counts : List ℕ) (tick carrier : ℕ) (part : List RawIq)
    → HandedTo p counts tick carrier → ((c : ℕ) → c < length p.carriers → length (samples_of handed c) ≡ slice_index counts c) → length handed.samples ≡ length p.carriers
    → LengthsAt p (with_samples handed carrier part) tick carrier (length part)
lengths_with p handed counts tick carrier part to as_counted as_many =
    let more = samples_of handed carrier ++ part in record {
      before = λ c first inside.
          let apart : c ≢ carrier = omega arith in
          ap length (get_or-set_other handed.samples carrier c more [] apart) ∙ as_counted c inside ∙ to.before c first inside;
      here = λ inside.
          let there : carrier < length handed.samples = omega arith in
          ap length (get_or-set_same handed.samples carrier more [] there) ∙ length-append (samples_of handed carrier) part
          ∙ ap (λ n. n + length part) (as_counted carrier inside ∙ to.from carrier (omega arith) inside);
      after = λ c later inside.
          let apart : c ≢ carrier = omega arith in
          ap length (get_or-set_other handed.samples carrier c more [] apart) ∙ as_counted c inside ∙ to.from c (omega arith) inside;
    }

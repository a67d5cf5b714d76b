-- Streams with more samples of a carrier.
use Rattle.std.proofs.Common.{◌≡◌, ◌≢◌, ℕ, zero, suc, ◌*◌, ◌/◌, ◌<◌, ◌≤◌, List, [], ◌∷◌, ◌++◌, length, get_or, set, slice_get, Some, length-set, get_or-set_other, get_or-set_same, append_assoc, append-nil, refl, sym, ap, ◌∙◌, subst, arith, inl, inr, Bool, true, false, map}
use Rattle.std.specs.Prelude.{nat_lt, ◌||◌}
use Rattle.std.specs.List.{list_any}
use Rattle.std.proofs.lemmas.Bool.{cases_eq, lt-ltb}
use Rattle.std.proofs.lemmas.List.{get_or_append_left, set-get_or}
use Rattle.std.proofs.lemmas.Option.{slice_get_within}
use Rattle.std.proofs.lemmas.Nat.{div-add-mod', le-div, mul-le}
use Rattle.carrier_plan.specs.declared.plan.Carrier.{Carrier}
use Rattle.carrier_plan.specs.declared.plan.Plan.{Plan}
use Rattle.link_sender.specs.HandedIn.{with_samples}
use Rattle.link_sender.specs.Laws.{AgreesBefore}
use Rattle.link_sender.specs.Senders.{zero_sample}
use Rattle.link_sender.specs.Stream.{Stream, sample_at, samples_of}
use Rattle.link_sender.proofs.GoodCarriers.{good_carrier, samples_before-carrier}
use Rattle.plan_checker.specs.Rules.{IsGood}
use Rattle.plan_checker.specs.Run.{samples_before}
use Rattle.sample_bits.specs.declared.iq.RawIq.{RawIq}
use Rattle.link_run_send.specs.Sent.{has_samples}

pub set-set : {A : Type 0} (xs : List A) (i : ℕ) (a b : A) → set (set xs i a) i b ≡ set xs i b
set-set [] i a b = refl
set-set (x ∷ xs) zero a b = refl
set-set (x ∷ xs) (suc i) a b = ap (λ ys. x ∷ ys) (set-set xs i a b)

-- the stream with these samples in place of its own
abbrev with_lists : Stream → List (List RawIq) → Stream
with_lists σ lists = record { samples = lists; announcement = σ.announcement; slow = σ.slow; fast = σ.fast }

module _ (σ : Stream) (c : ℕ) where
  pub with_none : with_samples σ c [] ≡ σ
  with_none = ap (with_lists σ) (ap (set σ.samples c) (append-nil (samples_of σ c)) ∙ set-get_or σ.samples c [])

  module _ (inside : c < length σ.samples) where
    pub samples_with : (more : List RawIq) → samples_of (with_samples σ c more) c ≡ samples_of σ c ++ more
    samples_with more = get_or-set_same σ.samples c (samples_of σ c ++ more) [] inside

    pub with_twice : (a b : List RawIq) → with_samples (with_samples σ c a) c b ≡ with_samples σ c (a ++ b)
    with_twice a b =
        ap (with_lists σ)
        (ap (λ own. set (set σ.samples c (samples_of σ c ++ a)) c (own ++ b)) (samples_with a)
        ∙ set-set σ.samples c (samples_of σ c ++ a) ((samples_of σ c ++ a) ++ b)
        ∙ ap (set σ.samples c) (append_assoc (samples_of σ c) a b))

  pub samples_beside : (more : List RawIq) (other : ℕ) → other ≢ c → samples_of (with_samples σ c more) other ≡ samples_of σ other
  samples_beside more other different = get_or-set_other σ.samples c other (samples_of σ c ++ more) [] different

-- ---- whether there are samples

any_at : {A : Type 0} (test : A → Bool) (xs : List A) (i : ℕ) (d : A) → i < length xs → test (get_or xs i d) ≡ true → list_any test xs ≡ true
any_at test [] i d inside passes = absurd (omega (arith, inside))
any_at test (x ∷ xs) zero d inside passes = ap (λ b. b || list_any test xs) passes
any_at test (x ∷ xs) (suc i) d inside passes = ap (λ b. test x || b) (any_at test xs i d (omega (arith, inside)) passes) ∙ or_true (test x)
  where
    or_true : (b : Bool) → b || true ≡ true
    or_true true = refl
    or_true false = refl

ltb_positive : (n : ℕ) → nat_lt 0 (suc n) ≡ true
ltb_positive n = lt-ltb 0 (suc n) (omega arith)

pub has_with : (σ : Stream) (c : ℕ) (some : List RawIq) → c < length σ.samples → 0 < length some → has_samples (with_samples σ c some) ≡ true
has_with σ c some inside present =
    any_at (λ samples. nat_lt 0 (length samples)) (with_samples σ c some).samples c [] (omega (arith, inside, length-set σ.samples c (samples_of σ c ++ some)))
    (ap (λ samples. nat_lt 0 (length samples)) (samples_with σ c inside some) ∙ positive (samples_of σ c) some present)
  where
    positive : (a b : List RawIq) → 0 < length b → nat_lt 0 (length (a ++ b)) ≡ true
    positive [] [] present = absurd (omega (arith, present))
    positive [] (x ∷ b) present = ltb_positive (length b)
    positive (x ∷ a) b present = ltb_positive (length (a ++ b))

pub has_none : {A : Type 0} (xs : List A) → list_any (λ (samples : List RawIq). nat_lt 0 (length samples)) (map (λ (x : A). []) xs) ≡ false
has_none [] = refl
has_none (x ∷ xs) = has_none xs

-- ---- what more samples do not change

-- a sample of a block that is handed in before tick t is handed in before it
before_tick : (p : Plan) (t : ℕ) → IsGood p → (d : ℕ) (carrier : Carrier) (j : ℕ) → slice_get p.carriers d ≡ Some carrier → j < t / carrier.k * carrier.s → j < samples_before p d t
before_tick p t good d carrier j read early =
    let is = good_carrier p d carrier good read in
    let now = samples_before-carrier p d carrier t is in
    let split = div-add-mod' t carrier.k in
    let blocks = mul-le (t / carrier.k * carrier.k) carrier.s t carrier.s (omega (arith, split)) (omega arith) in
    let start = le-div (t / carrier.k * carrier.s) (t * carrier.s) carrier.k is.some_frames (omega (arith, blocks)) in
    omega (arith, early, start, now)

-- The second stream has the samples of the first, and maybe more after them.
pub record IsLonger (p : Plan) (σ τ : Stream) : Type 0 where
  pub announcement : τ.announcement ≡ σ.announcement
  pub slow : τ.slow ≡ σ.slow
  pub fast : τ.fast ≡ σ.fast
  pub more : ℕ → List RawIq
  pub samples : (c : ℕ) → c < length p.carriers → samples_of τ c ≡ samples_of σ c ++ more c

-- Where all carriers have the samples that are handed in before tick t, more samples change nothing of what is handed in before it.
pub agrees_longer : (p : Plan) (σ τ : Stream) (t : ℕ) → IsGood p → IsLonger p σ τ → ((c : ℕ) → c < length p.carriers → samples_before p c t ≤ length (samples_of σ c)) → AgreesBefore p t σ τ
agrees_longer p σ τ t good longer enough = record {
  announcement = longer.announcement;
  slow = longer.slow;
  fast = longer.fast;
  samples = λ d carrier j read early.
      let inside = slice_get_within p.carriers d carrier read in
      let less = before_tick p t good d carrier j read early in
      ap (λ xs. get_or xs j zero_sample) (longer.samples d inside) ∙ get_or_append_left (samples_of σ d) (longer.more d) zero_sample j (omega (arith, less, enough d inside));
}

-- More samples of a carrier that has those that are handed in before tick t change nothing of what is handed in before it.
module _ (p : Plan) (σ : Stream) (c t : ℕ) (more : List RawIq) (good : IsGood p) (inside : c < length σ.samples) (handed : length (samples_of σ c) ≡ samples_before p c t) where
  early_at : (j : ℕ) → j < length (samples_of σ c) → sample_at (with_samples σ c more) c j ≡ sample_at σ c j
  early_at j less = ap (λ xs. get_or xs j zero_sample) (samples_with σ c inside more) ∙ get_or_append_left (samples_of σ c) more zero_sample j less

  pub agrees_with : AgreesBefore p t σ (with_samples σ c more)
  agrees_with = record {
    announcement = refl;
    slow = refl;
    fast = refl;
    samples = λ d carrier j read early. elim (cases_eq d c) [
      | inl here ↦
          let less = before_tick p t good d carrier j read early in
          subst (λ n. sample_at (with_samples σ c more) n j ≡ sample_at σ n j) (sym here) (early_at j (omega (arith, less, ap (λ n. samples_before p n t) here, handed)))
      | inr other ↦ ap (λ xs. get_or xs j zero_sample) (samples_beside σ c more d other)
    ];
  }

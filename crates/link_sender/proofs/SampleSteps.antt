-- The samples in hand of a carrier, from tick to tick.
use Rattle.std.proofs.Common.{◌≡◌, ℕ, ◌+◌, ◌-◌, ◌*◌, ◌/◌, ◌%◌, ◌<◌, ◌≤◌, cond, [], ◌++◌, length, get_or, length-append, sym, ap, ◌∙◌, subst, arith, inl, inr}
use Rattle.std.proofs.Math.ListN.{get_or-eq_default}
use Rattle.std.proofs.Math.Nat.{div-eq_of_lt}
use Rattle.std.proofs.Math.Seq.{get_or-append_right}
use Rattle.std.proofs.lemmas.Bool.{cases_lt, eq-eqb, le-ltb, lt-ltb, ne_eqb}
use Rattle.std.proofs.lemmas.List.{get_or_append_left, get_or-replicate, length-replicate}
use Rattle.std.proofs.lemmas.Nat.{div-add-mod', div-mul-add, mod-mul-add, mod_below}
use Rattle.carrier_plan.specs.declared.plan.Carrier.{Carrier}
use Rattle.link_sender_blocks.specs.declared.mapping.Mapping.{Mapping}
use Rattle.link_sender_blocks.specs.InHand.{SamplesView, after_frame, silence}
use Rattle.sample_bits.specs.declared.iq.RawIq.{RawIq}
use Rattle.link_sender.specs.Senders.{KeepsSamples, StandsForSamples, block_start, sent_sample, zero_sample}
use Rattle.link_sender.specs.Stream.{Stream, sample_at, samples_of}

-- ---- the next tick

pub record IsWhole (t k : ℕ) : Type 0 where
  pub quotient : (t + 1) / k ≡ t / k + 1
  pub rest : (t + 1) % k ≡ 0

pub record IsWithin (t k : ℕ) : Type 0 where
  pub quotient : (t + 1) / k ≡ t / k
  pub rest : (t + 1) % k ≡ t % k + 1

pub whole_block : (t k : ℕ) → 1 ≤ k → t % k + 1 ≡ k → IsWhole t k
whole_block t k some last =
    let split = div-add-mod' t k in
    let next : t + 1 ≡ (t / k + 1) * k + 0 = omega (arith, split) in
    record { quotient = ap (λ n. n / k) next ∙ div-mul-add (t / k + 1) k 0 (omega arith); rest = ap (λ n. n % k) next ∙ mod-mul-add (t / k + 1) k 0 (omega arith) }

pub within_block : (t k : ℕ) → t % k + 1 < k → IsWithin t k
within_block t k more =
    let split = div-add-mod' t k in
    let next : t + 1 ≡ t / k * k + (t % k + 1) = omega (arith, split) in
    record { quotient = ap (λ n. n / k) next ∙ div-mul-add (t / k) k (t % k + 1) more; rest = ap (λ n. n % k) next ∙ mod-mul-add (t / k) k (t % k + 1) more }

-- the sample that is sent, in the first block and later
pub sent_early : (σ : Stream) (c : ℕ) (carrier : Carrier) (t r : ℕ) → t < carrier.k → sent_sample σ c carrier t r ≡ zero_sample
sent_early σ c carrier t r early = ap (λ v. cond v zero_sample (sample_at σ c ((t / carrier.k - 1) * carrier.s + r))) (lt-ltb t carrier.k early)

pub sent_late : (σ : Stream) (c : ℕ) (carrier : Carrier) (t r : ℕ) → carrier.k ≤ t → sent_sample σ c carrier t r ≡ sample_at σ c ((t / carrier.k - 1) * carrier.s + r)
sent_late σ c carrier t r late = ap (λ v. cond v zero_sample (sample_at σ c ((t / carrier.k - 1) * carrier.s + r))) (le-ltb t carrier.k late)

abbrev next_block : SamplesView → SamplesView
next_block h = record { mapping = h.mapping; taken = []; sent = h.taken ++ silence (h.mapping.s - length h.taken); phase = 0 }

abbrev next_phase : SamplesView → SamplesView
next_phase h = record { mapping = h.mapping; taken = h.taken; sent = h.sent; phase = h.phase + 1 }

module _ (t handed : ℕ) (carrier : Carrier) (h : SamplesView) (some : 1 ≤ carrier.k) (keep : KeepsSamples t handed carrier h) where
  abbrev k : ℕ
  k = carrier.k

  abbrev s : ℕ
  s = carrier.s

  mapping_k : h.mapping.k ≡ k
  mapping_k = ap (λ (w : Mapping). w.k) keep.mapping

  mapping_s : h.mapping.s ≡ s
  mapping_s = ap (λ (w : Mapping). w.s) keep.mapping

  long : length (silence (h.mapping.s - length h.taken)) ≡ s - length h.taken
  long = length-replicate {A = RawIq} (h.mapping.s - length h.taken) zero_sample ∙ ap (λ n. n - length h.taken) mapping_s

  keeps_block : t % k + 1 ≡ k → KeepsSamples (t + 1) handed carrier (next_block h)
  keeps_block last =
      let next = whole_block t k some last in
      let quotient = ap (λ n. n * s) next.quotient in
      let taken = keep.taken in
      let few = keep.few in
      record {
        mapping = keep.mapping;
        phase = sym next.rest;
        taken = omega (arith, quotient, taken, few);
        few = omega arith;
        sent = length-append h.taken (silence (h.mapping.s - length h.taken)) ∙ omega (arith, long, few);
      }

  keeps_phase : t % k + 1 < k → KeepsSamples (t + 1) handed carrier (next_phase h)
  keeps_phase more =
      let on = within_block t k more in
      let quotient = ap (λ n. n * s) on.quotient in
      record {
        mapping = keep.mapping;
        phase = ap (λ n. n + 1) keep.phase ∙ sym on.rest;
        taken = keep.taken ∙ ap (λ n. handed - n) (sym quotient);
        few = keep.few;
        sent = keep.sent;
      }

  -- a frame more, by what holds in either case
  after_by : (P : SamplesView → Type 0) → (t % k + 1 ≡ k → P (next_block h)) → (t % k + 1 < k → P (next_phase h)) → P (after_frame h)
  after_by P whole within = elim (cases_lt (t % k + 1) k) [
    | inl more ↦
        let other : h.phase + 1 ≡ h.mapping.k → ⊥ = λ e. omega (arith, e, keep.phase, mapping_k) in
        subst P (sym (ap (λ b. cond b (next_block h) (next_phase h)) (ne_eqb (h.phase + 1) h.mapping.k other))) (within more)
    | inr past ↦
        let low = mod_below t k some in
        let last : t % k + 1 ≡ k = omega arith in
        let same : h.phase + 1 ≡ h.mapping.k = omega (arith, keep.phase, mapping_k, last) in
        subst P (sym (ap (λ b. cond b (next_block h) (next_phase h)) (eq-eqb (h.phase + 1) h.mapping.k same))) (whole last)
  ]

  pub keeps_after : KeepsSamples (t + 1) handed carrier (after_frame h)
  keeps_after = after_by (KeepsSamples (t + 1) handed carrier) keeps_block keeps_phase

  module _ (σ : Stream) (c : ℕ) (stand : StandsForSamples σ t c carrier h) (count : length (samples_of σ c) ≡ handed) where
    sent_is : (r : ℕ) → r < s → (d : RawIq) → get_or (h.taken ++ silence (h.mapping.s - length h.taken)) r d ≡ sample_at σ c (block_start carrier t + r)
    sent_is r low d = elim (cases_lt r (length h.taken)) [
      | inl there ↦ get_or_append_left h.taken (silence (h.mapping.s - length h.taken)) d r there ∙ stand.taken r there d
      | inr past ↦
          let taken = keep.taken in
          let zero_is : get_or (silence (h.mapping.s - length h.taken)) (r - length h.taken) d ≡ zero_sample = get_or-replicate (h.mapping.s - length h.taken) (r - length h.taken) zero_sample d (omega (arith, mapping_s)) in
          get_or-append_right h.taken (silence (h.mapping.s - length h.taken)) r d past ∙ zero_is
          ∙ sym (get_or-eq_default (samples_of σ c) zero_sample (omega (arith, count, taken)))
    ]

    stands_block : t % k + 1 ≡ k → StandsForSamples σ (t + 1) c carrier (next_block h)
    stands_block last =
        let next = whole_block t k some last in
        record {
          taken = λ r past. absurd (omega arith);
          sent = λ r low d.
              let split = div-add-mod' t k in
              let late : k ≤ t + 1 = omega (arith, split, last) in
              let one : (t + 1) / k - 1 ≡ t / k = omega (arith, next.quotient) in
              sent_is r low d ∙ sym (sent_late σ c carrier (t + 1) r late ∙ ap (λ q. sample_at σ c (q * s + r)) one);
        }

    still_sent : (r : ℕ) → t % k + 1 < k → sent_sample σ c carrier t r ≡ sent_sample σ c carrier (t + 1) r
    still_sent r more =
        let on = within_block t k more in
        elim (cases_lt t k) [
          | inl early ↦
              let split = div-add-mod' t k in
              let quotient : t / k ≡ 0 = div-eq_of_lt early in
              let product : t / k * k ≡ 0 * k = ap (λ n. n * k) quotient in
              sent_early σ c carrier t r early ∙ sym (sent_early σ c carrier (t + 1) r (omega (arith, split, product, more)))
          | inr late ↦ sent_late σ c carrier t r late ∙ ap (λ q. sample_at σ c ((q - 1) * s + r)) (sym on.quotient) ∙ sym (sent_late σ c carrier (t + 1) r (omega arith))
        ]

    stands_phase : t % k + 1 < k → StandsForSamples σ (t + 1) c carrier (next_phase h)
    stands_phase more =
        let on = within_block t k more in
        record {
          taken = λ r there d. stand.taken r there d ∙ ap (λ q. sample_at σ c (q * s + r)) (sym on.quotient);
          sent = λ r low d. stand.sent r low d ∙ still_sent r more;
        }

    pub stands_after : StandsForSamples σ (t + 1) c carrier (after_frame h)
    stands_after = after_by (StandsForSamples σ (t + 1) c carrier) stands_block stands_phase

-- The packets of a flow whose windows open at a tick: there is one at most.
use Rattle.std.proofs.Common.{◌≡◌, ◌≢◌, ◌∙◌, ◌+◌, ◌≤◌, ◌<◌, ◌==◌, ◌∷◌, [], Bool, true, false, ℕ, zero, suc, List, sym, ap, refl, arith, append-nil, inl, inr}
use Rattle.std.specs.Prelude.{filter}
use Rattle.std.specs.List.{flat_map, range_with_len}
use Rattle.std.proofs.lemmas.Bool.{cases_eq, cond-false, cond-true, eq-eqb, ne_eqb}
use Rattle.carrier_plan.specs.declared.plan.Flow.{Flow}
use Rattle.carrier_plan.specs.declared.plan.Plan.{Plan}
use Rattle.link_base.specs.Window.{last_frame}
use Rattle.link_run_capture.specs.Written.{record_line}
use Rattle.link_sender.proofs.Openings.{opened_once}
use Rattle.link_sender.proofs.ReadySteps.{same_number}
use Rattle.link_sender.proofs.WholePackets.{PacketsAreDetermined-holds}
use Rattle.link_sender.specs.Packets.{IsPacket}
use Rattle.link_sender.specs.Senders.{OpensBefore}
use Rattle.link_sender.specs.Stream.{Stream}
use Rattle.link_sender.specs.Whole.{packet_of}
use Rattle.plan_checker.specs.Packets.{run_packets}
use Rattle.plan_checker.specs.Rules.{IsGood}
use Rattle.link_run_send.specs.SentText.{flow_text, opening_at}

module _ (test : ℕ → Bool) where
  pub none_passes : (a n : ℕ) → ((j : ℕ) → a ≤ j → j < a + n → test j ≡ false) → filter test (range_with_len a n) ≡ []
  none_passes a zero fails = refl
  none_passes a (suc n) fails = cond-false (test a) _ _ (fails a (omega arith) (omega arith)) ∙ none_passes (a + 1) n (λ j from below. fails j (omega arith) (omega arith))

  one_passes : (i a n : ℕ) → a ≤ i → i < a + n → test i ≡ true → ((j : ℕ) → j ≢ i → test j ≡ false) → filter test (range_with_len a n) ≡ i ∷ []
  one_passes i a zero from below passes others = absurd (omega arith)
  one_passes i a (suc n) from below passes others = elim (cases_eq a i) [
    | inl here ↦
        cond-true (test a) _ _ (ap test here ∙ passes) ∙ ap (λ xs. a ∷ xs) (none_passes (a + 1) n (λ j later less. others j (λ same. omega (arith, same, here, later)))) ∙ ap (λ x. x ∷ []) here
    | inr other ↦ cond-false (test a) _ _ (others a other) ∙ one_passes i (a + 1) n (omega (arith, other)) (omega arith) passes others
  ]

module _ (p : Plan) (h t : ℕ) (f : Flow) where
  abbrev opens_at : ℕ → Bool
  opens_at i = last_frame f.frames i + f.lmin == t

  opening_one : (i : ℕ) → 1 ≤ f.frames → OpensBefore p h f (t + 1) i → opening_at p h f t ≡ i ∷ []
  unfolding opening_at
  opening_one i some opens =
      let here : last_frame f.frames i + f.lmin ≡ t = omega (arith, opens.opens) in
      one_passes opens_at i 0 (run_packets p f h) (omega arith) (omega (arith, opens.in_run)) (eq-eqb (last_frame f.frames i + f.lmin) t here)
      (λ j apart.
      ne_eqb (last_frame f.frames j + f.lmin) t
      (λ same.
      let other : last_frame f.frames j + f.lmin + 1 ≡ t + 1 = omega (arith, same) in
      apart (same_number f.frames j i some (opened_once f.frames f.lmin (t + 1) j i some other opens.opens))))

  opening_none : ((i : ℕ) → ¬ OpensBefore p h f (t + 1) i) → opening_at p h f t ≡ []
  unfolding opening_at
  opening_none none =
      none_passes opens_at 0 (run_packets p f h)
      (λ j from below.
      ne_eqb (last_frame f.frames j + f.lmin) t (λ same. none j (record { in_run = omega (arith, below); opens = omega (arith, same) })))

  module _ (σ : Stream) where
    -- the packet whose window opens
    pub text_of_one : (i : ℕ) (octets : List ℕ) → IsGood p → 1 ≤ f.frames → OpensBefore p h f (t + 1) i → IsPacket p σ f i octets → record_line t octets ≡ flow_text p h σ t f
    unfolding flow_text
    text_of_one i octets good some opens is =
        ap (record_line t) (PacketsAreDetermined-holds p σ f i octets good is) ∙ sym (append-nil (record_line t (packet_of p σ f i)))
        ∙ ap (flat_map (λ k. record_line t (packet_of p σ f k))) (sym (opening_one i some opens))

    pub text_of_none : ((i : ℕ) → ¬ OpensBefore p h f (t + 1) i) → flow_text p h σ t f ≡ []
    unfolding flow_text
    text_of_none none = ap (flat_map (λ k. record_line t (packet_of p σ f k))) (opening_none none)

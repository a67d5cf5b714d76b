-- What is kept of a run says which sample comes next.
use Rattle.std.proofs.Common.{◌≡◌, ℕ, ◌<◌, length, length-take, slice_index, Some, None, sym, ap, ◌∙◌, subst, arith, inl, inr, false}
use Rattle.std.specs.Prelude.{◌==◌, is_none}
use Rattle.std.proofs.lemmas.Bool.{cases_lt, eq-eqb}
use Rattle.std.proofs.lemmas.Bool.Decides.{eqb_tells}
use Rattle.carrier_plan.specs.declared.plan.Plan.{Plan}
use Rattle.link_run_capture.specs.declared.header.Header.{Header}
use Rattle.link_sender.specs.Stream.{Stream, samples_of}
use Rattle.plan_checker.specs.Run.{samples_due}
use Rattle.link_run_send.specs.Lacking.{complete_ticks, lacking_tick, next_carrier}
use Rattle.link_run_send.specs.Sends.{KeepsSent, come_of}
use Rattle.link_run_send.specs.Sent.{Sent, complete_of}
use Rattle.link_run_send.specs.declared.sample_run.SampleRun.{SampleRun}
use Rattle.link_run_send.proofs.LackingPlaces.{LengthsAt, lengths_with, missing_complete, missing_next, missing_tick, none_complete, none_may_end, none_next}

module _ (w : SampleRun) (s : Sent) (keeps : KeepsSent w s) where
  abbrev p : Plan
  p = w.checked

  abbrev h : ℕ
  h = w.header.run_ticks

  pub as_many : length keeps.handed.samples ≡ length w.checked.carriers
  as_many = keeps.sends.stands.as_many ∙ ap (λ (q : Plan). length q.carriers) w.of_plan

  pub counted : (c : ℕ) → c < length w.checked.carriers → length (samples_of keeps.handed c) ≡ slice_index w.output.sender.handed c
  counted c inside = keeps.sends.stands.handed c (subst (λ (q : Plan). c < length q.carriers) (sym w.of_plan) inside)

  pub lengths : LengthsAt w.checked s.stream w.due.tick w.due.carrier (length (come_of w.due))
  lengths =
      subst (λ (σ : Stream). LengthsAt w.checked σ w.due.tick w.due.carrier (length (come_of w.due))) (sym keeps.stream)
      (lengths_with w.checked keeps.handed w.output.sender.handed w.due.tick w.due.carrier (come_of w.due) w.handed counted as_many)

  missing : w.due.tick < h → length (come_of w.due) < samples_due w.checked w.due.carrier w.due.tick
  missing less = omega (arith, length-take w.due.come w.due.samples, w.next.missing less, w.next.count less)

  pub by_run : {A : Type 0} (f : Plan → ℕ → A) → f s.plan s.header.run_ticks ≡ f w.checked w.header.run_ticks
  by_run f = ap (λ (q : Plan). f q s.header.run_ticks) keeps.plan ∙ ap (λ (header : Header). f w.checked header.run_ticks) keeps.header

  pub next_some : w.due.tick < w.header.run_ticks → next_carrier s.plan s.header.run_ticks s.stream ≡ Some w.due.carrier
  next_some less =
      by_run (λ q n. next_carrier q n s.stream) ∙ missing_next p h s.stream w.due.tick w.due.carrier (length (come_of w.due)) lengths less (w.next.carrier less) (missing less)

  pub next_none : w.due.tick ≡ w.header.run_ticks → next_carrier s.plan s.header.run_ticks s.stream ≡ None
  next_none end = by_run (λ q n. next_carrier q n s.stream) ∙ none_next p h s.stream w.due.tick w.due.carrier (length (come_of w.due)) lengths end

  pub complete_is : complete_of s ≡ w.due.tick
  complete_is =
      by_run (λ q n. complete_ticks q n s.stream)
      ∙ elim (cases_lt w.due.tick w.header.run_ticks) [
        | inl less ↦ missing_complete p h s.stream w.due.tick w.due.carrier (length (come_of w.due)) lengths less (w.next.carrier less) (missing less)
        | inr past ↦
            let within = w.next.within in
            let end : w.due.tick ≡ w.header.run_ticks = omega (arith, within, past) in
            none_complete p h s.stream w.due.tick w.due.carrier (length (come_of w.due)) lengths end ∙ sym end
      ]

  not_yet : w.due.tick < w.header.run_ticks → w.due.tick == w.header.run_ticks ≡ false
  not_yet less = elim (eqb_tells w.due.tick w.header.run_ticks) [
    | inl same ↦ absurd (omega (arith, less, same.1))
    | inr other ↦ other.0
  ]

  pub may_end_is : w.due.tick == w.header.run_ticks ≡ is_none (lacking_tick s.plan s.header.run_ticks s.stream)
  may_end_is =
      elim (cases_lt w.due.tick w.header.run_ticks) [
        | inl less ↦
            not_yet less
            ∙ sym (ap is_none (missing_tick p h s.stream w.due.tick w.due.carrier (length (come_of w.due)) lengths less (w.next.carrier less) (missing less)))
        | inr past ↦
            let within = w.next.within in
            let end : w.due.tick ≡ w.header.run_ticks = omega (arith, within, past) in
            eq-eqb w.due.tick w.header.run_ticks end ∙ sym (none_may_end p h s.stream w.due.tick w.due.carrier (length (come_of w.due)) lengths end)
      ]
      ∙ sym (ap is_none (by_run (λ q n. lacking_tick q n s.stream)))

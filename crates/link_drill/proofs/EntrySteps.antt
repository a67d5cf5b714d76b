-- The entries of a drill are of its samples.
use Rattle.std.proofs.Common.{◌≡◌, ℕ, ◌-◌, ◌<◌, ◌&&◌, List, [], All, length, leb, ltb, Option, Some, None, slice_get, refl, arith}
use Rattle.std.specs.List.{range_with_len}
use Rattle.std.proofs.lemmas.Bool.{and_parts, cond_both, ltb-true}
use Rattle.std.proofs.lemmas.List.Elements.{All-map, All-nil}
use Rattle.std.proofs.lemmas.Option.{slice_get_within}
use Rattle.carrier_plan.specs.declared.plan.Carrier.{Carrier}
use Rattle.carrier_plan.specs.declared.plan.Plan.{Plan}
use Rattle.link_base.specs.Record.{Record}
use Rattle.link_receiver.specs.Output.{all_entries, entries_at, entries_by, entries_handed_in, entries_of, entry_of}
use Rattle.link_receiver.specs.declared.entry.Entry.{Entry}
use Rattle.plan_checker.specs.Run.{delay_of, samples_before, samples_due, ticks_of_run}
use Rattle.link_drill.specs.InRun.{IsInRun}
use Rattle.link_drill.proofs.PlanFacts.{IsDrillPlan, as_many_carriers, samples_before-four, samples_due-four}
use Rattle.link_drill.proofs.Ranges.{All-flat_map, All-range}

module _ (p : Plan) (Y : ℕ) (is : IsDrillPlan p Y) (h : ℕ) (records : List Record) where
  abbrev IsOfRun : Entry → Type 0
  IsOfRun = IsInRun Y h

  all_handed_in : (t c : ℕ) (carrier : Carrier) (n : ℕ) → c < Y → n < h → All IsOfRun (entries_handed_in p h records t c carrier n)
  all_handed_in t c carrier n low less =
      let first = samples_before-four p Y is c n low in
      let four = samples_due-four p Y is c n low in
      All-map IsOfRun (entry_of p h records t c carrier) (range_with_len (samples_before p c n) (samples_due p c n))
      (All-range (λ j. IsOfRun (entry_of p h records t c carrier j)) (samples_before p c n) (samples_due p c n)
      (λ j from below. record { carrier = low; number = omega (arith, below, first, four, less) }))

  all_by : (t c : ℕ) (found : Option Carrier) → slice_get p.carriers c ≡ found → All IsOfRun (entries_by p h records t c found)
  all_by t c None e = All-nil IsOfRun
  all_by t c (Some carrier) e =
      let low : c < Y = omega (arith, slice_get_within p.carriers c carrier e, as_many_carriers p Y is) in
      cond_both (leb (delay_of p c) t && ltb (t - delay_of p c) h) (entries_handed_in p h records t c carrier (t - delay_of p c)) [] (All IsOfRun)
      (λ test.
      let parts = and_parts (leb (delay_of p c) t) (ltb (t - delay_of p c) h) test in
      all_handed_in t c carrier (t - delay_of p c) low (ltb-true (t - delay_of p c) h parts.1))
      (λ _. All-nil IsOfRun)

  all_of : (t c : ℕ) → All IsOfRun (entries_of p h records t c)
  unfolding entries_of
  all_of t c = all_by t c (slice_get p.carriers c) refl

  pub all_at : (t : ℕ) → All IsOfRun (entries_at p h records t)
  unfolding entries_at
  all_at t = All-flat_map IsOfRun (entries_of p h records t) 0 (length p.carriers) (λ c _ _. all_of t c)

  pub entries_in_run : All IsOfRun (all_entries p h records)
  entries_in_run = All-flat_map IsOfRun (entries_at p h records) 0 (ticks_of_run p h) (λ t _ _. all_at t)

-- The records of a drill are packets of its stream in their windows, so each of its samples leaves with its value or marked.
use Rattle.std.proofs.Common.{◌≡◌, ℕ, ◌+◌, ◌*◌, ◌/◌, List, [], All, Contains, length, get_or, eqb, Option, Some, None, IfSome, refl, sym, subst, arith}
use Rattle.std.proofs.lemmas.Bool.{and_from, eq-eqb}
use Rattle.std.proofs.lemmas.List.Elements.{All-cons, All-nil, All-weaker}
use Rattle.std.proofs.lemmas.Nat.{mod_below}
use Rattle.carrier_plan.specs.declared.plan.Carrier.{Carrier}
use Rattle.carrier_plan.specs.declared.plan.Flow.{Flow}
use Rattle.carrier_plan.specs.declared.plan.Plan.{Plan}
use Rattle.link_base.specs.Record.{Record}
use Rattle.link_receiver.specs.Laws.{CandidatesAreUnique}
use Rattle.link_receiver.specs.Output.{all_entries}
use Rattle.link_receiver.specs.declared.entry.Entry.{Entry}
use Rattle.link_sender.specs.Packets.{IsPacket}
use Rattle.link_sender.specs.Stream.{IsStream, Stream, sample_at}
use Rattle.link_sender.specs.Whole.{packet_of}
use Rattle.plan_checker.specs.Run.{IsDue, ticks_of_run}
use Rattle.plan_checker.specs.WordSize.{word_size}
use Rattle.sample_bits.specs.Samples.{IsWithin}
use Rattle.sample_bits.specs.declared.iq.RawIq.{RawIq}
use Rattle.link_run_delay.specs.Delay.{IsPlain, IsValue, PlaysStream, SamplesAreDelayed}
use Rattle.link_run_delay.specs.Existing.{PacketsAreThose}
use Rattle.link_drill.specs.Arrivals.{arrivals_below}
use Rattle.link_drill.specs.Draws.{draw, drawn_samples}
use Rattle.link_drill.specs.DrillPlan.{drill_carrier, drill_flow, drill_plan}
use Rattle.link_drill.specs.DrillStream.{drill_stream}
use Rattle.link_drill.specs.Fates.{fates_of}
use Rattle.link_drill.specs.Sent.{packets_of}
use Rattle.link_drill.specs.Summary.{CountsAll, equal_in, marked_in, option_of, summary_by, summary_of}
use Rattle.link_drill.proofs.DrawSteps.{drawn_samples-within, length-drawn_samples}
use Rattle.link_drill.proofs.EntrySteps.{entries_in_run}
use Rattle.link_drill.proofs.PlanFacts.{IsDrillPlan, as_many_carriers, carrier_read, drill_plan-is, packets-are, samples_before-four}
use Rattle.link_drill.proofs.Ranges.{any_in_range}
use Rattle.link_drill.proofs.RunFacts.{ComesInTime, drill_stream-is, records_in_time}
use Rattle.link_run_laws.proofs.Counted.{HasValue, all_counted}
use Rattle.link_run_laws.proofs.InWindows.{IsInWindow, fresh, unaltered}

module _ (delayed : SamplesAreDelayed) (those : PacketsAreThose) (unique : CandidatesAreUnique) (p : Plan) (Y : ℕ) (is : IsDrillPlan p Y) (drawn : List RawIq)
    (many : length drawn ≡ 4 * (256 * Y)) (widths : All (IsWithin 15) drawn) (number first : ℕ) where
  abbrev σ : Stream
  σ = drill_stream Y 256 drawn

  abbrev f : Flow
  f = drill_flow Y

  abbrev records : List Record
  records = arrivals_below (packets_of p σ f 65) (fates_of number first 65) (ticks_of_run p 256)

  abbrev entries : List Entry
  entries = all_entries p 256 records

  abbrev Comes : Record → Type 0
  Comes = ComesInTime (packet_of p σ f) 65

  stream : IsStream p 256 σ
  stream = drill_stream-is p Y is 256 drawn many widths

  in_time : All Comes records
  in_time = records_in_time p σ f number first 65 (ticks_of_run p 256)

  -- ---- the flow

  listed : Contains p.flows f
  listed = subst (λ (fs : List Flow). Contains fs f) (sym is.flows) (0, omega arith, refl)

  plain : IsPlain p
  plain = record {
    dst = subst (λ (fs : List Flow). All (λ (x : Flow). length x.dst ≡ 6) fs) (sym is.flows) (All-cons (λ (x : Flow). length x.dst ≡ 6) f [] refl (All-nil _));
    src = subst (λ (fs : List Flow). All (λ (x : Flow). length x.src ≡ 6) fs) (sym is.flows) (All-cons (λ (x : Flow). length x.src ≡ 6) f [] refl (All-nil _));
  }

  -- ---- the records

  record_packet : (r : Record) → (comes : Comes r) → IsPacket p σ f comes.number r.octets
  record_packet r comes =
      subst (IsPacket p σ f comes.number) (sym comes.octets)
      (those p 256 σ f comes.number is.good stream listed (omega (arith, packets-are p Y is, comes.in_run)))

  in_windows : All (IsInWindow p 256 σ) records
  in_windows =
      All-weaker Comes (IsInWindow p 256 σ)
      (λ r comes. record {
        flow = f;
        listed = listed;
        number = comes.number;
        in_run = omega (arith, packets-are p Y is, comes.in_run);
        open_then = comes.open_then;
        packet = record_packet r comes;
      })
      records in_time

  -- ---- the entries

  plays : PlaysStream p 256 σ records entries
  plays =
      delayed p 256 σ records is.good plain stream (unaltered p 256 σ is.good plain records in_windows) (fresh p 256 σ is.good plain unique records in_windows)

  value_by : (c j : ℕ) (carrier : Carrier) (value : Option RawIq) → IsValue p σ f records c carrier j value → IfSome value (λ v. v ≡ sample_at σ c j)
  value_by c j carrier None is_lost = tt
  value_by c j carrier (Some v) is_value = is_value.0

  each_has : All (HasValue σ) entries
  each_has = λ k d less.
      let e : Entry = get_or entries k d in
      let run = entries_in_run p Y is 256 records k d less in
      let c = e.carrier in
      let j = e.number in
      let n = j / 4 in
      let from = samples_before-four p Y is c n run.carrier in
      let until = samples_before-four p Y is c (n + 1) run.carrier in
      let due : IsDue p c n j = (omega (arith, from), omega (arith, until)) in
      let own = and_from (eqb c c) (eqb j j) (eq-eqb c c refl) (eq-eqb j j refl) in
      let sample = plays c n j (omega (arith, run.carrier, as_many_carriers p Y is)) (omega (arith, run.number)) due in
      let played = sample.played k d less own in
      value_by c j (drill_carrier c) e.value (played.value (drill_carrier c) f (carrier_read p Y is c run.carrier) listed (any_in_range c 0 Y (omega arith) (omega (arith, run.carrier))))

  pub counted : equal_in σ entries + marked_in entries ≡ length entries
  counted = all_counted σ entries each_has

pub CountsAll-holds : SamplesAreDelayed → PacketsAreThose → CandidatesAreUnique → CountsAll
unfolding summary_of summary_by
CountsAll-holds delayed those unique number low =
    let option = option_of number in
    let Y = word_size option in
    let count = 4 * (256 * Y) in
    let small = mod_below (draw number 0) 7 (omega arith) in
    counted delayed those unique (drill_plan option) Y (drill_plan-is option (omega arith) (omega (arith, small))) (drawn_samples number count)
    (length-drawn_samples number count) (drawn_samples-within number count) number (1 + 2 * count)

-- The records that are sent are the packets of the stream as their windows open, and each packet is among them.
use Rattle.std.proofs.Common.{◌==◌, ℕ, ◌+◌, ◌-◌, ◌*◌, ◌<◌, ◌≤◌, Bool, get_or, All, Contains, sym, refl, subst, arith}
use Rattle.std.specs.Prelude.{filter}
use Rattle.std.specs.List.{range_with_len}
use Rattle.std.proofs.lemmas.Bool.{eq-eqb, eqb-true}
use Rattle.std.proofs.lemmas.List.Elements.{All-contains, All-contains_itself, All-filter, All-map, All-weaker, filter_passes}
use Rattle.carrier_plan.specs.declared.plan.Flow.{Flow}
use Rattle.carrier_plan.specs.declared.plan.Plan.{Plan}
use Rattle.link_base.specs.Record.{Record}
use Rattle.link_base.specs.Window.{IsOpen, last_frame}
use Rattle.link_drill.proofs.Ranges.{All-flat_map, All-range}
use Rattle.link_run_delay.proofs.ReceivedPackets.{at_contained}
use Rattle.link_run_delay.specs.Delay.{IsLost}
use Rattle.link_run_delay.specs.Existing.{PacketsAreThose}
use Rattle.link_run_send.specs.SentText.{opening_at}
use Rattle.link_sender.specs.Packets.{IsPacket}
use Rattle.link_sender.specs.Stream.{IsStream, Stream}
use Rattle.link_sender.specs.Whole.{packet_of}
use Rattle.plan_checker.specs.Flows.{HasPayload}
use Rattle.plan_checker.specs.Packets.{run_packets}
use Rattle.plan_checker.specs.Rules.{IsGood}
use Rattle.plan_checker.specs.Rules.Rule.{ArrivalWindow, PayloadSize, PlayedInTime}
use Rattle.plan_checker.specs.Run.{longest_block, ticks_of_run}
use Rattle.plan_checker.specs.Timing.{HasWindow, IsPlayedInTime}
use Rattle.sample_bits.proofs.RateLemmas.{div_ceil-least}
use Rattle.link_run_laws.specs.SentArePlayed.{IsSent}
use Rattle.link_run_laws.specs.SentRecords.{flow_records, sent_records, tick_records}
use Rattle.link_run_laws.proofs.InWindows.{IsInWindow}
use Rattle.link_run_laws.proofs.Pieces.{All-pieces, Contains-below, Contains-map, Contains-passing, Contains-pieces}

module _ (p : Plan) (h : ℕ) (σ : Stream) where
  abbrev opens_at : ℕ → Flow → ℕ → Bool
  opens_at t f i = last_frame f.frames i + f.lmin == t

  abbrev pub record_of : ℕ → Flow → ℕ → Record
  record_of t f i = record { tick = t; octets = packet_of p σ f i }

  -- ---- each record is such a packet

  sent_of_flow : (t : ℕ) (f : Flow) → Contains p.flows f → All (IsSent p h σ) (flow_records p h σ t f)
  unfolding flow_records opening_at
  sent_of_flow t f listed =
      let count = run_packets p f h in
      let all = range_with_len 0 count in
      let opening = filter (opens_at t f) all in
      let in_run = All-filter (opens_at t f) (λ i. i < count) all (All-range (λ i. i < count) 0 count (λ i from below. omega (arith, below))) in
      let now = filter_passes (opens_at t f) all in
      All-map (IsSent p h σ) (record_of t f) opening
      (λ k d lt. record {
        flow = f;
        listed = listed;
        number = get_or opening k d;
        in_run = in_run k d lt;
        opens = sym (eqb-true (last_frame f.frames (get_or opening k d) + f.lmin) t (now k d lt));
        octets = refl;
      })

  sent_at : (t : ℕ) → All (IsSent p h σ) (tick_records p h σ t)
  unfolding tick_records
  sent_at t = All-pieces (IsSent p h σ) (Contains p.flows) (flow_records p h σ t) (sent_of_flow t) p.flows (All-contains_itself p.flows)

  pub all_sent : All (IsSent p h σ) (sent_records p h σ)
  unfolding sent_records
  all_sent = All-flat_map (IsSent p h σ) (tick_records p h σ) 0 (ticks_of_run p h) (λ t from below. sent_at t)

  -- ---- each packet is among the records

  module _ (good : IsGood p) (f : Flow) (listed : Contains p.flows f) (i : ℕ) (in_run : i < run_packets p f h) where
    abbrev opening : ℕ
    opening = last_frame f.frames i + f.lmin

    -- its window opens before the run ends
    pub opens_in_run : opening < ticks_of_run p h
    opens_in_run =
        let some = (at_contained (HasPayload p) p.flows f (good PayloadSize) listed).some_frames in
        let window = at_contained HasWindow p.flows f (good ArrivalWindow) listed in
        let played = at_contained (IsPlayedInTime p.playout) p.flows f (good PlayedInTime) listed in
        let least = div_ceil-least (h + longest_block p) f.frames some in
        last_in_time i f.frames (run_packets p f h) (h + longest_block p) f.lmin f.lmax p.playout some in_run least window.0 played.0
      where
        last_in_time : (i frames count run lmin lmax playout : ℕ) → 1 ≤ frames → i < count → count * frames < run + frames → lmin ≤ lmax → frames - 1 + lmax ≤ playout
            → last_frame frames i + lmin < run + playout
        last_in_time i frames count run lmin lmax playout some low least order played =
            let more : (i + 1) * frames ≤ count * frames = grind arith in
            omega (arith, more, least)

    in_flow : Contains (flow_records p h σ opening f) (record_of opening f i)
    unfolding flow_records opening_at
    in_flow =
        let all = range_with_len 0 (run_packets p f h) in
        let passing = Contains-passing (opens_at opening f) all i (Contains-below (run_packets p f h) i in_run) (eq-eqb opening opening refl) in
        Contains-map (record_of opening f) (filter (opens_at opening f) all) i passing

    in_tick : Contains (tick_records p h σ opening) (record_of opening f i)
    unfolding tick_records
    in_tick = Contains-pieces (flow_records p h σ opening) p.flows f (record_of opening f i) listed in_flow

    pub among_sent : Contains (sent_records p h σ) (record_of opening f i)
    unfolding sent_records
    among_sent =
        Contains-pieces (tick_records p h σ) (range_with_len 0 (ticks_of_run p h)) opening (record_of opening f i)
        (Contains-below (ticks_of_run p h) opening opens_in_run) in_tick

  -- ---- so none is lost, and each is in its window

  module _ (those : PacketsAreThose) (good : IsGood p) (stream : IsStream p h σ) where
    order : (f : Flow) → Contains p.flows f → f.lmin ≤ f.lmax
    order f listed = (at_contained HasWindow p.flows f (good ArrivalWindow) listed).0

    pub all_in_windows : All (IsInWindow p h σ) (sent_records p h σ)
    all_in_windows =
        All-weaker (IsSent p h σ) (IsInWindow p h σ)
        (λ r sent. record {
          flow = sent.flow;
          listed = sent.listed;
          number = sent.number;
          in_run = sent.in_run;
          open_then = (omega (arith, sent.opens), omega (arith, sent.opens, order sent.flow sent.listed));
          packet = subst (IsPacket p σ sent.flow sent.number) (sym sent.octets) (those p h σ sent.flow sent.number good stream sent.listed sent.in_run);
        })
        (sent_records p h σ) all_sent

    pub none_lost : (f : Flow) (i : ℕ) → Contains p.flows f → i < run_packets p f h → ¬ IsLost p σ f (sent_records p h σ) i
    none_lost f i listed in_run lost =
        let r = record_of (last_frame f.frames i + f.lmin) f i in
        let here = All-contains (λ (x : Record). IsOpen f.frames f.lmin f.lmax x.tick i → ¬ IsPacket p σ f i x.octets) (sent_records p h σ) r lost (among_sent good f listed i in_run) in
        here (omega arith, omega (arith, order f listed)) (those p h σ f i good stream listed in_run)

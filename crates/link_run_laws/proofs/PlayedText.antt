-- The text that is replayed of what is sent: no frame is missed, so each tick has the lines of its samples and management frames.
use Rattle.std.proofs.Common.{codes, ◌≡◌, ℕ, ◌+◌, ◌-◌, ◌*◌, ◌/◌, ◌<◌, ◌≤◌, List, [], ◌++◌, length, Contains, Option, Some, None, slice_get, leb, refl, sym, ap, ◌∙◌, arith}
use Rattle.std.specs.List.{flat_map, range_with_len}
use Rattle.std.proofs.lemmas.Bool.{false_from_ne_true, leb-true}
use Rattle.std.proofs.lemmas.Option.{get_or_from_slice_get, slice_get_within}
use Rattle.carrier_plan.specs.declared.plan.Flow.{Flow}
use Rattle.carrier_plan.specs.declared.plan.Plan.{Plan}
use Rattle.control_words.specs.declared.announce.Announce.{Announce}
use Rattle.link_base.specs.Record.{Record}
use Rattle.link_receiver.specs.Containers.{control_of_frame}
use Rattle.link_receiver.specs.Received.{is_missed}
use Rattle.link_run_capture.specs.declared.header.Header.{Header}
use Rattle.link_run_delay.proofs.ReceivedPackets.{at_contained}
use Rattle.link_run_delay.proofs.SampleValues.{lost_if_missed}
use Rattle.link_run_delay.specs.Delay.{IsPlain}
use Rattle.link_run_delay.specs.ManagementArrives.{IsControlWhole, ManagementArrives, ManagementIsPrinted, arriving_lines}
use Rattle.link_run_management.specs.Management.{frame_lines}
use Rattle.link_run_replay.specs.EntryLines.{entry_lines, flow_line, flow_lines, line_of_flow}
use Rattle.link_run_replay.specs.RunText.{lines_of_frame, management_lines, tick_text, words_below}
use Rattle.link_run_replay.specs.WholeText.{replay_text}
use Rattle.link_sender.specs.Stream.{IsStream, Stream}
use Rattle.link_text.specs.Printed.{ended}
use Rattle.plan_checker.specs.Flows.{HasPayload}
use Rattle.plan_checker.specs.Packets.{run_packets}
use Rattle.plan_checker.specs.Rules.{IsGood}
use Rattle.plan_checker.specs.Rules.Rule.{PayloadSize}
use Rattle.plan_checker.specs.Run.{longest_block, ticks_of_run}
use Rattle.plan_checker.specs.WordSize.{word_size}
use Rattle.roe_mappers.specs.Laws.{PartsAreGivenBack}
use Rattle.sample_bits.proofs.RateLemmas.{lt-div_ceil}
use Rattle.link_run_laws.specs.SentArePlayed.{ArePlayedWhole, tick_entries}
use Rattle.link_run_laws.specs.SentAreReplayed.{arriving_at, tick_lines, whole_flow_line, whole_replay}
use Rattle.link_run_laws.proofs.Pieces.{cond-same, flat_map-same}

module _ (law : PartsAreGivenBack) (arrives : ManagementArrives) (p : Plan) (header : Header) (σ : Stream) (records : List Record) (good : IsGood p) (plain : IsPlain p)
    (stream : IsStream p header.run_ticks σ) (announced : σ.announcement ≡ header.announce) (played : ArePlayedWhole p header.run_ticks σ records) where
  abbrev h : ℕ
  h = header.run_ticks

  -- ---- control words

  packet_of_frame : (f : Flow) (n : ℕ) → Contains p.flows f → n < h + longest_block p → n / f.frames < run_packets p f h
  packet_of_frame f n listed lt =
      let some = (at_contained (HasPayload p) p.flows f (good PayloadSize) listed).some_frames in
      let front : n / f.frames * f.frames ≤ n = grind arith in
      lt-div_ceil (h + longest_block p) f.frames (n / f.frames) some (omega (arith, front))

  none_missed : IsControlWhole p h records
  none_missed n lt f listed control =
      let within = packet_of_frame f n listed lt in
      false_from_ne_true (is_missed p f h records n)
      (λ missed. played.none_lost f (n / f.frames) listed within (lost_if_missed law p h σ records good plain played.fresh f listed n within missed))

  printed : ManagementIsPrinted p h σ records (h + longest_block p)
  printed = arrives p h σ records good plain stream played.unaltered played.fresh none_missed

  lines_are : (t n : ℕ) → n < h + longest_block p → lines_of_frame p h header.announce records t n ≡ arriving_lines (word_size p.option) σ t n
  unfolding lines_of_frame words_below
  lines_are t n lt =
      ap (λ (a : Announce). frame_lines (word_size p.option) a t (words_below p h records n) (control_of_frame p h records n)) (sym announced) ∙ printed.lines t n lt

  -- ---- a tick

  management_are : (t : ℕ) → t < ticks_of_run p h → management_lines p h header.announce records t ≡ arriving_at p σ t
  unfolding management_lines
  management_are t lt =
      cond-same (leb p.playout t) (lines_of_frame p h header.announce records t (t - p.playout)) (arriving_lines (word_size p.option) σ t (t - p.playout)) []
      (λ test. lines_are t (t - p.playout) (omega (arith, lt, leb-true p.playout t test)))

  text_is : (t : ℕ) → t < ticks_of_run p h → tick_text p h header.announce records t ≡ tick_lines p h σ t
  unfolding tick_text tick_lines
  text_is t lt =
      ap (λ entries. entry_lines entries ++ management_lines p h header.announce records t) (played.entries t)
      ∙ ap (λ lines. entry_lines (tick_entries p h σ t) ++ lines) (management_are t lt)

  -- ---- a flow

  flow_is : (place : ℕ) (found : Option Flow) → slice_get p.flows place ≡ found → line_of_flow p h records place found ≡ whole_flow_line p h place found
  flow_is place None read = refl
  flow_is place (Some f) read =
      let listed : Contains p.flows f = (place, slice_get_within p.flows place f read, get_or_from_slice_get p.flows place f f read) in
      ap (λ taken. flow_line place taken (run_packets p f h)) (played.received f listed)

  -- ---- the run

  pub plays_all : replay_text p header records ≡ whole_replay p h σ
  plays_all =
      let end = ticks_of_run p h in
      let ticks = flat_map-same (tick_text p h header.announce records) (tick_lines p h σ) 0 end (λ t from below. text_is t (omega (arith, below))) in
      let flows =
      flat_map-same (λ place. line_of_flow p h records place (slice_get p.flows place)) (λ place. whole_flow_line p h place (slice_get p.flows place)) 0 (length p.flows)
      (λ place from below. flow_is place (slice_get p.flows place) refl) in
      ap (λ text. (text ++ flow_lines p h records) ++ ended (codes "end")) ticks
      ∙ ap (λ text. (flat_map (tick_lines p h σ) (range_with_len 0 end) ++ text) ++ ended (codes "end")) flows

-- What is sent is replayed: the capture is read as the records that were sent, and these play each sample.
use Rattle.std.proofs.Common.{◌≡◌, ℕ, ◌+◌, ◌-◌, ◌*◌, ◌<◌, ◌≤◌, List, ◌++◌, length, All, Contains, sym, ap, ◌∙◌, subst, arith, length-append}
use Rattle.std.specs.Prelude.{replicate}
use Rattle.std.proofs.lemmas.List.{length-replicate}
use Rattle.std.proofs.lemmas.List.Elements.{All-contains, All-weaker}
use Rattle.carrier_plan.specs.declared.plan.Flow.{Flow}
use Rattle.carrier_plan.specs.declared.plan.Plan.{Plan}
use Rattle.link_base.specs.Record.{Record}
use Rattle.link_receiver.proofs.Windows.{longest_block-short}
use Rattle.link_run_capture.specs.Capture.{most_records}
use Rattle.link_run_capture.specs.declared.header.Header.{Header}
use Rattle.link_run_delay.proofs.ReceivedPackets.{at_contained}
use Rattle.link_run_delay.specs.Delay.{IsPlain}
use Rattle.link_run_delay.specs.Existing.{AddressesAreOctets, AreOctets, PacketsAreThose, PacketsExist}
use Rattle.link_run_delay.specs.ManagementArrives.{ManagementArrives}
use Rattle.link_run_feed.specs.Answer.{Answer}
use Rattle.link_run_feed.specs.Feed.{feed_answer}
use Rattle.link_run_feed.specs.declared.status.Status.TheVariants.{Done}
use Rattle.link_run_replay.specs.Replayed.{replay_form}
use Rattle.link_run_replay.specs.WholeText.{TextIsWhole}
use Rattle.link_run_send.specs.RunText.{PacketsAreWrittenOnce}
use Rattle.link_sender.specs.Laws.{PacketsAreDetermined}
use Rattle.link_sender.specs.Packets.{packet_fields}
use Rattle.link_sender.specs.Stream.{IsStream, Stream}
use Rattle.link_sender.specs.Whole.{packet_of}
use Rattle.plan_checker.specs.Flows.{HasPayload}
use Rattle.plan_checker.specs.Packets.{run_packets}
use Rattle.plan_checker.specs.Rules.{IsGood}
use Rattle.plan_checker.specs.Rules.Rule.{PayloadSize, PlayedInTime}
use Rattle.plan_checker.specs.Timing.{IsPlayedInTime}
use Rattle.plan_checker.specs.WordSize.{word_size}
use Rattle.roe_header.specs.Layout.{Fields, header as header_octets, packet_octets}
use Rattle.roe_mappers.specs.Laws.{PartsAreGivenBack}
use Rattle.link_run_laws.specs.SentArePlayed.{IsSent, SentArePlayed}
use Rattle.link_run_laws.specs.SentAreReplayed.{SentAreReplayed}
use Rattle.link_run_laws.specs.SentRecords.{sent_records}
use Rattle.link_run_laws.proofs.PlayedText.{plays_all}
use Rattle.link_run_laws.proofs.ReadCaptures.{is_replayed}
use Rattle.link_run_laws.proofs.ReadHeaders.{IsRun, header_back, is_run, run_one, run_two}
use Rattle.link_run_laws.proofs.ReadLines.{IsBytes-octets, IsWritten}
use Rattle.link_run_laws.proofs.SentLines.{capture_lines}
use Rattle.link_run_laws.proofs.SentOrder.{sent_few, sent_ordered}
use Rattle.link_run_laws.proofs.SentPackets.{all_sent, opens_in_run}

-- ---- how long packets are

record HasLength (octets : List ℕ) : Type 0 where
  some : 0 < length octets
  short : length octets ≤ 1514

length_of_packet : (x : Fields) → length x.dst ≡ 6 → length x.src ≡ 6 → length x.payload ≤ 1492 → HasLength (packet_octets x)
unfolding packet_octets
length_of_packet x dst src payload =
    let written = header_octets x ++ x.payload in
    let long : length (header_octets x) ≡ 22 = simp length-append (omega (arith, dst, src)) in
    let whole = length-append (header_octets x) x.payload in
    let all = length-append written (replicate (60 - length written) 0) in
    let zeros = length-replicate {A = ℕ} (60 - length written) 0 in
    record { some = omega (arith, long, whole, all, zeros, payload); short = omega (arith, long, whole, all, zeros, payload) }

module _ (exist : PacketsExist) (those : PacketsAreThose) (determined : PacketsAreDetermined) (p : Plan) (h : ℕ) (σ : Stream) (good : IsGood p) (plain : IsPlain p) (octets : AddressesAreOctets p)
    (stream : IsStream p h σ) where
  packet_length : (f : Flow) (i : ℕ) → Contains p.flows f → i < run_packets p f h → HasLength (packet_of p σ f i)
  packet_length f i listed in_run =
      let packet = those p h σ f i good stream listed in_run in
      let bounds = at_contained (HasPayload p) p.flows f (good PayloadSize) listed in
      let dst = All-contains (λ (g : Flow). length g.dst ≡ 6) p.flows f plain.dst listed in
      let src = All-contains (λ (g : Flow). length g.src ≡ 6) p.flows f plain.src listed in
      subst HasLength (sym packet.written) (length_of_packet (packet_fields p f i packet.payload) dst src (omega (arith, packet.carries.size, bounds.few_octets)))

  packet_small : (f : Flow) (i : ℕ) → Contains p.flows f → i < run_packets p f h → AreOctets (packet_of p σ f i)
  packet_small f i listed in_run =
      let has = exist p h σ f i good stream listed in_run in
      let addresses = All-contains (λ (g : Flow). AreOctets g.dst × AreOctets g.src) p.flows f octets listed in
      subst AreOctets (determined p σ f i has.octets good has.packet) (has.are_octets addresses.0 addresses.1)

  -- ---- each record can be written

  record_written : h ≤ 1_048_576 → (r : Record) → IsSent p h σ r → IsWritten r
  record_written low r sent =
      let f = sent.flow in
      let size = subst HasLength (sym sent.octets) (packet_length f sent.number sent.listed sent.in_run) in
      let before = opens_in_run p h σ good f sent.listed sent.number sent.in_run in
      let played = at_contained (IsPlayedInTime p.playout) p.flows f (good PlayedInTime) sent.listed in
      let short = longest_block-short p good in
      record {
        early = omega (arith, sent.opens, before, played.1, short, low);
        bytes = IsBytes-octets r.octets (subst AreOctets (sym sent.octets) (packet_small f sent.number sent.listed sent.in_run));
        some = size.some;
        short = size.short;
      }

  pub all_written : h ≤ 1_048_576 → All IsWritten (sent_records p h σ)
  all_written low = All-weaker (IsSent p h σ) IsWritten (record_written low) (sent_records p h σ) (all_sent p h σ)

-- ---- how long a run is

record IsShortRun (header : Header) : Type 0 where
  short : header.run_ticks ≤ 1_048_576
  few : 8 * (header.run_ticks + 96) ≤ most_records header.version

short_run : (width : ℕ) (header : Header) → IsRun width header → IsShortRun header
short_run width header (run_one n low is) = subst IsShortRun is (record { short = omega (arith, low); few = omega (arith, low) })
short_run width header (run_two n hdlc pointer low hdlc_low pointer_low allowed is) = subst IsShortRun is (record { short = low; few = omega (arith, low) })

pub SentAreReplayed-holds : PartsAreGivenBack → PacketsExist → PacketsAreThose → PacketsAreDetermined → ManagementArrives → PacketsAreWrittenOnce → TextIsWhole → SentArePlayed → SentAreReplayed
SentAreReplayed-holds law exist those determined arrives once whole played p header σ good plain octets begins stream announced =
    let h = header.run_ticks in
    let records = sent_records p h σ in
    let run = short_run (word_size p.option) header (is_run (word_size p.option) header begins) in
    let back = header_back (word_size p.option) header begins in
    let written = all_written exist those determined p h σ good plain octets stream run.short in
    let few : length records ≤ most_records header.version = omega (arith, sent_few p h σ once good, run.few) in
    let made : List ℕ → Answer = λ text. record { status = Done; text = text } in
    ap (feed_answer (replay_form p)) (capture_lines p header σ)
    ∙ is_replayed p header records back written (sent_ordered p h σ) few whole good
    ∙ ap made (plays_all law arrives p header σ records good plain stream announced (played p h σ good plain stream))

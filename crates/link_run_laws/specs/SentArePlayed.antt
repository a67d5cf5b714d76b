-- What a capture plays in which nothing of a stream is lost: each sample, with its value. This is the project's own.
use Rattle.std.specs.Prelude.{◌≡◌, ℕ, ◌+◌, ◌-◌, ◌<◌, nat_le, nat_lt, ◌&&◌, IsTrue, List, [], length, map, All, Contains, count_by, Some, if◌then◌else◌}
use Rattle.std.specs.List.{flat_map, range_with_len}
use Rattle.carrier_plan.specs.declared.plan.Flow.{Flow}
use Rattle.carrier_plan.specs.declared.plan.Plan.{Plan}
use Rattle.link_base.specs.Record.{Record}
use Rattle.link_base.specs.Window.{last_frame}
use Rattle.link_receiver.specs.Output.{all_entries, entries_at}
use Rattle.link_receiver.specs.Received.{taken}
use Rattle.link_receiver.specs.declared.entry.Entry.{Entry}
use Rattle.link_run_delay.specs.Delay.{AreFresh, AreUnaltered, IsLost, IsPlain, tells_of}
use Rattle.link_sender.specs.Stream.{IsStream, Stream, sample_at}
use Rattle.link_sender.specs.Whole.{packet_of}
use Rattle.plan_checker.specs.Packets.{run_packets}
use Rattle.plan_checker.specs.Rules.{IsGood}
use Rattle.plan_checker.specs.Run.{IsDue, delay_of, samples_before, samples_due}
use Rattle.link_run_laws.specs.SentRecords.{sent_records}

-- sample j of carrier c as it leaves at tick t, with its value
abbrev pub sample_entry : Stream → (t c j : ℕ) → Entry
sample_entry σ t c j = record { tick = t; carrier = c; number = j; value = Some (sample_at σ c j) }

-- the samples of carrier c that were handed in at a tick of a run of h ticks, its delay before tick t
unfoldable pub carrier_entries : Plan → ℕ → Stream → (t c : ℕ) → List Entry
carrier_entries p h σ t c =
    if nat_le (delay_of p c) t && nat_lt (t - delay_of p c) h
    then map (sample_entry σ t c) (range_with_len (samples_before p c (t - delay_of p c)) (samples_due p c (t - delay_of p c))) else []

-- the same of all carriers
unfoldable pub tick_entries : Plan → ℕ → Stream → ℕ → List Entry
tick_entries p h σ t = flat_map (carrier_entries p h σ t) (range_with_len 0 (length p.carriers))

-- the record is packet i of the flow, at the tick at which its window opens
pub record IsSent (p : Plan) (h : ℕ) (σ : Stream) (r : Record) : Type 0 where
  pub flow : Flow
  pub listed : Contains p.flows flow
  pub number : ℕ
  pub in_run : number < run_packets p flow h
  pub opens : r.tick ≡ last_frame flow.frames number + flow.lmin
  pub octets : r.octets ≡ packet_of p σ flow number

-- There is one entry of sample j of carrier c, which was handed in at tick n: it leaves its delay later, with its value.
pub record LeavesUnchanged (p : Plan) (σ : Stream) (entries : List Entry) (c n j : ℕ) : Type 0 where
  pub once : count_by (tells_of c j) entries ≡ 1
  pub unchanged : All (λ entry. IsTrue (tells_of c j entry) → entry ≡ sample_entry σ (n + delay_of p c) c j) entries

-- What these records of a run of h ticks play.
pub record ArePlayedWhole (p : Plan) (h : ℕ) (σ : Stream) (records : List Record) : Type 0 where
  -- each is a packet of the stream in its window, and none is stale or lost
  pub sent : All (IsSent p h σ) records
  pub unaltered : AreUnaltered p h σ records
  pub fresh : AreFresh p h σ records
  pub none_lost : (f : Flow) (i : ℕ) → Contains p.flows f → i < run_packets p f h → ¬ IsLost p σ f records i
  -- each sample leaves once and unchanged, and nothing else leaves
  pub samples : (c n j : ℕ) → c < length p.carriers → n < h → IsDue p c n j → LeavesUnchanged p σ (all_entries p h records) c n j
  pub entries : (t : ℕ) → entries_at p h records t ≡ tick_entries p h σ t
  -- all packets of each flow are received
  pub received : (f : Flow) → Contains p.flows f → taken p f h records ≡ run_packets p f h

-- Of a plan that meets the rules, whatever the stream: all its packets, each once as its window opens.
abbrev pub SentArePlayed : Type 0
SentArePlayed = (p : Plan) (h : ℕ) (σ : Stream) → IsGood p → IsPlain p → IsStream p h σ → ArePlayedWhole p h σ (sent_records p h σ)

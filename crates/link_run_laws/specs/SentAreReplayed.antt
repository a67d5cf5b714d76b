-- What `replay` prints of the capture that `send` prints of a stream: each sample with its value, each management frame that is
-- whole within the run, and all packets as received. This is the project's own.
use Rattle.std.specs.Prelude.{codes, ◌≡◌, ℕ, ◌-◌, nat_le, List, [], ◌++◌, length, Option, Some, None, slice_get, if◌then◌else◌}
use Rattle.std.specs.List.{flat_map, range_with_len}
use Rattle.carrier_plan.specs.declared.plan.Flow.{Flow}
use Rattle.carrier_plan.specs.declared.plan.Plan.{Plan}
use Rattle.link_run_capture.specs.Capture.{run_header}
use Rattle.link_run_capture.specs.declared.header.Header.{Header}
use Rattle.link_run_capture.specs.declared.header.RunFile.TheVariants.{Samples}
use Rattle.link_run_delay.specs.Delay.{IsPlain}
use Rattle.link_run_delay.specs.Existing.{AddressesAreOctets}
use Rattle.link_run_delay.specs.ManagementArrives.{arriving_lines}
use Rattle.link_run_feed.specs.Feed.{feed_answer}
use Rattle.link_run_feed.specs.declared.status.Status.TheVariants.{Done}
use Rattle.link_run_replay.specs.EntryLines.{entry_lines, flow_line}
use Rattle.link_run_replay.specs.Replayed.{replay_form}
use Rattle.link_run_send.specs.WholeText.{whole_text}
use Rattle.link_run_send.specs.declared.run_output.Output.TheVariants.{Packets}
use Rattle.link_sender.specs.Stream.{IsStream, Stream}
use Rattle.link_text.specs.Printed.{ended, lines_below}
use Rattle.plan_checker.specs.Packets.{run_packets}
use Rattle.plan_checker.specs.Rules.{IsGood}
use Rattle.plan_checker.specs.Run.{ticks_of_run}
use Rattle.plan_checker.specs.WordSize.{word_size}
use Rattle.link_run_laws.specs.SentArePlayed.{tick_entries}

-- a file of samples can begin so, in words of so many octets
abbrev pub BeginsSamples : ℕ → Header → Type 0
BeginsSamples width header = (line : List ℕ) × (run_header Samples width line ≡ Some header)

-- the lines of the management frames that are whole with the frame that is played at tick t, if there is one
abbrev pub arriving_at : Plan → Stream → ℕ → List ℕ
arriving_at p σ t = if nat_le p.playout t then arriving_lines (word_size p.option) σ t (t - p.playout) else []

-- the lines of a tick: its samples, and then these
unfoldable pub tick_lines : Plan → ℕ → Stream → ℕ → List ℕ
tick_lines p h σ t = entry_lines (tick_entries p h σ t) ++ arriving_at p σ t

-- the line of a flow of which every packet is received
abbrev pub whole_flow_line : Plan → ℕ → ℕ → Option Flow → List ℕ
whole_flow_line p h place None = []
whole_flow_line p h place (Some f) = flow_line place (run_packets p f h) (run_packets p f h)

-- the lines of all ticks of a run of h ticks, then those of the flows, and the last line
abbrev pub whole_replay : Plan → ℕ → Stream → List ℕ
whole_replay p h σ =
    (flat_map (tick_lines p h σ) (range_with_len 0 (ticks_of_run p h)) ++ lines_below (λ place. whole_flow_line p h place (slice_get p.flows place)) (length p.flows))
    ++ ended (codes "end")

-- Of a plan that meets the rules, whatever the stream of a file of samples.
abbrev pub SentAreReplayed : Type 0
SentAreReplayed =
    (p : Plan) (header : Header) (σ : Stream) → IsGood p → IsPlain p → AddressesAreOctets p → BeginsSamples (word_size p.option) header
    → IsStream p header.run_ticks σ → σ.announcement ≡ header.announce
    → feed_answer (replay_form p) (whole_text Packets p header σ) ≡ record { status = Done; text = whole_replay p header.run_ticks σ }

-- What is written of a run that is sent: the packets of a capture, or the symbols of a line. The texts are this project's own.
use Rattle.std.specs.Prelude.{codes, decimal, ℕ, ◌+◌, ◌-◌, ◌==◌, List, ◌++◌, filter}
use Rattle.std.specs.List.{flat_map, range_with_len}
use Rattle.hex.specs.Hex.{encode_lower}
use Rattle.carrier_plan.specs.declared.plan.Flow.{Flow}
use Rattle.carrier_plan.specs.declared.plan.Plan.{Plan}
use Rattle.link_base.specs.Window.{last_frame}
use Rattle.link_run_capture.specs.Written.{header_line, record_line}
use Rattle.link_run_capture.specs.declared.header.Header.{Header}
use Rattle.link_sender.specs.Stream.{Stream}
use Rattle.link_sender.specs.Whole.{line_octets, packet_of}
use Rattle.link_text.specs.Printed.{ended}
use Rattle.plan_checker.specs.Packets.{run_packets}
use Rattle.plan_checker.specs.Run.{longest_block, ticks_of_run}
use Rattle.link_run_send.specs.declared.run_output.Output.{Output}
use Rattle.link_run_send.specs.declared.run_output.Output.TheVariants.{Packets, Symbols}

-- the packets of a flow, in a run of h ticks, whose windows open at tick t
unfoldable pub opening_at : Plan → ℕ → Flow → ℕ → List ℕ
opening_at p h f t = filter (λ i. last_frame f.frames i + f.lmin == t) (range_with_len 0 (run_packets p f h))

-- the records of the packets of a flow whose windows open at tick t
unfoldable pub flow_text : Plan → ℕ → Stream → ℕ → Flow → List ℕ
flow_text p h σ t f = flat_map (λ i. record_line t (packet_of p σ f i)) (opening_at p h f t)

-- the same of all flows
unfoldable pub packets_text : Plan → ℕ → Stream → ℕ → List ℕ
packets_text p h σ t = flat_map (flow_text p h σ t) p.flows

-- the line of the symbols of frame n
unfoldable pub symbols_text : Plan → Stream → ℕ → List ℕ
symbols_text p σ n = ended (encode_lower (line_octets p σ n))

-- the text of a tick
abbrev pub tick_text : Output → Plan → ℕ → Stream → ℕ → List ℕ
tick_text Packets p h σ t = packets_text p h σ t
tick_text Symbols p h σ t = symbols_text p σ t

-- the text of the ticks from one on, as far as below another
unfoldable pub text_between : Output → Plan → ℕ → Stream → (from to : ℕ) → List ℕ
text_between output p h σ from to = flat_map (tick_text output p h σ) (range_with_len from (to - from))

-- the ticks that have a text: those in which the run is played, or the frames of the run and of the longest block after it
abbrev pub last_tick : Output → Plan → ℕ → ℕ
last_tick Packets p h = ticks_of_run p h
last_tick Symbols p h = h + longest_block p

-- the first line
abbrev pub first_line : Output → Plan → Header → List ℕ
first_line Packets p header = header_line header
first_line Symbols p header = ended (codes "line " ++ decimal p.option ++ codes " " ++ decimal (header.run_ticks + longest_block p))

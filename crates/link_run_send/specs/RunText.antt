-- What the text of a run has of each flow, and of all frames together. This is the project's own.
use Rattle.std.specs.Prelude.{◌≡◌, ℕ, List, map, slice_get, Some}
use Rattle.std.specs.List.{flat_map, range_with_len}
use Rattle.carrier_plan.specs.declared.plan.Flow.{Flow}
use Rattle.carrier_plan.specs.declared.plan.Plan.{Plan}
use Rattle.line_code.specs.Line.{line_symbols}
use Rattle.link_sender.specs.Stream.{Stream}
use Rattle.link_sender.specs.Whole.{frame_of, line_octets, packed_symbols}
use Rattle.plan_checker.specs.Packets.{run_packets}
use Rattle.plan_checker.specs.Rules.{IsGood}
use Rattle.plan_checker.specs.Run.{ticks_of_run}
use Rattle.link_run_send.specs.SentText.{opening_at}

-- The packets of a flow that are written at the ticks of a run, one tick after another, are all its packets in their order, each
-- once. Each is written at the tick at which its window opens.
abbrev pub PacketsAreWrittenOnce : Type 0
PacketsAreWrittenOnce =
    (p : Plan) (h place : ℕ) (f : Flow) → IsGood p → slice_get p.flows place ≡ Some f
    → flat_map (opening_at p h f) (range_with_len 0 (ticks_of_run p h)) ≡ range_with_len 0 (run_packets p f h)

-- The symbols that are written of the first n frames, one frame after another, are those of one line of all of them, from
-- negative disparity on.
pub record SymbolsAreOneLine (p : Plan) (σ : Stream) (n : ℕ) : Type 0 where
  pub symbols : ℕ → List ℕ
  pub written : (k : ℕ) → line_octets p σ k ≡ packed_symbols (symbols k)
  pub one_line : flat_map symbols (range_with_len 0 n) ≡ line_symbols (map (frame_of p σ) (range_with_len 0 n))

-- The text of the ticks of a run: at each tick the samples that leave, and then what the management channels say in the control
-- word of the frame that is played. The order is this project's own.
use Rattle.std.specs.Prelude.{ℕ, ◌-◌, nat_le, if◌then◌else◌, List, [], ◌++◌, map, Option}
use Rattle.std.specs.List.{flat_map, range_with_len}
use Rattle.carrier_plan.specs.declared.plan.Plan.{Plan}
use Rattle.control_words.specs.declared.announce.Announce.{Announce}
use Rattle.link_base.specs.Record.{Record}
use Rattle.link_receiver.specs.Containers.{control_of_frame}
use Rattle.link_receiver.specs.Output.{entries_at}
use Rattle.link_run_management.specs.Management.{frame_lines}
use Rattle.plan_checker.specs.WordSize.{word_size}
use Rattle.link_run_replay.specs.EntryLines.{entry_lines}

-- the control words of the frames below n, or none for a frame that is missed in the flow that has control
unfoldable pub words_below : Plan → ℕ → List Record → ℕ → List (Option (List ℕ))
words_below p h records n = map (control_of_frame p h records) (range_with_len 0 n)

-- the lines of the management channels about frame n, which is played at tick t
unfoldable pub lines_of_frame : Plan → ℕ → Announce → List Record → (t n : ℕ) → List ℕ
lines_of_frame p h a records t n = frame_lines (word_size p.option) a t (words_below p h records n) (control_of_frame p h records n)

-- the same about the frame that is played at a tick, if there is one
unfoldable pub management_lines : Plan → ℕ → Announce → List Record → ℕ → List ℕ
management_lines p h a records t = if nat_le p.playout t then lines_of_frame p h a records t (t - p.playout) else []

-- the text of a tick
unfoldable pub tick_text : Plan → ℕ → Announce → List Record → ℕ → List ℕ
tick_text p h a records t = entry_lines (entries_at p h records t) ++ management_lines p h a records t

-- the text of the ticks from one on, as far as below another
unfoldable pub text_between : Plan → ℕ → Announce → List Record → (from to : ℕ) → List ℕ
text_between p h a records from to = flat_map (tick_text p h a records) (range_with_len from (to - from))

-- the text of all ticks below t
abbrev pub text_below_tick : Plan → ℕ → Announce → List Record → ℕ → List ℕ
text_below_tick p h a records t = flat_map (tick_text p h a records) (range_with_len 0 t)

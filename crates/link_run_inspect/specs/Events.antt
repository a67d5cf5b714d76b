-- The lines of what the readers of the management channels find in the hyperframes of a line. This is the project's own.
use Rattle.std.specs.Prelude.{ℕ, List, [], ◌++◌, Option, Some, None, Result, Ok, Err}
use Rattle.control_words.specs.declared.announce.Announce.{Announce}
use Rattle.control_words.specs.declared.announce.BadControl.{BadControl}
use Rattle.hdlc_channel.specs.Bits.{bits_of}
use Rattle.link_run_management.specs.Events.{slow_line, fast_line, bit_lines}
use Rattle.link_run_inspect.specs.declared.changes.Hyperframe.{Hyperframe}
use Rattle.link_run_inspect.specs.Managed.{Managed, slow_octets, fast_octets, kept_at}

-- the lines of both channels about a hyperframe with this announcement, the slow channel first
unfoldable pub handed_text : ℕ → ℕ → List ℕ → Announce → Managed → List ℕ
handed_text n width control a m =
    bit_lines slow_line n m.slow (bits_of (slow_octets width a control)) ++ bit_lines fast_line n m.fast (bits_of (fast_octets width a control))

abbrev pub answer_text : ℕ → ℕ → List ℕ → Result Announce BadControl → Managed → List ℕ
answer_text n width control (Ok a) m = handed_text n width control a (kept_at m a)
answer_text n width control (Err bad) m = []

-- the lines of both channels about the hyperframe that a frame ends, if it does
abbrev pub followed_text : ℕ → ℕ → List ℕ → Option Hyperframe → Managed → List ℕ
followed_text n width control None m = []
followed_text n width control (Some h) m = answer_text n width control h.answer m

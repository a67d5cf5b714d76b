-- The form of files of samples: a header, the frames of the management channels in version 2, and the samples. Each line settles
-- the text of the ticks that have all their samples by it. This is the project's own.
use Rattle.std.specs.Prelude.{codes, bytes_eq, ℕ, ◌+◌, ◌==◌, Bool, ◌||◌, nat_lt, is_none, List, [], ◌∷◌, ◌++◌, length, map, slice_index, Option, Some, None, Result, Ok, Err, if◌then◌else◌}
use Rattle.std.specs.List.{list_any}
use Rattle.carrier_plan.specs.declared.plan.Carrier.{Carrier}
use Rattle.carrier_plan.specs.declared.plan.Plan.{Plan}
use Rattle.ethernet_channel.specs.FastStream as fast
use Rattle.hdlc_channel.specs.SlowStream as slow
use Rattle.link_run_capture.specs.Capture.{run_header}
use Rattle.link_run_capture.specs.declared.header.Header.{Header}
use Rattle.link_run_capture.specs.declared.header.RunFile.TheVariants.{Samples}
use Rattle.link_run_capture.specs.declared.header.Version.{Version}
use Rattle.link_run_capture.specs.declared.header.Version.TheVariants.{One, Two}
use Rattle.link_run_feed.specs.Feed.{LineForm, FeedForm}
use Rattle.link_run_feed.specs.declared.reason.Reason.{Reason}
use Rattle.link_run_feed.specs.declared.reason.Reason.TheVariants.{Count, Hex, Many, Number, Range, Word}
use Rattle.link_sender.specs.HandedIn.{nothing_yet, with_fast, with_samples, with_slow}
use Rattle.link_sender.specs.Stream.{Stream}
use Rattle.link_text.specs.Fields.{at_first_space}
use Rattle.link_text.specs.Hexadecimal.{spelled_octets}
use Rattle.link_text.specs.Printed.{ended}
use Rattle.plan_checker.specs.WordSize.{word_size}
use Rattle.sample_bits.specs.declared.iq.RawIq.{RawIq}
use Rattle.link_run_send.specs.Lacking.{complete_ticks, lacking_tick, next_carrier}
use Rattle.link_run_send.specs.SampleLine.{is_within, sample_of}
use Rattle.link_run_send.specs.SentText.{first_line, last_tick, text_between}
use Rattle.link_run_send.specs.declared.run_output.Output.{Output}

-- a run of a plan, and what was handed in of it
pub record Sent : Type 0 where
  pub plan : Plan
  pub output : Output
  pub header : Header
  pub stream : Stream
  -- the ticks below this one have their text settled
  pub settled : ℕ

-- the text of the ticks from the last one that is settled as far as below this one
abbrev pub text_below : Sent → ℕ → List ℕ
text_below s tick = text_between s.output s.plan s.header.run_ticks s.stream s.settled tick

abbrev pub with_stream : Sent → Stream → Sent
with_stream s σ = record { plan = s.plan; output = s.output; header = s.header; stream = σ; settled = s.settled }

abbrev pub settled_to : Sent → ℕ → Sent
settled_to s tick = record { plan = s.plan; output = s.output; header = s.header; stream = s.stream; settled = tick }

-- the text is settled as far as below this tick
abbrev pub settling : Sent → ℕ → Sent × List ℕ
settling s tick = (settled_to s tick, text_below s tick)

-- the ticks of the run that have all their samples
abbrev pub complete_of : Sent → ℕ
complete_of s = complete_ticks s.plan s.header.run_ticks s.stream

-- with one more sample of carrier c
abbrev pub with_sample : Sent → ℕ → RawIq → Sent
with_sample s c v = with_stream s (with_samples s.stream c (v ∷ []))

-- the bits of the samples of carrier c
abbrev pub width_of : Plan → ℕ → ℕ
width_of p c = slice_index (map (λ (carrier : Carrier). carrier.m) p.carriers) c

-- a sample of the carrier that comes next, where one is missing
abbrev pub by_sample : Sent → Option ℕ → Option RawIq → Result (Sent × List ℕ) Reason
by_sample s None v = Err Count
by_sample s (Some c) None = Err Number
by_sample s (Some c) (Some v) = if is_within (width_of s.plan c) v then Ok (settling (with_sample s c v) (complete_of (with_sample s c v))) else Err Range

unfoldable pub sample_line : Sent → List ℕ → Result (Sent × List ℕ) Reason
sample_line s line = by_sample s (next_carrier s.plan s.header.run_ticks s.stream) (sample_of line)

-- whether a sample was handed in
abbrev pub has_samples : Stream → Bool
has_samples σ = list_any (λ samples. nat_lt 0 (length samples)) σ.samples

-- a frame of the slow channel, by its octets
abbrev pub by_slow : Sent → Option (List ℕ) → Result (Sent × List ℕ) Reason
by_slow s None = Err Hex
by_slow s (Some frame) =
    if nat_lt 1500 (length frame) || nat_lt (slow.room_of s.stream.slow) (length frame + 2) then Err Many else Ok (with_stream s (with_slow s.stream frame), [])

-- a frame of the fast channel, by its octets
abbrev pub by_fast : Sent → Option (List ℕ) → Result (Sent × List ℕ) Reason
by_fast s None = Err Hex
by_fast s (Some frame) =
    if nat_lt 1522 (length frame) || nat_lt (fast.room_of s.stream.fast) (length frame + 2) then Err Many else Ok (with_stream s (with_fast s.stream frame), [])

-- They come before the first sample, where their channel is announced.
unfoldable pub slow_line : Sent → List ℕ → Result (Sent × List ℕ) Reason
slow_line s digits = if has_samples s.stream || s.header.announce.hdlc == 0 then Err Word else by_slow s (spelled_octets digits)

unfoldable pub fast_line : Sent → List ℕ → Result (Sent × List ℕ) Reason
fast_line s digits = if has_samples s.stream || s.header.announce.pointer == 0 then Err Word else by_fast s (spelled_octets digits)

-- the text before the first space and the text after it, or the whole line and none
abbrev pub word_and_rest : List ℕ → Option (List ℕ × List ℕ) → List ℕ × List ℕ
word_and_rest line None = (line, [])
word_and_rest line (Some fields) = fields

abbrev pub by_word : Sent → List ℕ → List ℕ × List ℕ → Result (Sent × List ℕ) Reason
by_word s line fields =
    if bytes_eq fields.0 (codes "slow") then slow_line s fields.1 else (if bytes_eq fields.0 (codes "fast") then fast_line s fields.1 else sample_line s line)

abbrev pub by_version : Version → Sent → List ℕ → Result (Sent × List ℕ) Reason
by_version One s line = sample_line s line
by_version Two s line = by_word s line (word_and_rest line (at_first_space line))

-- what is written at the end: the text of the ticks after the run
abbrev pub sent_closing : Sent → List ℕ
sent_closing s = text_below s (last_tick s.output s.plan s.header.run_ticks) ++ ended (codes "end")

abbrev pub sent_lines : LineForm Sent
sent_lines = record {
  line = λ s line. by_version s.header.version s line;
  may_end = λ s. is_none (lacking_tick s.plan s.header.run_ticks s.stream);
  ending = λ s. settling s s.header.run_ticks;
  closing = sent_closing;
}

-- a run of which nothing was handed in
abbrev pub unsent : Output → Plan → Header → Sent
unsent output p header = record { plan = p; output = output; header = header; stream = nothing_yet p header.announce; settled = 0 }

-- In version 2 nothing is settled before a sample or the last line comes, since frames of the management channels may come.
abbrev pub first_settled : Version → Sent → ℕ
first_settled One s = complete_of s
first_settled Two s = 0

abbrev pub begun : Output → Plan → Header → Sent × List ℕ
begun output p header =
    let s = unsent output p header in
    (settled_to s (first_settled header.version s), first_line output p header ++ text_below s (first_settled header.version s))

abbrev pub begun_if : Output → Plan → Option Header → Option (Sent × List ℕ)
begun_if output p None = None
begun_if output p (Some header) = Some (begun output p header)

abbrev pub sent_form : Output → Plan → FeedForm Sent
sent_form output p = record { header = λ line. begun_if output p (run_header Samples (word_size p.option) line); lines = sent_lines }

-- What is kept of a run that is sent while its samples are read. This is the project's own.
use Rattle.std.specs.Prelude.{◌≡◌, ℕ, ◌+◌, ◌-◌, ◌*◌, ◌<◌, Bool, true, false, List, [], take, Result, Ok, Err}
use Rattle.ethernet_channel.specs.FastStream as fast
use Rattle.hdlc_channel.specs.SlowStream as slow
use Rattle.link_run_capture.specs.declared.header.Version.{Version}
use Rattle.link_run_capture.specs.declared.header.Version.TheVariants.{One, Two}
use Rattle.link_run_feed.specs.declared.feed.Reading.{Reading}
use Rattle.link_run_feed.specs.declared.feed.Reading.TheVariants.{Bad, Good}
use Rattle.link_run_feed.specs.declared.reason.Reason.{Reason}
use Rattle.link_sender.specs.HandedIn.{with_samples}
use Rattle.link_sender.specs.Stream.{Stream}
use Rattle.sample_bits.specs.declared.iq.RawIq.{RawIq}
use Rattle.link_run_send.specs.Sent.{Sent, begun, complete_of, has_samples, sample_line, settling, unsent, with_sample}
use Rattle.link_run_send.specs.SendsRun.{SendsRun}
use Rattle.link_run_send.specs.declared.due.Due.{Due}
use Rattle.link_run_send.specs.declared.sample_run.SampleRun.{SampleRun}

-- the octets that the frames of the management channels may still have, and two more for each
abbrev pub room_for : Stream → ℕ
room_for σ = slow.room_of σ.slow + fast.room_of σ.fast

-- the samples of the next carrier that have come
abbrev pub come_of : Due → List RawIq
come_of due = take due.come due.samples

-- how many more lines may come at most, by the place of the samples that come next
abbrev pub places_left : ℕ → Due → ℕ → ℕ
places_left h due room = (h - due.tick) * 4096 + (64 - due.carrier) * 33 + (32 - due.come) + room

-- What is kept is of what was handed in. The text is settled as far as frames were made.
pub record KeepsSent (w : SampleRun) (s : Sent) : Type 0 where
  pub plan : s.plan ≡ w.checked
  pub header : s.header ≡ w.header
  pub output : s.output ≡ w.output.output
  pub handed : Stream
  pub sends : SendsRun w.output.sender w.output.output w.output.rd handed
  pub stream : s.stream ≡ with_samples handed w.due.carrier (come_of w.due)
  pub settled : s.settled ≡ w.output.sender.tick
  pub sampled : w.sampled ≡ has_samples s.stream
  pub room : w.room ≡ room_for s.stream

-- the next frame between two lines: that of the tick of the samples that come next; in version 2 no frame is made before the first
-- sample
abbrev pub made_to : Version → Bool → ℕ → ℕ
made_to One sampled tick = tick
made_to Two true tick = tick
made_to Two false tick = 0

-- after the header, before its text is written
pub record BeforeLines (w : SampleRun) (s : Sent) (text : List ℕ) : Type 0 where
  pub keeps : KeepsSent w (unsent w.output.output w.checked w.header)
  pub first : w.output.sender.tick ≡ 0
  pub unsampled : w.sampled ≡ false
  pub none_come : w.due.come ≡ 0
  pub left : places_left w.header.run_ticks w.due w.room < w.lines_left
  pub state : s ≡ (begun w.output.output w.checked w.header).0
  pub written : text ≡ (begun w.output.output w.checked w.header).1

-- between two lines
pub record BetweenLines (w : SampleRun) (s : Sent) : Type 0 where
  pub keeps : KeepsSent w s
  pub made : w.output.sender.tick ≡ made_to w.header.version w.sampled w.due.tick
  pub left : places_left w.header.run_ticks w.due w.room < w.lines_left

-- after the last line
pub record AfterLines (w : SampleRun) (s : Sent) : Type 0 where
  pub keeps : KeepsSent w s
  pub over : w.due.tick ≡ w.header.run_ticks
  pub made : w.output.sender.tick ≡ w.header.run_ticks

-- what a sample of the carrier that comes next leads to
abbrev pub after_sample : SampleRun → Sent → RawIq → Sent × List ℕ
after_sample w s sample = settling (with_sample s w.due.carrier sample) (complete_of (with_sample s w.due.carrier sample))

-- The sample of a line may come next: it is of the carrier that comes next.
abbrev pub IsNextSample : SampleRun → Sent → List ℕ → RawIq → Type 0
IsNextSample w s line sample = sample_line s line ≡ Ok (after_sample w s sample)

-- What is kept goes on to the next line, and the places that are left are fewer. How many lines are left is counted beside.
pub record GoesOn (old new : SampleRun) (next : Sent) : Type 0 where
  pub keeps : KeepsSent new next
  pub made : new.output.sender.tick ≡ made_to new.header.version new.sampled new.due.tick
  pub fewer : places_left new.header.run_ticks new.due new.room < places_left old.header.run_ticks old.due old.room

-- A frame was queued as what its line is, or refused. It settles no text.
abbrev pub IsQueuedAs : Result (Sent × List ℕ) Reason → Reading → (Sent → Type 0) → Type 0
IsQueuedAs line Good stands = (next : Sent) × (line ≡ Ok (next, [])) × stands next
IsQueuedAs line (Bad reason) stands = line ≡ Err reason

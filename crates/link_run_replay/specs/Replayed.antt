-- The form of captures that are replayed: each record settles the text of the ticks before it. This is the project's own.
use Rattle.std.specs.Prelude.{codes, ℕ, min, nat_le, nat_lt, true, List, [], ◌∷◌, ◌++◌, length, Option, Some, None, Result, Ok, Err, if◌then◌else◌}
use Rattle.carrier_plan.specs.declared.plan.Plan.{Plan}
use Rattle.plan_checker.specs.Run.{ticks_of_run}
use Rattle.link_base.specs.Record.{Record}
use Rattle.link_text.specs.Printed.{ended}
use Rattle.link_run_feed.specs.declared.reason.Reason.{Reason}
use Rattle.link_run_feed.specs.declared.reason.Reason.TheVariants.{Order, Many}
use Rattle.link_run_feed.specs.Feed.{LineForm, FeedForm}
use Rattle.plan_checker.specs.WordSize.{word_size}
use Rattle.link_run_capture.specs.Capture.{most_records, header_of, record_of}
use Rattle.link_run_capture.specs.declared.header.Header.{Header}
use Rattle.link_run_replay.specs.EntryLines.{flow_lines}
use Rattle.link_run_replay.specs.RunText.{text_between}

-- a run of a plan, and the records that arrived in it
pub record Replayed : Type 0 where
  pub plan : Plan
  pub header : Header
  pub records : List Record
  -- the tick of the last record
  pub tick : ℕ

-- the ticks in which the run is played
abbrev pub last_tick : Replayed → ℕ
last_tick s = ticks_of_run s.plan s.header.run_ticks

-- The text of the ticks from that of the last record on, as far as below this one. It is settled once no record of an
-- earlier tick can follow.
abbrev pub text_below : Replayed → ℕ → List ℕ
text_below s tick = text_between s.plan s.header.run_ticks s.header.announce s.records (min s.tick (last_tick s)) (min tick (last_tick s))

abbrev pub with_record : Replayed → Record → Replayed
with_record s r = record { plan = s.plan; header = s.header; records = s.records ++ r ∷ []; tick = r.tick }

-- A record arrives, where its tick is not below that of the last and there are not too many.
abbrev pub replay_by : Replayed → Result Record Reason → Result (Replayed × List ℕ) Reason
replay_by s (Err reason) = Err reason
replay_by s (Ok r) =
    if nat_lt r.tick s.tick then Err Order else
    (if nat_le (most_records s.header.version) (length s.records) then Err Many else Ok (with_record s r, text_below s r.tick))

-- what is written at the end: the text of the ticks that are left, and the lines of the flows
abbrev pub replay_closing : Replayed → List ℕ
replay_closing s = (text_below s (last_tick s) ++ flow_lines s.plan s.header.run_ticks s.records) ++ ended (codes "end")

abbrev pub replay_lines : LineForm Replayed
replay_lines = record { line = λ s line. replay_by s (record_of line); may_end = λ s. true; ending = λ s. (s, []); closing = replay_closing }

-- a run in which nothing arrived yet
abbrev pub begun : Plan → Header → Replayed
begun p header = record { plan = p; header = header; records = []; tick = 0 }

-- by the header; no text is settled
abbrev pub begun_if : Plan → Option Header → Option (Replayed × List ℕ)
begun_if p None = None
begun_if p (Some header) = Some (begun p header, [])

abbrev pub replay_form : Plan → FeedForm Replayed
replay_form p = record { header = λ line. begun_if p (header_of (word_size p.option) line); lines = replay_lines }

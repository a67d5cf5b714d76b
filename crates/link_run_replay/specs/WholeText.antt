-- What a replay prints, over the whole list of records. This is the project's own.
use Rattle.std.specs.Prelude.{codes, ◌≡◌, ◌⊎◌, ℕ, min, List, [], ◌∷◌, ◌++◌, map, Some, Ok}
use Rattle.std.specs.FinMap.{get}
use Rattle.carrier_plan.specs.PlanOf.{plan_of}
use Rattle.carrier_plan.specs.declared.plan.Plan.{Plan}
use Rattle.plan_checker.specs.Rules.{IsGood}
use Rattle.plan_checker.specs.Run.{ticks_of_run}
use Rattle.link_base.specs.Record.{Record}
use Rattle.link_base.specs.Shelf.{Files}
use Rattle.link_base.specs.Sink.{Taken, Appends}
use Rattle.plan_checker.specs.WordSize.{word_size}
use Rattle.link_text.specs.Lines.{lines_of}
use Rattle.link_text.specs.Printed.{ended}
use Rattle.link_run_feed.specs.declared.status.Status.TheVariants.{Done}
use Rattle.link_run_feed.specs.Feed.{feed_answer, settled}
use Rattle.link_run_capture.specs.Capture.{header_of, record_of}
use Rattle.link_run_capture.specs.declared.header.Header.{Header}
use Rattle.link_run_capture.specs.IsCapture.{IsCapture}
use Rattle.link_run_replay.specs.EntryLines.{flow_lines}
use Rattle.link_run_replay.specs.RunText.{text_below_tick}
use Rattle.link_run_replay.specs.Replayed.{replay_form}

-- the text of all ticks of a run, then the counts of its flows, and the last line
abbrev pub replay_text : Plan → Header → List Record → List ℕ
replay_text p header records =
    (text_below_tick p header.run_ticks header.announce records (ticks_of_run p header.run_ticks) ++ flow_lines p header.run_ticks records) ++ ended (codes "end")

-- the tick of the last of these records, or this one where there is none
abbrev pub latest_of : ℕ → List Record → ℕ
latest_of tick [] = tick
latest_of tick (r ∷ records) = latest_of r.tick records

-- the text of all ticks of the run before that of the last record, as all the records give it
abbrev pub settled_text : Plan → Header → List Record → List ℕ
settled_text p header records =
    text_below_tick p header.run_ticks header.announce records (min (latest_of 0 records) (ticks_of_run p header.run_ticks))

-- The octets begin as a capture with this header, in words of so many octets: the header, and a line for each of these records.
pub record BeginsCapture (width : ℕ) (octets : List ℕ) (header : Header) (records : List Record) : Type 0 where
  pub first : List ℕ
  pub lines : List (List ℕ)
  pub following : List (List ℕ)
  pub whole : lines_of octets ≡ first ∷ (lines ++ following)
  pub says : header_of width first ≡ Some header
  pub reads : map record_of lines ≡ map Ok records

-- What is printed of a capture whose good lines these octets begin with: nothing, or the text that their records settle.
pub record IsSettledText (p : Plan) (octets text : List ℕ) : Type 0 where
  pub header : Header
  pub records : List Record
  pub begins : BeginsCapture (word_size p.option) octets header records
  pub printed : text ≡ settled_text p header records

-- What is printed of a capture that is good to its end.
pub record IsWholeText (p : Plan) (octets text : List ℕ) : Type 0 where
  pub header : Header
  pub records : List Record
  pub capture : IsCapture (word_size p.option) octets header records
  pub printed : text ≡ replay_text p header records

-- What is printed while the lines of a capture come is what all its records together give, by any plan that meets the rules.
pub record TextIsWhole : Type 0 where
  -- the text that stands before the line of a bad line, and alone after a read fault
  pub settles : (p : Plan) (octets : List ℕ) → IsGood p → (settled (replay_form p) octets ≡ []) ⊎ IsSettledText p octets (settled (replay_form p) octets)
  -- the text of an answer that is done
  pub done : (p : Plan) (octets : List ℕ) → IsGood p → (feed_answer (replay_form p) octets).status ≡ Done → IsWholeText p octets (feed_answer (replay_form p) octets).text

-- The plan holds, and the whole text of the run was written.
pub record ReplaysCapture (plan capture : List ℕ) (held : Files) (old new : Taken) : Type 0 where
  pub octets : List ℕ
  pub p : Plan
  pub held_plan : get held plan ≡ Some octets
  pub is_plan : plan_of octets ≡ Ok p
  pub good : IsGood p
  pub feed : List ℕ
  pub header : Header
  pub records : List Record
  pub held_capture : get held capture ≡ Some feed
  pub is_capture : IsCapture (word_size p.option) feed header records
  pub written : Appends (replay_text p header records) old new

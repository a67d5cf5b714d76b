-- What the words of a call ask for. The forms are this project's own.
use Rattle.std.specs.Prelude.{codes, bytes_eq, Bool, true, false, List, [], ◌∷◌, ℕ, Option, Some, None, if◌then◌else◌}
use Rattle.link_base.specs.Shelf.{Files}
use Rattle.link_drill.specs.Course.{drill}
use Rattle.link_run_capture.specs.Capture.{at_most}
use Rattle.link_run_feed.specs.Course.{Course, says}
use Rattle.link_run_feed.specs.declared.status.Status.TheVariants.{Usage}
use Rattle.link_run_inspect.specs.Course.{inspect}
use Rattle.link_run_plan.specs.Check.{check}
use Rattle.link_run_replay.specs.Replay.{replay}
use Rattle.link_run_send.specs.Send.{line, send}
use Rattle.link_run_startup.specs.Startup.{startup}
use Rattle.link_text.specs.Decimals.{decimal_value}

pub record Call : Type 0 where
  -- whether it reads a feed
  pub reads_feed : Bool
  -- what it does, where these files are held
  pub course : Files → Course

-- a call that reads no feed
abbrev pub by_plan : (Files → Course) → Call
by_plan course = record { reads_feed = false; course = course }

abbrev pub by_feed : (Files → Course) → Call
by_feed course = record { reads_feed = true; course = course }

abbrev pub by_number : Option ℕ → Option Call
by_number None = None
by_number (Some number) = Some (by_plan (drill number))

-- the call of a drill by the text of its number, which is below 2^31
abbrev pub call_of_drill : List ℕ → Option Call
call_of_drill text = by_number (at_most 2_147_483_647 (decimal_value text))

-- the call of a word and one more
abbrev pub call_on_one : List ℕ → List ℕ → Option Call
call_on_one word name =
    if bytes_eq word (codes "check") then Some (by_plan (check name)) else
    (if bytes_eq word (codes "startup") then Some (by_feed (startup name)) else
    (if bytes_eq word (codes "inspect") then Some (by_feed (inspect name)) else
    (if bytes_eq word (codes "drill") then call_of_drill name else None)))

-- the call of a word and two files
abbrev pub call_on_two : List ℕ → List ℕ → List ℕ → Option Call
call_on_two word plan feed =
    if bytes_eq word (codes "replay") then Some (by_feed (replay plan feed)) else
    (if bytes_eq word (codes "send") then Some (by_feed (send plan feed)) else
    (if bytes_eq word (codes "line") then Some (by_feed (line plan feed)) else None))

-- the call of some words, each as its octets
abbrev pub call_of : List (List ℕ) → Option Call
call_of (word ∷ name ∷ []) = call_on_one word name
call_of (word ∷ plan ∷ feed ∷ []) = call_on_two word plan feed
call_of _ = None

abbrev pub reads_feed : Option Call → Bool
reads_feed None = false
reads_feed (Some call) = call.reads_feed

-- words of no form are answered with nothing
abbrev pub course_of : Option Call → Files → Course
course_of None held = says Usage []
course_of (Some call) held = call.course held

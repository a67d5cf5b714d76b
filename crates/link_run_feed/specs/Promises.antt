-- What a call promises of its text, its status and the outside. This is the project's own.
-- A shelf or a sink that does not tell its content leaves the facts on content open, and the counts and causes as they are.
use Rattle.std.specs.Prelude.{◌≡◌, ◌≢◌, ◌⊎◌, ◌+◌, ◌≤◌, ℕ, Bool, IsTrue, List, [], ◌∷◌, ◌++◌, length, Contains, Option, Some, None}
use Rattle.std.specs.FinMap.{get}
use Rattle.link_base.specs.Faults.{Rose}
use Rattle.link_base.specs.Shelf.{Files, Shown, SameFiles}
use Rattle.link_base.specs.Sink.{Taken, Appends, AppendsFront}
use Rattle.link_run_feed.specs.declared.reason.Reason.{Reason}
use Rattle.link_run_feed.specs.declared.status.Status.{Status}
use Rattle.link_run_feed.specs.declared.status.Status.TheVariants.{FeedBad, ReadFault, WriteFault, NoMemory}
use Rattle.link_run_feed.specs.Answer.{is_answer}
use Rattle.link_run_feed.specs.FaultCounts.{FaultCounts, CountsReads}
use Rattle.link_run_feed.specs.Course.{Course, reached}
use Rattle.link_run_feed.specs.Reasons.{bad_line}

-- The status is that of the answer, and its whole text was written.
pub record Told (course : Course) (old new : Taken) (status : Status) : Type 0 where
  pub answer : status ≡ course.answer.status
  pub written : Appends course.answer.text old new

-- the name is the last of these
abbrev pub IsLast : List (List ℕ) → List ℕ → Type 0
IsLast names name = (front : List (List ℕ)) × (names ≡ front ++ name ∷ [])

-- the failure is that of a file that the call comes to, or of the last of them, which is no file
abbrev pub IsReached : List (List ℕ) → Files → Option (List ℕ) → Type 0
IsReached names held (Some name) = Contains names name
IsReached names held None = (name : List ℕ) × IsLast names name × (get held name ≡ None)

-- Where a call stands after a read fault: at the file that failed, of one that is read whole at most 65,537 octets in.
pub record StandsAt (course : Course) (old new : Shown) : Type 0 where
  pub failed : IsReached (reached course) old.held new.failed
  pub chosen : (new.chosen ≡ new.failed) ⊎ (new.chosen ≡ None)
  pub of_whole : (name whole : List ℕ) → new.chosen ≡ Some name → Contains course.whole name → course.feed ≢ Some name
      → get old.held name ≡ Some whole → length whole ≤ length new.left + 65_537

-- the selected file is the feed, of which these octets were taken
abbrev pub IsTakenFeed : Course → Shown → Shown → List ℕ → List ℕ → Type 0
IsTakenFeed course old new name taken = (new.chosen ≡ Some name) × (course.feed ≡ Some name) × (get old.held name ≡ Some (taken ++ new.left))

-- What a read fault leaves: the text that is settled by what was taken of the feed, and nothing elsewhere.
pub record LeavesSettled (course : Course) (old new : Shown) (before after : Taken) : Type 0 where
  pub text : List ℕ
  pub written : Appends text before after
  pub settled : (name taken : List ℕ) → IsTakenFeed course old new name taken → (text ≡ course.settled taken) ⊎ (Contains course.whole name × (text ≡ []))
  pub good : (name taken : List ℕ) → IsTakenFeed course old new name taken → ¬ Contains course.whole name → IsTrue (course.is_front taken)
  pub nothing : ((name : List ℕ) → new.chosen ≡ Some name → course.feed ≢ Some name) → text ≡ []

-- The call comes to the file of this name. Where it comes to none, the file was selected before.
abbrev pub IsSelected : Course → Shown → List ℕ → Type 0
IsSelected course old name = Contains (reached course) name ⊎ ((reached course ≡ []) × (old.chosen ≡ Some name))

-- What want of memory leaves: no text, and of the feed at most 8,192 octets taken.
pub record LeavesNothing (course : Course) (old new : Shown) (before after : Taken) : Type 0 where
  pub written : Appends [] before after
  pub of_feed : IsTrue old.tells → (name taken : List ℕ) → IsTakenFeed course old new name taken → ¬ Contains course.whole name → length taken ≤ 8192
  -- no file is selected, or one that the call comes to
  pub selected : IsTrue old.tells → (name : List ℕ) → new.chosen ≡ Some name → IsSelected course old name

-- What a refused feed leaves: the text that its good lines settle, and then the line of the first bad one.
pub record LeavesBadLine (course : Course) (held : Files) (before after : Taken) (line : ℕ) (reason : Reason) : Type 0 where
  pub name : List ℕ
  pub octets : List ℕ
  pub of_feed : course.feed ≡ Some name
  pub held_here : get held name ≡ Some octets
  pub written : Appends (course.settled octets ++ bad_line line reason) before after

-- All that a call of this course promises, over what the shelf and the sink showed before and after it. Whether it reads a
-- feed is known by its words alone.
pub record Promises (reads_feed : Bool) (course : Course) (shelf shelf' : Shown) (sink sink' : Taken) (status : Status) : Type 0 where
  pub files : SameFiles shelf shelf'
  pub reads : CountsReads reads_feed status shelf.faults shelf'.faults
  pub writes : FaultCounts (status ≡ WriteFault) sink.faults sink'.faults
  pub answers : IsTrue (is_answer status) → IsTrue shelf.tells → Told course sink sink' status
  pub prefix : status ≡ WriteFault → IsTrue shelf.tells → AppendsFront course.answer.text sink sink'
  pub reached : status ≡ ReadFault → IsTrue shelf.tells → StandsAt course shelf shelf'
  pub settled : status ≡ ReadFault → IsTrue shelf.tells → LeavesSettled course shelf shelf' sink sink'
  pub refused : (line : ℕ) (reason : Reason) → status ≡ FeedBad line reason → IsTrue shelf.tells → LeavesBadLine course shelf.held sink sink' line reason
  pub memory : status ≡ NoMemory → LeavesNothing course shelf shelf' sink sink'

-- Where neither count rose, the whole text of the answer was written with its status, or memory was wanting.
abbrev pub IsComplete : Course → Shown → Shown → Taken → Taken → Status → Type 0
IsComplete course shelf shelf' sink sink' status =
    IsTrue shelf.tells → ¬ Rose shelf.faults shelf'.faults → ¬ Rose sink.faults sink'.faults
    → (status ≡ NoMemory) ⊎ Told course sink sink' status

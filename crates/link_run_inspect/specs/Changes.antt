-- What the last of a list of received basic frames changes, and the lines that say so. The texts are this project's own.
use Rattle.std.specs.Prelude.{codes, decimal, ℕ, Bool, true, false, if◌then◌else◌, List, [], ◌∷◌, ◌++◌, length, Option, Some, None, Result, Ok, Err}
use Rattle.hyperframe.specs.declared.synchronization.SyncState.{SyncState}
use Rattle.hyperframe.specs.declared.synchronization.SyncState.TheVariants.{Hunting, Found, Held, Lost}
use Rattle.control_words.specs.declared.announce.Announce.{Announce}
use Rattle.control_words.specs.declared.announce.BadControl.{BadControl}
use Rattle.control_words.specs.declared.announce.BadControl.TheVariants.{Sync, Version, Hdlc, Pointer}
use Rattle.control_words.specs.Reading.{announced, numbers}
use Rattle.link_run_management.specs.Events.{numbered}
use Rattle.link_run_inspect.specs.declared.changes.Changes.{Changes}
use Rattle.link_run_inspect.specs.declared.changes.Hyperframe.{Hyperframe}
use Rattle.link_run_inspect.specs.Frames.{control_words, violations_of_last, state_at, is_lost_at, ends_hyperframe}

-- the state, where it is another one than before
abbrev pub changed_state : SyncState → SyncState → Option SyncState
changed_state Hunting Hunting = None
changed_state Found Found = None
changed_state Held Held = None
changed_state Lost Lost = None
changed_state before now = Some now

abbrev pub changed_loss : Bool → Bool → Option Bool
changed_loss true true = None
changed_loss false false = None
changed_loss before now = Some now

-- what the control words of a hyperframe say, and its violations
abbrev pub hyperframe_of : ℕ → List ℕ → ℕ → Hyperframe
hyperframe_of width control violations =
    record { z = (numbers width control).0; bfn = (numbers width control).1; violations = violations; answer = announced width control }

-- the hyperframe that the last frame ends, in a lock that is held
unfoldable pub hyperframe_at : ℕ → List (List ℕ) → Option Hyperframe
hyperframe_at width frames =
    if ends_hyperframe frames then Some (hyperframe_of width (control_words width 256 frames) (violations_of_last 256 frames)) else None

-- what one more frame changes
unfoldable pub changes_of : ℕ → List (List ℕ) → List ℕ → Changes
changes_of width frames frame =
    let all = frames ++ frame ∷ [] in
    record {
      number = length frames;
      sync = changed_state (state_at frames) (state_at all);
      lost = changed_loss (is_lost_at frames) (is_lost_at all);
      hyperframe = hyperframe_at width all;
    }

-- ---- lines

abbrev pub sync_word : SyncState → List ℕ
sync_word Hunting = codes "sync hunting"
sync_word Found = codes "sync found"
sync_word Held = codes "sync held"
sync_word Lost = codes "sync lost"

abbrev pub sync_text : ℕ → Option SyncState → List ℕ
sync_text n None = []
sync_text n (Some state) = numbered n (sync_word state)

abbrev pub loss_text : ℕ → Option Bool → List ℕ
loss_text n None = []
loss_text n (Some lost) = numbered n (if lost then codes "los on" else codes "los off")

abbrev pub answer_words : Result Announce BadControl → List ℕ
answer_words (Ok a) =
    codes "announce " ++ decimal a.version ++ codes " " ++ decimal a.hdlc ++ codes " " ++ decimal a.pointer ++ codes " " ++ decimal a.l1
answer_words (Err Sync) = codes "bad sync"
answer_words (Err (Version got)) = codes "bad version"
answer_words (Err (Hdlc got)) = codes "bad hdlc"
answer_words (Err (Pointer got)) = codes "bad pointer"

abbrev pub hyperframe_text : ℕ → Option Hyperframe → List ℕ
hyperframe_text n None = []
hyperframe_text n (Some h) =
    numbered n (codes "number " ++ decimal h.z ++ codes " " ++ decimal h.bfn)
    ++ numbered n (codes "violations " ++ decimal h.violations)
    ++ numbered n (answer_words h.answer)

-- the lines of what changed, in their order
unfoldable pub changes_text : Changes → List ℕ
changes_text c = sync_text c.number c.sync ++ loss_text c.number c.lost ++ hyperframe_text c.number c.hyperframe

-- Hyperframe synchronization over a whole list of basic frames, of which each has a comma as its first character or
-- not (CPRI Specification V7.0, section 4.2.8: the sync byte begins a hyperframe). How a lock begins and ends is this
-- project's own: it begins at the first frame with a comma after the end of the last lock, and ends at the first frame
-- a whole number of hyperframes after its beginning that has no comma.
use Rattle.std.specs.Prelude.{ℕ, zero, suc, ◌-◌, ◌%◌, ◌==◌, ◌&&◌, nat_le, Bool, true, false, not, if◌then◌else◌, List, [], ◌∷◌, length, drop, Option, Some, None}
use Rattle.hyperframe.specs.declared.synchronization.SyncState.{SyncState}
use Rattle.hyperframe.specs.declared.synchronization.SyncState.TheVariants.{Hunting, Found, Held, Lost}

-- what is answered at a frame: the state, and X where the frame stands in a lock
pub record Sync : Type 0 where
  pub state : SyncState
  pub x : Option ℕ

-- the frames from the first comma on
abbrev pub from_comma : List Bool → List Bool
from_comma [] = []
from_comma (true ∷ frames) = true ∷ frames
from_comma (false ∷ frames) = from_comma frames

-- The first of these frames that begins a hyperframe and has no comma, counted as frames of the lock. The first of the
-- list is number n of the lock.
abbrev pub first_missing : ℕ → List Bool → Option ℕ
first_missing n [] = None
first_missing n (comma ∷ frames) = if n % 256 == 0 && not comma then Some n else first_missing (suc n) frames

-- the frame at which the lock ends that begins with these frames
abbrev pub end_of_lock : List Bool → Option ℕ
end_of_lock frames = first_missing 0 frames

-- in a lock, at its frame n
abbrev pub locked : ℕ → Sync
locked n = record { state = if nat_le 256 n then Held else Found; x = Some (n % 256) }

-- at the frame that ends a lock, which is its frame n
abbrev pub unlocked : ℕ → Sync
unlocked n = record { state = if n == 256 then Hunting else Lost; x = None }

-- where no lock has begun, and at all other frames
abbrev pub hunting : Sync
hunting = record { state = Hunting; x = None }

-- The answer at the last frame of a list that begins with the first comma: it stands in the lock that begins there,
-- or it ends this lock, or it comes after the end and `later` answers for the frames after the end.
abbrev pub sync_by_end : (List Bool → Sync) → List Bool → Option ℕ → Sync
sync_by_end later frames None = locked (length frames - 1)
sync_by_end later frames (Some n) = if length frames == suc n then unlocked n else later (drop (suc n) frames)

abbrev pub sync_from : (List Bool → Sync) → List Bool → Sync
sync_from later [] = hunting
sync_from later (comma ∷ frames) = sync_by_end later (comma ∷ frames) (end_of_lock (comma ∷ frames))

-- the answer at the last frame of a list, where so many locks are looked for
unfoldable pub sync_within : ℕ → List Bool → Sync
sync_within zero frames = hunting
sync_within (suc locks) frames = sync_from (sync_within locks) (from_comma frames)

-- the answer at the last frame of a list, which has no more locks than frames
unfoldable pub sync_of : List Bool → Sync
sync_of frames = sync_within (length frames) frames

abbrev pub sync_state : List Bool → SyncState
sync_state frames = (sync_of frames).state

abbrev pub sync_x : List Bool → Option ℕ
sync_x frames = (sync_of frames).x

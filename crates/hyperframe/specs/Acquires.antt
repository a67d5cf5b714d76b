-- What a receiver that looks for commas keeps of a list of basic frames.
use Rattle.std.specs.Prelude.{◌≡◌, ℕ, ◌+◌, nat_lt, Bool, if◌then◌else◌, List, Option, Some, None}
use Rattle.hyperframe.specs.declared.synchronization.Acquire.{Acquire}
use Rattle.hyperframe.specs.declared.synchronization.SyncState.{SyncState}
use Rattle.hyperframe.specs.declared.synchronization.SyncState.TheVariants.{Hunting, Found, Held, Lost}
use Rattle.hyperframe.specs.Locks.{Sync, sync_state, sync_x, hunting}

-- X, where the state is that of a frame in a lock
abbrev pub x_in : SyncState → ℕ → Option ℕ
x_in Hunting x = None
x_in Found x = Some x
x_in Held x = Some x
x_in Lost x = None

-- the receiver stands for these frames: it keeps the state, and X in a lock
pub record Acquires (a : Acquire) (frames : List Bool) : Type 0 where
  pub state : a.state ≡ sync_state frames
  pub x : x_in a.state a.x ≡ sync_x frames

-- What follows is what one more frame makes of the answer. No contract of a public call names it.

abbrev pub kept : Acquire → Sync
kept a = record { state = a.state; x = x_in a.state a.x }

-- the state in which a lock leaves the receiver that ends
abbrev pub state_without : SyncState → SyncState
state_without Hunting = Hunting
state_without Found = Hunting
state_without Held = Lost
state_without Lost = Lost

abbrev pub next_in : SyncState → Option ℕ → Bool → Sync
next_in state None comma = if comma then record { state = Found; x = Some 0 } else hunting
next_in state (Some x) comma =
    if nat_lt x 255
    then record { state = state; x = Some (x + 1) }
    else (if comma then record { state = Held; x = Some 0 } else record { state = state_without state; x = None })

unfoldable pub next : Sync → Bool → Sync
next s comma = next_in s.state s.x comma

-- One end of a link in a start-up, and what its calls do. The states are those of CPRI Specification V7.0,
-- section 4.5. The offers, the calls and the steps are this project's own.
use Rattle.std.specs.Prelude.{Bool, true, false, ◌==◌, ◌&&◌, if◌then◌else◌, Option, Some, None}
use Rattle.control_words.specs.declared.announce.Announce.{Announce}
use Rattle.startup_machine.specs.declared.offer.Offer.{Offer}
use Rattle.startup_machine.specs.declared.state.State.{State}
use Rattle.startup_machine.specs.declared.state.State.TheVariants.{A, B, C, D, E, F, G}
use Rattle.startup_machine.specs.Offers.{offer_of, meet, is_same_offer}

-- what an end is capable of, its state, its offer, and whether it has announced this offer since it came to it
pub record EndView : Type 0 where
  pub caps : Offer
  pub state : State
  pub offer : Offer
  pub told : Bool

-- a new end, and an end after `reset`
abbrev pub new_end : Offer → EndView
new_end caps = record { caps = caps; state = A; offer = caps; told = false }

abbrev pub state_after_start : State → State
state_after_start A = B
state_after_start state = state

-- an end after `start`
abbrev pub started : EndView → EndView
started e = record e { state = state_after_start e.state }

abbrev pub state_after_agreement : State → State
state_after_agreement E = F
state_after_agreement state = state

-- an end after `vendor_agreed`
abbrev pub vendor_agreed : EndView → EndView
vendor_agreed e = record e { state = state_after_agreement e.state }

abbrev pub silenced_in : State → EndView → EndView
silenced_in A e = e
silenced_in state e = record e { state = B; offer = e.caps; told = false }

-- an end after `silence`
abbrev pub silenced : EndView → EndView
silenced e = silenced_in e.state e

abbrev pub announcement_in : State → Offer → Option Announce
announcement_in A offer = None
announcement_in state offer = Some (record { version = 1; hdlc = offer.hdlc; pointer = offer.pointer; l1 = 0 })

-- what `announce` gives
abbrev pub announcement : EndView → Option Announce
announcement e = announcement_in e.state e.offer

abbrev pub told_in : State → Bool → Bool
told_in A told = told
told_in state told = true

-- an end after `announce`
abbrev pub announced : EndView → EndView
announced e = record e { told = told_in e.state e.told }

-- an end that has taken the meet of its offer and another. What it announced before still counts if its offer stays
abbrev pub with_meet : EndView → Offer → EndView
with_meet e heard = record e { offer = meet e.offer heard; told = e.told && is_same_offer (meet e.offer heard) e.offer }

-- an end that has taken the meet and sets up its channels
abbrev pub setting_up : EndView → Offer → EndView
setting_up e heard = record (with_meet e heard) { state = D }

-- the state in which an end goes on with an offer that both ends made
abbrev pub state_with : Offer → State
state_with offer = if offer.hdlc == 0 && offer.pointer == 0 then G else E

-- an end that sets up its channels, and goes on where both ends have announced its offer
abbrev pub set_up : EndView → Offer → EndView
set_up e heard = if is_same_offer heard e.offer && e.told then record e { state = state_with e.offer } else e

-- an end that goes on as long as it hears its own offer
abbrev pub kept_up : EndView → Offer → EndView
kept_up e heard = if is_same_offer heard e.offer then e else setting_up e heard

-- an end in a state after it heard an offer with or without version 1
abbrev pub heard_in : State → Bool → EndView → Offer → EndView
heard_in A known e heard = e
heard_in B known e heard = record e { state = C }
heard_in C true e heard = setting_up e heard
heard_in C false e heard = e
heard_in D true e heard = set_up (with_meet e heard) heard
heard_in D false e heard = record e { state = C }
heard_in E true e heard = kept_up e heard
heard_in E false e heard = record e { state = C }
heard_in F true e heard = kept_up e heard
heard_in F false e heard = record e { state = C }
heard_in G true e heard = kept_up e heard
heard_in G false e heard = record e { state = C }

-- an end after `heard`
unfoldable pub heard : EndView → Announce → EndView
heard e a = heard_in e.state (a.version == 1) e (offer_of a)

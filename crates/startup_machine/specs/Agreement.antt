-- What two ends agree on. The offers and the states that keep them are this project's own.
use Rattle.std.specs.Prelude.{◌≡◌, Bool, true, false, IsTrue, All}
use Rattle.control_words.specs.declared.announce.Announce.{Announce}
use Rattle.startup_machine.specs.declared.offer.Offer.{Offer}
use Rattle.startup_machine.specs.declared.state.State.{State}
use Rattle.startup_machine.specs.declared.state.State.TheVariants.{A, B, C, D, E, F, G}
use Rattle.startup_machine.specs.declared.event.Event.{Event}
use Rattle.startup_machine.specs.declared.event.Event.TheVariants.{Start, Tell, Hear, Lose, Again, Agree, Silence, Reset}
use Rattle.startup_machine.specs.Offers.{offer_of, IsAtOrBelow}
use Rattle.startup_machine.specs.World.{SideView, WorldView, EndName}

-- the states in which an end has set its channels up: E, F and G
abbrev pub is_past_setup : State → Bool
is_past_setup A = false
is_past_setup B = false
is_past_setup C = false
is_past_setup D = false
is_past_setup E = true
is_past_setup F = true
is_past_setup G = true

abbrev pub IsPastSetup : State → Type 0
IsPastSetup state = IsTrue (is_past_setup state)

-- an announcement has an offer between these two
abbrev pub IsBetween : Offer → Offer → Announce → Type 0
IsBetween low high a = IsAtOrBelow low (offer_of a) × IsAtOrBelow (offer_of a) high

-- What the near end keeps to: each announcement on its way from it has an offer at or above the end's offer and within
-- its caps, its offer is within its own caps, and once it is past setup its offer is within the far end's caps and at
-- or above the far end's offer.
pub record KeepsTo (near far : SideView) : Type 0 where
  pub on_way : All (IsBetween near.end.offer near.end.caps) far.coming
  pub own : IsAtOrBelow near.end.offer near.end.caps
  pub held : IsPastSetup near.end.state → IsAtOrBelow near.end.offer far.end.caps × IsAtOrBelow far.end.offer near.end.offer

-- both ends keep to it
pub record Agreed (w : WorldView) : Type 0 where
  pub one : KeepsTo w.one w.two
  pub two : KeepsTo w.two w.one

-- whether no end goes back to its first offer at an event
abbrev pub goes_on : Event → Bool
goes_on Start = true
goes_on Tell = true
goes_on Hear = true
goes_on Lose = true
goes_on Again = true
goes_on Agree = true
goes_on Silence = false
goes_on Reset = false

abbrev pub GoesOn : EndName × Event → Type 0
GoesOn e = IsTrue (goes_on e.1)

-- two ends that are both past setup hold one offer, and both are capable of it
abbrev pub HoldSameOffer : Offer → Offer → WorldView → Type 0
HoldSameOffer one two w =
    IsPastSetup w.one.end.state → IsPastSetup w.two.end.state →
    (w.one.end.offer ≡ w.two.end.offer) × IsAtOrBelow w.one.end.offer one × IsAtOrBelow w.one.end.offer two

-- What two ends announced to each other over a list of events. The events are this project's own.
use Rattle.std.specs.Prelude.{◌≡◌, List, [], ◌∷◌, ◌++◌, Contains, if◌then◌else◌}
use Rattle.std.specs.Option.{option_to_list}
use Rattle.control_words.specs.declared.announce.Announce.{Announce}
use Rattle.startup_machine.specs.declared.offer.Offer.{Offer}
use Rattle.startup_machine.specs.declared.event.Event.{Event}
use Rattle.startup_machine.specs.declared.event.Event.TheVariants.{Start, Tell, Hear, Lose, Again, Agree, Silence, Reset}
use Rattle.startup_machine.specs.Offers.{offer_of}
use Rattle.startup_machine.specs.End.{announcement}
use Rattle.startup_machine.specs.World.{SideView, WorldView, EndName, One, Two, is_crowded, side_of, happens}
use Rattle.startup_machine.specs.Agreement.{IsPastSetup}

-- the announcement that the near end makes at an event, if it makes one: only telling does, unless it is refused
abbrev pub made_by : Event → SideView → SideView → List Announce
made_by Start near far = []
made_by Tell near far = if is_crowded Tell near far then [] else option_to_list (announcement near.end)
made_by Hear near far = []
made_by Lose near far = []
made_by Again near far = []
made_by Agree near far = []
made_by Silence near far = []
made_by Reset near far = []

-- the announcement that the first of these ends makes at an event at the second
abbrev pub made_at : EndName → EndName → Event → WorldView → List Announce
made_at One One event w = made_by event w.one w.two
made_at Two Two event w = made_by event w.two w.one
made_at One Two event w = []
made_at Two One event w = []

-- the announcements that an end makes over a list of events
abbrev pub made : EndName → List (EndName × Event) → WorldView → List Announce
made end [] w = []
made end (e ∷ events) w = made_at end e.0 e.1 w ++ made end events (happens e.0 e.1 w)

-- an offer is the offer of one of these announcements
pub record IsOfferOf (offer : Offer) (announcements : List Announce) : Type 0 where
  pub made_in : Announce
  pub among : Contains announcements made_in
  pub same : offer_of made_in ≡ offer

abbrev pub other : EndName → EndName
other One = Two
other Two = One

-- if the end is past setup in this world, both ends made its offer in these events, which began in that world
abbrev pub BothOffered : EndName → List (EndName × Event) → WorldView → WorldView → Type 0
BothOffered end events start w =
    let view = (side_of end w).end in
    IsPastSetup view.state → IsOfferOf view.offer (made end events start) × IsOfferOf view.offer (made (other end) events start)

-- Two ends of a link and what they announced to each other. The events are this project's own.
use Rattle.std.specs.Prelude.{◌≡◌, ◌≤◌, All, ℕ, ◌-◌, Bool, ◌==◌, ◌&&◌, ◌||◌, if◌then◌else◌, nat_lt, List, [], ◌∷◌, ◌++◌, length, take}
use Rattle.std.specs.Option.{option_to_list}
use Rattle.circular_buffer.specs.Buffer.{keep_last}
use Rattle.control_words.specs.declared.announce.Announce.{Announce}
use Rattle.startup_machine.specs.declared.offer.Offer.{Offer}
use Rattle.startup_machine.specs.declared.event.Event.{Event}
use Rattle.startup_machine.specs.declared.event.Event.TheVariants.{Start, Tell, Hear, Lose, Again, Agree, Silence, Reset}
use Rattle.startup_machine.specs.Offers.{IsInRange}
use Rattle.startup_machine.specs.End.{EndView, new_end, started, vendor_agreed, silenced, announcement, announced, heard}

-- an end, and the announcements that are on their way to it, the oldest first
pub record SideView : Type 0 where
  pub end : EndView
  pub coming : List Announce

pub record WorldView : Type 0 where
  pub one : SideView
  pub two : SideView

-- a side at the beginning
abbrev pub new_side : Offer → SideView
new_side caps = record { end = new_end caps; coming = [] }

-- what holds of the announcements on their way to an end, and of the room for them
pub record IsQueue (items : List Announce) (capacity : ℕ) : Type 0 where
  pub room : capacity ≡ 4096
  pub within : length items ≤ 4096
  pub in_range : All IsInRange items

-- two new ends, of which nothing is on its way
abbrev pub begun : Offer → Offer → WorldView
begun one two = record { one = new_side one; two = new_side two }

-- an end that hears the oldest of these announcements, if there is one
abbrev pub hearing : EndView → List Announce → SideView
hearing e [] = record { end = e; coming = [] }
hearing e (a ∷ rest) = record { end = heard e a; coming = rest }

-- what an event does to the side that it names and to the other side, if lists of announcements have no limit
abbrev pub unlimited : Event → SideView → SideView → SideView × SideView
unlimited Start near far = (record near { end = started near.end }, far)
unlimited Tell near far =
    (record near { end = announced near.end }, record far { coming = far.coming ++ option_to_list (announcement near.end) })
unlimited Hear near far = (hearing near.end near.coming, far)
unlimited Lose near far = (record near { coming = take (length near.coming - 1) near.coming }, far)
unlimited Again near far = (record near { coming = near.coming ++ keep_last 1 near.coming }, far)
unlimited Agree near far = (record near { end = vendor_agreed near.end }, far)
unlimited Silence near far = (record near { end = silenced near.end }, far)
unlimited Reset near far = (record near { end = new_end near.end.caps }, far)

-- whether a list of announcements that holds 4,096 would have more after a step
abbrev pub is_overfull : List Announce → List Announce → Bool
is_overfull before after = length before == 4096 && nat_lt 4096 (length after)

-- whether an event would add to a list of announcements that holds 4,096
unfoldable pub is_crowded : Event → SideView → SideView → Bool
is_crowded event near far =
    let after = unlimited event near far in
    is_overfull near.coming after.0.coming || is_overfull far.coming after.1.coming

-- What an event does to the side that it names and to the other side. One that would add to a full list does nothing.
unfoldable pub step : Event → SideView → SideView → SideView × SideView
step event near far = if is_crowded event near far then (near, far) else unlimited event near far

-- the two ends
pub data EndName : Type 0 where
  One : EndName
  Two : EndName

-- ends are numbered from 0
abbrev pub end_name : ℕ → EndName
end_name number = if number == 0 then One else Two

abbrev pub side_of : EndName → WorldView → SideView
side_of One w = w.one
side_of Two w = w.two

-- an event at an end
abbrev pub happens : EndName → Event → WorldView → WorldView
happens One event w = let after = step event w.one w.two in record { one = after.0; two = after.1 }
happens Two event w = let after = step event w.two w.one in record { one = after.1; two = after.0 }

-- whether an event at an end is refused
abbrev pub is_refused : EndName → Event → WorldView → Bool
is_refused One event w = is_crowded event w.one w.two
is_refused Two event w = is_crowded event w.two w.one

-- the events of a list, one after another
abbrev pub run : List (EndName × Event) → WorldView → WorldView
run [] w = w
run (e ∷ events) w = run events (happens e.0 e.1 w)

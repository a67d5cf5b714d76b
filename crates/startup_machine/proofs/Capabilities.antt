-- What an end is capable of stays.
use Rattle.std.proofs.Common.{◌≡◌, ◌==◌, ◌&&◌, ◌∷◌, [], List, Bool, true, false, refl, ◌∙◌}
use Rattle.control_words.specs.declared.announce.Announce.{Announce}
use Rattle.startup_machine.specs.declared.offer.Offer.{Offer}
use Rattle.startup_machine.specs.declared.state.State.{State}
use Rattle.startup_machine.specs.declared.state.State.TheVariants.{A, B, C, D, E, F, G}
use Rattle.startup_machine.specs.declared.event.Event.{Event}
use Rattle.startup_machine.specs.declared.event.Event.TheVariants.{Start, Tell, Hear, Lose, Again, Agree, Silence, Reset}
use Rattle.startup_machine.specs.Offers.{offer_of, is_same_offer}
use Rattle.startup_machine.specs.End.{EndView, silenced_in, with_meet, setting_up, state_with, set_up, kept_up, heard_in, heard}
use Rattle.startup_machine.specs.World.{SideView, WorldView, EndName, One, Two, hearing, unlimited, is_crowded, step, happens, run}
use Rattle.startup_machine.proofs.Agreements.{by_cases}

abbrev HasCaps : Offer → EndView → Type 0
HasCaps caps e = e.caps ≡ caps

caps-kept_up : (e : EndView) (o : Offer) → HasCaps e.caps (kept_up e o)
caps-kept_up e o = by_cases (HasCaps e.caps) (is_same_offer o e.offer) e (setting_up e o) (λ _. refl) (λ _. refl)

caps-set_up : (e : EndView) (o : Offer) → HasCaps e.caps (set_up e o)
caps-set_up e o =
    by_cases (HasCaps e.caps) (is_same_offer o e.offer && e.told) (record e { state = state_with e.offer }) e (λ _. refl) (λ _. refl)

caps-heard_in : (state : State) (known : Bool) (e : EndView) (o : Offer) → HasCaps e.caps (heard_in state known e o)
caps-heard_in A known e o = refl
caps-heard_in B known e o = refl
caps-heard_in C true e o = refl
caps-heard_in C false e o = refl
caps-heard_in D true e o = caps-set_up (with_meet e o) o
caps-heard_in D false e o = refl
caps-heard_in E true e o = caps-kept_up e o
caps-heard_in E false e o = refl
caps-heard_in F true e o = caps-kept_up e o
caps-heard_in F false e o = refl
caps-heard_in G true e o = caps-kept_up e o
caps-heard_in G false e o = refl

caps-heard : (e : EndView) (a : Announce) → HasCaps e.caps (heard e a)
unfolding heard
caps-heard e a = caps-heard_in e.state (a.version == 1) e (offer_of a)

caps-silenced_in : (state : State) (e : EndView) → HasCaps e.caps (silenced_in state e)
caps-silenced_in A e = refl
caps-silenced_in B e = refl
caps-silenced_in C e = refl
caps-silenced_in D e = refl
caps-silenced_in E e = refl
caps-silenced_in F e = refl
caps-silenced_in G e = refl

caps-hearing : (e : EndView) (coming : List Announce) → HasCaps e.caps (hearing e coming).end
caps-hearing e [] = refl
caps-hearing e (a ∷ rest) = caps-heard e a

abbrev HaveCaps : Offer → Offer → SideView × SideView → Type 0
HaveCaps one two sides = HasCaps one sides.0.end × HasCaps two sides.1.end

caps-unlimited : (e : Event) (near far : SideView) → HaveCaps near.end.caps far.end.caps (unlimited e near far)
caps-unlimited Start near far = (refl, refl)
caps-unlimited Tell near far = (refl, refl)
caps-unlimited Hear near far = (caps-hearing near.end near.coming, refl)
caps-unlimited Lose near far = (refl, refl)
caps-unlimited Again near far = (refl, refl)
caps-unlimited Agree near far = (refl, refl)
caps-unlimited Silence near far = (caps-silenced_in near.end.state near.end, refl)
caps-unlimited Reset near far = (refl, refl)

caps-step : (e : Event) (near far : SideView) → HaveCaps near.end.caps far.end.caps (step e near far)
unfolding step
caps-step e near far =
    by_cases (HaveCaps near.end.caps far.end.caps) (is_crowded e near far) (near, far) (unlimited e near far) (λ _. (refl, refl)) (λ _. caps-unlimited e near far)

abbrev BothHaveCaps : Offer → Offer → WorldView → Type 0
BothHaveCaps one two w = HasCaps one w.one.end × HasCaps two w.two.end

caps-happens : (end : EndName) (e : Event) (w : WorldView) → BothHaveCaps w.one.end.caps w.two.end.caps (happens end e w)
caps-happens One e w = caps-step e w.one w.two
caps-happens Two e w = let both = caps-step e w.two w.one in (both.1, both.0)

pub caps-run : (events : List (EndName × Event)) (w : WorldView) (one two : Offer) → BothHaveCaps one two w → BothHaveCaps one two (run events w)
caps-run [] w one two have = have
caps-run (e ∷ events) w one two have =
    let kept = caps-happens e.0 e.1 w in
    caps-run events (happens e.0 e.1 w) one two (kept.0 ∙ have.0, kept.1 ∙ have.1)

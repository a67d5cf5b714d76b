-- Where the offer of an end that is past setup comes from.
use Rattle.std.proofs.Common.{◌≡◌, ◌-◌, ◌++◌, ◌==◌, ◌&&◌, ◌∷◌, [], List, Bool, true, false, length, refl, sym, ◌∙◌, ap, subst, append_assoc}
use Rattle.std.specs.List.{All, Contains}
use Rattle.std.specs.Option.{option_to_list}
use Rattle.std.proofs.lemmas.Bool.{false≢true}
use Rattle.std.proofs.lemmas.List.Elements.{All-nil, All-head, All-tail, All-append, All-take, All-drop, All-weaker, All-contains_itself, Contains-push, Contains-append_left, Contains-append_right}
use Rattle.circular_buffer.specs.Buffer.{keep_last}
use Rattle.control_words.specs.declared.announce.Announce.{Announce}
use Rattle.startup_machine.specs.declared.offer.Offer.{Offer}
use Rattle.startup_machine.specs.declared.state.State.{State}
use Rattle.startup_machine.specs.declared.state.State.TheVariants.{A, B, C, D, E, F, G}
use Rattle.startup_machine.specs.declared.event.Event.{Event}
use Rattle.startup_machine.specs.declared.event.Event.TheVariants.{Start, Tell, Hear, Lose, Again, Agree, Silence, Reset}
use Rattle.startup_machine.specs.Offers.{offer_of, meet, is_same_offer}
use Rattle.startup_machine.specs.End.{EndView, announcement, announcement_in, told_in, silenced_in, with_meet, setting_up, state_with, set_up, kept_up, heard_in, heard}
use Rattle.startup_machine.specs.World.{SideView, WorldView, EndName, One, Two, begun, hearing, unlimited, is_crowded, step, happens, run}
use Rattle.startup_machine.specs.Agreement.{IsPastSetup, is_past_setup}
use Rattle.startup_machine.specs.History.{made_by, made_at, made, IsOfferOf, BothOffered}
use Rattle.startup_machine.proofs.Meets.{same_from_test}
use Rattle.startup_machine.proofs.Agreements.{by_cases, first_true, past_before_start, past_before_agreement}

-- an offer stays the offer of one of the announcements when there are more
IsOfferOf-more : (offer : Offer) (xs ys : List Announce) → IsOfferOf offer xs → IsOfferOf offer (xs ++ ys)
IsOfferOf-more offer xs ys of =
    record { made_in = of.made_in; among = Contains-append_left xs ys of.made_in of.among; same = of.same }

IsOfferOf-same : (a b : Offer) (xs : List Announce) → a ≡ b → IsOfferOf a xs → IsOfferOf b xs
IsOfferOf-same a b xs same of =
    record { made_in = of.made_in; among = of.among; same = of.same ∙ same }

-- an end that announced its offer made it, and both ends made the offer of an end that is past setup
record Knows (mine theirs : List Announce) (e : EndView) : Type 0 where
  told : e.told ≡ true → IsOfferOf e.offer mine
  held : IsPastSetup e.state → IsOfferOf e.offer mine × IsOfferOf e.offer theirs

Knows-state : (mine theirs : List Announce) (e : EndView) (state : State) → (IsPastSetup state → IsPastSetup e.state) → Knows mine theirs e → Knows mine theirs (record e { state = state })
Knows-state mine theirs e state past knows = record { told = knows.told; held = λ p. knows.held (past p) }

second_true : (a b : Bool) → a && b ≡ true → b ≡ true
second_true true b h = h
second_true false b h = absurd (false≢true h)

-- what counts as announced after the meet was the offer before
told-with_meet : (mine theirs : List Announce) (e : EndView) (o : Offer) → Knows mine theirs e → (with_meet e o).told ≡ true → IsOfferOf (meet e.offer o) mine
told-with_meet mine theirs e o knows told =
    let same : meet e.offer o ≡ e.offer = same_from_test (meet e.offer o) e.offer (second_true e.told _ told) in
    IsOfferOf-same e.offer (meet e.offer o) mine (sym same) (knows.told (first_true e.told _ told))

Knows-setting_up : (mine theirs : List Announce) (e : EndView) (o : Offer) → Knows mine theirs e → Knows mine theirs (setting_up e o)
Knows-setting_up mine theirs e o knows =
    record { told = told-with_meet mine theirs e o knows; held = λ past. absurd (false≢true past) }

Knows-kept_up : (mine theirs : List Announce) (e : EndView) (o : Offer) → Knows mine theirs e → Knows mine theirs (kept_up e o)
Knows-kept_up mine theirs e o knows =
    by_cases (Knows mine theirs) (is_same_offer o e.offer) e (setting_up e o) (λ _. knows) (λ _. Knows-setting_up mine theirs e o knows)

Knows-set_up : (mine theirs : List Announce) (e : EndView) (o : Offer) → e.state ≡ D → IsOfferOf o theirs → Knows mine theirs e → Knows mine theirs (set_up (with_meet e o) o)
Knows-set_up mine theirs e o here heard knows =
    let met = with_meet e o in
    let told = told-with_meet mine theirs e o knows in
    by_cases (Knows mine theirs) (is_same_offer o met.offer && met.told) (record met { state = state_with met.offer }) met
    (λ both.
    let same : o ≡ met.offer = same_from_test o met.offer (first_true _ _ both) in
    record {
      told = told;
      held = λ _. (told (second_true (is_same_offer o met.offer) met.told both), IsOfferOf-same o met.offer theirs same heard);
    })
    (λ _. record { told = told; held = λ past. absurd (false≢true (ap is_past_setup (sym here) ∙ past)) })

Knows-heard_in : (mine theirs : List Announce) (state : State) (known : Bool) (e : EndView) (o : Offer) → e.state ≡ state → IsOfferOf o theirs → Knows mine theirs e → Knows mine theirs (heard_in state known e o)
Knows-heard_in mine theirs A known e o here heard knows = knows
Knows-heard_in mine theirs B known e o here heard knows = Knows-state mine theirs e C (λ past. absurd (false≢true past)) knows
Knows-heard_in mine theirs C true e o here heard knows = Knows-setting_up mine theirs e o knows
Knows-heard_in mine theirs C false e o here heard knows = knows
Knows-heard_in mine theirs D true e o here heard knows = Knows-set_up mine theirs e o here heard knows
Knows-heard_in mine theirs D false e o here heard knows = Knows-state mine theirs e C (λ past. absurd (false≢true past)) knows
Knows-heard_in mine theirs E true e o here heard knows = Knows-kept_up mine theirs e o knows
Knows-heard_in mine theirs E false e o here heard knows = Knows-state mine theirs e C (λ past. absurd (false≢true past)) knows
Knows-heard_in mine theirs F true e o here heard knows = Knows-kept_up mine theirs e o knows
Knows-heard_in mine theirs F false e o here heard knows = Knows-state mine theirs e C (λ past. absurd (false≢true past)) knows
Knows-heard_in mine theirs G true e o here heard knows = Knows-kept_up mine theirs e o knows
Knows-heard_in mine theirs G false e o here heard knows = Knows-state mine theirs e C (λ past. absurd (false≢true past)) knows

Knows-heard : (mine theirs : List Announce) (e : EndView) (a : Announce) → Contains theirs a → Knows mine theirs e → Knows mine theirs (heard e a)
unfolding heard
Knows-heard mine theirs e a among knows =
    Knows-heard_in mine theirs e.state (a.version == 1) e (offer_of a) refl (record { made_in = a; among = among; same = refl }) knows

-- an end with its first offer
Knows-first : (mine theirs : List Announce) (caps : Offer) (state : State) → is_past_setup state ≡ false → Knows mine theirs (record { caps = caps; state = state; offer = caps; told = false })
Knows-first mine theirs caps state before =
    record { told = λ told. absurd (false≢true told); held = λ past. absurd (false≢true (sym before ∙ past)) }

Knows-silenced_in : (mine theirs : List Announce) (state : State) (e : EndView) → Knows mine theirs e → Knows mine theirs (silenced_in state e)
Knows-silenced_in mine theirs A e knows = knows
Knows-silenced_in mine theirs B e knows = Knows-first mine theirs e.caps B refl
Knows-silenced_in mine theirs C e knows = Knows-first mine theirs e.caps B refl
Knows-silenced_in mine theirs D e knows = Knows-first mine theirs e.caps B refl
Knows-silenced_in mine theirs E e knows = Knows-first mine theirs e.caps B refl
Knows-silenced_in mine theirs F e knows = Knows-first mine theirs e.caps B refl
Knows-silenced_in mine theirs G e knows = Knows-first mine theirs e.caps B refl

Knows-more : (mine theirs more others : List Announce) (e : EndView) → Knows mine theirs e → Knows (mine ++ more) (theirs ++ others) e
Knows-more mine theirs more others e knows =
    record {
      told = λ told. IsOfferOf-more e.offer mine more (knows.told told);
      held = λ past. let held = knows.held past in (IsOfferOf-more e.offer mine more held.0, IsOfferOf-more e.offer theirs others held.1);
    }

-- an end that announces its offer has made it
told-announced : (mine : List Announce) (state : State) (offer : Offer) (told : Bool) → (told ≡ true → IsOfferOf offer mine) → told_in state told ≡ true → IsOfferOf offer (mine ++ option_to_list (announcement_in state offer))
told-announced mine A offer told before now = IsOfferOf-more offer mine [] (before now)
told-announced mine B offer told before now = record { made_in = _; among = Contains-push mine _; same = refl }
told-announced mine C offer told before now = record { made_in = _; among = Contains-push mine _; same = refl }
told-announced mine D offer told before now = record { made_in = _; among = Contains-push mine _; same = refl }
told-announced mine E offer told before now = record { made_in = _; among = Contains-push mine _; same = refl }
told-announced mine F offer told before now = record { made_in = _; among = Contains-push mine _; same = refl }
told-announced mine G offer told before now = record { made_in = _; among = Contains-push mine _; same = refl }

-- the near end made each announcement on its way to the far end
record IsTraced (mine theirs : List Announce) (near far : SideView) : Type 0 where
  on_way : All (Contains mine) far.coming
  knows : Knows mine theirs near.end

abbrev AreTraced : List Announce → List Announce → SideView × SideView → Type 0
AreTraced mine theirs sides = IsTraced mine theirs sides.0 sides.1 × IsTraced theirs mine sides.1 sides.0

IsTraced-more : (mine theirs more others : List Announce) (near far : SideView) → IsTraced mine theirs near far → IsTraced (mine ++ more) (theirs ++ others) near far
IsTraced-more mine theirs more others near far traced =
    record {
      on_way = All-weaker (Contains mine) (Contains (mine ++ more)) (Contains-append_left mine more) far.coming traced.on_way;
      knows = Knows-more mine theirs more others near.end traced.knows;
    }

AreTraced-more : (mine theirs more others : List Announce) (sides : SideView × SideView) → AreTraced mine theirs sides → AreTraced (mine ++ more) (theirs ++ others) sides
AreTraced-more mine theirs more others sides traced = (
  IsTraced-more mine theirs more others sides.0 sides.1 traced.0,
  IsTraced-more theirs mine others more sides.1 sides.0 traced.1,
)

-- a side whose end changes
AreTraced-end : (mine theirs : List Announce) (near far : SideView) (e : EndView) → (Knows mine theirs near.end → Knows mine theirs e) → AreTraced mine theirs (near, far) → AreTraced mine theirs (record near { end = e }, far)
AreTraced-end mine theirs near far e change traced = (
  record { on_way = traced.0.on_way; knows = change traced.0.knows },
  record { on_way = traced.1.on_way; knows = traced.1.knows },
)

-- a side whose list of announcements changes
AreTraced-coming : (mine theirs : List Announce) (near far : SideView) (coming : List Announce) → (All (Contains theirs) near.coming → All (Contains theirs) coming) → AreTraced mine theirs (near, far) → AreTraced mine theirs (record near { coming = coming }, far)
AreTraced-coming mine theirs near far coming change traced = (
  record { on_way = traced.0.on_way; knows = traced.0.knows },
  record { on_way = change traced.1.on_way; knows = traced.1.knows },
)

AreTraced-hearing : (mine theirs : List Announce) (near far : SideView) (coming : List Announce) → near.coming ≡ coming → AreTraced mine theirs (near, far) → AreTraced mine theirs (hearing near.end coming, far)
AreTraced-hearing mine theirs near far [] next traced =
    AreTraced-coming mine theirs near far [] (λ all. subst (All (Contains theirs)) next all) traced
AreTraced-hearing mine theirs near far (a ∷ rest) next traced =
    let coming : All (Contains theirs) (a ∷ rest) = subst (All (Contains theirs)) next traced.1.on_way in (
      record {
        on_way = traced.0.on_way;
        knows = Knows-heard mine theirs near.end a (All-head (Contains theirs) a rest coming) traced.0.knows;
      },
      record { on_way = All-tail (Contains theirs) a rest coming; knows = traced.1.knows },
    )

AreTraced-Tell : (mine theirs : List Announce) (near far : SideView) → AreTraced mine theirs (near, far) → AreTraced (mine ++ option_to_list (announcement near.end)) (theirs ++ []) (unlimited Tell near far)
AreTraced-Tell mine theirs near far traced =
    let said = option_to_list (announcement near.end) in
    let more = AreTraced-more mine theirs said [] (near, far) traced in
    let new : All (Contains (mine ++ said)) said =
    All-weaker (Contains said) (Contains (mine ++ said)) (Contains-append_right mine said) said (All-contains_itself said) in
    let e = near.end in (
      record {
        on_way = All-append (Contains (mine ++ said)) far.coming said more.0.on_way new;
        knows = record { told = told-announced mine e.state e.offer e.told traced.0.knows.told; held = more.0.knows.held };
      },
      record { on_way = more.1.on_way; knows = more.1.knows },
    )

-- what an event adds to what the near end made, if lists have no limit
abbrev told_by : Event → SideView → List Announce
told_by Start near = []
told_by Tell near = option_to_list (announcement near.end)
told_by Hear near = []
told_by Lose near = []
told_by Again near = []
told_by Agree near = []
told_by Silence near = []
told_by Reset near = []

AreTraced-unlimited : (e : Event) (mine theirs : List Announce) (near far : SideView) → AreTraced mine theirs (near, far) → AreTraced (mine ++ told_by e near) (theirs ++ []) (unlimited e near far)
AreTraced-unlimited Start mine theirs near far traced =
    AreTraced-more mine theirs [] [] (unlimited Start near far)
    (AreTraced-end mine theirs near far _ (Knows-state mine theirs near.end _ (past_before_start near.end.state)) traced)
AreTraced-unlimited Tell mine theirs near far traced = AreTraced-Tell mine theirs near far traced
AreTraced-unlimited Hear mine theirs near far traced =
    AreTraced-more mine theirs [] [] (unlimited Hear near far) (AreTraced-hearing mine theirs near far near.coming refl traced)
AreTraced-unlimited Lose mine theirs near far traced =
    AreTraced-more mine theirs [] [] (unlimited Lose near far)
    (AreTraced-coming mine theirs near far _ (All-take (Contains theirs) (length near.coming - 1) near.coming) traced)
AreTraced-unlimited Again mine theirs near far traced =
    let newest = keep_last 1 near.coming in
    AreTraced-more mine theirs [] [] (unlimited Again near far)
    (AreTraced-coming mine theirs near far (near.coming ++ newest)
    (λ all. All-append (Contains theirs) near.coming newest all (All-drop (Contains theirs) (length near.coming - 1) near.coming all)) traced)
AreTraced-unlimited Agree mine theirs near far traced =
    AreTraced-more mine theirs [] [] (unlimited Agree near far)
    (AreTraced-end mine theirs near far _ (Knows-state mine theirs near.end _ (past_before_agreement near.end.state)) traced)
AreTraced-unlimited Silence mine theirs near far traced =
    AreTraced-more mine theirs [] [] (unlimited Silence near far)
    (AreTraced-end mine theirs near far _ (Knows-silenced_in mine theirs near.end.state near.end) traced)
AreTraced-unlimited Reset mine theirs near far traced =
    AreTraced-more mine theirs [] [] (unlimited Reset near far)
    (AreTraced-end mine theirs near far _ (λ _. Knows-first mine theirs near.end.caps A refl) traced)

made_by-free : (e : Event) (near far : SideView) → is_crowded e near far ≡ false → made_by e near far ≡ told_by e near
made_by-free Start near far free = refl
made_by-free Tell near far free = rw free refl
made_by-free Hear near far free = refl
made_by-free Lose near far free = refl
made_by-free Again near far free = refl
made_by-free Agree near far free = refl
made_by-free Silence near far free = refl
made_by-free Reset near far free = refl

AreTraced-step : (e : Event) (mine theirs : List Announce) (near far : SideView) → AreTraced mine theirs (near, far) → AreTraced (mine ++ made_by e near far) (theirs ++ []) (step e near far)
unfolding step
AreTraced-step e mine theirs near far traced =
    by_cases (AreTraced (mine ++ made_by e near far) (theirs ++ [])) (is_crowded e near far) (near, far) (unlimited e near far)
    (λ _. AreTraced-more mine theirs (made_by e near far) [] (near, far) traced)
    (λ free.
    let P = λ (said : List Announce). AreTraced (mine ++ said) (theirs ++ []) (unlimited e near far) in
    subst P (sym (made_by-free e near far free)) (AreTraced-unlimited e mine theirs near far traced))

-- the announcements that the two ends made account for the world
abbrev IsAccounted : List Announce → List Announce → WorldView → Type 0
IsAccounted one two w = AreTraced one two (w.one, w.two)

IsAccounted-happens : (end : EndName) (e : Event) (one two : List Announce) (w : WorldView) → IsAccounted one two w → IsAccounted (one ++ made_at One end e w) (two ++ made_at Two end e w) (happens end e w)
IsAccounted-happens One e one two w accounted = AreTraced-step e one two w.one w.two accounted
IsAccounted-happens Two e one two w accounted =
    let traced = AreTraced-step e two one w.two w.one (accounted.1, accounted.0) in
    (traced.1, traced.0)

IsAccounted-run : (events : List (EndName × Event)) (one two : List Announce) (w : WorldView) → IsAccounted one two w → IsAccounted (one ++ made One events w) (two ++ made Two events w) (run events w)
IsAccounted-run [] one two w accounted = AreTraced-more one two [] [] (w.one, w.two) accounted
IsAccounted-run (e ∷ events) one two w accounted =
    let next = happens e.0 e.1 w in
    let one_at = made_at One e.0 e.1 w in
    let two_at = made_at Two e.0 e.1 w in
    let ran = IsAccounted-run events (one ++ one_at) (two ++ two_at) next (IsAccounted-happens e.0 e.1 one two w accounted) in
    rw (← append_assoc one one_at (made One events next), ← append_assoc two two_at (made Two events next)) ran

IsTraced-begun : (one two : Offer) → IsTraced [] [] (begun one two).one (begun one two).two
IsTraced-begun one two = record { on_way = All-nil _; knows = Knows-first [] [] one A refl }

pub BothOffered-run : (one two : Offer) (events : List (EndName × Event)) (end : EndName) → BothOffered end events (begun one two) (run events (begun one two))
BothOffered-run one two events One past =
    let start = begun one two in
    let ran = IsAccounted-run events [] [] start (IsTraced-begun one two, IsTraced-begun two one) in
    ran.0.knows.held past
BothOffered-run one two events Two past =
    let start = begun one two in
    let ran = IsAccounted-run events [] [] start (IsTraced-begun one two, IsTraced-begun two one) in
    ran.1.knows.held past

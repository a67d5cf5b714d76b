-- Each event keeps an agreement.
use Rattle.std.proofs.Common.{◌≡◌, ◌-◌, ◌++◌, ◌==◌, ◌&&◌, ◌∷◌, [], List, Bool, true, false, length, take, refl, sym, ◌∙◌, ap, subst}
use Rattle.std.specs.Prelude.{if◌then◌else◌, IsTrue}
use Rattle.std.specs.List.{All}
use Rattle.std.specs.Option.{option_to_list}
use Rattle.std.proofs.lemmas.Bool.{false≢true}
use Rattle.std.proofs.lemmas.List.Elements.{All-nil, All-cons, All-head, All-tail, All-append, All-take, All-drop, All-weaker}
use Rattle.circular_buffer.specs.Buffer.{keep_last}
use Rattle.control_words.specs.declared.announce.Announce.{Announce}
use Rattle.startup_machine.specs.declared.offer.Offer.{Offer}
use Rattle.startup_machine.specs.declared.state.State.{State}
use Rattle.startup_machine.specs.declared.state.State.TheVariants.{A, B, C, D, E, F, G}
use Rattle.startup_machine.specs.declared.event.Event.{Event}
use Rattle.startup_machine.specs.declared.event.Event.TheVariants.{Start, Tell, Hear, Lose, Again, Agree, Silence, Reset}
use Rattle.startup_machine.specs.Offers.{offer_of, IsAtOrBelow, is_same_offer}
use Rattle.startup_machine.specs.End.{EndView, announcement, announcement_in, state_after_start, state_after_agreement, with_meet, setting_up, state_with, set_up, kept_up, heard_in, heard}
use Rattle.startup_machine.specs.World.{SideView, WorldView, EndName, One, Two, begun, hearing, unlimited, is_crowded, step, happens, run}
use Rattle.startup_machine.specs.Agreement.{IsPastSetup, is_past_setup, IsBetween, KeepsTo, Agreed, goes_on, GoesOn, HoldSameOffer}
use Rattle.startup_machine.proofs.Meets.{below_itself, meet_below, below_trans, below_both_ways, same_from_test}

-- what holds at each branch of a choice
pub by_cases : {X : Type 0} (P : X → Type 0) (b : Bool) (x y : X) → (b ≡ true → P x) → (b ≡ false → P y) → P (if b then x else y)
by_cases P true x y yes_case no_case = yes_case refl
by_cases P false x y yes_case no_case = no_case refl

-- an end that is past setup keeps an offer of the other end
abbrev HoldsFor : EndView → EndView → Type 0
HoldsFor e f = IsPastSetup e.state → IsAtOrBelow e.offer f.caps × IsAtOrBelow f.offer e.offer

-- how an end changes by an announcement that it hears
record Lowers (f e after : EndView) : Type 0 where
  caps : after.caps ≡ e.caps
  lower : IsAtOrBelow after.offer e.offer
  held : HoldsFor after f

unmoved : (e f : EndView) → HoldsFor e f → Lowers f e e
unmoved e f held = record { caps = refl; lower = below_itself e.offer; held = held }

Lowers-state : (e f : EndView) (state : State) → is_past_setup state ≡ false → Lowers f e (record e { state = state })
Lowers-state e f state before =
    record { caps = refl; lower = below_itself e.offer; held = λ past. absurd (false≢true (sym before ∙ past)) }

Lowers-setting_up : (e f : EndView) (o : Offer) → Lowers f e (setting_up e o)
Lowers-setting_up e f o =
    record { caps = refl; lower = meet_below e.offer o; held = λ past. absurd (false≢true past) }

Lowers-kept_up : (e f : EndView) (o : Offer) → HoldsFor e f → Lowers f e (kept_up e o)
Lowers-kept_up e f o held =
    by_cases (Lowers f e) (is_same_offer o e.offer) e (setting_up e o) (λ _. unmoved e f held) (λ _. Lowers-setting_up e f o)

pub first_true : (a b : Bool) → a && b ≡ true → a ≡ true
first_true true b h = refl
first_true false b h = h

Lowers-set_up : (e f : EndView) (o : Offer) → e.state ≡ D → IsAtOrBelow f.offer o → IsAtOrBelow o f.caps → Lowers f e (set_up (with_meet e o) o)
Lowers-set_up e f o here above within =
    let met = with_meet e o in
    by_cases (Lowers f e) (is_same_offer o met.offer && met.told) (record met { state = state_with met.offer }) met
    (λ both.
    let same : o ≡ met.offer = same_from_test o met.offer (first_true _ _ both) in
    record {
      caps = refl;
      lower = meet_below e.offer o;
      held = λ _. (subst (λ (x : Offer). IsAtOrBelow x f.caps) same within, subst (λ (x : Offer). IsAtOrBelow f.offer x) same above);
    })
    (λ _. record { caps = refl; lower = meet_below e.offer o; held = λ past. absurd (false≢true (ap is_past_setup (sym here) ∙ past)) })

Lowers-heard_in : (state : State) (known : Bool) (e f : EndView) (o : Offer) → e.state ≡ state → IsAtOrBelow f.offer o → IsAtOrBelow o f.caps → HoldsFor e f → Lowers f e (heard_in state known e o)
Lowers-heard_in A known e f o here above within held = unmoved e f held
Lowers-heard_in B known e f o here above within held = Lowers-state e f C refl
Lowers-heard_in C true e f o here above within held = Lowers-setting_up e f o
Lowers-heard_in C false e f o here above within held = unmoved e f held
Lowers-heard_in D true e f o here above within held = Lowers-set_up e f o here above within
Lowers-heard_in D false e f o here above within held = Lowers-state e f C refl
Lowers-heard_in E true e f o here above within held = Lowers-kept_up e f o held
Lowers-heard_in E false e f o here above within held = Lowers-state e f C refl
Lowers-heard_in F true e f o here above within held = Lowers-kept_up e f o held
Lowers-heard_in F false e f o here above within held = Lowers-state e f C refl
Lowers-heard_in G true e f o here above within held = Lowers-kept_up e f o held
Lowers-heard_in G false e f o here above within held = Lowers-state e f C refl

Lowers-heard : (e f : EndView) (a : Announce) → IsBetween f.offer f.caps a → HoldsFor e f → Lowers f e (heard e a)
unfolding heard
Lowers-heard e f a between held =
    Lowers-heard_in e.state (a.version == 1) e f (offer_of a) refl between.0 between.1 held

-- both sides keep to it
abbrev KeepBoth : SideView × SideView → Type 0
KeepBoth sides = KeepsTo sides.0 sides.1 × KeepsTo sides.1 sides.0

-- an end that changes its state alone, and is past setup only if it was
KeepBoth-state : (near far : SideView) (state : State) → (IsPastSetup state → IsPastSetup near.end.state) → KeepBoth (near, far) → KeepBoth (record near { end = record near.end { state = state } }, far)
KeepBoth-state near far state past keep = (
  record { on_way = keep.0.on_way; own = keep.0.own; held = λ p. keep.0.held (past p) },
  record { on_way = keep.1.on_way; own = keep.1.own; held = keep.1.held },
)

-- a side whose list of announcements changes
KeepBoth-coming : (near far : SideView) (coming : List Announce) → (All (IsBetween far.end.offer far.end.caps) near.coming → All (IsBetween far.end.offer far.end.caps) coming) → KeepBoth (near, far) → KeepBoth (record near { coming = coming }, far)
KeepBoth-coming near far coming change keep = (
  record { on_way = keep.0.on_way; own = keep.0.own; held = keep.0.held },
  record { on_way = change keep.1.on_way; own = keep.1.own; held = keep.1.held },
)

pub past_before_start : (state : State) → IsPastSetup (state_after_start state) → IsPastSetup state
past_before_start A past = past
past_before_start B past = past
past_before_start C past = past
past_before_start D past = past
past_before_start E past = past
past_before_start F past = past
past_before_start G past = past

pub past_before_agreement : (state : State) → IsPastSetup (state_after_agreement state) → IsPastSetup state
past_before_agreement A past = past
past_before_agreement B past = past
past_before_agreement C past = past
past_before_agreement D past = past
past_before_agreement E past = past
past_before_agreement F past = past
past_before_agreement G past = past

-- what an end announces is its offer
All-announcement : (P : Announce → Type 0) (state : State) (offer : Offer) → ((a : Announce) → offer_of a ≡ offer → P a) → All P (option_to_list (announcement_in state offer))
All-announcement P A offer each = All-nil P
All-announcement P B offer each = All-cons P _ [] (each _ refl) (All-nil P)
All-announcement P C offer each = All-cons P _ [] (each _ refl) (All-nil P)
All-announcement P D offer each = All-cons P _ [] (each _ refl) (All-nil P)
All-announcement P E offer each = All-cons P _ [] (each _ refl) (All-nil P)
All-announcement P F offer each = All-cons P _ [] (each _ refl) (All-nil P)
All-announcement P G offer each = All-cons P _ [] (each _ refl) (All-nil P)

KeepBoth-Tell : (near far : SideView) → KeepBoth (near, far) → KeepBoth (unlimited Tell near far)
KeepBoth-Tell near far keep =
    let e = near.end in
    let P = IsBetween e.offer e.caps in
    let own : (a : Announce) → offer_of a ≡ e.offer → P a = λ a same. (
      subst (λ (x : Offer). IsAtOrBelow e.offer x) (sym same) (below_itself e.offer),
      subst (λ (x : Offer). IsAtOrBelow x e.caps) (sym same) keep.0.own,
    ) in (
      record {
        on_way = All-append P far.coming (option_to_list (announcement e)) keep.0.on_way (All-announcement P e.state e.offer own);
        own = keep.0.own;
        held = keep.0.held;
      },
      record { on_way = keep.1.on_way; own = keep.1.own; held = keep.1.held },
    )

-- an end that hears an announcement of the other
KeepBoth-heard : (near far : SideView) (a : Announce) (rest : List Announce) → near.coming ≡ a ∷ rest → KeepBoth (near, far) → KeepBoth (record { end = heard near.end a; coming = rest }, far)
KeepBoth-heard near far a rest next keep =
    let P = IsBetween far.end.offer far.end.caps in
    let coming : All P (a ∷ rest) = subst (All P) next keep.1.on_way in
    let to = Lowers-heard near.end far.end a (All-head P a rest coming) keep.0.held in
    let after = heard near.end a in
    let lower : (b : Announce) → IsBetween near.end.offer near.end.caps b → IsBetween after.offer after.caps b = λ b between. (
      below_trans _ _ _ to.lower between.0,
      subst (λ (x : Offer). IsAtOrBelow (offer_of b) x) (sym to.caps) between.1,
    ) in (
      record {
        on_way = All-weaker _ _ lower far.coming keep.0.on_way;
        own = subst (λ (x : Offer). IsAtOrBelow after.offer x) (sym to.caps) (below_trans _ _ _ to.lower keep.0.own);
        held = to.held;
      },
      record {
        on_way = All-tail P a rest coming;
        own = keep.1.own;
        held = λ past. (
          subst (λ (x : Offer). IsAtOrBelow far.end.offer x) (sym to.caps) (keep.1.held past).0,
          below_trans _ _ _ to.lower (keep.1.held past).1,
        );
      },
    )

KeepBoth-hearing : (near far : SideView) (coming : List Announce) → near.coming ≡ coming → KeepBoth (near, far) → KeepBoth (hearing near.end coming, far)
KeepBoth-hearing near far [] next keep =
    KeepBoth-coming near far [] (λ all. subst (All (IsBetween far.end.offer far.end.caps)) next all) keep
KeepBoth-hearing near far (a ∷ rest) next keep = KeepBoth-heard near far a rest next keep

KeepBoth-unlimited : (e : Event) (near far : SideView) → IsTrue (goes_on e) → KeepBoth (near, far) → KeepBoth (unlimited e near far)
KeepBoth-unlimited Start near far on keep =
    KeepBoth-state near far (state_after_start near.end.state) (past_before_start near.end.state) keep
KeepBoth-unlimited Tell near far on keep = KeepBoth-Tell near far keep
KeepBoth-unlimited Hear near far on keep = KeepBoth-hearing near far near.coming refl keep
KeepBoth-unlimited Lose near far on keep =
    KeepBoth-coming near far (take (length near.coming - 1) near.coming) (All-take (IsBetween far.end.offer far.end.caps) _ near.coming) keep
KeepBoth-unlimited Again near far on keep =
    KeepBoth-coming near far (near.coming ++ keep_last 1 near.coming)
    (λ all. All-append (IsBetween far.end.offer far.end.caps) near.coming (keep_last 1 near.coming) all (All-drop (IsBetween far.end.offer far.end.caps) _ near.coming all)) keep
KeepBoth-unlimited Agree near far on keep =
    KeepBoth-state near far (state_after_agreement near.end.state) (past_before_agreement near.end.state) keep
KeepBoth-unlimited Silence near far on keep = absurd (false≢true on)
KeepBoth-unlimited Reset near far on keep = absurd (false≢true on)

KeepBoth-step : (e : Event) (near far : SideView) → IsTrue (goes_on e) → KeepBoth (near, far) → KeepBoth (step e near far)
unfolding step
KeepBoth-step e near far on keep =
    by_cases KeepBoth (is_crowded e near far) (near, far) (unlimited e near far) (λ _. keep) (λ _. KeepBoth-unlimited e near far on keep)

pub Agreed-happens : (w : WorldView) (end : EndName) (e : Event) → IsTrue (goes_on e) → Agreed w → Agreed (happens end e w)
Agreed-happens w One e on agreed =
    let keep = KeepBoth-step e w.one w.two on (agreed.one, agreed.two) in
    record { one = keep.0; two = keep.1 }
Agreed-happens w Two e on agreed =
    let keep = KeepBoth-step e w.two w.one on (agreed.two, agreed.one) in
    record { one = keep.1; two = keep.0 }

KeepsTo-begun : (one two : Offer) → KeepsTo (begun one two).one (begun one two).two
KeepsTo-begun one two =
    record { on_way = All-nil _; own = below_itself one; held = λ past. absurd (false≢true past) }

pub Agreed-begun : (one two : Offer) → Agreed (begun one two)
Agreed-begun one two = record { one = KeepsTo-begun one two; two = KeepsTo-begun two one }

pub Agreed-run : (events : List (EndName × Event)) (w : WorldView) → All GoesOn events → Agreed w → Agreed (run events w)
Agreed-run [] w on agreed = agreed
Agreed-run (e ∷ events) w on agreed =
    Agreed-run events (happens e.0 e.1 w) (All-tail GoesOn e events on) (Agreed-happens w e.0 e.1 (All-head GoesOn e events on) agreed)

-- two ends that agree hold one offer
pub HoldSameOffer-agreed : (w : WorldView) → Agreed w → HoldSameOffer w.one.end.caps w.two.end.caps w
HoldSameOffer-agreed w agreed one two =
    let first = agreed.one.held one in
    let second = agreed.two.held two in
    (below_both_ways _ _ second.1 first.1, agreed.one.own, first.0)

-- When a step is refused, and what it does else.
use Rattle.std.proofs.Common.{◌≡◌, ◌+◌, ◌-◌, ◌≤◌, ◌==◌, Bool, true, false, Some, None, List, [], ◌∷◌, ◌++◌, length, append-nil, refl, ap, ◌∙◌, arith}
use Rattle.std.specs.Prelude.{Result, Ok, Err, IsErr, OnOk, OnErr, IfErr}
use Rattle.std.proofs.lemmas.Bool.Decides.{nat_tests}
use Rattle.std.proofs.lemmas.List.{length_push, length-append, length-drop, length-take}
use Rattle.std.proofs.lemmas.Grind.{common_steps}
use Rattle.circular_buffer.specs.Buffer.{keep_last}
use Rattle.control_words.specs.declared.announce.Announce.{Announce}
use Rattle.startup_machine.specs.declared.crowded.Crowded.{Crowded}
use Rattle.startup_machine.specs.declared.event.Event.{Event}
use Rattle.startup_machine.specs.declared.event.Event.TheVariants.{Start, Tell, Hear, Lose, Again, Agree, Silence, Reset}
use Rattle.startup_machine.specs.declared.offer.Offer.{Offer}
use Rattle.startup_machine.specs.declared.state.State.{State}
use Rattle.startup_machine.specs.declared.state.State.TheVariants.{A, B, C, D, E, F, G}
use Rattle.startup_machine.specs.End.{EndView, announcement, announced, announcement_in, told_in}
use Rattle.startup_machine.specs.World.{SideView, WorldView, hearing, is_overfull, is_crowded, unlimited, step}

-- a list that does not grow is not overfull
pub is_overfull-shorter : (before after : List Announce) → length after ≤ length before → is_overfull before after ≡ false
is_overfull-shorter before after h = grind (arith, nat_tests)

-- a list that grows by one where it was full is then overfull
pub is_overfull-longer : (before after : List Announce) → (length before ≡ 4096 → length after ≡ length before + 1) → is_overfull before after ≡ (length before == 4096)
is_overfull-longer before after h = grind (arith, nat_tests)

-- an event that makes no list longer is not refused
pub is_crowded-shorter : (e : Event) (near far : SideView) → length (unlimited e near far).0.coming ≤ length near.coming → length (unlimited e near far).1.coming ≤ length far.coming → is_crowded e near far ≡ false
unfolding is_crowded
is_crowded-shorter e near far one two =
    rw (is_overfull-shorter near.coming (unlimited e near far).0.coming one, is_overfull-shorter far.coming (unlimited e near far).1.coming two) refl

pub step-free : (e : Event) (near far : SideView) → is_crowded e near far ≡ false → step e near far ≡ unlimited e near far
unfolding step
step-free e near far h = rw h refl

pub step-crowded : (e : Event) (near far : SideView) → is_crowded e near far ≡ true → step e near far ≡ (near, far)
unfolding step
step-crowded e near far h = rw h refl

-- telling is refused where the other end's list is full
pub is_crowded-Tell : (near far : SideView) (a : Announce) → announcement near.end ≡ Some a → is_crowded Tell near far ≡ (length far.coming == 4096)
unfolding is_crowded
is_crowded-Tell near far a e =
    let told = is_overfull-longer far.coming (far.coming ++ a ∷ []) (λ _. length_push far.coming a) in
    let kept = is_overfull-shorter near.coming near.coming (omega arith) in
    rw (e, kept, told) refl

pub unlimited-Tell : (near far : SideView) (a : Announce) → announcement near.end ≡ Some a → unlimited Tell near far ≡ (record near { end = announced near.end }, record far { coming = far.coming ++ a ∷ [] })
unlimited-Tell near far a e = rw e refl

-- in standby nothing is told
pub is_crowded-Tell_silent : (near far : SideView) → announcement near.end ≡ None → is_crowded Tell near far ≡ false
unfolding is_crowded
is_crowded-Tell_silent near far e =
    let kept = is_overfull-shorter near.coming near.coming (omega arith) in
    let still = is_overfull-shorter far.coming (far.coming ++ []) (omega (arith, length-append far.coming [])) in
    rw (e, kept, still) refl

abbrev IsSilent : State → Type 0
IsSilent state = (offer : Offer) (told : Bool) → announcement_in state offer ≡ None → told_in state told ≡ told

told_in-silent : (state : State) → IsSilent state
told_in-silent A offer told e = refl
told_in-silent B offer told e = absurd (cc)
told_in-silent C offer told e = absurd (cc)
told_in-silent D offer told e = absurd (cc)
told_in-silent E offer told e = absurd (cc)
told_in-silent F offer told e = absurd (cc)
told_in-silent G offer told e = absurd (cc)

pub unlimited-Tell_silent : (near far : SideView) → announcement near.end ≡ None → unlimited Tell near far ≡ (near, far)
unlimited-Tell_silent near far e =
    rw (e, told_in-silent near.end.state near.end.offer near.end.told e, append-nil far.coming) refl

-- repeating is refused where the list is full
pub is_crowded-Again : (near far : SideView) → is_crowded Again near far ≡ (length near.coming == 4096)
unfolding is_crowded
is_crowded-Again near far =
    let newest = keep_last 1 near.coming in
    let longer : length near.coming ≡ 4096 → length (near.coming ++ newest) ≡ length near.coming + 1 =
    λ full. omega (arith, length-append near.coming newest, length-drop (length near.coming - 1) near.coming) in
    let told = is_overfull-longer near.coming (near.coming ++ newest) longer in
    let kept = is_overfull-shorter far.coming far.coming (omega arith) in
    rw (kept, told) (grind (arith, nat_tests))

length-hearing : (e : EndView) (coming : List Announce) → length (hearing e coming).coming ≤ length coming
length-hearing e [] = omega arith
length-hearing e (a ∷ rest) = omega arith

-- the events that add to no list
abbrev pub adds : Event → Bool
adds Start = false
adds Tell = true
adds Hear = false
adds Lose = false
adds Again = true
adds Agree = false
adds Silence = false
adds Reset = false

abbrev IsFree : Event → SideView → SideView → Type 0
IsFree e near far = adds e ≡ false → is_crowded e near far ≡ false

pub is_crowded-free : (e : Event) (near far : SideView) → IsFree e near far
is_crowded-free Start near far h = is_crowded-shorter Start near far (omega arith) (omega arith)
is_crowded-free Tell near far h = absurd (cc)
is_crowded-free Hear near far h = is_crowded-shorter Hear near far (length-hearing near.end near.coming) (omega arith)
is_crowded-free Lose near far h = is_crowded-shorter Lose near far (omega (arith, length-take (length near.coming - 1) near.coming)) (omega arith)
is_crowded-free Again near far h = absurd (cc)
is_crowded-free Agree near far h = is_crowded-shorter Agree near far (omega arith) (omega arith)
is_crowded-free Silence near far h = is_crowded-shorter Silence near far (omega arith) (omega arith)
is_crowded-free Reset near far h = is_crowded-shorter Reset near far (omega arith) (omega arith)

-- an answer that says whether a list was full says whether repeating is refused
pub refused-Again : (r : Bool) (near far : SideView) → (r ≡ true → length near.coming ≡ 4096) × (length near.coming ≡ 4096 → r ≡ true) → (r ≡ true → is_crowded Again near far ≡ true) × (is_crowded Again near far ≡ true → r ≡ true)
refused-Again r near far h =
    let same = is_crowded-Again near far in
    (λ e. let full = h.0 e in grind (arith, nat_tests), λ e. h.1 (grind (arith, nat_tests)))

pub step-Again : (r : Result (Unit {0}) Crowded) (near far after : SideView) → (IsErr r → length near.coming ≡ 4096) × (length near.coming ≡ 4096 → IsErr r) → OnOk r (after ≡ record near { coming = near.coming ++ keep_last 1 near.coming }) → IfErr r (λ (c : Crowded). (c.held ≡ 4096) × (after ≡ near)) → (after, far) ≡ step Again near far
step-Again (Ok u) near far after h ok err =
    let free : is_crowded Again near far ≡ false = is_crowded-Again near far ∙ grind (arith, nat_tests) in
    let went = step-free Again near far free in
    grind (arith, common_steps)
step-Again (Err c) near far after h ok err =
    let crowded = (refused-Again true near far h).0 refl in
    let kept = step-crowded Again near far crowded in
    grind (arith, common_steps)

-- what is refused changes nothing, in any view of the two sides
pub step-refused : (view : SideView × SideView → WorldView) (r : Result (Unit {0}) Crowded) (e : Event) (near far : SideView) (after : SideView × SideView) → (IsErr r → is_crowded e near far ≡ true) → after ≡ step e near far → OnErr r (view after ≡ view (near, far))
step-refused view (Ok u) e near far after crowded went = tt
step-refused view (Err c) e near far after crowded went = ap view (went ∙ step-crowded e near far (crowded refl))

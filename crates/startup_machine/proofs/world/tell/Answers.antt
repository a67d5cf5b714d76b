use Rattle.std.proofs.Common.{◌≡◌, Some, None, refl, true, false, sym, ◌∙◌, ap, arith, length}
use Rattle.std.proofs.lemmas.Bool.{false≢true}
use Rattle.std.proofs.lemmas.Bool.Decides.{nat_tests}
use Rattle.std.proofs.lemmas.Grind.{common_steps}
use Rattle.startup_machine.specs.declared.event.Event.TheVariants.{Tell}
use Rattle.startup_machine.specs.End.{announcement}
use Rattle.startup_machine.specs.World.{SideView, is_crowded}
use Rattle.startup_machine.proofs.Steps.{is_crowded-Tell, is_crowded-Tell_silent, step-crowded, step-free, unlimited-Tell, unlimited-Tell_silent}
use Rattle.startup_machine.proofs.world.tell.Goals as goal

pub returns-in_err-append-clause-crowded : goal.returns-in_err-append-clause-crowded
returns-in_err-append-clause-crowded c =
    let near = c.args.near.now in
    let far = c.args.far.now in
    let end_is : c.near.inside.end ≡ near.end = ap (λ (s : SideView). s.end) c.near.view_is in
    let said : announcement near.end ≡ Some c.in-Some.announcement = ap announcement (sym end_is) ∙ sym c.in-Some.ensures.value in
    let full : length far.coming ≡ 4096 = c.in_err-append.ensures.crowded.0 refl in
    let crowded : is_crowded Tell near far ≡ true = is_crowded-Tell near far c.in-Some.announcement said ∙ grind (arith, nat_tests) in
    (λ _. crowded, λ _. c.from_residual.ensures.0)

pub returns-in_err-append-clause-step : goal.returns-in_err-append-clause-step
returns-in_err-append-clause-step c =
    let near = c.args.near.now in
    let far = c.args.far.now in
    let end_is : c.near.inside.end ≡ near.end = ap (λ (s : SideView). s.end) c.near.view_is in
    let said : announcement near.end ≡ Some c.in-Some.announcement = ap announcement (sym end_is) ∙ sym c.in-Some.ensures.value in
    let full : length far.coming ≡ 4096 = c.in_err-append.ensures.crowded.0 refl in
    let crowded : is_crowded Tell near far ≡ true = is_crowded-Tell near far c.in-Some.announcement said ∙ grind (arith, nat_tests) in
    let kept = step-crowded Tell near far crowded in
    grind (arith, common_steps)

pub returns-in_ok-append-clause-crowded : goal.returns-in_ok-append-clause-crowded
returns-in_ok-append-clause-crowded c =
    let near = c.args.near.now in
    let far = c.args.far.now in
    let end_is : c.near.inside.end ≡ near.end = ap (λ (s : SideView). s.end) c.near.view_is in
    let said : announcement near.end ≡ Some c.in-Some.announcement = ap announcement (sym end_is) ∙ sym c.in-Some.ensures.value in
    let room = c.in_ok-append.ensures.crowded.1 in
    let free : is_crowded Tell near far ≡ false = is_crowded-Tell near far c.in-Some.announcement said ∙ grind (arith, nat_tests) in
    (λ e. absurd (false≢true e), λ e. absurd (false≢true (sym free ∙ e)))

pub returns-in_ok-append-clause-step : goal.returns-in_ok-append-clause-step
returns-in_ok-append-clause-step c =
    let near = c.args.near.now in
    let far = c.args.far.now in
    let end_is : c.near.inside.end ≡ near.end = ap (λ (s : SideView). s.end) c.near.view_is in
    let said : announcement near.end ≡ Some c.in-Some.announcement = ap announcement (sym end_is) ∙ sym c.in-Some.ensures.value in
    let room = c.in_ok-append.ensures.crowded.1 in
    let free : is_crowded Tell near far ≡ false = is_crowded-Tell near far c.in-Some.announcement said ∙ grind (arith, nat_tests) in
    let went = step-free Tell near far free ∙ unlimited-Tell near far c.in-Some.announcement said in
    grind (arith, common_steps)

pub returns-in_default-clause-crowded : goal.returns-in_default-clause-crowded
returns-in_default-clause-crowded c =
    let near = c.args.near.now in
    let far = c.args.far.now in
    let end_is : c.near.inside.end ≡ near.end = ap (λ (s : SideView). s.end) c.near.view_is in
    let said : announcement near.end ≡ None = ap announcement (sym end_is) ∙ sym c.announcement.ensures.value ∙ c.in_default.is in
    let free : is_crowded Tell near far ≡ false = is_crowded-Tell_silent near far said in
    (λ e. absurd (false≢true e), λ e. absurd (false≢true (sym free ∙ e)))

pub returns-in_default-clause-step : goal.returns-in_default-clause-step
returns-in_default-clause-step c =
    let near = c.args.near.now in
    let far = c.args.far.now in
    let end_is : c.near.inside.end ≡ near.end = ap (λ (s : SideView). s.end) c.near.view_is in
    let said : announcement near.end ≡ None = ap announcement (sym end_is) ∙ sym c.announcement.ensures.value ∙ c.in_default.is in
    let free : is_crowded Tell near far ≡ false = is_crowded-Tell_silent near far said in
    let went = step-free Tell near far free ∙ unlimited-Tell_silent near far said in
    sym went

use Rattle.std.proofs.Common.{◌≡◌, refl, false, sym, ◌∙◌, arith}
use Rattle.std.proofs.lemmas.Bool.{false≢true}
use Rattle.std.proofs.lemmas.Grind.{common_steps}
use Rattle.startup_machine.specs.declared.event.Event.TheVariants.{Start, Hear, Lose, Agree, Silence, Reset}
use Rattle.startup_machine.specs.World.{is_crowded}
use Rattle.startup_machine.proofs.Steps.{is_crowded-free, refused-Again, step-Again, step-free}
use Rattle.startup_machine.proofs.world.take_step.Goals as goal

pub returns-in-Again-clause-crowded : goal.returns-in-Again-clause-crowded
returns-in-Again-clause-crowded c =
    rw c.in-Again.is (refused-Again _ c.args.near.now c.args.far.now c.again.ensures.crowded)

pub returns-in-Again-clause-step : goal.returns-in-Again-clause-step
returns-in-Again-clause-step c =
    rw c.in-Again.is (step-Again c.again.result c.args.near.now c.args.far.now _ c.again.ensures.crowded c.again.ensures.ok c.again.ensures.err)

pub returns-in-Start-clause-crowded : goal.returns-in-Start-clause-crowded
returns-in-Start-clause-crowded c =
    let near = c.args.near.now in
    let far = c.args.far.now in
    let free : is_crowded c.args.event near far ≡ false = rw c.in-Start.is (is_crowded-free Start near far refl) in
    (λ e. absurd (false≢true e), λ e. absurd (false≢true (sym free ∙ e)))

pub returns-in-Start-clause-step : goal.returns-in-Start-clause-step
returns-in-Start-clause-step c =
    let near = c.args.near.now in
    let far = c.args.far.now in
    let free : is_crowded c.args.event near far ≡ false = rw c.in-Start.is (is_crowded-free Start near far refl) in
    let went = step-free c.args.event near far free in
    grind (arith, common_steps)

pub returns-in-Hear-clause-crowded : goal.returns-in-Hear-clause-crowded
returns-in-Hear-clause-crowded c =
    let near = c.args.near.now in
    let far = c.args.far.now in
    let free : is_crowded c.args.event near far ≡ false = rw c.in-Hear.is (is_crowded-free Hear near far refl) in
    (λ e. absurd (false≢true e), λ e. absurd (false≢true (sym free ∙ e)))

pub returns-in-Hear-clause-step : goal.returns-in-Hear-clause-step
returns-in-Hear-clause-step c =
    let near = c.args.near.now in
    let far = c.args.far.now in
    let free : is_crowded c.args.event near far ≡ false = rw c.in-Hear.is (is_crowded-free Hear near far refl) in
    let went = step-free c.args.event near far free in
    grind (arith, common_steps)

pub returns-in-Lose-clause-crowded : goal.returns-in-Lose-clause-crowded
returns-in-Lose-clause-crowded c =
    let near = c.args.near.now in
    let far = c.args.far.now in
    let free : is_crowded c.args.event near far ≡ false = rw c.in-Lose.is (is_crowded-free Lose near far refl) in
    (λ e. absurd (false≢true e), λ e. absurd (false≢true (sym free ∙ e)))

pub returns-in-Lose-clause-step : goal.returns-in-Lose-clause-step
returns-in-Lose-clause-step c =
    let near = c.args.near.now in
    let far = c.args.far.now in
    let free : is_crowded c.args.event near far ≡ false = rw c.in-Lose.is (is_crowded-free Lose near far refl) in
    let went = step-free c.args.event near far free in
    grind (arith, common_steps)

pub returns-in-Agree-clause-crowded : goal.returns-in-Agree-clause-crowded
returns-in-Agree-clause-crowded c =
    let near = c.args.near.now in
    let far = c.args.far.now in
    let free : is_crowded c.args.event near far ≡ false = rw c.in-Agree.is (is_crowded-free Agree near far refl) in
    (λ e. absurd (false≢true e), λ e. absurd (false≢true (sym free ∙ e)))

pub returns-in-Agree-clause-step : goal.returns-in-Agree-clause-step
returns-in-Agree-clause-step c =
    let near = c.args.near.now in
    let far = c.args.far.now in
    let free : is_crowded c.args.event near far ≡ false = rw c.in-Agree.is (is_crowded-free Agree near far refl) in
    let went = step-free c.args.event near far free in
    grind (arith, common_steps)

pub returns-in-Silence-clause-crowded : goal.returns-in-Silence-clause-crowded
returns-in-Silence-clause-crowded c =
    let near = c.args.near.now in
    let far = c.args.far.now in
    let free : is_crowded c.args.event near far ≡ false = rw c.in-Silence.is (is_crowded-free Silence near far refl) in
    (λ e. absurd (false≢true e), λ e. absurd (false≢true (sym free ∙ e)))

pub returns-in-Silence-clause-step : goal.returns-in-Silence-clause-step
returns-in-Silence-clause-step c =
    let near = c.args.near.now in
    let far = c.args.far.now in
    let free : is_crowded c.args.event near far ≡ false = rw c.in-Silence.is (is_crowded-free Silence near far refl) in
    let went = step-free c.args.event near far free in
    grind (arith, common_steps)

pub returns-in-Reset-clause-crowded : goal.returns-in-Reset-clause-crowded
returns-in-Reset-clause-crowded c =
    let near = c.args.near.now in
    let far = c.args.far.now in
    let free : is_crowded c.args.event near far ≡ false = rw c.in-Reset.is (is_crowded-free Reset near far refl) in
    (λ e. absurd (false≢true e), λ e. absurd (false≢true (sym free ∙ e)))

pub returns-in-Reset-clause-step : goal.returns-in-Reset-clause-step
returns-in-Reset-clause-step c =
    let near = c.args.near.now in
    let far = c.args.far.now in
    let free : is_crowded c.args.event near far ≡ false = rw c.in-Reset.is (is_crowded-free Reset near far refl) in
    let went = step-free c.args.event near far free in
    grind (arith, common_steps)

use Rattle.std.proofs.Common.{◌+◌, ◌*◌, ◌∙◌, rules, w32, FitsSigned}
use Rattle.std.proofs.lemmas.Int.{to_z-of_z}
use Rattle.link_drill.proofs.DrawSteps.{drawn_sample-is}
use Rattle.link_drill.proofs.draws.Generator.draw_sample.Goals as goal

pub returns-clause-value : goal.returns-clause-value
returns-clause-value c = λ number m at.
    let i_fits : FitsSigned w32 c.draw_signed-i.result = search rules in
    let q_fits : FitsSigned w32 c.draw_signed-q.result = search rules in
    let next = c.draw_signed-i.ensures.next number (1 + 2 * m) at in
    drawn_sample-is number m _ _ (to_z-of_z w32 c.draw_signed-i.result i_fits ∙ c.draw_signed-i.ensures.value number (1 + 2 * m) at)
    (to_z-of_z w32 c.draw_signed-q.result q_fits ∙ c.draw_signed-q.ensures.value number (1 + 2 * m + 1) next)

use Rattle.std.proofs.Common.{◌++◌, ◌∷◌, [], List, sym, ap, ◌∙◌}
use Rattle.sample_bits.specs.declared.iq.RawIq.{RawIq}
use Rattle.link_drill.specs.Draws.{drawn_samples}
use Rattle.link_drill.proofs.DrawSteps.{drawn_samples-more, drawn_samples-none}
use Rattle.link_drill.proofs.draws.Generator.draw_samples.Goals as goal

pub loop-init : goal.loop-init
loop-init c = λ number at. (c.in_ok-samples.ensures.items ∙ sym (drawn_samples-none number), at)

pub loop-preserved : goal.loop-preserved
loop-preserved c = λ number at.
    let before = c.loop.invariant number at in
    let n = c.loop.counter in
    let sample = c.draw_sample.ensures.value number n before.1 in (
      c.in_ok-push.ensures.items ∙ ap (λ (xs : List RawIq). xs ++ c.draw_sample.result ∷ []) before.0
          ∙ ap (λ (x : RawIq). drawn_samples number n ++ x ∷ []) sample ∙ sym (drawn_samples-more number n),
      c.draw_sample.ensures.next number n before.1,
    )

use Rattle.std.proofs.Common.{◌++◌, ◌∷◌, [], List, sym, ap, ◌∙◌}
use Rattle.link_drill.specs.Draws.{seed_after}
use Rattle.link_drill.specs.Fates.{fates_of}
use Rattle.link_drill.specs.declared.fates.Fate.{Fate}
use Rattle.link_drill.proofs.FateSteps.{fate_draw-none, fates_of-more, fates_of-none}
use Rattle.link_drill.proofs.fates.draw_fates.Goals as goal

pub loop-packet-init : goal.loop-packet-init
loop-packet-init c = λ number first at.
    (c.new-fates.ensures.items ∙ sym (fates_of-none number first), at ∙ ap (seed_after number) (sym (fate_draw-none number first)))

pub loop-packet-preserved : goal.loop-packet-preserved
loop-packet-preserved c = λ number first at.
    let before = c.loop-packet.invariant number first at in
    let i = c.loop-packet.packet in
    let fate = c.draw.ensures.value number first before.1 in (
      c.in_ok-push.ensures.items ∙ ap (λ (xs : List Fate). xs ++ c.draw.result ∷ []) before.0
          ∙ ap (λ (x : Fate). fates_of number first i ++ x ∷ []) fate ∙ sym (fates_of-more number first i),
      c.draw.ensures.next number first before.1,
    )

use Rattle.std.proofs.Common.{◌≡◌, ◌+◌, ◌%◌, sym, ap, ◌∙◌, arith}
use Rattle.link_drill.specs.Draws.{seed_after, draw}
use Rattle.link_drill.specs.Fates.{fate_draw}
use Rattle.link_drill.proofs.FateSteps.{fate_draw-arrives, fate_draw-lost}
use Rattle.link_drill.proofs.fates.Fate.draw.Goals as goal

pub returns-then-kind-eq0-clause-next : goal.returns-then-kind-eq0-clause-next
returns-then-kind-eq0-clause-next c = λ number first at.
    let k = fate_draw number first c.args.packet in
    let value = c.draw-kind.ensures.value number k at in
    let zero_kind : draw number k % 16 ≡ 0 = ap (λ d. d % 16) (sym value) ∙ c.if-kind-eq0.true in
    c.draw-kind.ensures.next number k at ∙ ap (seed_after number) (sym (fate_draw-lost number first c.args.packet zero_kind))

pub returns-clause-next : goal.returns-clause-next
returns-clause-next c = λ number first at.
    let k = fate_draw number first c.args.packet in
    let value = c.draw-kind.ensures.value number k at in
    let next = c.draw-kind.ensures.next number k at in
    let other_kind : draw number k % 16 ≡ 0 → ⊥ = λ e. c.if-kind-eq0.false (ap (λ d. d % 16) value ∙ e) in
    let two : k + 1 + 1 ≡ k + 2 = omega arith in
    c.draw.ensures.next number (k + 1) next ∙ ap (seed_after number) (two ∙ sym (fate_draw-arrives number first c.args.packet other_kind))

use Rattle.std.proofs.Common.{◌≡◌, ◌+◌, ◌-◌, ap, ◌∙◌, subst, arith}
use Rattle.carrier_plan.specs.declared.plan.Plan.{Plan}
use Rattle.link_receiver.specs.Playing.{KeepFlows}
use Rattle.link_receiver.proofs.playing.play_tick.Goals as goal

pub spell-good-requires : goal.spell-good-requires
spell-good-requires g c =
    let from : c.from-playout.result ≡ c.args.checked.now.playout = c.from-playout.ensures ∙ ap (λ (p : Plan). p.playout) c.plan-plan.ensures.same in
    let tick : c.args.tick ≡ c.args.tick - c.from-playout.result + c.args.checked.now.playout = omega (arith, from, c.if-tick-playout.false) in (
      omega arith,
      (
        c.requires.good,
        (c.requires.words, (c.args.run_ticks, subst (λ t. KeepFlows c.args.checked.now c.args.run_ticks t c.args.flows.now) tick c.requires.flows)),
      ),
    )

use Rattle.std.proofs.Common.{◌≡◌, ◌+◌, ◌*◌, ◌<◌, ◌∙◌, ℕ, length, sym, ap, arith}
use Rattle.carrier_plan.specs.declared.plan.Plan.{Plan}
use Rattle.plan_checker.specs.WordSize.{word_size}
use Rattle.link_drill.proofs.PlanFacts.{as_many_carriers}
use Rattle.link_drill.proofs.SendSteps.{four_are, four_within, run_plan, sent_count, sent_more}
use Rattle.link_drill.proofs.sending.hand_in_due.Goals as goal

pub hand_in_four-requires-clause-once : goal.hand_in_four-requires-clause-once
hand_in_four-requires-clause-once c =
    let inv = c.loop-c.invariant in
    let s = c.loop-c.sender in
    let Y : ℕ = c.args.words in
    let words : word_size s.plan.option ≡ Y = ap (λ (p : Plan). word_size p.option) inv.1 ∙ sym c.requires.words in
    let many : length s.plan.carriers ≡ Y = as_many_carriers s.plan (word_size s.plan.option) (run_plan s inv.0) ∙ words in
    sent_count s Y c.args.drawn.now c.args.sender.now.tick c.loop-c.c (omega arith) many inv.3 ∙ ap (λ t. 4 * t) (sym inv.2)

pub loop-c-preserved : goal.loop-c-preserved
loop-c-preserved c =
    let inv = c.loop-c.invariant in
    let Y : ℕ = c.args.words in
    let n : ℕ = c.args.sender.now.tick in
    let i : ℕ = c.loop-c.c in
    let drawn = c.args.drawn.now in
    let low : i < Y = omega arith in (
      c.hand_in_four.ensures.run,
      c.hand_in_four.ensures.plan ∙ inv.1,
      c.hand_in_four.ensures.tick ∙ inv.2,
      sent_more c.loop-c.sender c.hand_in_four.new.sender Y drawn n i _ low inv.3 (four_within n Y i (length drawn) c.requires.tick low c.requires.drawn)
          (four_are drawn (4 * (c.now.result * Y + i)) (4 * (n * Y + i)) (ap (λ t. 4 * (t * Y + i)) c.now.ensures))
          c.hand_in_four.ensures.stands,
    )

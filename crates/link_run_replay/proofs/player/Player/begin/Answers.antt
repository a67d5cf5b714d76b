use Rattle.std.proofs.Common.{◌≡◌, ◌-◌, ◌∙◌, ap, sym, arith}
use Rattle.carrier_plan.specs.declared.plan.Plan.{Plan}
use Rattle.plan_checker.specs.WordSize.{word_size}
use Rattle.link_run_replay.proofs.Channels.{channels_begun}
use Rattle.link_run_replay.proofs.player.Player.begin.Goals as goal

pub returns-clause-plays : goal.returns-clause-plays
returns-clause-plays c =
    let s = c.in_ok-session.session in
    let none : s.tick - s.plan.playout ≡ 0 = omega (arith, c.in_ok-session.ensures.tick) in record {
      samples = c.in_ok-session.ensures.stands;
      channels =
          channels_begun s.plan s.frames c.args.header.announce (s.tick - s.plan.playout) c.width_of.result c.in_ok-management.management none
          (c.width_of.ensures.value ∙ sym (ap (λ (p : Plan). word_size p.option) c.in_ok-session.ensures.plan)) c.in_ok-management.ensures.begun;
    }

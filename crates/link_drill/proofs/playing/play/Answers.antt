use Rattle.std.proofs.Common.{◌≡◌, ◌+◌, ◌++◌, ℕ, List, All, length, refl, sym, ap, ◌∙◌, subst, arith}
use Rattle.carrier_plan.specs.declared.plan.Plan.{Plan}
use Rattle.link_base.specs.Record.{Record}
use Rattle.link_receiver.specs.Output.{entries_at, entries_below}
use Rattle.link_receiver.specs.Sessions.{StandsFor}
use Rattle.link_receiver.specs.declared.entry.Entry.{Entry}
use Rattle.plan_checker.specs.Run.{ticks_of_run}
use Rattle.plan_checker.specs.WordSize.{word_size}
use Rattle.link_drill.specs.Arrivals.{arrivals_at, arrivals_below}
use Rattle.link_drill.specs.DrillStream.{drill_stream}
use Rattle.link_drill.specs.InRun.{IsInRun}
use Rattle.link_drill.specs.Tally.{IsTally}
use Rattle.link_drill.proofs.EntrySteps.{all_at}
use Rattle.link_drill.proofs.PlanFacts.{ticks-are}
use Rattle.link_drill.proofs.PlaySteps.{arrivals_below-more, arrivals_below-none, entries-more, listed-is}
use Rattle.link_drill.proofs.SendSteps.{plan_known}
use Rattle.link_drill.proofs.TallySteps.{equal_few, few_at, few_below, marked_few}
use Rattle.link_drill.proofs.playing.play.Goals.{After-entries}
use Rattle.link_drill.proofs.playing.play.Goals as goal

pub loop-init : goal.loop-init
loop-init c = record {
  plan = c.in_ok-session.ensures.plan;
  frames = c.in_ok-session.ensures.frames;
  tick = c.in_ok-session.ensures.tick;
  stands = subst (StandsFor c.in_ok-session.session) (sym (arrivals_below-none c.args.packets.now c.args.fates.now)) c.in_ok-session.ensures.stands;
  counted = record { samples = refl; equal = refl; marked = refl };
}

-- the records of the ticks up to the present one
abbrev records_now : After-entries → List Record
records_now c =
    let packets = c.args.packets.now in
    let fates = c.args.fates.now in
    arrivals_below packets fates c.loop.counter ++ arrivals_at packets fates c.loop.counter

played : (c : After-entries) → StandsFor c.tick.new.self (records_now c)
played c =
    let packets = c.args.packets.now in
    let fates = c.args.fates.now in
    let t = c.loop.counter in
    let handed_in = c.deliver_all.ensures.stands (arrivals_below packets fates t) c.loop.invariant.stands in
    c.tick.ensures.stands (records_now c)
    (subst (λ k. StandsFor c.deliver_all.new.session (arrivals_below packets fates t ++ arrivals_at packets fates k)) c.loop.invariant.tick handed_in)

listed : (c : After-entries) → c.entries.result.now ≡ entries_at c.args.checked.now 256 (records_now c) c.loop.counter
listed c =
    let inv = c.loop.invariant in
    let now = c.tick.new.self in
    listed-is c.args.checked.now now.plan 256 now.frames now.tick c.loop.counter (records_now c) c.entries.result.now (c.tick.ensures.plan ∙ c.deliver_all.ensures.plan ∙ inv.plan)
    (c.tick.ensures.frames ∙ c.deliver_all.ensures.frames ∙ inv.frames) (c.tick.ensures.tick ∙ ap (λ k. k + 1) (c.deliver_all.ensures.tick ∙ inv.tick))
    (c.entries.ensures (records_now c) (played c) c.tick.ensures.listed)

pub count-requires-clause-run : goal.count-requires-clause-run
count-requires-clause-run c =
    let at = (goal.at.count-requires-clause-run c).After-entries in
    let p : Plan = c.args.checked.now in
    let Y = word_size p.option in
    let all = all_at p Y (plan_known p c.requires.plan c.requires.known) 256 (records_now at) c.loop.counter in
    subst (λ n. All (IsInRun n 256) c.entries.result.now) (sym c.word_octets-words.ensures) (subst (λ (xs : List Entry). All (IsInRun Y 256) xs) (sym (listed at)) all)

pub count-requires-clause-few : goal.count-requires-clause-few
count-requires-clause-few c =
    let at = (goal.at.count-requires-clause-few c).After-entries in
    let p : Plan = c.args.checked.now in
    let Y = word_size p.option in
    let known = plan_known p c.requires.plan c.requires.known in
    let R = arrivals_below c.args.packets.now c.args.fates.now (ticks_of_run p 256) in
    let before = few_below p Y known 256 R c.loop.counter in
    let now = few_at p Y known 256 (records_now at) c.loop.counter in
    let many = ap (λ (xs : List Entry). length xs) (listed at) in
    omega (arith, before, now, many, c.loop.invariant.counted.samples, c.loop-test.true, c.ticks-end.ensures, ticks-are p Y known 256)

pub count-requires-clause-equal : goal.count-requires-clause-equal
count-requires-clause-equal c =
    let p : Plan = c.args.checked.now in
    let R = arrivals_below c.args.packets.now c.args.fates.now (ticks_of_run p 256) in
    equal_few (drill_stream (word_size p.option) 256 c.args.drawn.now) (entries_below p 256 R c.loop.counter) c.loop.tally c.loop.invariant.counted

pub count-requires-clause-marked : goal.count-requires-clause-marked
count-requires-clause-marked c =
    let p : Plan = c.args.checked.now in
    let R = arrivals_below c.args.packets.now c.args.fates.now (ticks_of_run p 256) in
    marked_few (drill_stream (word_size p.option) 256 c.args.drawn.now) (entries_below p 256 R c.loop.counter) c.loop.tally c.loop.invariant.counted

pub loop-preserved : goal.loop-preserved
loop-preserved c =
    let at = (goal.at.loop-preserved c).After-entries in
    let inv = c.loop.invariant in
    let p : Plan = c.args.checked.now in
    let Y = word_size p.option in
    let drawn = c.args.drawn.now in
    let packets = c.args.packets.now in
    let fates = c.args.fates.now in
    let t : ℕ = c.loop.counter in
    let n = ticks_of_run p 256 in
    let before = entries_below p 256 (arrivals_below packets fates n) t in
    let σ = drill_stream Y 256 drawn in
    let words : c.word_octets-words.result ≡ Y = c.word_octets-words.ensures in
    let counted : IsTally σ (before ++ c.entries.result.now) c.count.new.self =
    subst (λ k. IsTally (drill_stream k 256 drawn) (before ++ c.entries.result.now) c.count.new.self) words
    (c.count.ensures before (subst (λ k. IsTally (drill_stream k 256 drawn) before c.loop.tally) (sym words) inv.counted)) in
    let more =
    entries-more p 256 n packets fates c.entries_are_settled.ensures (plan_known p c.requires.plan c.requires.known).good t c.entries.result.now
    (omega (arith, c.loop-test.true, c.ticks-end.ensures)) (listed at) in
    record {
      plan = c.tick.ensures.plan ∙ c.deliver_all.ensures.plan ∙ inv.plan;
      frames = c.tick.ensures.frames ∙ c.deliver_all.ensures.frames ∙ inv.frames;
      tick = c.tick.ensures.tick ∙ ap (λ k. k + 1) (c.deliver_all.ensures.tick ∙ inv.tick);
      stands = subst (StandsFor c.tick.new.self) (sym (arrivals_below-more packets fates t)) (played at);
      counted = subst (λ (es : List Entry). IsTally σ es c.count.new.self) more counted;
    }

pub returns : goal.returns
returns c =
    let p : Plan = c.args.checked.now in
    let R = arrivals_below c.args.packets.now c.args.fates.now (ticks_of_run p 256) in
    let end : c.loop.counter ≡ ticks_of_run p 256 = omega (arith, c.loop-test.false, c.loop.auto.counter-end, c.ticks-end.ensures) in
    subst (λ n. IsTally (drill_stream (word_size p.option) 256 c.args.drawn.now) (entries_below p 256 R n) c.loop.tally) end c.loop.invariant.counted

use Rattle.std.proofs.Common.{◌≡◌, ◌+◌, ◌-◌, ◌<◌, ◌≤◌, List, ℕ, length, take, drop, subst, arith, refl}
use Rattle.std.proofs.lemmas.List.{length-drop, take_all}
use Rattle.link_run_send.specs.Ahead.{IsFrontSample}
use Rattle.link_run_send.proofs.AheadLines.{takes_more, takes_none}
use Rattle.link_run_send.proofs.ahead.read_due.Goals as goal

pub loop-due-init : goal.loop-due-init
loop-due-init c = record { within = omega arith; takes = takes_none c.args.width c.args.due.now c.requires.missing }

pub loop-due-preserved : goal.loop-due-preserved
loop-due-preserved c =
    let octets = c.args.octets.now in
    let so_far = c.loop-due.invariant in
    let at = c.loop-due.ahead.octets in
    let v = c.in-Some.front.sample in
    let size = c.in-Some.front.length in
    let all : take (length octets - at) (drop at octets) ≡ drop at octets = take_all _ (drop at octets) (omega (arith, length-drop at octets)) in
    let front = subst (λ (text : List ℕ). IsFrontSample c.args.width text v size) all c.in-Some.ensures in
    let missing : c.loop-due.due.come + 1 < c.loop-due.due.count = c.loop-due-test.true in
    let few : c.loop-due.due.count ≤ 32 = omega (arith, c.requires.few, so_far.takes.due) in
    record {
      within = omega (arith, front.within, length-drop at octets);
      takes = takes_more c.args.width c.args.due.now c.loop-due.due octets at c.loop-due.ahead.lines size v so_far.takes front missing (omega (arith, missing, few)) _ refl refl refl refl refl;
    }

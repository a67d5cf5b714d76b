use Rattle.std.proofs.Common.{◌≡◌, ◌∙◌, ◌-◌, ◌≤◌, ◌++◌, List, ℕ, sym, subst, arith}
use Rattle.std.specs.Option.{option_copied}
use Rattle.link_base.specs.Sink.{AppendsFront}
use Rattle.link_text.specs.Gathered.{Gathers, BreaksOff}
use Rattle.link_text.proofs.Gathering.{gathers_none}
use Rattle.link_run_replay.specs.CaptureRun.{KeepsChannels, KeepsReader}
use Rattle.link_run_replay.specs.RunText.{words_below}
use Rattle.link_run_replay.proofs.Channels.{before_playout, none_announced, keeps_next, lines_next}
use Rattle.link_run_replay.proofs.player.Player.put_management.Goals as goal

pub returns-in_default-clause-puts : goal.returns-in_default-clause-puts
returns-in_default-clause-puts g c a records stands keeps =
    let s = c.args.self.now.session in
    let sink = g.K.Sink.taken c.args.out.now in
    let none = subst (KeepsChannels s.plan s.frames a records (c.args.tick - s.plan.playout)) c.in_default.is keeps in
    subst (λ (t : List ℕ). Gathers t c.args.text.now sink c.args.text.now sink) (sym (none_announced s.plan s.frames a records c.args.tick none.0 none.1))
    (gathers_none c.args.text.now sink)

pub returns-then-tick-self-clause-puts : goal.returns-then-tick-self-clause-puts
returns-then-tick-self-clause-puts g c a records stands keeps =
    let s = c.args.self.now.session in
    let sink = g.K.Sink.taken c.args.out.now in
    subst (λ (t : List ℕ). Gathers t c.args.text.now sink c.args.text.now sink)
    (sym (before_playout s.plan s.frames a records c.args.tick (omega (arith, c.if-tick-self.true, c.args.self.now.of_playout))))
    (gathers_none c.args.text.now sink)

pub returns-in-Ok-clause-keeps : goal.returns-in-Ok-clause-keeps
returns-in-Ok-clause-keeps g c a records stands keeps =
    let s = c.args.self.now.session in
    let late : s.plan.playout ≤ c.args.tick = omega (arith, c.if-tick-self.false, c.args.self.now.of_playout) in
    let kept : KeepsReader s.plan s.frames a records (c.args.tick - s.plan.playout) c.in-Some.reader =
    subst (KeepsChannels s.plan s.frames a records (c.args.tick - s.plan.playout)) c.in-Some.is keeps in
    keeps_next s.plan s.frames a records s.tick c.args.tick (option_copied c.control.result) late c.requires (c.control.ensures.control records stands)
    c.in-Some.reader c.read.new.self kept c.in-Ok.ensures.width c.in-Ok.ensures.announce
    (c.in-Ok.ensures.stands (words_below s.plan s.frames records (c.args.tick - s.plan.playout)) kept.stands)

pub returns-in-Ok-clause-puts : goal.returns-in-Ok-clause-puts
returns-in-Ok-clause-puts g c a records stands keeps =
    let s = c.args.self.now.session in
    let taken = g.K.Sink.taken in
    let late : s.plan.playout ≤ c.args.tick = omega (arith, c.if-tick-self.false, c.args.self.now.of_playout) in
    let kept : KeepsReader s.plan s.frames a records (c.args.tick - s.plan.playout) c.in-Some.reader =
    subst (KeepsChannels s.plan s.frames a records (c.args.tick - s.plan.playout)) c.in-Some.is keeps in
    subst (λ (t : List ℕ). Gathers t c.args.text.now (taken c.args.out.now) c.read.new.text (taken c.read.new.out))
    (lines_next s.plan s.frames a records s.tick c.args.tick (option_copied c.control.result) late c.requires (c.control.ensures.control records stands) c.in-Some.reader kept)
    (c.in-Ok.ensures.gathers (words_below s.plan s.frames records (c.args.tick - s.plan.playout)) kept.stands)

pub returns-in-Err-clause-fails : goal.returns-in-Err-clause-fails
returns-in-Err-clause-fails g c a records stands keeps =
    let s = c.args.self.now.session in
    let taken = g.K.Sink.taken in
    let late : s.plan.playout ≤ c.args.tick = omega (arith, c.if-tick-self.false, c.args.self.now.of_playout) in
    let kept : KeepsReader s.plan s.frames a records (c.args.tick - s.plan.playout) c.in-Some.reader =
    subst (KeepsChannels s.plan s.frames a records (c.args.tick - s.plan.playout)) c.in-Some.is keeps in
    subst (λ (t : List ℕ). BreaksOff t c.args.text.now (taken c.args.out.now) (taken c.read.new.out))
    (lines_next s.plan s.frames a records s.tick c.args.tick (option_copied c.control.result) late c.requires (c.control.ensures.control records stands) c.in-Some.reader kept)
    (c.in-Err.ensures.fails (words_below s.plan s.frames records (c.args.tick - s.plan.playout)) kept.stands)

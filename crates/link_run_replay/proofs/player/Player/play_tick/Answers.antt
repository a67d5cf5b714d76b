use Rattle.std.proofs.Common.{◌≡◌, ◌∙◌, ◌+◌, ◌-◌, ◌++◌, List, ℕ, sym, subst, ap, append_assoc}
use Rattle.link_base.specs.Sink.{AppendsFront}
use Rattle.link_receiver.specs.Output.{entries_at}
use Rattle.link_text.specs.Gathered.{Gathers, BreaksOff}
use Rattle.link_text.proofs.Gathering.{gathers_then, breaks_then, front_of_more}
use Rattle.link_run_replay.specs.CaptureRun.{KeepsChannels}
use Rattle.link_run_replay.specs.EntryLines.{entry_lines}
use Rattle.link_run_replay.specs.RunText.{management_lines, tick_text}
use Rattle.link_run_replay.proofs.Channels.{tick_printed, channels_same, plays_next}
use Rattle.link_run_replay.proofs.player.Player.play_tick.Goals as goal

pub returns-in-Err-clause-fails : goal.returns-in-Err-clause-fails
returns-in-Err-clause-fails g c a records plays =
    let s = c.args.self.now.session in
    let after = c.play.new.self in
    let tick = c.now-tick.result in
    let taken = g.K.Sink.taken in
    let samples = entry_lines (entries_at after.plan after.frames records tick) in
    let channels = management_lines after.plan after.frames a records tick in
    let text : samples ++ channels ≡ tick_text s.plan s.frames a records s.tick =
    tick_printed s after a records tick c.play.ensures.plan c.play.ensures.frames c.now-tick.ensures in
    let handed = c.play.ensures.stands records plays.samples in
    let kept : KeepsChannels after.plan after.frames a records (tick - after.plan.playout) c.args.self.now.management =
    channels_same s after a records tick c.args.self.now.management c.play.ensures.plan c.play.ensures.frames c.now-tick.ensures plays.channels in
    subst (λ (t : List ℕ). BreaksOff t c.args.text.now (taken c.args.out.now) (taken c.put_leaving.new.out)) text
    (subst (λ (t : List ℕ). AppendsFront t (taken c.args.out.now) (taken c.put_leaving.new.out)) (append_assoc c.args.text.now samples channels)
    (front_of_more (c.args.text.now ++ samples) channels (taken c.args.out.now) (taken c.put_leaving.new.out) (c.in-Err.ensures.fails records handed)))

pub returns-in-Ok-put_management-clause-plays : goal.returns-in-Ok-put_management-clause-plays
returns-in-Ok-put_management-clause-plays g c a records plays =
    let s = c.args.self.now.session in
    let after = c.play.new.self in
    let tick = c.now-tick.result in
    let handed = c.play.ensures.stands records plays.samples in
    let kept : KeepsChannels after.plan after.frames a records (tick - after.plan.playout) c.args.self.now.management =
    channels_same s after a records tick c.args.self.now.management c.play.ensures.plan c.play.ensures.frames c.now-tick.ensures plays.channels in
    plays_next after c.put_management.new.self.session a records tick c.put_management.new.self.management c.in-Ok-put_management.ensures.session
    (c.play.ensures.tick ∙ ap (λ (t : ℕ). t + 1) (sym c.now-tick.ensures)) handed (c.in-Ok-put_management.ensures.keeps a records handed kept)

pub returns-in-Ok-put_management-clause-puts : goal.returns-in-Ok-put_management-clause-puts
returns-in-Ok-put_management-clause-puts g c a records plays =
    let s = c.args.self.now.session in
    let after = c.play.new.self in
    let tick = c.now-tick.result in
    let taken = g.K.Sink.taken in
    let samples = entry_lines (entries_at after.plan after.frames records tick) in
    let channels = management_lines after.plan after.frames a records tick in
    let text : samples ++ channels ≡ tick_text s.plan s.frames a records s.tick =
    tick_printed s after a records tick c.play.ensures.plan c.play.ensures.frames c.now-tick.ensures in
    let handed = c.play.ensures.stands records plays.samples in
    let kept : KeepsChannels after.plan after.frames a records (tick - after.plan.playout) c.args.self.now.management =
    channels_same s after a records tick c.args.self.now.management c.play.ensures.plan c.play.ensures.frames c.now-tick.ensures plays.channels in
    subst (λ (t : List ℕ). Gathers t c.args.text.now (taken c.args.out.now) c.put_management.new.text (taken c.put_management.new.out)) text
    (gathers_then samples channels c.args.text.now c.put_leaving.new.text c.put_management.new.text (taken c.args.out.now) (taken c.put_leaving.new.out) (taken c.put_management.new.out)
    (c.in-Ok.ensures.puts records handed) (c.in-Ok-put_management.ensures.puts a records handed kept))

pub returns-in-Err-put_management-clause-fails : goal.returns-in-Err-put_management-clause-fails
returns-in-Err-put_management-clause-fails g c a records plays =
    let s = c.args.self.now.session in
    let after = c.play.new.self in
    let tick = c.now-tick.result in
    let taken = g.K.Sink.taken in
    let samples = entry_lines (entries_at after.plan after.frames records tick) in
    let channels = management_lines after.plan after.frames a records tick in
    let text : samples ++ channels ≡ tick_text s.plan s.frames a records s.tick =
    tick_printed s after a records tick c.play.ensures.plan c.play.ensures.frames c.now-tick.ensures in
    let handed = c.play.ensures.stands records plays.samples in
    let kept : KeepsChannels after.plan after.frames a records (tick - after.plan.playout) c.args.self.now.management =
    channels_same s after a records tick c.args.self.now.management c.play.ensures.plan c.play.ensures.frames c.now-tick.ensures plays.channels in
    subst (λ (t : List ℕ). BreaksOff t c.args.text.now (taken c.args.out.now) (taken c.put_management.new.out)) text
    (breaks_then samples channels c.args.text.now c.put_leaving.new.text (taken c.args.out.now) (taken c.put_leaving.new.out) (taken c.put_management.new.out)
    (c.in-Ok.ensures.puts records handed) (c.in-Err-put_management.ensures.fails a records handed kept))

use Rattle.std.proofs.Common.{◌≡◌, List, ℕ, subst}
use Rattle.std.specs.Prelude.{codes}
use Rattle.plan_checker.specs.Run.{ticks_of_run}
use Rattle.link_text.specs.Gathered.{Gathers, BreaksOff}
use Rattle.link_text.specs.Printed.{ended}
use Rattle.link_run_replay.specs.EntryLines.{flow_lines}
use Rattle.link_run_replay.specs.Replayed.{text_below, last_tick}
use Rattle.link_run_replay.specs.CaptureRun.{IsPlayedTo}
use Rattle.link_receiver.proofs.Settled.{TakenIsSettled-holds}
use Rattle.link_run_replay.proofs.Keeping.{closing_text, closing_flows, played_on, breaks_first, breaks_second, breaks_third, gathers_all, on_err}
use Rattle.link_run_replay.proofs.capture_run.CaptureRunFeed.close.Goals as goal

pub returns-in_err-play_to-clause-fails : goal.returns-in_err-play_to-clause-fails
returns-in_err-play_to-clause-fails g c =
    on_err c.from_residual.result (λ s replay.
    let taken = g.K.Sink.taken in
    let now = c.args.self.now in
    let session = now.player.session in
    let management = now.player.management in
    let is : now.ticks ≡ ticks_of_run session.plan session.frames = now.of_run in
    breaks_first (text_below s (last_tick s)) (flow_lines s.plan s.header.run_ticks s.records) (ended (codes "end")) c.args.text.now c.args.text.now (taken c.args.out.now) (taken c.play_to.new.out)
    (subst (λ (text : List ℕ). BreaksOff text c.args.text.now (taken c.args.out.now) (taken c.play_to.new.out)) (closing_text session management s now.ticks replay.played is)
    (c.in_err-play_to.ensures.fails s.header.announce replay.played.early replay.played.plays)))

pub returns-in_err-put_flows-clause-fails : goal.returns-in_err-put_flows-clause-fails
returns-in_err-put_flows-clause-fails g c =
    on_err c.from_residual-in_err-put_flows.result (λ s replay.
    let taken = g.K.Sink.taken in
    let now = c.args.self.now in
    let session = now.player.session in
    let management = now.player.management in
    let is : now.ticks ≡ ticks_of_run session.plan session.frames = now.of_run in
    let after = c.play_to.new.self in
    let so_far = c.in_ok-play_to.ensures in
    let played : IsPlayedTo after.session after.management (last_tick s) s =
    played_on session after.session management after.management s now.ticks replay.played is so_far.plan so_far.frames so_far.tick so_far.plays in
    breaks_second (text_below s (last_tick s)) (flow_lines s.plan s.header.run_ticks s.records) (ended (codes "end")) c.args.text.now c.play_to.new.text (taken c.args.out.now) (taken c.play_to.new.out)
    (taken c.put_flows.new.out)
    (subst (λ (text : List ℕ). Gathers text c.args.text.now (taken c.args.out.now) c.play_to.new.text (taken c.play_to.new.out)) (closing_text session management s now.ticks replay.played is)
    (so_far.puts s.header.announce replay.played.early replay.played.plays))
    (subst (λ (text : List ℕ). BreaksOff text c.play_to.new.text (taken c.play_to.new.out) (taken c.put_flows.new.out))
    (closing_flows TakenIsSettled-holds after.session after.management s (last_tick s) played)
    (c.in_err-put_flows.ensures.fails played.early played.plays.samples)))

pub returns-in_err-make_room-clause-fails : goal.returns-in_err-make_room-clause-fails
returns-in_err-make_room-clause-fails g c =
    on_err c.from_residual-in_err-make_room.result (λ s replay.
    let taken = g.K.Sink.taken in
    let now = c.args.self.now in
    let session = now.player.session in
    let management = now.player.management in
    let is : now.ticks ≡ ticks_of_run session.plan session.frames = now.of_run in
    let after = c.play_to.new.self in
    let so_far = c.in_ok-play_to.ensures in
    let played : IsPlayedTo after.session after.management (last_tick s) s =
    played_on session after.session management after.management s now.ticks replay.played is so_far.plan so_far.frames so_far.tick so_far.plays in
    breaks_third (text_below s (last_tick s)) (flow_lines s.plan s.header.run_ticks s.records) (ended (codes "end")) c.args.text.now c.play_to.new.text (taken c.args.out.now) (taken c.play_to.new.out)
    c.put_flows.new.text (taken c.put_flows.new.out) (taken c.make_room.new.out)
    (subst (λ (text : List ℕ). Gathers text c.args.text.now (taken c.args.out.now) c.play_to.new.text (taken c.play_to.new.out)) (closing_text session management s now.ticks replay.played is)
    (so_far.puts s.header.announce replay.played.early replay.played.plays))
    (subst (λ (text : List ℕ). Gathers text c.play_to.new.text (taken c.play_to.new.out) c.put_flows.new.text (taken c.put_flows.new.out))
    (closing_flows TakenIsSettled-holds after.session after.management s (last_tick s) played)
    (c.in_ok-put_flows.ensures.puts played.early played.plays.samples))
    c.in_err-make_room.ensures.front)

pub returns-clause-closes : goal.returns-clause-closes
returns-clause-closes g c = λ s replay.
    let taken = g.K.Sink.taken in
    let now = c.args.self.now in
    let session = now.player.session in
    let management = now.player.management in
    let is : now.ticks ≡ ticks_of_run session.plan session.frames = now.of_run in
    let after = c.play_to.new.self in
    let so_far = c.in_ok-play_to.ensures in
    let played : IsPlayedTo after.session after.management (last_tick s) s =
    played_on session after.session management after.management s now.ticks replay.played is so_far.plan so_far.frames so_far.tick so_far.plays in
    gathers_all (text_below s (last_tick s)) (flow_lines s.plan s.header.run_ticks s.records) (ended (codes "end")) c.args.text.now c.play_to.new.text (taken c.args.out.now) (taken c.play_to.new.out)
    c.put_flows.new.text c.make_room.new.self c.put.new.self (taken c.put_flows.new.out) (taken c.make_room.new.out)
    (subst (λ (text : List ℕ). Gathers text c.args.text.now (taken c.args.out.now) c.play_to.new.text (taken c.play_to.new.out)) (closing_text session management s now.ticks replay.played is)
    (so_far.puts s.header.announce replay.played.early replay.played.plays))
    (subst (λ (text : List ℕ). Gathers text c.play_to.new.text (taken c.play_to.new.out) c.put_flows.new.text (taken c.put_flows.new.out))
    (closing_flows TakenIsSettled-holds after.session after.management s (last_tick s) played)
    (c.in_ok-put_flows.ensures.puts played.early played.plays.samples))
    c.in_ok-make_room.ensures.gathers c.put.ensures

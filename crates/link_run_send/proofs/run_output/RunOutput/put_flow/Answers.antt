use Rattle.std.proofs.Common.{◌+◌, [], List, ℕ, sym, subst}
use Rattle.link_run_capture.specs.Written.{record_line}
use Rattle.link_sender.proofs.GoodFlows.{good_flow}
use Rattle.link_sender.specs.Senders.{OpensBefore}
use Rattle.link_text.specs.Gathered.{Gathers}
use Rattle.link_text.proofs.Gathering.{gathers_none, gathers_put, gathers_then}
use Rattle.link_run_send.proofs.SentRecords.{text_of_none, text_of_one}
use Rattle.link_run_send.proofs.run_output.RunOutput.put_flow.Goals as goal

pub returns-in_default-clause-puts : goal.returns-in_default-clause-puts
returns-in_default-clause-puts g c σ flow good stands read =
    let s = c.args.self.now.sender in
    let t = c.args.tick in
    let sink = g.K.Sink.taken c.args.out.now in
    let none : (i : ℕ) → ¬ OpensBefore s.plan s.frames flow (t + 1) i = subst (λ (now : ℕ). (i : ℕ) → ¬ OpensBefore s.plan s.frames flow now i) c.requires.tick (c.in_default.ensures.packet flow read) in
    subst (λ (text : List ℕ). Gathers text c.args.text.now sink c.args.text.now sink) (sym (text_of_none s.plan s.frames t flow σ none)) (gathers_none c.args.text.now sink)

pub returns-in-Ok-clause-puts : goal.returns-in-Ok-clause-puts
returns-in-Ok-clause-puts g c σ flow good stands read =
    let s = c.args.self.now.sender in
    let t = c.args.tick in
    let taken = g.K.Sink.taken in
    let packet = c.in-Some.packet.now in
    let ready = c.in-Some.ensures.packet flow read in
    let opens : OpensBefore s.plan s.frames flow (t + 1) ready.0 = subst (λ (now : ℕ). OpensBefore s.plan s.frames flow now ready.0) c.requires.tick ready.1 in
    let some = (good_flow s.plan c.args.f flow good read).payload.some_frames in
    subst (λ (text : List ℕ). Gathers text c.args.text.now (taken c.args.out.now) c.put_record.new.text (taken c.make_room.new.out))
    (text_of_one s.plan s.frames t flow σ ready.0 packet good some opens (ready.2 σ stands))
    (gathers_then [] (record_line t packet) c.args.text.now c.make_room.new.self c.put_record.new.text (taken c.args.out.now) (taken c.make_room.new.out) (taken c.make_room.new.out) c.in-Ok.ensures.gathers
    (gathers_put (record_line t packet) c.make_room.new.self c.put_record.new.text (taken c.make_room.new.out) c.put_record.ensures))

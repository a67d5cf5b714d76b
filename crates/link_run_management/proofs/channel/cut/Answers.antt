use Rattle.std.proofs.Common.{◌++◌, ◌∙◌, ap}
use Rattle.link_run_management.specs.Events.{numbered}
use Rattle.link_run_management.proofs.Follows.{follows_missed, breaks_in_missed}
use Rattle.link_run_management.proofs.channel.cut.Goals as goal

pub returns-in-Ok-clause-follows : goal.returns-in-Ok-clause-follows
returns-in-Ok-clause-follows g c =
    follows_missed g.C.Channel.stands g.C.Channel.line g.C.Channel.missed c.args.tick c.args.channel.now c.begin_anew.new.self c.args.text.now c.make_room.new.self c.put_line.new.text
    (g.K.Sink.taken c.args.out.now) (g.K.Sink.taken c.make_room.new.out) c.begin_anew.ensures c.in-Ok.ensures.gathers
    (c.put_line.ensures.text ∙ ap (λ words. c.make_room.new.self ++ numbered c.args.tick words) c.missed_words.ensures.words)

pub returns-in-Err-clause-fails : goal.returns-in-Err-clause-fails
returns-in-Err-clause-fails g c =
    breaks_in_missed g.C.Channel.stands g.C.Channel.line g.C.Channel.missed c.args.tick c.args.channel.now c.args.text.now
    (g.K.Sink.taken c.args.out.now) (g.K.Sink.taken c.make_room.new.out) c.in-Err.ensures.front

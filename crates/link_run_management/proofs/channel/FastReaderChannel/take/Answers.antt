use Rattle.std.proofs.Common.{◌++◌, Some, None, sym, ◌∙◌, ap}
use Rattle.hdlc_channel.specs.Bits.{octet_bits as channel_bits}
use Rattle.ethernet_channel.specs.Bits.{octet_bits}
use Rattle.ethernet_channel.specs.Keeps.{StandsFor}
use Rattle.link_run_management.specs.Events.{fast_line, fast_event_line}
use Rattle.link_run_management.proofs.ChannelLines.{hands_quiet, hands_line, octet_lines, octet_stands}
use Rattle.link_run_management.proofs.channel.FastReaderChannel.take.Goals as goal

pub returns-in-None-clause-hands : goal.returns-in-None-clause-hands
returns-in-None-clause-hands g c =
    hands_quiet StandsFor fast_line c.args.number (channel_bits c.args.octet) c.args.self.now c.push_octet.new.self c.args.text.now (g.K.Sink.taken c.args.out.now)
    (λ bits s. (
      octet_stands c.push_octet.new.self bits c.args.octet (c.in-None.ensures.stands bits s),
      octet_lines c.args.number bits c.args.octet None (c.in-None.ensures.answer bits s),
    ))

pub returns-in-Ok-clause-hands : goal.returns-in-Ok-clause-hands
returns-in-Ok-clause-hands g c =
    let event = c.in-Some.event in
    hands_line StandsFor fast_line c.args.number (channel_bits c.args.octet) c.args.self.now c.push_octet.new.self c.args.text.now c.make_room.new.self c.put_fast.new.text
    (g.K.Sink.taken c.args.out.now) (g.K.Sink.taken c.make_room.new.out) c.in-Ok.ensures.gathers
    (λ bits s. let stands = c.in-Some.ensures.stands bits s in (
      octet_stands c.push_octet.new.self bits c.args.octet stands,
      c.put_fast.ensures
          ∙ ap (λ f. c.make_room.new.self ++ fast_event_line c.args.number (Some event) f) (c.frame.ensures.frame (bits ++ octet_bits c.args.octet) stands)
          ∙ ap (λ t. c.make_room.new.self ++ t) (sym (octet_lines c.args.number bits c.args.octet (Some event) (c.in-Some.ensures.answer bits s))),
    ))

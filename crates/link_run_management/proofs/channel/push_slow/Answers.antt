use Rattle.std.proofs.Common.{◌≤◌, ◌++◌, length, take, drop, Some, sym, ◌∙◌, ap, arith}
use Rattle.hdlc_channel.specs.Bits.{octet_bits}
use Rattle.hdlc_channel.specs.Reader.{StandsFor}
use Rattle.hdlc_channel.specs.SlowText.{last_frame}
use Rattle.hdlc_channel.proofs.Octets.{given_length}
use Rattle.link_run_management.specs.Events.{slow_line, slow_event_line}
use Rattle.link_run_management.proofs.ChannelLines.{hands_quiet, hands_line, slow_lines}
use Rattle.link_run_management.proofs.channel.push_slow.Goals as goal

pub returns-in-None-clause-hands : goal.returns-in-None-clause-hands
returns-in-None-clause-hands g c =
    let given = drop c.args.from (octet_bits c.args.octet) in
    let taken = c.push_octet-taken.result in
    let within : taken.bits ≤ length given = omega (arith, given_length c.args.octet c.args.from, c.push_octet-taken.ensures.within) in
    hands_quiet StandsFor slow_line c.args.number (take taken.bits given) c.args.reader.now c.push_octet-taken.new.self c.args.text.now (g.K.Sink.taken c.args.out.now)
    (λ bits s.
    let h = c.push_octet-taken.ensures.takes bits s in
    let all = bits ++ take taken.bits given in (
      h.stands,
      slow_lines c.args.number bits given taken.bits taken.event c.push_octet-taken.new.self c.push_octet-taken.ensures.some within h
          ∙ ap (λ o. slow_event_line c.args.number o (last_frame all (length all))) c.in-None.is,
    ))

pub returns-in-Ok-clause-hands : goal.returns-in-Ok-clause-hands
returns-in-Ok-clause-hands g c =
    let given = drop c.args.from (octet_bits c.args.octet) in
    let taken = c.push_octet-taken.result in
    let within : taken.bits ≤ length given = omega (arith, given_length c.args.octet c.args.from, c.push_octet-taken.ensures.within) in
    hands_line StandsFor slow_line c.args.number (take taken.bits given) c.args.reader.now c.push_octet-taken.new.self c.args.text.now c.make_room.new.self c.put_slow.new.text
    (g.K.Sink.taken c.args.out.now) (g.K.Sink.taken c.make_room.new.out) c.in-Ok.ensures.gathers
    (λ bits s.
    let h = c.push_octet-taken.ensures.takes bits s in
    let all = bits ++ take taken.bits given in (
      h.stands,
      c.put_slow.ensures
          ∙ ap (λ f. c.make_room.new.self ++ slow_event_line c.args.number (Some c.in-Some.event) f) (c.frame.ensures.frame all h.stands)
          ∙ ap (λ o. c.make_room.new.self ++ slow_event_line c.args.number o (last_frame all (length all))) (sym c.in-Some.is)
          ∙ ap (λ t. c.make_room.new.self ++ t)
          (sym (slow_lines c.args.number bits given taken.bits taken.event c.push_octet-taken.new.self c.push_octet-taken.ensures.some within h)),
    ))

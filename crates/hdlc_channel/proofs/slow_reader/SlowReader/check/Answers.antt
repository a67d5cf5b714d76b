use Rattle.std.proofs.Common.{◌≡◌, ◌+◌, ◌*◌, ◌/◌, ◌-◌, ◌≤◌, length, take, sym, ap, ◌∙◌, subst, arith}
use Rattle.std.proofs.lemmas.List.{length-take-le}
use Rattle.hdlc_channel.specs.Bits.{octets_of}
use Rattle.hdlc_channel.specs.Fcs.{body_of}
use Rattle.hdlc_channel.specs.SlowText.{octets_answer}
use Rattle.hdlc_channel.specs.Reader.{SlowView}
use Rattle.hdlc_channel.specs.declared.slow_event.SlowEvent.{SlowEvent}
use Rattle.hdlc_channel.specs.declared.slow_event.SlowEvent.TheVariants.{Frame, BadFcs}
use Rattle.hdlc_channel.proofs.ReaderCases.{frame_answer, wrong_answer, body-taken}
use Rattle.hdlc_channel.proofs.slow_reader.SlowReader.check.Goals as goal

pub returns-then-got-want-clause-answer : goal.returns-then-got-want-clause-answer
returns-then-got-want-clause-answer c =
    let i = c.self.inside in
    let within : 8 * c.args.len ≤ length i.content = subst (λ (v : SlowView). 8 * c.args.len ≤ length v.collected) (sym c.self.view_is) c.requires.within in
    let long : length c.octets.result.now ≡ length i.content / 8 = c.octets.ensures.len in
    subst (λ (v : SlowView). Frame ≡ octets_answer (octets_of (take (8 * c.args.len) v.collected))) c.self.view_is
    (frame_answer (octets_of (take (8 * c.args.len) i.content)) (take c.args.len c.octets.result.now) c.args.len c.from.result c.from-2.result c.fcs-want.result
    (c.octets.ensures.octets c.args.len within) (length-take-le c.args.len c.octets.result.now (omega (arith, within, long)))
    c.from.ensures c.from-2.ensures c.fcs-want.ensures c.if-got-want.true)

pub returns-then-got-want-clause-frame : goal.returns-then-got-want-clause-frame
returns-then-got-want-clause-frame c =
    let i = c.self.inside in
    let within : 8 * c.args.len ≤ length i.content = subst (λ (v : SlowView). 8 * c.args.len ≤ length v.collected) (sym c.self.view_is) c.requires.within in
    let long : length c.octets.result.now ≡ length i.content / 8 = c.octets.ensures.len in
    let fits : c.args.len ≤ length c.octets.result.now = omega (arith, within, long) in
    subst (λ (v : SlowView). take (c.args.len - 2) c.exchange.new.other.items ≡ body_of (octets_of (take (8 * c.args.len) v.collected))) c.self.view_is
    (body-taken (octets_of (take (8 * c.args.len) i.content)) c.exchange.new.other.items c.args.len (c.exchange.ensures.octets c.args.len within)
    (ap length (c.octets.ensures.octets c.args.len within) ∙ length-take-le c.args.len c.octets.result.now fits))

pub returns-else-got-want-clause-answer : goal.returns-else-got-want-clause-answer
returns-else-got-want-clause-answer c =
    let i = c.self.inside in
    let within : 8 * c.args.len ≤ length i.content = subst (λ (v : SlowView). 8 * c.args.len ≤ length v.collected) (sym c.self.view_is) c.requires.within in
    let long : length c.octets.result.now ≡ length i.content / 8 = c.octets.ensures.len in
    let answer : SlowEvent = BadFcs (c.from.result + 256 * c.from-2.result) c.fcs-want.result in
    subst (λ (v : SlowView). answer ≡ octets_answer (octets_of (take (8 * c.args.len) v.collected))) c.self.view_is
    (wrong_answer (octets_of (take (8 * c.args.len) i.content)) (take c.args.len c.octets.result.now) c.args.len c.from.result c.from-2.result c.fcs-want.result
    (c.octets.ensures.octets c.args.len within) (length-take-le c.args.len c.octets.result.now (omega (arith, within, long)))
    c.from.ensures c.from-2.ensures c.fcs-want.ensures c.if-got-want.false)

use Rattle.std.proofs.Common.{◌∙◌, sym, ap, arith}
use Rattle.std.proofs.lemmas.Bool.Decides.{nat_tests}
use Rattle.control_words.proofs.Octets.{later_octet, first_octet}
use Rattle.control_words.specs.ControlWord.{octet_of}
use Rattle.control_words.proofs.write.octet_at.Goals as goal

pub returns-else-place-eq0 : goal.returns-else-place-eq0
returns-else-place-eq0 g c =
    c.channel_octet.ensures
    ∙ sym (later_octet g.row.Y c.args.place.x c.args.place.z c.args.place.bfn c.args.y c.args.a c.args.managed.now c.requires.managed c.requires.in_word c.if-y-ne0.true c.if-place-eq0.false)

pub returns-in_default : goal.returns-in_default
returns-in_default g c =
    let first = first_octet g.row.Y c.args.place.x c.args.place.z c.args.place.bfn c.args.a c.args.managed.now c.requires.managed (omega arith)
    (grind (arith, nat_tests)) (grind (arith, nat_tests)) (grind (arith, nat_tests)) (grind (arith, nat_tests))
    (grind (arith, nat_tests)) (grind (arith, nat_tests)) (grind (arith, nat_tests)) (grind (arith, nat_tests)) in
    c.channel_octet-in_default.ensures
    ∙ sym (ap (octet_of c.args.place.x c.args.place.z c.args.place.bfn c.args.a c.args.managed.now) c.if-y-ne0.false ∙ first)

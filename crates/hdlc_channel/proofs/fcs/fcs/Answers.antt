use Rattle.std.proofs.Common.{◌≡◌, ◌-◌, [], drop, ap, ◌∙◌, sym, arith}
use Rattle.std.proofs.lemmas.List.{drop_all}
use Rattle.hdlc_channel.specs.Bits.{bits_of}
use Rattle.hdlc_channel.specs.Fcs.{register_after, fcs_of}
use Rattle.hdlc_channel.proofs.Registers.{one_octet_more}
use Rattle.hdlc_channel.proofs.fcs.fcs.Goals as goal

pub loop-octet-preserved : goal.loop-octet-preserved
loop-octet-preserved c =
    one_octet_more c.args.octets.now c.loop-octet.octet-index c.loop-octet.register c.after_octet-register.result _ c.loop-octet-test.true c.after_octet-register.ensures c.loop-octet.invariant

pub returns : goal.returns
unfolding fcs_of register_after
returns c =
    let none : drop c.loop-octet.octet-index c.args.octets.now ≡ [] = drop_all c.loop-octet.octet-index c.args.octets.now (omega arith) in
    ap (λ r. 65535 - r) (sym (ap (λ xs. register_after c.loop-octet.register (bits_of xs)) none) ∙ c.loop-octet.invariant)

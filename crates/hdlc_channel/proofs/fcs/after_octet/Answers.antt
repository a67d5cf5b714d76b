use Rattle.std.proofs.Common.{◌/◌, ◌%◌, bit_xor, ap, ◌∙◌, sym, arith}
use Rattle.std.proofs.lemmas.Nat.{and_mask}
use Rattle.hdlc_channel.specs.Fcs.{moved_on}
use Rattle.hdlc_channel.proofs.Registers.{register_after-octet}
use Rattle.hdlc_channel.proofs.fcs.after_octet.Goals as goal

pub returns : goal.returns
returns c =
    ap (λ x. bit_xor x (c.args.register / 256)) (c.after_zeros.ensures ∙ ap (moved_on 8) (and_mask (bit_xor c.args.register c.from.result) 8) ∙ ap (λ o. moved_on 8 (bit_xor c.args.register o % 256)) c.from.ensures)
    ∙ sym (register_after-octet c.args.register c.args.octet (omega arith))

pub after_zeros-requires : goal.after_zeros-requires
after_zeros-requires c = let e = and_mask (bit_xor c.args.register c.from.result) 8 in omega (arith, e)

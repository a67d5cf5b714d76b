use Rattle.std.proofs.Common.{arith}
use Rattle.line_code.proofs.EncodeTable.{Spells-octet}
use Rattle.line_code.proofs.encoder.encode_octet.Goals as goal

pub returns : goal.returns
returns c = rw (c.turned.ensures, c.number_of.ensures.value) (Spells-octet c.args.rd c.args.octet (omega arith)).1

pub invariant_of-result : goal.invariant_of-result
invariant_of-result c = record { ten_bits = rw c.number_of.ensures.value (Spells-octet c.args.rd c.args.octet (omega arith)).0 }

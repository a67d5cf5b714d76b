use Rattle.std.proofs.Common.{arith, ap, length-append, length-take, length}
use Rattle.link_text.proofs.HexadecimalLemmas.{encode_lower-none, encode_more, length-encode_lower}
use Rattle.link_text.proofs.digits.put_hex.Goals as goal

pub loop-octet-init : goal.loop-octet-init
loop-octet-init c = encode_lower-none c.args.out.now.items

pub put_digit-requires-clause-room : goal.put_digit-requires-clause-room
put_digit-requires-clause-room c =
    let len = simp (length-append, length-encode_lower, length-take) at (ap length c.loop-octet.invariant) in
    omega (arith, len)

pub put_digit-requires-in-loop-octet-clause-room : goal.put_digit-requires-in-loop-octet-clause-room
put_digit-requires-in-loop-octet-clause-room c =
    let len = simp (length-append, length-encode_lower, length-take) at (ap length c.loop-octet.invariant) in
    let more = simp length-append at (ap length c.put_digit.ensures) in
    omega (arith, len, more)

pub loop-octet-preserved : goal.loop-octet-preserved
loop-octet-preserved c =
    let more = encode_more c.args.out.now.items c.args.octets.now c.loop-octet.octet-index c.loop-octet-test.true in
    cc

pub returns-clause-len : goal.returns-clause-len
returns-clause-len c =
    let len = simp (length-append, length-encode_lower, length-take) at (ap length c.loop-octet.invariant) in
    omega (arith, len)

use Rattle.std.proofs.Common.{◌≤◌, length, sym, ap, ◌∙◌, arith}
use Rattle.hdlc_channel.proofs.Contents.{length-low_bits}
use Rattle.hdlc_channel.proofs.LaidBits.{first_octet, rest_small}
use Rattle.hdlc_channel.proofs.laid.Laid.take_octet.Goals as goal

pub overflow_sub-self : goal.overflow_sub-self
overflow_sub-self c =
    let l = length-low_bits c.self.inside.len c.self.inside.bits in
    let e = ap length c.self.view_is in
    let h : 8 ≤ length c.args.self.now = c.requires in
    omega arith

pub invariant_of-self : goal.invariant_of-self
invariant_of-self c =
    let l = length-low_bits c.self.inside.len c.self.inside.bits in
    let e = ap length c.self.view_is in
    let h : 8 ≤ length c.args.self.now = c.requires in
    let few : c.self.inside.len ≤ 25 = c.self.invariant.few in
    record { small = rest_small c.self.inside.bits c.self.inside.len (omega arith) c.self.invariant.small; few = omega arith }

pub returns : goal.returns
returns c =
    let l = length-low_bits c.self.inside.len c.self.inside.bits in
    let e = ap length c.self.view_is in
    let h : 8 ≤ length c.args.self.now = c.requires in
    sym c.self.view_is ∙ first_octet c.self.inside.bits c.self.inside.len (omega arith)

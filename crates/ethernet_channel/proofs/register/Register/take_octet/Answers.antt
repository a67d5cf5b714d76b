use Rattle.std.proofs.Common.{◌≤◌, arith}
use Rattle.ethernet_channel.proofs.LowBits.{length-low_bits, split_octet, octet_below}
use Rattle.ethernet_channel.proofs.register.Register.take_octet.Goals as goal

pub overflow_sub-self : goal.overflow_sub-self
overflow_sub-self c =
    let long = rw (← c.self.view_is) at c.requires in omega (arith, long, length-low_bits c.self.inside.count c.self.inside.bits)

pub invariant_of-self : goal.invariant_of-self
invariant_of-self c =
    let long = rw (← c.self.view_is) at c.requires in
    let whole : 8 ≤ c.self.inside.count = omega (arith, long, length-low_bits c.self.inside.count c.self.inside.bits) in
    (omega (arith, c.self.invariant), octet_below c.self.inside.count c.self.inside.bits whole c.self.invariant.1)

pub returns : goal.returns
returns c =
    let long = rw (← c.self.view_is) at c.requires in
    let whole : 8 ≤ c.self.inside.count = omega (arith, long, length-low_bits c.self.inside.count c.self.inside.bits) in
    rw (← c.self.view_is) (split_octet c.self.inside.count c.self.inside.bits whole)

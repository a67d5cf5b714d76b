use Rattle.std.proofs.Common.{sym}
use Rattle.ethernet_channel.proofs.LowBits.{length-low_bits}
use Rattle.ethernet_channel.proofs.register.Register.len.Goals as goal

pub returns : goal.returns
returns c = rw (← c.self.view_is) (sym (length-low_bits c.self.inside.count c.self.inside.bits))

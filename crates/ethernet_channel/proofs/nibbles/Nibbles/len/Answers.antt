use Rattle.std.proofs.Common.{sym}
use Rattle.ethernet_channel.proofs.NibbleLemmas.{length-take-nibbles_in}
use Rattle.ethernet_channel.proofs.nibbles.Nibbles.len.Goals as goal

pub returns-clause-len : goal.returns-clause-len
returns-clause-len c =
    let kept = c.self.inside in
    rw (← c.self.view_is) (sym (length-take-nibbles_in kept.octets.items kept.count c.self.invariant.0 c.self.invariant.1))

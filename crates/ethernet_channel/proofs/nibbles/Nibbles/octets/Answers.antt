use Rattle.std.proofs.Common.{sym}
use Rattle.ethernet_channel.proofs.NibbleLemmas.{octets_of-take}
use Rattle.ethernet_channel.proofs.nibbles.Nibbles.octets.Goals as goal

pub returns-clause-octets : goal.returns-clause-octets
returns-clause-octets c =
    let kept = c.self.inside in
    rw (← c.self.view_is, c.deref.ensures.value) (sym (octets_of-take kept.octets.items kept.count))

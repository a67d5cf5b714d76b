use Rattle.std.proofs.Common.{subst}
use Rattle.link_sender.specs.Packets.{IsPacket}
use Rattle.link_run_delay.proofs.laws.packets_are_those.Goals as goal

pub returns : goal.returns
returns c p h σ f i good stream listed low =
    let has = c.packets_exist.ensures p h σ f i good stream listed low in
    subst (IsPacket p σ f i) (c.packets_are_determined.ensures p σ f i has.octets good has.packet) has.packet

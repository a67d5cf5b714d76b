use Rattle.std.proofs.Common.{◌-◌, length}
use Rattle.ethernet_channel.specs.Encodes.{channel_of, IsParted, IsSameOctet}
use Rattle.ethernet_channel.proofs.encoder.Encoder.fill.Given as goal

abbrev pub invariant-loop-self : goal.invariant-loop-self
invariant-loop-self l = record { parted : IsParted l.self; same : IsSameOctet (channel_of l.initial.self) (channel_of l.self) }

abbrev pub decreases-loop-self : goal.decreases-loop-self
decreases-loop-self l = 8 - length l.self.register

use Rattle.std.proofs.Common.{[], ap}
use Rattle.hdlc_channel.specs.Outgoing.{later_bits}
use Rattle.hdlc_channel.proofs.outgoing.Outgoing.begin.Goals as goal

pub returns : goal.returns
unfolding later_bits
returns c = ap (λ ready. record { ready = ready; later = [] }) c.flag.ensures

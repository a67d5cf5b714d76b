use Rattle.std.proofs.Common.{refl}
use Rattle.hdlc_channel.specs.Bits.{low_bits}
use Rattle.hdlc_channel.proofs.laid.Laid.flag.Goals as goal

pub returns : goal.returns
unfolding low_bits
returns c = refl

use Rattle.std.proofs.Common.{refl}
use Rattle.ethernet_channel.proofs.BitSteps.{StandsFor-nil}
use Rattle.ethernet_channel.proofs.reader.FastReader.restart.Goals as goal

pub returns : goal.returns
returns c = StandsFor-nil _ refl refl c.clear.ensures

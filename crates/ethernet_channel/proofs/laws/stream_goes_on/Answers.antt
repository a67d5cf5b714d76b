use Rattle.ethernet_channel.proofs.WrittenFrames.{fast_stream-add}
use Rattle.ethernet_channel.proofs.laws.stream_goes_on.Goals as goal

pub returns : goal.returns
returns c = fast_stream-add

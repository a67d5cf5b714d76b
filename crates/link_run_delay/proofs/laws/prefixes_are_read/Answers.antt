use Rattle.link_run_delay.proofs.PrefixReading.{PrefixesAreRead-holds}
use Rattle.link_run_delay.proofs.laws.prefixes_are_read.Goals as goal

pub returns : goal.returns
returns c = PrefixesAreRead-holds c.stream_is_read.ensures c.queued_frames_are_found.ensures

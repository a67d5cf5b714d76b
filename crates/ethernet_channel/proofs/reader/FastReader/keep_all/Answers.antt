use Rattle.ethernet_channel.proofs.Chunks.{shift_fits}
use Rattle.ethernet_channel.proofs.reader.FastReader.keep_all.Goals as goal

pub overflow_add-self : goal.overflow_add-self
overflow_add-self c = shift_fits c.self.inside.recent c.args.count c.args.part c.self.invariant.0 c.requires.few c.requires.small

use Rattle.std.proofs.Common.{ap}
use Rattle.ethernet_channel.specs.Keeps.{Kept}
use Rattle.ethernet_channel.proofs.Chunks.{ran_past}
use Rattle.ethernet_channel.proofs.reader.FastReader.pass_over.Goals as goal

pub returns : goal.returns
returns c count few small =
    ran_past c.args.self.now _ count c.args.part c.requires.past c.requires.few
    (ap (λ k. let x : Kept = record k { recent = c.args.part } in x) c.self.view_is)

use Rattle.std.proofs.Common.{arith}
use Rattle.link_run_send.proofs.sample_feed.SampleRunFeed.read.Goals as goal

pub returns-in-Ok-Good-clause-reads : goal.returns-in-Ok-Good-clause-reads
returns-in-Ok-Good-clause-reads g c = λ s between.
    let read = (rw c.in-Ok-Good.field-0-is at c.in-Ok-Good.ensures).reads s between in
    let keeps = read.3.keeps in (
      read.0,
      read.1,
      read.2,
      record {
        keeps = record {
          plan = keeps.plan;
          header = keeps.header;
          output = keeps.output;
          handed = keeps.handed;
          sends = keeps.sends;
          stream = keeps.stream;
          settled = keeps.settled;
          sampled = keeps.sampled;
          room = keeps.room;
        };
        made = read.3.made;
        left = omega (arith, read.3.fewer, between.left, c.read_line.ensures.left);
      },
      read.4,
    )

use Rattle.link_run_send.specs.Sends.{after_sample}
use Rattle.link_run_send.proofs.sample_run.SampleRun.read_sample_line.Goals as goal

pub returns-in-Ok-take-clause-reads : goal.returns-in-Ok-take-clause-reads
returns-in-Ok-take-clause-reads g c = λ s between.
    let next = after_sample c.args.self.now s c.in-Ok.sample in
    let taken = c.in-Ok-take.ensures.takes s between in
    (next.0, next.1, c.in-Ok.ensures.ok s between, taken.0, taken.1)

pub returns-in-Err-take-clause-fails : goal.returns-in-Err-take-clause-fails
returns-in-Err-take-clause-fails g c = λ s between.
    let next = after_sample c.args.self.now s c.in-Ok.sample in
    (next.0, next.1, c.in-Ok.ensures.ok s between, c.in-Err-take.ensures.fails s between)

use Rattle.std.proofs.Common.{true}
use Rattle.link_run_send.specs.Send.{send_by}
use Rattle.link_run_send.proofs.send.write_run.Goals as goal

pub returns-in-Ok-clause-promises : goal.returns-in-Ok-clause-promises
returns-in-Ok-clause-promises g c =
    c.in-Ok.ensures.goes_on.promises true (send_by c.args.output c.args.samples.now) (g.H.Shelf.shown c.read_feed.new.shelf) (g.K.Sink.taken c.read_feed.new.out) c.read_feed.result c.read_feed.ensures.promises

pub returns-in-Err-clause-promises : goal.returns-in-Err-clause-promises
returns-in-Err-clause-promises g c = c.in-Err.ensures.ends true (send_by c.args.output c.args.samples.now)

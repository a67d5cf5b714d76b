use Rattle.link_run_send.proofs.Kept.{may_end_is}
use Rattle.link_run_send.proofs.sample_feed.SampleRunFeed.may_end.Goals as goal

pub returns : goal.returns
returns c = λ s between. may_end_is c.args.self.now s between.keeps

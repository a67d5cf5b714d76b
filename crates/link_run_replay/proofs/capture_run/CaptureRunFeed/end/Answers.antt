use Rattle.link_text.proofs.Gathering.{gathers_none}
use Rattle.link_run_replay.proofs.capture_run.CaptureRunFeed.end.Goals as goal

pub returns-clause-ends : goal.returns-clause-ends
returns-clause-ends g c = λ s stands may. (stands, gathers_none c.args._text.now (g.K.Sink.taken c.args._out.now))

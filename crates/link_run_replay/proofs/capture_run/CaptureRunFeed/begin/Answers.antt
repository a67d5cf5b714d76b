use Rattle.std.proofs.Common.{sym, subst}
use Rattle.link_text.specs.Gathered.{Gathers}
use Rattle.link_text.proofs.Gathering.{gathers_none}
use Rattle.link_run_replay.proofs.capture_run.CaptureRunFeed.begin.Goals as goal

pub returns-clause-begins : goal.returns-clause-begins
returns-clause-begins g c = λ s settled opens.
    let sink = g.K.Sink.taken c.args._out.now in
    (opens.0, subst (λ text. Gathers text c.args._text.now sink c.args._text.now sink) (sym opens.1) (gathers_none c.args._text.now sink))

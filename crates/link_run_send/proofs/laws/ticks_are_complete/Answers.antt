use Rattle.link_run_send.proofs.CompleteTicks.{TicksAreComplete-holds}
use Rattle.link_run_send.proofs.laws.ticks_are_complete.Goals as goal

pub returns : goal.returns
returns c = TicksAreComplete-holds

use Rattle.link_run_replay.proofs.ReplayWhole.{TextIsWhole-holds}
use Rattle.link_run_replay.proofs.laws.text_is_whole.Goals as goal

pub returns : goal.returns
returns c = TextIsWhole-holds

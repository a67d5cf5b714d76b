use Rattle.link_run_replay.proofs.Replays.{replays}
use Rattle.link_run_replay.proofs.laws.captures_are_replayed.Goals as goal

pub returns : goal.returns
returns c = replays

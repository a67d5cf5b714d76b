use Rattle.playout_buffer.proofs.Settling.{taken_are_counted}
use Rattle.playout_buffer.proofs.laws.taken_are_counted.Goals as goal

pub returns : goal.returns
returns c = taken_are_counted

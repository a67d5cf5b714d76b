use Rattle.playout_buffer.proofs.Receiving.{held_is_received}
use Rattle.playout_buffer.proofs.laws.held_is_received.Goals as goal

pub returns : goal.returns
returns c = held_is_received

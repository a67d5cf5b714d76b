use Rattle.playout_buffer.proofs.Settling.{received_is_settled}
use Rattle.playout_buffer.proofs.laws.received_is_settled.Goals as goal

pub returns : goal.returns
returns c = received_is_settled

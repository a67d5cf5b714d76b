use Rattle.playout_buffer.proofs.Room.{own_slots}
use Rattle.playout_buffer.proofs.laws.held_packets_have_own_slots.Goals as goal

pub returns : goal.returns
returns c = own_slots

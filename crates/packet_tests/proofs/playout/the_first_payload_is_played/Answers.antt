use Rattle.std.proofs.Common.{refl}
use Rattle.packet_tests.proofs.Meeting.{meets}
use Rattle.packet_tests.proofs.playout.the_first_payload_is_played.Goals as goal

pub begin-requires : goal.begin-requires
begin-requires g c = meets _ refl

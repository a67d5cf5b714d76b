use Rattle.std.proofs.Common.{refl}
use Rattle.packet_tests.proofs.Meeting.{meets}
use Rattle.packet_tests.proofs.playout.a_stale_payload_is_taken_for_the_next_packet_with_its_number.Goals as goal

pub check_answers-requires-clause-window : goal.check_answers-requires-clause-window
check_answers-requires-clause-window g c = meets _ refl

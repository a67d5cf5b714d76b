use Rattle.std.proofs.Common.{refl}
use Rattle.packet_tests.proofs.Meeting.{meets}
use Rattle.packet_tests.proofs.playout.payloads_are_taken_once_and_in_their_windows.Goals as goal

pub check_answers-requires-clause-window : goal.check_answers-requires-clause-window
check_answers-requires-clause-window g c = meets _ refl

pub check_answers-requires-2-clause-window : goal.check_answers-requires-2-clause-window
check_answers-requires-2-clause-window g c = meets _ refl

pub check_answers-requires-3-clause-window : goal.check_answers-requires-3-clause-window
check_answers-requires-3-clause-window g c = meets _ refl

pub check_answers-requires-4-clause-window : goal.check_answers-requires-4-clause-window
check_answers-requires-4-clause-window g c = meets _ refl

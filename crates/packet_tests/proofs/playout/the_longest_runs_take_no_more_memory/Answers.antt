use Rattle.std.proofs.Common.{refl}
use Rattle.packet_tests.proofs.Meeting.{meets}
use Rattle.packet_tests.proofs.playout.the_longest_runs_take_no_more_memory.Goals as goal

pub begin-requires : goal.begin-requires
begin-requires g c = meets _ refl

pub begin-requires-2 : goal.begin-requires-2
begin-requires-2 g c = meets _ refl

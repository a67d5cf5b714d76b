use Rattle.link_run_delay.proofs.PacketsOfStreams.{PacketsExist-holds}
use Rattle.link_run_delay.proofs.laws.packets_exist.Goals as goal

pub returns : goal.returns
returns c = PacketsExist-holds c.spelled_in_ten_bits.ensures

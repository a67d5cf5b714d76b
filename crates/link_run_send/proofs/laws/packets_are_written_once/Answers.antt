use Rattle.link_run_send.proofs.WrittenOnce.{PacketsAreWrittenOnce-holds}
use Rattle.link_run_send.proofs.laws.packets_are_written_once.Goals as goal

pub returns : goal.returns
returns c = PacketsAreWrittenOnce-holds

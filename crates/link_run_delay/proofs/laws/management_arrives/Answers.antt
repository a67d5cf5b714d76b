use Rattle.link_run_delay.proofs.Arriving.{ManagementArrives-holds}
use Rattle.link_run_delay.proofs.laws.management_arrives.Goals as goal

pub returns : goal.returns
returns c = ManagementArrives-holds c.control_is_sent.ensures c.channels_are_prefixes.ensures c.prefixes_are_read.ensures

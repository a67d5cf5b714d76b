use Rattle.link_run_delay.proofs.ReceivedControl.{ControlIsSent-holds}
use Rattle.link_run_delay.proofs.laws.control_is_sent.Goals as goal

pub returns : goal.returns
returns c = ControlIsSent-holds c.parts_are_given_back.ensures

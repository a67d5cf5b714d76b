use Rattle.link_run_send.proofs.LongerStreams.{TextIsSettled-holds}
use Rattle.link_run_send.proofs.laws.text_is_settled.Goals as goal

pub returns : goal.returns
returns c = TextIsSettled-holds

use Rattle.link_run_send.proofs.WholeTexts.{TextIsWhole-holds}
use Rattle.link_run_send.proofs.laws.text_is_whole.Goals as goal

pub returns : goal.returns
returns c = TextIsWhole-holds

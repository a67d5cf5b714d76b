use Rattle.link_run_send.proofs.FilesSent.{FilesAreSent-holds}
use Rattle.link_run_send.proofs.laws.files_are_sent.Goals as goal

pub returns : goal.returns
returns c = FilesAreSent-holds

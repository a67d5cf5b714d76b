use Rattle.control_words.proofs.Hyperframe.{read_back, numbers_back}
use Rattle.control_words.proofs.read.announcement_is_read_back.Goals as goal

pub returns-clause-announced : goal.returns-clause-announced
returns-clause-announced g c = λ h a managed w. read_back g.row.Y h a managed c.requires w

pub returns-clause-numbers : goal.returns-clause-numbers
returns-clause-numbers g c = λ h x a managed l. numbers_back g.row.Y h x a managed c.requires l

use Rattle.link_text.proofs.LinesOf.{gives_of_file}
use Rattle.link_text.proofs.laws.answer_is_that_of_the_file.Goals as goal

pub returns : goal.returns
returns c = gives_of_file

use Rattle.link_text.proofs.LinesOf.{text_exact, too_long_exact, end_exact, unended_exact}
use Rattle.link_text.proofs.laws.answer_is_exact.Goals as goal

pub returns : goal.returns
returns c = record { text = text_exact; too_long = too_long_exact; end = end_exact; unended = unended_exact }

use Rattle.link_text.proofs.LinesOf.{lines_of-line, rest_of-line, lines_of-rest, rest_of-rest, with_feeds-lines_of}
use Rattle.link_text.proofs.laws.file_is_its_lines.Goals as goal

pub returns : goal.returns
returns c = record {
  line = λ text more none. (lines_of-line text more none, rest_of-line text more none);
  rest = λ text none. (lines_of-rest text none, rest_of-rest text none);
  whole = with_feeds-lines_of;
}

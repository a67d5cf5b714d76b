use Rattle.line_code.specs.declared.characters.Rd.TheVariants.{Minus}
use Rattle.line_code.specs.Line.{characters_from}
use Rattle.line_code.proofs.LineLaws.{checks_along, frames_have_characters}
use Rattle.line_code.proofs.laws.check_along_frames.Goals as goal

pub returns : goal.returns
returns c frames all = checks_along Minus (characters_from 0 frames) (frames_have_characters 0 frames all)

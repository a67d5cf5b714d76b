use Rattle.line_code.proofs.EncodeTable.{Spells-comma_minus, Spells-comma_plus}
use Rattle.line_code.proofs.encoder.encode_comma.Goals.{in-Minus, in-Plus}
use Rattle.line_code.proofs.encoder.encode_comma.Goals as goal

pub returns : goal.returns
returns c =
    elim c.match-rd.branch [
      | in-Minus w ↦ rw (c.turned.ensures, w.bits-is, w.in-Minus.is) Spells-comma_minus
      | in-Plus w ↦ rw (c.turned.ensures, w.bits-is, w.in-Plus.is) Spells-comma_plus
    ]

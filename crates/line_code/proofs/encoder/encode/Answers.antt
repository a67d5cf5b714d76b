use Rattle.std.proofs.Common.{subst}
use Rattle.line_code.specs.Code.{Spells}
use Rattle.line_code.proofs.EncodeTable.{spelled_once}
use Rattle.line_code.proofs.encoder.encode.Goals as goal

pub returns-in-Octet-clause-only : goal.returns-in-Octet-clause-only
returns-in-Octet-clause-only c bits next spelled =
    spelled_once _ _ _ _ _ _ (subst (λ ch. Spells c.args.rd ch bits next) c.in-Octet.is spelled) c.encode_octet.ensures

pub returns-in-Comma-clause-only : goal.returns-in-Comma-clause-only
returns-in-Comma-clause-only c bits next spelled =
    spelled_once _ _ _ _ _ _ (subst (λ ch. Spells c.args.rd ch bits next) c.in-Comma.is spelled) c.encode_comma.ensures

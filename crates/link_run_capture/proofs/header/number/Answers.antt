use Rattle.link_text.specs.Decimals.{decimal_value}
use Rattle.link_run_capture.proofs.CaptureLines.{at_most_read}
use Rattle.link_run_capture.proofs.header.number.Goals as goal

pub returns-clause-number : goal.returns-clause-number
returns-clause-number c = at_most_read c.args.most (decimal_value c.args.text.now) c.decimal.result c.decimal.ensures.some c.decimal.ensures.none

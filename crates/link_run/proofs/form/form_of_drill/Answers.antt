use Rattle.std.proofs.Common.{◌∙◌, ap, sym}
use Rattle.link_text.specs.Decimals.{decimal_value}
use Rattle.link_run_capture.proofs.CaptureLines.{at_most_some}
use Rattle.link_run.specs.Call.{by_number}
use Rattle.link_run.proofs.form.form_of_drill.Goals as goal

pub returns-in-Some : goal.returns-in-Some
returns-in-Some c =
    let read = ap decimal_value (sym c.as_bytes.ensures.value) ∙ c.in-Some.ensures.some.0 in
    sym (ap by_number (at_most_some 2_147_483_647 c.in-Some.value (decimal_value c.args.number.now) read c.in-Some.ensures.some.1))

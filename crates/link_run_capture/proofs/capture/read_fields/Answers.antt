use Rattle.std.proofs.Common.{◌∙◌, ap, Some}
use Rattle.link_text.specs.Decimals.{decimal_value}
use Rattle.link_text.specs.Hexadecimal.{spelled_octets}
use Rattle.link_run_capture.specs.Capture.{latest_tick, record_by}
use Rattle.link_run_capture.proofs.CaptureLines.{at_most_some}
use Rattle.link_run_capture.proofs.capture.read_fields.Goals as goal

pub returns-in-None-clause-err : goal.returns-in-None-clause-err
returns-in-None-clause-err c =
    ap (λ tick. record_by tick (spelled_octets c.args.hex.now)) (at_most_some latest_tick c.in-Some.tick (decimal_value c.args.tick.now) c.in-Some.ensures.some.0 c.in-Some.ensures.some.1)
    ∙ ap (record_by (Some c.in-Some.tick)) c.in-None.ensures.none

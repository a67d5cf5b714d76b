-- A form of the code as the call that contracts speak of.
use Rattle.std.specs.Prelude.{Option, Some, None}
use Rattle.link_run.specs.declared.form.Form as code
use Rattle.link_run.specs.declared.form.Form.TheVariants as of_code
use Rattle.link_run.specs.Call.{Call, by_plan, by_feed}
use Rattle.link_drill.specs.Course.{drill}
use Rattle.link_run_inspect.specs.Course.{inspect}
use Rattle.link_run_plan.specs.Check.{check}
use Rattle.link_run_replay.specs.Replay.{replay}
use Rattle.link_run_send.specs.Send.{line, send}
use Rattle.link_run_startup.specs.Startup.{startup}

abbrev pub call_shown : Option code.Form → Option Call
call_shown None = None
call_shown (Some (of_code.Check plan)) = Some (by_plan (check plan.now))
call_shown (Some (of_code.Startup events)) = Some (by_feed (startup events.now))
call_shown (Some (of_code.Inspect line)) = Some (by_feed (inspect line.now))
call_shown (Some (of_code.Replay plan capture)) = Some (by_feed (replay plan.now capture.now))
call_shown (Some (of_code.Send plan samples)) = Some (by_feed (send plan.now samples.now))
call_shown (Some (of_code.Line plan samples)) = Some (by_feed (line plan.now samples.now))
call_shown (Some (of_code.Drill number)) = Some (by_plan (drill number.value))

use Rattle.std.proofs.Common.{◌-◌, ◌≤◌, length, take}
use Rattle.link_run_feed.specs.FeedCalls.{ReadsAhead}
use Rattle.link_run_send.specs.Ahead.{StaysAt}
use Rattle.link_run_send.specs.Sends.{BetweenLines}
use Rattle.link_run_send.specs.Sent.{Sent, sent_lines}
use Rattle.link_run_send.proofs.sample_run.SampleRun.read_samples.Given as goal

-- the lines so far were read
abbrev pub invariant-loop-self : goal.invariant-loop-self
invariant-loop-self l = record {
  within : l.end ≤ length l.octets;
  same : StaysAt l.initial.self l.self (l.initial.self.lines_left - l.self.lines_left);
  reads : (s : Sent) → BetweenLines l.initial.self s → ReadsAhead sent_lines s (take l.end l.octets) (l.initial.self.lines_left - l.self.lines_left) (BetweenLines l.self);
}

abbrev pub decreases-loop-self : goal.decreases-loop-self
decreases-loop-self l = l.self.lines_left

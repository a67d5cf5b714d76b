use Rattle.std.proofs.Common.{arith}
use Rattle.plan_checker.proofs.Counting.{places-from_range, range-from_places}
use Rattle.plan_checker.proofs.Distinct.{answers_no, answers_yes}
use Rattle.plan_checker.proofs.flows.counts_to.Goals as goal

pub returns-then-numbers-count : goal.returns-then-numbers-count
returns-then-numbers-count c =
    answers_no (λ e. let long = (places-from_range c.args.numbers.now c.args.count e).0 in omega arith)

pub returns-then-number-i : goal.returns-then-number-i
returns-then-number-i c =
    answers_no (λ e. let at = (places-from_range c.args.numbers.now c.args.count e).1 c.loop-i.i (omega arith) in omega arith)

pub returns : goal.returns
returns c =
    answers_yes (range-from_places c.args.numbers.now c.args.count (omega arith) (λ k lt. c.loop-i.invariant k (omega arith)))

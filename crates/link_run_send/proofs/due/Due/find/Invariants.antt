use Rattle.std.proofs.Common.{◌≡◌, ◌-◌, ◌≤◌, List, ℕ}
use Rattle.link_run_send.specs.ComesNext.{HandedTo}
use Rattle.link_run_send.proofs.due.Due.find.Given as goal

-- no samples are due between the place in the file at which the search began and the present one
abbrev pub invariant-loop-self : goal.invariant-loop-self
invariant-loop-self l = record {
  within : l.self.tick ≤ l.run_ticks;
  first : l.self.tick ≡ l.run_ticks → l.self.carrier ≡ 0;
  none : l.self.come ≡ 0;
  few : l.self.count ≤ 32;
  later : l.initial.self.tick ≤ l.self.tick;
  carrier : l.self.tick ≡ l.initial.self.tick → l.initial.self.carrier ≤ l.self.carrier;
  handed : (handed : List ℕ) → HandedTo l.checked handed l.initial.self.tick l.initial.self.carrier → HandedTo l.checked handed l.self.tick l.self.carrier;
}

abbrev pub decreases-loop-self : goal.decreases-loop-self
decreases-loop-self l = l.run_ticks - l.self.tick

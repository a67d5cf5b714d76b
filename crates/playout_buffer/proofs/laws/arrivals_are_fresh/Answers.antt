use Rattle.playout_buffer.proofs.Freshness.{candidate_is_fresh, are_fresh}
use Rattle.playout_buffer.proofs.laws.arrivals_are_fresh.Goals as goal

pub returns-clause-candidates : goal.returns-clause-candidates
returns-clause-candidates c = candidate_is_fresh

pub returns-clause-arrivals : goal.returns-clause-arrivals
returns-clause-arrivals c = are_fresh

use Rattle.playout_buffer.proofs.Candidates.{one_candidate}
use Rattle.playout_buffer.proofs.laws.candidates_are_unique.Goals as goal

pub returns : goal.returns
returns c = one_candidate

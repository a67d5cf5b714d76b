use Rattle.playout_buffer.proofs.Candidates.{candidate_of-is, candidate_of-some}
use Rattle.playout_buffer.proofs.laws.candidate_is_found.Goals as goal

pub returns : goal.returns
returns c w t seq i is = (candidate_of-is w t seq i, candidate_of-some w t seq i is)

use Rattle.plan_checker.proofs.IqBits.{BitsStandInPieces-holds}
use Rattle.plan_checker.proofs.laws.bits_stand_in_pieces.Goals as goal

pub returns : goal.returns
returns c = BitsStandInPieces-holds

use Rattle.std.proofs.Common.{◌≡◌, length, subst}
use Rattle.carrier_plan.specs.Tables.{CanWrite}
use Rattle.carrier_plan.proofs.Values.{one_piece}
use Rattle.carrier_plan.proofs.printing.carrier_value.Goals as goal

pub carrier_of_piece-requires : goal.carrier_of_piece-requires
carrier_of_piece-requires c =
    let one : length c.args.carrier.now.pieces ≡ 1 = subst (λ v. CanWrite v c.args.carrier.now) c.in-One.is c.requires in
    one_piece c.args.carrier.now.pieces c.at.result one c.at.ensures

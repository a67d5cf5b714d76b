use Rattle.std.proofs.Common.{sym, subst}
use Rattle.toml.specs.View.{table_view}
use Rattle.carrier_plan.specs.PlanOf.{container_in, pieces_at, Gives}
use Rattle.carrier_plan.proofs.reading.container_in.Goals as goal

pub returns-in-Two : goal.returns-in-Two
unfolding container_in
returns-in-Two c =
    let keys = table_view c.args.table.now in
    subst (λ v. Gives c.pieces_at.result (container_in v c.args.i keys)) (sym c.in-Two.is)
    (subst (λ spot. Gives c.pieces_at.result (pieces_at keys spot)) c.of_carrier.ensures c.pieces_at.ensures)

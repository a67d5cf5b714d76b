use Rattle.std.proofs.Common.{◌∙◌, ap}
use Rattle.toml.specs.View.{view, table_view, members_view}
use Rattle.carrier_plan.specs.Tables.{with_key}
use Rattle.carrier_plan.proofs.Values.{with_key-view}
use Rattle.carrier_plan.proofs.printing.put.Goals as goal

pub returns : goal.returns
returns c =
    ap members_view c.in_ok-insert.ensures.entries
    ∙ with_key-view c.args.table.now.entries c.in_ok-key.key c.args.value
    ∙ ap (λ k. with_key k (view c.args.value) (table_view c.args.table.now)) (c.in_ok-key.ensures.ok ∙ c.key.ensures.key)

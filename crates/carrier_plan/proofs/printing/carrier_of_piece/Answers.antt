use Rattle.std.proofs.Common.{◌≡◌, ◌∙◌, ap, refl}
use Rattle.toml.specs.Data.{depth, table}
use Rattle.toml.specs.View.{table_view}
use Rattle.toml.proofs.Views.{view-Table}
use Rattle.carrier_plan.specs.declared.version.Version.TheVariants.{One}
use Rattle.carrier_plan.specs.PlanOf.{carrier_of, carrier_in}
use Rattle.carrier_plan.proofs.Values.{carrier_of_piece_reads, carrier_of_piece_depth, piece_members}
use Rattle.carrier_plan.proofs.printing.carrier_of_piece.Goals as goal

-- the table that was built
built : (c : goal.In_ok-put-2) → table_view c.put-2.new.table ≡ piece_members c.args.carrier.now c.args.piece
built c = rw (c.in_ok-put-2.ensures, c.number-2.ensures.value, c.in_ok-put.ensures, c.number.ensures.value, c.in_ok-table.ensures.members) refl

pub returns-clause-reads : goal.returns-clause-reads
returns-clause-reads c i =
    let range = c.in_ok-table.ensures.range in
    ap (carrier_of One i) (view-Table c.put-2.new.table) ∙ ap (carrier_in One i) (built c)
    ∙ carrier_of_piece_reads i c.args.carrier.now c.args.piece c.requires range.0 range.1 range.2 c.number.ensures.range c.number-2.ensures.range

pub returns-clause-depth : goal.returns-clause-depth
returns-clause-depth c = ap depth (view-Table c.put-2.new.table) ∙ ap (λ keys. depth (table keys)) (built c) ∙ carrier_of_piece_depth c.args.carrier.now c.args.piece

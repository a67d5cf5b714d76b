use Rattle.std.proofs.Common.{◌≡◌, ◌∙◌, ap, Ok, refl}
use Rattle.toml.specs.View.{view, table_view}
use Rattle.toml.proofs.Views.{view-Table}
use Rattle.carrier_plan.specs.declared.version.Version.TheVariants.{Two}
use Rattle.carrier_plan.specs.PlanOf.{carrier_of, carrier_in}
use Rattle.carrier_plan.proofs.Values.{ReadsPieces, carrier_of_pieces_reads, carrier_of_pieces_depth, pieces_members}
use Rattle.carrier_plan.proofs.printing.carrier_of_pieces.Goals as goal

-- the table that was built
built : (c : goal.In_ok-put) → table_view c.put.new.table ≡ pieces_members c.args.carrier.now (view c.in_ok-pieces.pieces)
built c = rw (c.in_ok-put.ensures, c.in_ok-table.ensures.members) refl

pub returns-clause-reads : goal.returns-clause-reads
returns-clause-reads c i =
    let range = c.in_ok-table.ensures.range in
    let pieces : ReadsPieces (view c.in_ok-pieces.pieces) c.args.carrier.now.pieces = λ spot. c.in_ok-pieces.ensures.reads spot ∙ ap Ok c.as_slice.ensures in
    ap (carrier_of Two i) (view-Table c.put.new.table) ∙ ap (carrier_in Two i) (built c)
    ∙ carrier_of_pieces_reads i c.args.carrier.now (view c.in_ok-pieces.pieces) pieces range.0 range.1 range.2

pub returns-clause-depth : goal.returns-clause-depth
returns-clause-depth c = rw (view-Table c.put.new.table, built c) (carrier_of_pieces_depth c.args.carrier.now (view c.in_ok-pieces.pieces) c.in_ok-pieces.ensures.depth)

use Rattle.std.proofs.Common.{◌∙◌, ap, arith, string_bytes}
use Rattle.toml.specs.Data.{depth}
use Rattle.toml.proofs.Views.{view-String}
use Rattle.carrier_plan.specs.Keys.{address_of}
use Rattle.carrier_plan.proofs.Values.{address_reads}
use Rattle.carrier_plan.proofs.printing.address.Goals as goal

pub returns-clause-reads : goal.returns-clause-reads
returns-clause-reads c spot =
    ap (address_of spot) (view-String c.in_ok-digits.digits)
    ∙ address_reads c.args.octets.now (string_bytes c.in_ok-digits.digits) c.in_ok-digits.ensures c.requires (λ i. omega (arith, c.type_inv.octets i)) spot

pub returns-clause-depth : goal.returns-clause-depth
returns-clause-depth c = ap depth (view-String c.in_ok-digits.digits)

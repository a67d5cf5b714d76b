use Rattle.std.proofs.Common.{◌∙◌, ap, string_bytes}
use Rattle.std.proofs.lemmas.Str.{IsUtf8-string_bytes}
use Rattle.carrier_plan.specs.Tables.{written_version}
use Rattle.carrier_plan.proofs.Octets.{printed_plan}
use Rattle.carrier_plan.proofs.printing.print.Goals as goal

pub returns-in-Ok-clause-reads : goal.returns-in-Ok-clause-reads
returns-in-Ok-clause-reads c =
    rw c.into_bytes.ensures.value (λ short. printed_plan (string_bytes c.in-Ok.text) _ c.args.plan.now short (IsUtf8-string_bytes c.in-Ok.text) (c.in-Ok.ensures.reads_back c.in_ok-table.ensures.depth) c.in_ok-table.ensures.reads)

pub returns-in-Ok-clause-version : goal.returns-in-Ok-clause-version
returns-in-Ok-clause-version c =
    rw c.into_bytes.ensures.value (ap written_version (c.in-Ok.ensures.reads_back c.in_ok-table.ensures.depth) ∙ c.in_ok-table.ensures.version)

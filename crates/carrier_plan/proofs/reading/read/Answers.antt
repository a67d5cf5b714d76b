use Rattle.std.proofs.Common.{◌≡◌, ◌∙◌, ap, sym, Some, None}
use Rattle.std.proofs.lemmas.Bool.{false≢true}
use Rattle.toml.specs.Parse.{parse_document}
use Rattle.toml.specs.View.{table_view}
use Rattle.carrier_plan.specs.PlanOf.{plan_of, plan_of_document, plan_in}
use Rattle.carrier_plan.proofs.Octets.{plan_of_text, plan_of_no_text, plan_given, fault_given}
use Rattle.carrier_plan.proofs.reading.read.Goals as goal

pub returns-in_default-clause-fault : goal.returns-in_default-clause-fault
returns-in_default-clause-fault c = plan_of_no_text c.args.octets.now c.if-octets-gt-LONGEST.false c.in_default.ensures.cases.0

pub returns-in-Ok-table_from_str-clause-plan : goal.returns-in-Ok-table_from_str-clause-plan
returns-in-Ok-table_from_str-clause-plan c =
    let text = c.in-Ok.ensures.cases in
    let parsed : parse_document c.args.octets.now ≡ Some (table_view c.in-Ok-table_from_str.table) = ap parse_document (sym text.0) ∙ c.in-Ok-table_from_str.ensures.ok in
    plan_given c.plan_in.result (plan_of c.args.octets.now) (plan_in (table_view c.in-Ok-table_from_str.table)) (plan_of_text c.args.octets.now c.if-octets-gt-LONGEST.false text.1 ∙ ap plan_of_document parsed) c.plan_in.ensures

pub returns-in-Ok-table_from_str-clause-fault : goal.returns-in-Ok-table_from_str-clause-fault
returns-in-Ok-table_from_str-clause-fault c =
    let text = c.in-Ok.ensures.cases in
    let parsed : parse_document c.args.octets.now ≡ Some (table_view c.in-Ok-table_from_str.table) = ap parse_document (sym text.0) ∙ c.in-Ok-table_from_str.ensures.ok in
    fault_given c.plan_in.result (plan_of c.args.octets.now) (plan_in (table_view c.in-Ok-table_from_str.table)) (plan_of_text c.args.octets.now c.if-octets-gt-LONGEST.false text.1 ∙ ap plan_of_document parsed) c.plan_in.ensures

pub returns-in-Err-2-clause-fault : goal.returns-in-Err-2-clause-fault
returns-in-Err-2-clause-fault c =
    let text = c.in-Ok.ensures.cases in
    let refused : parse_document c.args.octets.now ≡ None = ap parse_document (sym text.0) ∙ c.in-Err.ensures.refused (λ memory. false≢true (c.if-is_memory.ensures.1 memory)) in
    plan_of_text c.args.octets.now c.if-octets-gt-LONGEST.false text.1 ∙ ap plan_of_document refused

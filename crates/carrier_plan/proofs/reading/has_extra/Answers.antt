use Rattle.std.proofs.Common.{not, ◌∙◌, rules}
use borrow.Author.Tests.{tests}
use Rattle.std.specs.BTreeMap as tree
use Rattle.std.specs.String.{string_bytes}
use Rattle.std.proofs.lemmas.Iterator.Consumers.{YieldsList-from_rest}
use Rattle.std.proofs.lemmas.Iterator.Search.{any_from_yields_List}
use Rattle.carrier_plan.specs.PlanOf.{is_known}
use Rattle.carrier_plan.proofs.Texts.{list_any-keys_in}
use Rattle.carrier_plan.proofs.reading.has_extra.Goals as goal

pub returns : goal.returns
returns c =
    any_from_yields_List (λ k. not (is_known c.args.fields.now (string_bytes k))) _ _ _ c.any.ensures.ran (YieldsList-from_rest (tree.keys c.args.table.now) c.keys.ensures.rest) (λ x b q k. search (rules, tests))
    ∙ list_any-keys_in (λ k. not (is_known c.args.fields.now k)) c.args.table.now.entries

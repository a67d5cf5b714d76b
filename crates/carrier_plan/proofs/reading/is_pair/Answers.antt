use Rattle.std.proofs.Common.{◌∙◌, ap, sym, arith}
use Rattle.toml.specs.View.{view, items_view}
use Rattle.toml.proofs.Views.{view-Array}
use Rattle.carrier_plan.specs.PlanOf.{is_pair, are_integers}
use Rattle.carrier_plan.proofs.Elements.{pair_of_two, pair_of_other}
use Rattle.carrier_plan.proofs.reading.is_pair.Goals as goal

pub returns-then-len-ne2 : goal.returns-then-len-ne2
returns-then-len-ne2 c =
    let seen = ap view c.in-Array.is ∙ view-Array c.in-Array.numbers in
    pair_of_other c.in-Array.numbers.items (λ e. omega arith) ∙ sym (ap is_pair seen)

pub returns : goal.returns
returns c =
    let seen = ap view c.in-Array.is ∙ view-Array c.in-Array.numbers in
    c.are_integers.ensures ∙ ap (λ vs. are_integers (items_view vs)) c.deref.ensures.value ∙ pair_of_two c.in-Array.numbers.items (omega arith) ∙ sym (ap is_pair seen)

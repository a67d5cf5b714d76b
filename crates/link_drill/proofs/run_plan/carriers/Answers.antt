use Rattle.std.proofs.Common.{◌++◌, ◌∷◌, [], List, map, sym, ap, ◌∙◌, arith}
use Rattle.std.specs.List.{range_with_len}
use Rattle.std.proofs.lemmas.List.FromFn.{map-range_with_len_more}
use Rattle.carrier_plan.specs.declared.plan.Carrier.{Carrier}
use Rattle.link_drill.specs.DrillPlan.{drill_carrier}
use Rattle.link_drill.proofs.run_plan.carriers.Goals as goal

pub loop-c-preserved : goal.loop-c-preserved
loop-c-preserved c =
    let n = c.loop-c.c in
    c.in_ok-push.ensures.ok ∙ ap (λ (xs : List Carrier). xs ++ c.in_ok-carrier.field-0 ∷ []) c.loop-c.invariant
    ∙ ap (λ (x : Carrier). map drill_carrier (range_with_len 0 n) ++ x ∷ []) c.in_ok-carrier.ensures ∙ sym (map-range_with_len_more drill_carrier 0 n n (omega arith))

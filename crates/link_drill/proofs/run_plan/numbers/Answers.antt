use Rattle.std.proofs.Common.{◌≡◌, ◌+◌, ◌++◌, ◌∷◌, [], ℕ, List, sym, ap, ◌∙◌, arith}
use Rattle.std.specs.List.{range_with_len}
use Rattle.link_drill.proofs.Ranges.{range_more}
use Rattle.link_drill.proofs.run_plan.numbers.Goals as goal

pub loop-number-preserved : goal.loop-number-preserved
loop-number-preserved c =
    let n = c.loop-number.number in
    let here : n ≡ 0 + n = omega arith in
    c.in_ok-push.ensures.ok ∙ ap (λ (xs : List ℕ). xs ++ n ∷ []) c.loop-number.invariant ∙ ap (λ x. range_with_len 0 n ++ x ∷ []) here ∙ sym (range_more 0 n)

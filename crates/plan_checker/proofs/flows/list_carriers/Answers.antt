use Rattle.std.proofs.Common.{◌≡◌, true}
use Rattle.std.proofs.lemmas.Bool.Decides.{Decides-like}
use Rattle.plan_checker.proofs.flows.list_carriers.Goals as goal
use Rattle.plan_checker.proofs.flows.list_carriers.Goals.{then-list_in_order, else-list_in_order}

pub returns-then-list_only : goal.returns-then-list_only
returns-then-list_only c =
    elim c.if-list_in_order.branch [
      | then-list_in_order w ↦
          let ordered = c.list_in_order.ensures.0 w.if-list_in_order.true in
          let passes : w.list_only.result ≡ true = cc in
          let known = w.list_only.ensures.0 passes in
          Decides-like _ (λ each. (ordered, known, each)) (λ h. h.2) c.list_each_once.ensures
      | else-list_in_order w ↦ absurd (cc)
    ]

use Rattle.std.proofs.Common.{◌≡◌, true}
use Rattle.std.proofs.lemmas.Bool.Decides.{Decides-like}
use Rattle.plan_checker.proofs.flows.share_out_carriers.Goals as goal
use Rattle.plan_checker.proofs.flows.share_out_carriers.Goals.{then-have_own_ids, else-have_own_ids}

pub returns-then-list_carriers : goal.returns-then-list_carriers
returns-then-list_carriers c =
    elim c.if-have_own_ids.branch [
      | then-have_own_ids w ↦
          let own = c.have_own_ids.ensures.0 w.if-have_own_ids.true in
          let passes : w.list_carriers.result ≡ true = cc in
          let listed = w.list_carriers.ensures.0 passes in
          Decides-like _
          (λ one. record { small_ids = own.0; distinct_ids = own.1; ascending = listed.0; known = listed.1; one_flow = listed.2; one_control = one })
          (λ h. h.one_control)
          c.have_one_control.ensures
      | else-have_own_ids w ↦ absurd (cc)
    ]

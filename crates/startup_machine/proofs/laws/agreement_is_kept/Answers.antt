use Rattle.std.proofs.Common.{refl, subst}
use Rattle.startup_machine.specs.declared.offer.Offer.{Offer}
use Rattle.startup_machine.specs.Offers.{IsAtOrBelow}
use Rattle.startup_machine.specs.World.{begun, run}
use Rattle.startup_machine.proofs.Agreements.{Agreed-begun, Agreed-happens, Agreed-run, HoldSameOffer-agreed}
use Rattle.startup_machine.proofs.Capabilities.{caps-run}
use Rattle.startup_machine.proofs.laws.agreement_is_kept.Goals as goal

pub returns-clause-begun : goal.returns-clause-begun
returns-clause-begun c = Agreed-begun

pub returns-clause-kept : goal.returns-clause-kept
returns-clause-kept c = Agreed-happens

pub returns-clause-same : goal.returns-clause-same
returns-clause-same c = λ one two events on first second.
    let start = begun one two in
    let w = run events start in
    let same = HoldSameOffer-agreed w (Agreed-run events start on (Agreed-begun one two)) first second in
    let caps = caps-run events start one two (refl, refl) in (
      same.0,
      subst (λ (x : Offer). IsAtOrBelow w.one.end.offer x) caps.0 same.1,
      subst (λ (x : Offer). IsAtOrBelow w.one.end.offer x) caps.1 same.2,
    )

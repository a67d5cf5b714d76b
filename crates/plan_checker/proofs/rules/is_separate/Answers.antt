use Rattle.std.proofs.Common.{IsTrue, ◌↔◌, List, subst}
use Rattle.std.specs.List.{HoldsAt}
use Rattle.carrier_plan.specs.declared.plan.Carrier.{Carrier}
use Rattle.plan_checker.specs.Container.{HasSeparateBits}
use Rattle.plan_checker.proofs.rules.is_separate.Goals as goal

pub returns : goal.returns
returns c = subst (λ (cs : List Carrier). IsTrue c.has_separate_bits.result ↔ HoldsAt (HasSeparateBits cs c.args.i) cs c.args.i) c.as_slice.ensures c.has_separate_bits.ensures

use Rattle.std.proofs.Common.{◌≡◌, ◌+◌, ℕ, length, Some, slice_get, sym, ap, subst, arith}
use Rattle.std.proofs.lemmas.Option.{slice_get_within}
use Rattle.carrier_plan.specs.declared.plan.Carrier.{Carrier}
use Rattle.carrier_plan.specs.declared.plan.Plan.{Plan}
use Rattle.link_receiver.specs.Sessions.{IsBegunCarrier}
use Rattle.link_receiver.specs.declared.carrier_in_hand.CarrierInHand.{CarrierInHand}
use Rattle.link_receiver.proofs.Items.{Fills, at_place, fills-none, fills-push}
use Rattle.link_receiver.proofs.carrier_in_hand.carriers_in_hand.Goals as goal

pub loop-c-init : goal.loop-c-init
loop-c-init c =
    let is_begun : ℕ → CarrierInHand → Type 0 = λ i kept. (carrier : Carrier) → slice_get c.args.checked.now.carriers i ≡ Some carrier → IsBegunCarrier c.args.checked.now i carrier kept in
    subst (Fills is_begun 0) (sym c.in_ok-kept.ensures.items) (fills-none is_begun)

pub loop-c-preserved : goal.loop-c-preserved
loop-c-preserved c =
    let p = c.args.checked.now in
    let is_begun : ℕ → CarrierInHand → Type 0 = λ i kept. (carrier : Carrier) → slice_get p.carriers i ≡ Some carrier → IsBegunCarrier p i carrier kept in
    subst (Fills is_begun (c.loop-c.c + 1)) (sym c.in_ok-push.ensures.items)
    (fills-push is_begun c.loop-c.c c.loop-c.kept.items c.in_ok-begin.field-0 c.loop-c.invariant
    (λ carrier read. at_place (λ (x : Carrier). IsBegunCarrier p c.loop-c.c x c.in_ok-begin.field-0) p.carriers c.loop-c.c carrier read c.in_ok-begin.ensures))

pub returns : goal.returns
returns c =
    let same = ap (λ (p : Plan). length p.carriers) c.plan.ensures.same in
    let is = c.loop-c.invariant in
    let count = c.len-carriers.ensures in
    record {
      as_many = omega (arith, is.as_many, same, count, c.loop-c-test.false, c.loop-c.auto.c-end);
      each = λ i carrier read. let inside = slice_get_within c.args.checked.now.carriers i carrier read in λ d. is.each i (omega (arith, inside, same, count, c.loop-c-test.false)) d carrier read;
    }

use Rattle.std.proofs.Common.{◌≡◌, ℕ, List, None, Some, length, sym, ap, ◌∙◌, subst, arith}
use Rattle.carrier_plan.specs.declared.plan.Plan.{Plan}
use Rattle.link_base.specs.WordSize.{IsWordSize}
use Rattle.plan_checker.specs.Rules.{IsGood}
use Rattle.plan_checker.specs.WordSize.{word_size}
use Rattle.link_receiver.specs.Flows.{HaveBegun}
use Rattle.link_receiver.specs.Sessions.{CarriersHaveBegun}
use Rattle.link_receiver.proofs.Begun.{good_word_size, session-begun, stands-begun}
use Rattle.link_receiver.proofs.session.Session.begin.Goals as goal

pub new-requires : goal.new-requires
new-requires g c = (
  omega arith,
  subst IsWordSize (sym c.requires.words) (good_word_size c.args.checked.now (subst IsGood c.plan.ensures.same c.plan.ensures.good)),
)

pub invariant_of-result : goal.invariant_of-result
invariant_of-result g c =
    let p = c.in_ok-copy.field-0 in
    let copy = c.in_ok-copy.ensures in
    let good = subst IsGood (c.plan.ensures.same ∙ sym copy) c.plan.ensures.good in
    let flows = subst (λ (q : Plan). HaveBegun q c.args.frames c.in_ok-flows_in_hand.field-0.items) (sym copy) c.in_ok-flows_in_hand.ensures in
    let carriers = subst (λ (q : Plan). CarriersHaveBegun q c.in_ok-carriers_in_hand.field-0.items) (sym copy) c.in_ok-carriers_in_hand.ensures in
    let room = c.in_ok-with_capacity.ensures.exact in
    let count = c.len-carriers.ensures in
    let same = ap (λ (q : Plan). length q.carriers) (copy ∙ sym c.plan.ensures.same) in (
      session-begun p c.args.frames c.in_ok-flows_in_hand.field-0.items c.in_ok-carriers_in_hand.field-0.items c.in_ok-with_capacity.field-0.items good c.requires.run flows carriers,
      c.requires.words ∙ ap (λ (q : Plan). word_size q.option) (sym copy),
      omega (arith, room, count, same),
      λ word is. absurd (let none : None ≡ Some word = is in cc),
    )

pub returns-clause-stands : goal.returns-clause-stands
returns-clause-stands g c =
    let p = c.in_ok-copy.field-0 in
    let copy = c.in_ok-copy.ensures in
    let good = subst IsGood (c.plan.ensures.same ∙ sym copy) c.plan.ensures.good in
    let flows = subst (λ (q : Plan). HaveBegun q c.args.frames c.in_ok-flows_in_hand.field-0.items) (sym copy) c.in_ok-flows_in_hand.ensures in
    let carriers = subst (λ (q : Plan). CarriersHaveBegun q c.in_ok-carriers_in_hand.field-0.items) (sym copy) c.in_ok-carriers_in_hand.ensures in
    stands-begun p c.args.frames c.in_ok-flows_in_hand.field-0.items c.in_ok-carriers_in_hand.field-0.items c.in_ok-with_capacity.field-0.items good c.requires.run flows carriers
    c.held_is_received.ensures c.in_ok-with_capacity.ensures.items

use Rattle.std.proofs.Common.{◌<◌, length, Contains, refl, sym, subst}
use Rattle.std.specs.List.{HoldsAt}
use Rattle.carrier_plan.specs.declared.plan.Flow.{Flow}
use Rattle.carrier_plan.specs.declared.plan.Mode.TheVariants.{Tunnel, Bytes}
use Rattle.carrier_plan.specs.declared.plan.Plan.{Plan}
use Rattle.plan_checker.proofs.Places.{at_place}
use Rattle.roe_mappers.proofs.RouteBits.{HasRoute-moved, HasRoute-whole, carrier_listed}
use Rattle.roe_mappers.proofs.route.Route.of.Goals as goal

pub whole_container-requires-clause-listed : goal.whole_container-requires-clause-listed
whole_container-requires-clause-listed c =
    let q = c.plan-plan.result.now in
    let listed = subst (λ (r : Plan). HoldsAt (λ (f : Flow). Contains f.carriers c.args.c) r.flows c.args.f) (sym c.plan-plan.ensures.same) c.requires.listed in
    at_place (λ (f : Flow). Contains f.carriers c.args.c) q.flows c.args.f c.at.result.now c.at.ensures listed

pub moved_pieces-requires-clause-carrier : goal.moved_pieces-requires-clause-carrier
moved_pieces-requires-clause-carrier c =
    let q = c.plan-plan.result.now in
    let listed = subst (λ (r : Plan). HoldsAt (λ (f : Flow). Contains f.carriers c.args.c) r.flows c.args.f) (sym c.plan-plan.ensures.same) c.requires.listed in
    carrier_listed q c.args.f c.args.c c.plan-plan.ensures.good (subst (λ (r : Plan). c.args.f < length r.flows) (sym c.plan-plan.ensures.same) c.requires.flow) listed

pub moved_pieces-requires-in-Bytes-clause-carrier : goal.moved_pieces-requires-in-Bytes-clause-carrier
moved_pieces-requires-in-Bytes-clause-carrier c =
    let q = c.plan-plan.result.now in
    let listed = subst (λ (r : Plan). HoldsAt (λ (f : Flow). Contains f.carriers c.args.c) r.flows c.args.f) (sym c.plan-plan.ensures.same) c.requires.listed in
    carrier_listed q c.args.f c.args.c c.plan-plan.ensures.good (subst (λ (r : Plan). c.args.f < length r.flows) (sym c.plan-plan.ensures.same) c.requires.flow) listed

pub returns-in-Aware : goal.returns-in-Aware
returns-in-Aware c = HasRoute-whole c.plan-plan.result.now c.args.checked.now c.plan-plan.ensures.same c.args.f c.args.c c.whole_container.result c.at.result.now c.at.ensures c.whole_container.ensures

pub returns-in-Tunnel : goal.returns-in-Tunnel
returns-in-Tunnel c =
    let q = c.plan-plan.result.now in
    let listed = subst (λ (r : Plan). HoldsAt (λ (f : Flow). Contains f.carriers c.args.c) r.flows c.args.f) (sym c.plan-plan.ensures.same) c.requires.listed in
    let lt = carrier_listed q c.args.f c.args.c c.plan-plan.ensures.good (subst (λ (r : Plan). c.args.f < length r.flows) (sym c.plan-plan.ensures.same) c.requires.flow) listed in
    HasRoute-moved q c.args.checked.now c.plan-plan.ensures.same c.args.f c.args.c c.moved_pieces.result c.plan-plan.ensures.good lt Tunnel c.in-Tunnel.is (λ f. refl) (λ f x. refl) c.moved_pieces.ensures

pub returns-in-Bytes : goal.returns-in-Bytes
returns-in-Bytes c =
    let q = c.plan-plan.result.now in
    let listed = subst (λ (r : Plan). HoldsAt (λ (f : Flow). Contains f.carriers c.args.c) r.flows c.args.f) (sym c.plan-plan.ensures.same) c.requires.listed in
    let lt = carrier_listed q c.args.f c.args.c c.plan-plan.ensures.good (subst (λ (r : Plan). c.args.f < length r.flows) (sym c.plan-plan.ensures.same) c.requires.flow) listed in
    HasRoute-moved q c.args.checked.now c.plan-plan.ensures.same c.args.f c.args.c c.moved_pieces-in-Bytes.result c.plan-plan.ensures.good lt Bytes c.in-Bytes.is (λ f. refl) (λ f x. refl) c.moved_pieces-in-Bytes.ensures

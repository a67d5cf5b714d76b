use Rattle.std.proofs.Common.{◌≡◌, ◌==◌, ◌+◌, ◌*◌, ◌<◌, cond, [], ◌∷◌, length, arith, refl, ap, subst, ◌∙◌}
use Rattle.std.specs.List.{before_first}
use Rattle.carrier_plan.specs.declared.plan.Carrier.{Carrier}
use Rattle.plan_checker.specs.Container.{pieces_size}
use Rattle.plan_checker.specs.Flows.{bits_of_carriers, control_octets}
use Rattle.plan_checker.proofs.Places.{holds_at}
use Rattle.roe_mappers.specs.Routes.{IsRoute}
use Rattle.roe_mappers.proofs.Carried.{known}
use Rattle.roe_mappers.proofs.RouteBits.{IsRoute-whole, ends_within, few_bits_of}
use Rattle.roe_mappers.proofs.route.whole_container.Goals as goal

pub at-requires : goal.at-requires
at-requires c =
    let p = c.args.plan.now in
    let listed = c.requires.listed in
    subst (λ n. n < length p.carriers) listed.2 (known p c.args.flow.now c.requires.good c.requires.flow listed.0 c.args.c listed.1)

pub bits_of_container-size-requires : goal.bits_of_container-size-requires
bits_of_container-size-requires c =
    let p = c.args.plan.now in
    let f = c.args.flow.now in
    let ends = ends_within p f c.args.c c.at.result.now c.requires.good c.requires.flow c.requires.mode c.requires.listed c.at.ensures in
    omega (arith, ends, few_bits_of p f c.requires.good c.requires.flow c.requires.mode, ap pieces_size c.as_slice.ensures)

pub returns : goal.returns
returns c =
    let p = c.args.plan.now in
    let f = c.args.flow.now in
    let carrier = c.at.result.now in
    let start = 8 * c.control_octets.result + c.bits_before.result in
    let size = c.bits_of_container-size.result in
    let word : c.control_octets.result ≡ control_octets p f = c.control_octets.ensures.value ∙ ap (λ y. cond f.control y 0) c.octets_of_word.ensures.value in
    let from : start ≡ 8 * control_octets p f + bits_of_carriers p (before_first (λ n. n == c.args.c) f.carriers) = omega (arith, word, c.bits_before.ensures.value) in
    let sized = c.bits_of_container-size.ensures ∙ ap pieces_size c.as_slice.ensures in
    holds_at (λ (x : Carrier). IsRoute p f x (record { start = start; size = size } ∷ [])) p.carriers c.args.c carrier c.at.ensures
    (IsRoute-whole p f c.args.c carrier c.requires.good c.requires.flow c.requires.mode c.requires.listed c.at.ensures start size (record { start = start; size = size } ∷ []) refl from sized)

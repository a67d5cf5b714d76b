use Rattle.std.proofs.Common.{◌≤◌, length, slice_index, arith}
use Rattle.std.proofs.lemmas.List.Sums.{sum_by_more}
use Rattle.carrier_plan.specs.declared.plan.Carrier.{Carrier}
use Rattle.plan_checker.specs.Container.{container_size}
use Rattle.plan_checker.specs.Flows.{container_sizes}
use Rattle.plan_checker.proofs.Places.{at_place, number_at}
use Rattle.plan_checker.proofs.payload.bits_of_carriers.Goals as goal

pub bits_of_container-requires : goal.bits_of_container-requires
bits_of_container-requires c =
    let p = c.args.plan.now in
    let known = c.requires.known c.loop-number.number-index 0 (omega arith) in
    at_place (λ (a : Carrier). length a.pieces ≤ 4) p.carriers _ _ c.at.ensures (λ d. c.requires.pieces _ d known)

pub loop-number-preserved : goal.loop-number-preserved
loop-number-preserved c =
    let p = c.args.plan.now in
    let i = c.loop-number.number-index in
    let step = sum_by_more (slice_index (container_sizes p)) c.args.numbers.now i 0 (omega arith) in
    let size = number_at container_size p.carriers _ _ c.at.ensures in
    (grind (arith, step, size), omega arith)

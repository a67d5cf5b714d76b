use Rattle.std.proofs.Common.{◌≡◌, ◌+◌, ◌*◌, ◌++◌, ◌<◌, ◌≤◌, All, length, take, get_or, slice_index, sum_by, flat_map, arith, refl, sym, subst, ap, ◌∙◌, length-append}
use Rattle.std.proofs.lemmas.List.{take_all}
use Rattle.std.proofs.lemmas.List.Sums.{sum_by_more_le}
use Rattle.plan_checker.specs.Container.{container_size, pieces_size}
use Rattle.plan_checker.specs.Flows.{container_sizes}
use Rattle.plan_checker.proofs.Places.{number_at}
use Rattle.roe_mappers.specs.CarriedBits.{bits_of_carrier, bits_of_piece}
use Rattle.roe_mappers.specs.MovedBits.{TakesBits}
use Rattle.roe_mappers.proofs.Moving.{TakesBits-join, TakesBits-none, flat_map-take_more}
use Rattle.roe_mappers.proofs.Carried.{bits_of_carrier-at, known, length-carried, pieces_within}
use Rattle.roe_mappers.proofs.containers.take_containers.Goals as goal

pub loop-number-init : goal.loop-number-init
loop-number-init g c = (refl, TakesBits-none g.row.Y c.args.frame.now c.args.octets.now 0)

pub at-carrier-requires : goal.at-carrier-requires
at-carrier-requires g c =
    let p = c.args.plan.now in
    subst (λ ns. All (λ n. n < length p.carriers) ns) (sym c.as_slice-number-items.ensures) (known p c.args.flow.now c.requires.good c.requires.flow) c.loop-number.number-index 0 (omega arith)

pub take_container-end-requires : goal.take_container-end-requires
take_container-end-requires g c =
    let p = c.args.plan.now in
    let ns = c.as_slice-number-items.result.now in
    let i = c.loop-number.number-index in
    let n = get_or ns i 0 in
    let carrier = c.at-carrier.result.now in
    let lt : n < length p.carriers =
    subst (λ ms. All (λ m. m < length p.carriers) ms) (sym c.as_slice-number-items.ensures) (known p c.args.flow.now c.requires.good c.requires.flow) i 0 (omega arith) in
    let within = subst (λ ps. All (λ q. q.start + q.size ≤ 120 * g.row.Y) ps) (sym c.as_slice.ensures) (pieces_within p n carrier g.row.Y c.requires.good lt c.at-carrier.ensures c.requires.word) in
    let size = number_at container_size p.carriers n carrier c.at-carrier.ensures in
    let more = sum_by_more_le (slice_index (container_sizes p)) ns i 0 (omega arith) in
    let whole = subst (λ ms. sum_by (slice_index (container_sizes p)) ms ≤ 8 * length c.args.octets.now) (sym c.as_slice-number-items.ensures) c.requires.room in
    let so_far = length-carried p (take i ns) in
    let pieces = ap pieces_size c.as_slice.ensures in
    (omega arith, (within, (omega (arith, size, more, whole, so_far, pieces, c.loop-number.invariant.0, c.loop-number.auto.octets), omega (arith, c.requires.short, c.loop-number.auto.octets))))

pub loop-number-preserved : goal.loop-number-preserved
loop-number-preserved g c =
    let p = c.args.plan.now in
    let ns = c.as_slice-number-items.result.now in
    let i = c.loop-number.number-index in
    let n = get_or ns i 0 in
    let so_far = flat_map (bits_of_carrier p) (take i ns) in
    let here : bits_of_carrier p n ≡ flat_map bits_of_piece c.as_slice.result.now = bits_of_carrier-at p n c.at-carrier.result.now c.at-carrier.ensures ∙ ap (flat_map bits_of_piece) (sym c.as_slice.ensures) in
    let bits : flat_map (bits_of_carrier p) (take (i + 1) ns) ≡ so_far ++ bits_of_carrier p n = flat_map-take_more (bits_of_carrier p) ns i 0 (omega arith) in
    let long = ap length bits ∙ length-append so_far (bits_of_carrier p n) in
    let this = subst (λ bs. TakesBits g.row.Y c.args.frame.now bs c.loop-number.octets c.take_container-end.new.octets c.loop-number.end) (sym here) c.take_container-end.ensures.taken in
    let both = TakesBits-join g.row.Y c.args.frame.now so_far (bits_of_carrier p n) c.args.octets.now c.loop-number.octets c.take_container-end.new.octets 0 c.loop-number.end (omega (arith, c.loop-number.invariant.0)) c.loop-number.invariant.1 this in (
      omega (arith, long, c.loop-number.invariant.0, c.take_container-end.ensures.end, ap length here),
      subst (λ bs. TakesBits g.row.Y c.args.frame.now bs c.args.octets.now c.take_container-end.new.octets 0) (sym bits) both,
    )

pub returns-clause-end : goal.returns-clause-end
returns-clause-end g c =
    let p = c.args.plan.now in
    let all = take_all c.loop-number.number-index c.as_slice-number-items.result.now (omega arith) ∙ c.as_slice-number-items.ensures in
    subst (λ ns. c.loop-number.end ≡ length (flat_map (bits_of_carrier p) ns)) all c.loop-number.invariant.0

pub returns-clause-taken : goal.returns-clause-taken
returns-clause-taken g c =
    let p = c.args.plan.now in
    let all = take_all c.loop-number.number-index c.as_slice-number-items.result.now (omega arith) ∙ c.as_slice-number-items.ensures in
    subst (λ ns. TakesBits g.row.Y c.args.frame.now (flat_map (bits_of_carrier p) ns) c.args.octets.now c.loop-number.octets 0) all c.loop-number.invariant.1

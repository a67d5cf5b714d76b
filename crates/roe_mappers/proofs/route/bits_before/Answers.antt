use Rattle.std.proofs.Common.{◌==◌, ◌<◌, All, length, take, get_or, slice_index, arith, refl, sym, ap, subst, ◌∙◌, below_more}
use Rattle.std.specs.List.{position_or_len}
use Rattle.std.proofs.lemmas.Bool.{eq-eqb, ne_eqb}
use Rattle.std.proofs.lemmas.List.Sums.{position_or_len_is, sum_by-take-le, sum_by_more, sum_by_more_le}
use Rattle.plan_checker.specs.Container.{container_size, pieces_size}
use Rattle.plan_checker.specs.Flows.{bits_of_carriers, container_sizes}
use Rattle.plan_checker.proofs.Places.{number_at}
use Rattle.roe_mappers.proofs.Carried.{known}
use Rattle.roe_mappers.proofs.RouteBits.{few_bits_of}
use Rattle.roe_mappers.proofs.route.bits_before.Goals as goal

pub loop-number-init : goal.loop-number-init
loop-number-init c = (refl, λ k lt. absurd (omega arith))

pub returns-then-number-c-clause-value : goal.returns-then-number-c-clause-value
returns-then-number-c-clause-value c =
    let p = c.args.plan.now in
    let ns = c.as_slice-number-items.result.now in
    let i = c.loop-number.number-index in
    let place = position_or_len_is (λ n. n == c.args.c) ns i 0 (omega arith) c.loop-number.invariant.1 (λ _. eq-eqb (get_or ns i 0) c.args.c c.if-number-c.true) in
    c.loop-number.invariant.0 ∙ ap (λ m. bits_of_carriers p (take m ns)) (sym place) ∙ ap (λ ms. bits_of_carriers p (take (position_or_len (λ n. n == c.args.c) ms) ms)) c.as_slice-number-items.ensures

pub returns-then-number-c-clause-small : goal.returns-then-number-c-clause-small
returns-then-number-c-clause-small c =
    let p = c.args.plan.now in
    let ns = c.as_slice-number-items.result.now in
    let front = sum_by-take-le (slice_index (container_sizes p)) ns c.loop-number.number-index in
    omega (arith, front, c.loop-number.invariant.0, ap (bits_of_carriers p) c.as_slice-number-items.ensures, few_bits_of p c.args.flow.now c.requires.good c.requires.flow c.requires.mode)

pub at-requires : goal.at-requires
at-requires c =
    let p = c.args.plan.now in
    subst (λ ns. All (λ n. n < length p.carriers) ns) (sym c.as_slice-number-items.ensures) (known p c.args.flow.now c.requires.good c.requires.flow) c.loop-number.number-index 0 (omega arith)

pub bits_of_container-bits-requires : goal.bits_of_container-bits-requires
bits_of_container-bits-requires c =
    let p = c.args.plan.now in
    let ns = c.as_slice-number-items.result.now in
    let i = c.loop-number.number-index in
    let more = sum_by_more_le (slice_index (container_sizes p)) ns i 0 (omega arith) in
    let size = number_at container_size p.carriers (get_or ns i 0) c.at.result.now c.at.ensures in
    omega (arith, more, size, ap pieces_size c.as_slice.ensures, ap (bits_of_carriers p) c.as_slice-number-items.ensures, few_bits_of p c.args.flow.now c.requires.good c.requires.flow c.requires.mode)

pub overflow_add-bits : goal.overflow_add-bits
overflow_add-bits c =
    let p = c.args.plan.now in
    let ns = c.as_slice-number-items.result.now in
    let i = c.loop-number.number-index in
    let more = sum_by_more_le (slice_index (container_sizes p)) ns i 0 (omega arith) in
    let size = number_at container_size p.carriers (get_or ns i 0) c.at.result.now c.at.ensures in
    record {
      fits = omega (
        arith,
        more,
        size,
        c.bits_of_container-bits.ensures,
        c.loop-number.invariant.0,
        ap pieces_size c.as_slice.ensures,
        ap (bits_of_carriers p) c.as_slice-number-items.ensures,
        few_bits_of p c.args.flow.now c.requires.good c.requires.flow c.requires.mode,
      );
    }

pub loop-number-preserved : goal.loop-number-preserved
loop-number-preserved c =
    let p = c.args.plan.now in
    let ns = c.as_slice-number-items.result.now in
    let i = c.loop-number.number-index in
    let more = sum_by_more (slice_index (container_sizes p)) ns i 0 (omega arith) in
    let size = number_at container_size p.carriers (get_or ns i 0) c.at.result.now c.at.ensures in
    let other = ne_eqb (get_or ns i 0) c.args.c c.if-number-c.false in (
      omega (arith, more, size, c.bits_of_container-bits.ensures, c.loop-number.invariant.0, ap pieces_size c.as_slice.ensures),
      below_more _ _ c.loop-number.invariant.1 other,
    )

pub returns-clause-value : goal.returns-clause-value
returns-clause-value c =
    let p = c.args.plan.now in
    let ns = c.as_slice-number-items.result.now in
    let i = c.loop-number.number-index in
    let place = position_or_len_is (λ n. n == c.args.c) ns i 0 (omega arith) c.loop-number.invariant.1 (λ lt. absurd (omega arith)) in
    c.loop-number.invariant.0 ∙ ap (λ m. bits_of_carriers p (take m ns)) (sym place) ∙ ap (λ ms. bits_of_carriers p (take (position_or_len (λ n. n == c.args.c) ms) ms)) c.as_slice-number-items.ensures

pub returns-clause-small : goal.returns-clause-small
returns-clause-small c =
    let p = c.args.plan.now in
    let ns = c.as_slice-number-items.result.now in
    let front = sum_by-take-le (slice_index (container_sizes p)) ns c.loop-number.number-index in
    omega (arith, front, c.loop-number.invariant.0, ap (bits_of_carriers p) c.as_slice-number-items.ensures, few_bits_of p c.args.flow.now c.requires.good c.requires.flow c.requires.mode)

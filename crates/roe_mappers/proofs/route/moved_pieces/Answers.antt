use Rattle.std.proofs.Common.{◌≡◌, ◌+◌, ◌*◌, ◌≤◌, ◌++◌, [], ◌∷◌, length, map, take, get_or, All, arith, refl, sym, ap, subst, ◌∙◌, length-set}
use Rattle.std.proofs.lemmas.List.{map-append, take_all, take_more, take_more_set}
use Rattle.carrier_plan.specs.declared.plan.Carrier.{Carrier}
use Rattle.carrier_plan.specs.declared.plan.Piece.{Piece}
use Rattle.plan_checker.specs.Container.{HasPrescribedSize}
use Rattle.plan_checker.specs.Rules.Rule.{ContainerSize}
use Rattle.plan_checker.specs.WordSize.{word_size}
use Rattle.plan_checker.proofs.Places.{at_place, holds_at}
use Rattle.roe_mappers.specs.Routes.{moved_by}
use Rattle.roe_mappers.proofs.Carried.{pieces_within}
use Rattle.roe_mappers.proofs.route.moved_pieces.Goals as goal

pub loop-i-init : goal.loop-i-init
loop-i-init c = (refl, refl)

pub overflow_add-moved : goal.overflow_add-moved
overflow_add-moved c =
    let p = c.args.plan.now in
    let none : Piece = record { start = 0; size = 0 } in
    let within = subst (λ ps. All (λ (q : Piece). q.start + q.size ≤ 120 * word_size p.option) ps) (sym c.as_slice-pieces.ensures) (pieces_within p c.args.c c.at.result.now (word_size p.option) c.requires.good c.requires.carrier c.at.ensures refl) in
    record { fits = omega (arith, within c.loop-i.i none (omega arith), c.octets_of_word.ensures.value, c.octets_of_word.ensures.small) }

pub bounds-moved-i : goal.bounds-moved-i
bounds-moved-i c =
    let p = c.args.plan.now in
    let sized = at_place HasPrescribedSize p.carriers c.args.c c.at.result.now c.at.ensures (c.requires.good ContainerSize c.args.c c.requires.carrier) in
    omega (arith, sized.few_pieces, ap length c.as_slice-pieces.ensures)

pub loop-i-preserved : goal.loop-i-preserved
loop-i-preserved c =
    let p = c.args.plan.now in
    let i = c.loop-i.i in
    let ps = c.as_slice-pieces.result.now in
    let none : Piece = record { start = 0; size = 0 } in
    let sized = at_place HasPrescribedSize p.carriers c.args.c c.at.result.now c.at.ensures (c.requires.good ContainerSize c.args.c c.requires.carrier) in
    let few : length ps ≤ 4 = omega (arith, sized.few_pieces, ap length c.as_slice-pieces.ensures) in
    let n = 8 * c.octets_of_word.result in
    let written = take_more_set c.loop-i.moved i (moved_by n (get_or ps i none)) (omega (arith, c.loop-i.invariant.0)) in
    let more = take_more ps i none (omega arith) in (
      length-set c.loop-i.moved i (moved_by n (get_or ps i none)) ∙ c.loop-i.invariant.0,
      written ∙ ap (λ xs. xs ++ moved_by n (get_or ps i none) ∷ []) c.loop-i.invariant.1 ∙ sym (map-append (moved_by n) (take i ps) (get_or ps i none ∷ [])) ∙ ap (map (moved_by n)) (sym more),
    )

pub returns : goal.returns
returns c = λ d.
    let p = c.args.plan.now in
    let i = c.loop-i.i in
    let ps = c.as_slice-pieces.result.now in
    let carrier = c.at.result.now in
    let end : i ≡ length ps = omega arith in
    let all = take_all i ps (omega arith) in
    let is : carrier ≡ get_or p.carriers c.args.c d = holds_at (λ (x : Carrier). carrier ≡ x) p.carriers c.args.c carrier c.at.ensures refl d in
    let front : take (length ps) c.loop-i.moved ≡ map (moved_by (8 * c.octets_of_word.result)) ps = ap (λ m. take m c.loop-i.moved) (sym end) ∙ c.loop-i.invariant.1 ∙ ap (map (moved_by (8 * c.octets_of_word.result))) all in
    front ∙ ap (map (moved_by (8 * c.octets_of_word.result))) (c.as_slice-pieces.ensures ∙ ap (λ (x : Carrier). x.pieces) is)
    ∙ ap (λ y. map (moved_by (8 * y)) (get_or p.carriers c.args.c d).pieces) c.octets_of_word.ensures.value

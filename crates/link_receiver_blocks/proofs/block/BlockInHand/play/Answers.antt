use Rattle.std.proofs.Common.{◌≡◌, ℕ, ◌-◌, length, get_or, take, length-take, [], ◌∷◌, ◌++◌, drop, subst, arith}
use Rattle.std.specs.Option.{option_copied}
use Rattle.std.proofs.lemmas.Grind.{common_steps}
use Rattle.carrier_plan.specs.declared.plan.Piece.{Piece}
use Rattle.link_receiver_blocks.specs.Containers.{LeavesSamples, container_played, in_hand_after}
use Rattle.link_receiver_blocks.specs.View.{BlockView}
use Rattle.link_receiver_blocks.proofs.Blocks.{few_bits, leave_between, table_length}
use Rattle.link_receiver_blocks.proofs.HeldLemmas.{leaves_gathered, leaves_in_place, whole_again}
use Rattle.link_receiver_blocks.proofs.Pieces.{one_piece}
use Rattle.link_receiver_blocks.proofs.block.BlockInHand.play.Goals as goal

pub index-first-requires : goal.index-first-requires
index-first-requires c =
    let many = table_length c.self.inside.mapping c.self.inside.left.items c.self.invariant.counted in
    let under_way = c.self.invariant.under_way in
    grind (arith, common_steps)

pub index-requires : goal.index-requires
index-requires c =
    let many = table_length c.self.inside.mapping c.self.inside.left.items c.self.invariant.counted in
    let under_way = c.self.invariant.under_way in
    grind (arith, common_steps)

pub overflow_sub-count : goal.overflow_sub-count
overflow_sub-count c =
    let s = c.self.inside in
    (leave_between s.mapping s.left.items s.played c.index-first.result.now c.index.result.now c.self.invariant.rate c.self.invariant.counted c.self.invariant.under_way c.index-first.ensures c.index.ensures).order

pub slice_bounds-out-end : goal.slice_bounds-out-end
slice_bounds-out-end c =
    let s = c.self.inside in
    let leaving = leave_between s.mapping s.left.items s.played c.index-first.result.now c.index.result.now c.self.invariant.rate c.self.invariant.counted c.self.invariant.under_way c.index-first.ensures c.index.ensures in
    let few = leaving.few in
    omega arith

pub slice_bounds-out-end-2 : goal.slice_bounds-out-end-2
slice_bounds-out-end-2 c =
    let s = c.self.inside in
    let leaving = leave_between s.mapping s.left.items s.played c.index-first.result.now c.index.result.now c.self.invariant.rate c.self.invariant.counted c.self.invariant.under_way c.index-first.ensures c.index.ensures in
    let few = leaving.few in
    omega (arith, length-take (c.index.result.now - c.index-first.result.now) c.args.samples.now)

pub read_block-marks-requires-clause-samples : goal.read_block-marks-requires-clause-samples
read_block-marks-requires-clause-samples c =
    let s = c.self.inside in
    let leaving = leave_between s.mapping s.left.items s.played c.index-first.result.now c.index.result.now c.self.invariant.rate c.self.invariant.counted c.self.invariant.under_way c.index-first.ensures c.index.ensures in
    let order = leaving.order in
    let end = leaving.end_is in
    omega (arith, length-take (c.index.result.now - c.index-first.result.now) c.args.samples.now)

pub read_block-marks-requires-clause-few : goal.read_block-marks-requires-clause-few
read_block-marks-requires-clause-few c =
    let s = c.self.inside in
    let leaving = leave_between s.mapping s.left.items s.played c.index-first.result.now c.index.result.now c.self.invariant.rate c.self.invariant.counted c.self.invariant.under_way c.index-first.ensures c.index.ensures in
    let few = leaving.few in
    omega (arith, length-take (c.index.result.now - c.index-first.result.now) c.args.samples.now)

pub returns-clause-block : goal.returns-clause-block
returns-clause-block c =
    let s = c.self.inside in
    let next = container_played (option_copied c.args.octets) c.args.route.now in
    subst (λ (v : BlockView). v ≡ record { mapping = v.mapping; containers = in_hand_after v.mapping.k (v.containers ++ next ∷ []) }) c.self.view_is
    (whole_again s.mapping s.size s.octets.items s.missed s.played next c.if-mapping-eq1.true c.self.invariant.under_way)

pub take_container-missed-requires-clause-small : goal.take_container-missed-requires-clause-small
take_container-missed-requires-clause-small c =
    let few = few_bits c.self.inside.mapping c.self.invariant.width c.self.invariant.rate in
    let same = c.self.invariant.sized in
    omega arith

pub returns-clause-leaves : goal.returns-clause-leaves
returns-clause-leaves c =
    let s = c.self.inside in
    let first = c.index-first.result.now in
    let count : ℕ = c.index.result.now - first in
    let marks = c.read_in_place-marks.result in
    let out = c.read_in_place-marks.new.out in
    let route = c.args.route.now in
    let none : Piece = record { start = 0; size = 0 } in
    let samples = c.args.samples.now in
    let leaving = leave_between s.mapping s.left.items s.played first c.index.result.now c.self.invariant.rate c.self.invariant.counted c.self.invariant.under_way c.index-first.ensures c.index.ensures in
    let order = leaving.order in
    let few = leaving.few in
    let next = container_played (option_copied c.args.octets) route in
    subst (λ (v : BlockView). LeavesSamples v.mapping (v.containers ++ next ∷ []) (record { first = first; count = count; marks = marks }) (out ++ drop count samples)) c.self.view_is
    (leaves_in_place s.mapping s.size s.octets.items s.missed s.played first c.index.result.now (length (take count samples)) marks (option_copied c.args.octets) (get_or route 0 none) route out (drop count samples)
    c.if-mapping-eq1.true c.self.invariant.under_way leaving (one_piece route none (omega arith)) (omega (arith, length-take count samples)) c.read_in_place-marks.auto.out
    c.read_in_place-marks.ensures.samples c.read_in_place-marks.ensures.no_others)

pub returns-2-clause-leaves : goal.returns-2-clause-leaves
returns-2-clause-leaves c =
    let s = c.self.inside in
    let first = c.index-first.result.now in
    let count : ℕ = c.index.result.now - first in
    let marks = c.read_block-marks.result in
    let out = c.read_block-marks.new.out in
    let samples = c.args.samples.now in
    let leaving = leave_between s.mapping s.left.items s.played first c.index.result.now c.self.invariant.rate c.self.invariant.counted c.self.invariant.under_way c.index-first.ensures c.index.ensures in
    let order = leaving.order in
    let few = leaving.few in
    let next = container_played (option_copied c.args.octets) c.args.route.now in
    subst (λ (v : BlockView). LeavesSamples v.mapping (v.containers ++ next ∷ []) (record { first = first; count = count; marks = marks }) (out ++ drop count samples)) c.self.view_is
    (leaves_gathered s.mapping s.size s.octets.items c.as_mut_slice-block.result.now c.take_container-missed.new.block s.missed c.take_container-missed.result s.played
    first c.index.result.now (length (take count samples)) marks next out (drop count samples) c.self.invariant.sized c.as_mut_slice-block.ensures.value leaving c.take_container-missed.ensures.containers
    (omega (arith, length-take count samples)) c.read_block-marks.auto.out c.read_block-marks.ensures.samples c.read_block-marks.ensures.no_others)

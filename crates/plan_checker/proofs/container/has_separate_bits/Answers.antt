use Rattle.std.proofs.Common.{arith, ◌≡◌, true}
use Rattle.std.proofs.lemmas.Bool.{false≢true}
use Rattle.plan_checker.proofs.Separate.{separate_at, own_of, others_of}
use Rattle.plan_checker.proofs.container.has_separate_bits.Goals as goal

pub returns-then-has_separate_pieces : goal.returns-then-has_separate_pieces
returns-then-has_separate_pieces c =
    let cs = c.args.carriers.now in
    let i = c.args.i in
    let x = c.index-carriers-i.result in
    let ps = c.as_slice-pieces.result.now in
    let same = c.as_slice-pieces.ensures in
    let own = c.has_separate_pieces.ensures.0 c.if-has_separate_pieces.true in
    (λ t. separate_at cs i x ps same c.requires own (c.is_apart_from_earlier.ensures.0 t), λ h. c.is_apart_from_earlier.ensures.1 (others_of cs i x ps same h))

pub returns-else-has_separate_pieces : goal.returns-else-has_separate_pieces
returns-else-has_separate_pieces c =
    let cs = c.args.carriers.now in
    let i = c.args.i in
    let x = c.index-carriers-i.result in
    let ps = c.as_slice-pieces.result.now in
    let same = c.as_slice-pieces.ensures in
    (λ t. absurd (cc t), λ h. c.has_separate_pieces.ensures.1 (own_of cs i x ps same h))

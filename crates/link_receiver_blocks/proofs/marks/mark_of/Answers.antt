use Rattle.std.proofs.Common.{◌≡◌, ℕ, Bool, true, false, cond, refl, ap, ◌∙◌, arith}
use mir.Val.{bool_byte}
use Rattle.link_receiver_blocks.proofs.Blocks.{frame_within}
use Rattle.link_receiver_blocks.proofs.Spans.{missed_in_span}
use Rattle.link_receiver_blocks.proofs.marks.mark_of.Goals as goal

pub has_one-requires-clause-short : goal.has_one-requires-clause-short
has_one-requires-clause-short c =
    let last = c.span-first.ensures.last_holds in
    omega (arith, last.2, c.requires.rate.short, frame_within c.args.mapping c.args.r last.0 c.requires.width c.requires.rate c.requires.sample last.1)

mark_of_bool : (b : Bool) → bool_byte b ≡ cond b 1 0
mark_of_bool true = refl
mark_of_bool false = refl

pub returns : goal.returns
returns c =
    c.from.ensures
    ∙ mark_of_bool c.has_one.result
    ∙ ap (λ (b : Bool). let n : ℕ = cond b 1 0 in n) (missed_in_span c.args.mapping c.args.missed c.args.r c.span-first.result.0 c.span-first.result.1 c.has_one.result
    c.requires.width c.requires.rate c.span-first.ensures c.has_one.ensures.one c.has_one.ensures.none)

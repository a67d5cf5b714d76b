use Rattle.std.proofs.Common.{◌≡◌, ◌≢◌, ◌+◌, ◌/◌, None, Some, sym, ap, subst, ◌∙◌}
use Rattle.playout_buffer.specs.Held.{part_in}
use Rattle.playout_buffer.specs.View.{PlayoutView}
use Rattle.playout_buffer.proofs.CountingOn.{frame_at}
use Rattle.playout_buffer.proofs.SlotSteps.{slot_number, number_at, no_part, the_part, part_fits}
use Rattle.playout_buffer.proofs.playout.Playout.frame.Goals as goal

pub returns-then-index-number-clause-octets : goal.returns-then-index-number-clause-octets
returns-then-index-number-clause-octets c =
    let s = c.self.inside in
    let played = rw (← c.self.view_is) at c.requires in
    let here = frame_at s.window s.present c.args.n s.played played c.self.invariant.2 in
    let number = slot_number s.window s.present s.numbers.items s.octets.items c.self.invariant.0 (c.args.n / s.window.frames) c.index.result.now (rw (here.slot) at c.index.ensures) in
    let other : number_at s.window s.present s.numbers.items s.octets.items c.self.invariant.0 (c.args.n / s.window.frames) ≢ c.args.n / s.window.frames + 1
    = λ e. c.if-index-number.true (sym number ∙ e ∙ ap (λ k. k + 1) (sym here.number)) in
    subst (λ (v : PlayoutView). None ≡ part_in v.window v.held c.args.n) c.self.view_is
    (no_part s.window s.present s.numbers.items s.octets.items c.self.invariant.0 c.args.n played other)

pub piece_at-requires : goal.piece_at-requires
piece_at-requires c =
    let s = c.self.inside in
    let played = rw (← c.self.view_is) at c.requires in
    let here = frame_at s.window s.present c.args.n s.played played c.self.invariant.2 in
    rw (here.slot, here.place, c.as_slice.ensures.value)
    (part_fits s.window s.present s.numbers.items s.octets.items c.self.invariant.0 c.args.n played)

pub returns-clause-octets : goal.returns-clause-octets
returns-clause-octets c =
    let s = c.self.inside in
    let played = rw (← c.self.view_is) at c.requires in
    let here = frame_at s.window s.present c.args.n s.played played c.self.invariant.2 in
    let number = slot_number s.window s.present s.numbers.items s.octets.items c.self.invariant.0 (c.args.n / s.window.frames) c.index.result.now (rw (here.slot) at c.index.ensures) in
    let same = number ∙ c.if-index-number.false ∙ ap (λ k. k + 1) here.number in
    let piece = rw (here.slot, here.place, c.as_slice.ensures.value) at c.piece_at.ensures.piece in
    subst (λ (v : PlayoutView). Some c.piece_at.result.now ≡ part_in v.window v.held c.args.n) c.self.view_is
    (ap Some piece ∙ the_part s.window s.present s.numbers.items s.octets.items c.self.invariant.0 c.args.n played same)

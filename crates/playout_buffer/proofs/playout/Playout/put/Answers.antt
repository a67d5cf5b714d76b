use Rattle.std.proofs.Common.{◌≡◌, ℕ, ◌+◌, ◌*◌, ◌%◌, ◌≤◌, List, ◌++◌, length, set, take, drop, Vec, Global, sym, ap, subst, ◌∙◌}
use Rattle.std.specs.FinMap.{len}
use Rattle.std.specs.Vec.{with_items}
use Rattle.std.proofs.lemmas.List.{with_items_is}
use Rattle.playout_buffer.specs.Candidate.{candidate_of}
use Rattle.playout_buffer.specs.declared.put.Put.TheVariants.{Taken, Repeat}
use Rattle.playout_buffer.specs.Held.{put_answer, payloads_with}
use Rattle.playout_buffer.specs.Slots.{AreSlots}
use Rattle.playout_buffer.specs.View.{PlayoutView}
use Rattle.playout_buffer.proofs.Lookups.{len-held_in}
use Rattle.playout_buffer.proofs.SlotSteps.{shown, slot_number, candidate_small, repeat_answer, repeat_shown, taken_answer, taken_shown, taken_slots, payload_fits}
use Rattle.playout_buffer.proofs.Written.{written, length-written}
use Rattle.playout_buffer.proofs.playout.Playout.put.Goals as goal

pub returns-in_default-clause-room : goal.returns-in_default-clause-room
returns-in_default-clause-room c =
    let s = c.self.inside in
    subst (λ (v : PlayoutView). len v.held ≤ v.window.cap) c.self.view_is (len-held_in s.window s.present s.numbers.items s.octets.items)

pub overflow_add-number : goal.overflow_add-number
overflow_add-number c = let s = c.self.inside in candidate_small s.window s.present c.args.seq c.in-Some.number c.self.invariant.0.window (sym c.in-Some.ensures)

pub returns-then-index-number-clause-answer : goal.returns-then-index-number-clause-answer
returns-then-index-number-clause-answer c =
    let s = c.self.inside in
    let number = slot_number s.window s.present s.numbers.items s.octets.items c.self.invariant.0 c.in-Some.number c.index.result.now (rw c.from.ensures at c.index.ensures) in
    subst (λ (v : PlayoutView). Repeat c.in-Some.number ≡ put_answer v.held (candidate_of v.window v.tick c.args.seq)) c.self.view_is
    (repeat_answer s.window s.present s.numbers.items s.octets.items c.self.invariant.0 c.args.seq c.in-Some.number (sym c.in-Some.ensures) c.args.payload.now (number ∙ c.if-index-number.true))

pub returns-then-index-number-clause-held : goal.returns-then-index-number-clause-held
returns-then-index-number-clause-held c =
    let s = c.self.inside in
    let number = slot_number s.window s.present s.numbers.items s.octets.items c.self.invariant.0 c.in-Some.number c.index.result.now (rw c.from.ensures at c.index.ensures) in
    subst (λ (v : PlayoutView). v ≡ record { window = v.window; tick = v.tick; held = payloads_with v.held (candidate_of v.window v.tick c.args.seq) c.args.payload.now }) c.self.view_is
    (repeat_shown s.window s.present s.numbers.items s.octets.items c.self.invariant.0 c.args.seq c.in-Some.number (sym c.in-Some.ensures) c.args.payload.now (number ∙ c.if-index-number.true))

pub returns-then-index-number-clause-room : goal.returns-then-index-number-clause-room
returns-then-index-number-clause-room c =
    let s = c.self.inside in
    subst (λ (v : PlayoutView). len v.held ≤ v.window.cap) c.self.view_is (len-held_in s.window s.present s.numbers.items s.octets.items)

pub overflow_add-number-2 : goal.overflow_add-number-2
overflow_add-number-2 c = let s = c.self.inside in candidate_small s.window s.present c.args.seq c.in-Some.number c.self.invariant.0.window (sym c.in-Some.ensures)

pub write_at-requires : goal.write_at-requires
write_at-requires c =
    let s = c.self.inside in
    let long = rw (← c.self.view_is) at c.requires in
    let fits = payload_fits s.window s.present s.numbers.items s.octets.items c.self.invariant.0 c.args.seq c.in-Some.number (sym c.in-Some.ensures) c.args.payload.now long in
    rw (c.from.ensures, c.as_mut_slice.ensures.value) fits

-- the octets of the slots, after the payload was written over a part of them
octets_after : (v : Vec ℕ Global) (new lent payload : List ℕ) (start : ℕ) (fits : start + length payload ≤ length v.items)
    → lent ≡ v.items → length lent ≡ v.len → new ≡ take start lent ++ payload ++ drop (start + length payload) lent → (with_items v new).items ≡ written v.items payload start fits
octets_after v new lent payload start fits same long wrote =
    let new_is : new ≡ written v.items payload start fits = wrote ∙ ap (λ xs. take start xs ++ payload ++ drop (start + length payload) xs) same in
    with_items_is v new (ap length new_is ∙ length-written v.items payload start fits ∙ sym (ap length same) ∙ long) ∙ new_is

pub invariant_of-self : goal.invariant_of-self
invariant_of-self c =
    let s = c.self.inside in
    let i = c.in-Some.number in
    let long = rw (← c.self.view_is) at c.requires in
    let slots = taken_slots s.window s.present s.numbers.items s.octets.items c.self.invariant.0 c.args.seq i (sym c.in-Some.ensures) c.args.payload.now long in
    let fits = payload_fits s.window s.present s.numbers.items s.octets.items c.self.invariant.0 c.args.seq i (sym c.in-Some.ensures) c.args.payload.now long in
    let after = octets_after s.octets c.write_at.new.octets c.as_mut_slice.result.now c.args.payload.now (i % s.window.cap * length c.args.payload.now) fits
    c.as_mut_slice.ensures.value c.as_mut_slice.ensures.len (rw c.from.ensures at c.write_at.ensures) in
    (rw c.from.ensures (subst (AreSlots s.window s.present (set s.numbers.items (i % s.window.cap) (i + 1))) (sym after) slots), c.self.invariant.1, c.self.invariant.2)

pub returns-clause-answer : goal.returns-clause-answer
returns-clause-answer c =
    let s = c.self.inside in
    let number = slot_number s.window s.present s.numbers.items s.octets.items c.self.invariant.0 c.in-Some.number c.index.result.now (rw c.from.ensures at c.index.ensures) in
    subst (λ (v : PlayoutView). Taken c.in-Some.number ≡ put_answer v.held (candidate_of v.window v.tick c.args.seq)) c.self.view_is
    (taken_answer s.window s.present s.numbers.items s.octets.items c.self.invariant.0 c.args.seq c.in-Some.number (sym c.in-Some.ensures) c.args.payload.now (λ e. c.if-index-number.false (sym number ∙ e)))

pub returns-clause-held : goal.returns-clause-held
returns-clause-held c =
    let s = c.self.inside in
    let i = c.in-Some.number in
    let long = rw (← c.self.view_is) at c.requires in
    let number = slot_number s.window s.present s.numbers.items s.octets.items c.self.invariant.0 i c.index.result.now (rw c.from.ensures at c.index.ensures) in
    let fits = payload_fits s.window s.present s.numbers.items s.octets.items c.self.invariant.0 c.args.seq i (sym c.in-Some.ensures) c.args.payload.now long in
    let after = octets_after s.octets c.write_at.new.octets c.as_mut_slice.result.now c.args.payload.now (i % s.window.cap * length c.args.payload.now) fits
    c.as_mut_slice.ensures.value c.as_mut_slice.ensures.len (rw c.from.ensures at c.write_at.ensures) in
    let taken = taken_shown s.window s.present s.numbers.items s.octets.items c.self.invariant.0 c.args.seq i (sym c.in-Some.ensures) c.args.payload.now long (λ e. c.if-index-number.false (sym number ∙ e)) in
    ap (λ k. shown s.window s.present (set s.numbers.items (i % k) (i + 1)) (with_items s.octets c.write_at.new.octets).items) c.from.ensures
    ∙ ap (shown s.window s.present (set s.numbers.items (i % s.window.cap) (i + 1))) after
    ∙ subst (λ (v : PlayoutView). shown s.window s.present (set s.numbers.items (i % s.window.cap) (i + 1)) (written s.octets.items c.args.payload.now (i % s.window.cap * length c.args.payload.now) fits)
    ≡ record { window = v.window; tick = v.tick; held = payloads_with v.held (candidate_of v.window v.tick c.args.seq) c.args.payload.now }) c.self.view_is taken

pub returns-clause-room : goal.returns-clause-room
returns-clause-room c = len-held_in _ _ _ _

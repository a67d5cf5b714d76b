use Rattle.std.proofs.Common.{arith, ◌≡◌, ◌∙◌, sym, ap, refl, Some}
use Rattle.std.specs.FinMap.{get}
use Rattle.link_base.specs.Shelf.{Files}
use Rattle.link_base.specs.MemShelf.{ShelfMemory, left_at}
use Rattle.link_base.proofs.ShelfFiles.{first_within, left_at_first, name_at_first}
use Rattle.link_base.proofs.mem_shelf.MemShelfShelf.select.Goals as goal

pub invariant_of-self-2 : goal.invariant_of-self-2
invariant_of-self-2 c =
    let found = rw c.deref.ensures.value at c.in-Some.ensures.found in
    (c.self.invariant.0, (first_within c.args.name.now c.self.inside.files.items c.in-Some.place found, tt, omega arith))

pub returns-clause-opens : goal.returns-clause-opens
returns-clause-opens c = λ told.
    let found = rw c.deref.ensures.value at c.in-Some.ensures.found in
    let held = ap (λ (s : ShelfMemory). s.held) c.self.view_is in
    record {
      left = ap (λ (held : Files). get held c.args.name.now) (sym held) ∙ left_at_first c.args.name.now c.self.inside.files.items c.in-Some.place found;
      chosen = name_at_first c.args.name.now c.self.inside.files.items c.in-Some.place found;
      failed = refl;
    }

pub returns-clause-unknown : goal.returns-clause-unknown
returns-clause-unknown c =
    let found = rw c.deref.ensures.value at c.in-Some.ensures.found in
    let held = ap (λ (s : ShelfMemory). s.held) c.self.view_is in
    let known : get c.args.self.now.held c.args.name.now ≡ Some (left_at c.self.inside.files.items (Some c.in-Some.place) 0) =
    ap (λ (held : Files). get held c.args.name.now) (sym held) ∙ left_at_first c.args.name.now c.self.inside.files.items c.in-Some.place found in
    (λ err. absurd (cc), λ none. absurd (cc))

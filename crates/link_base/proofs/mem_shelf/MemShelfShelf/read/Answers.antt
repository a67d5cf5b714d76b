use Rattle.std.proofs.Common.{◌∙◌, ap, refl, subst}
use Rattle.std.specs.Prelude.{string_bytes}
use Rattle.link_base.specs.MemShelf.{IsPlace, name_at}
use Rattle.link_base.proofs.ShelfFiles.{name_at_place, passes_by_name, stopped_by_name}
use Rattle.link_base.proofs.mem_shelf.MemShelfShelf.read.Goals as goal

pub returns-in-Ok-clause-passes_none : goal.returns-in-Ok-clause-passes_none
returns-in-Ok-clause-passes_none c =
    let files = c.self.inside.files.items in
    let within = subst (IsPlace files) c.in-Some.is c.self.invariant.1.0 in
    let chosen = ap (name_at files) c.in-Some.is ∙ name_at_place files c.in-Some.chosen c.index-file.result.now within c.index-file.ensures in
    let read = rw c.deref.ensures.value at c.in-Ok.ensures in
    passes_by_name _ c.args.self.now (string_bytes c.index-file.result.now.name) c.in-Ok.count c.self.view_is chosen read.passes_none

pub returns-in-Err-clause-stopped : goal.returns-in-Err-clause-stopped
returns-in-Err-clause-stopped c =
    let files = c.self.inside.files.items in
    let within = subst (IsPlace files) c.in-Some.is c.self.invariant.1.0 in
    let chosen = ap (name_at files) c.in-Some.is ∙ name_at_place files c.in-Some.chosen c.index-file.result.now within c.index-file.ensures in
    let stopped = (rw c.deref.ensures.value at c.in-Err.ensures).stopped.0 refl in
    (λ err. (stopped.0, stopped_by_name _ c.args.self.now (string_bytes c.index-file.result.now.name) c.self.view_is chosen stopped.1), λ h. refl)

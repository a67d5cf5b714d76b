use Rattle.std.proofs.Common.{arith, ◌∙◌, ap, sym, subst}
use Rattle.std.specs.FinMap.{insert}
use Rattle.link_base.specs.MemShelf.{KeepsNames, held_of}
use Rattle.link_base.proofs.ShelfFiles.{first_within, name_of_first, held_replaced, held_pushed, keeps_replaced, keeps_pushed}
use Rattle.link_base.proofs.mem_shelf.put.Goals as goal

pub index_mut-requires : goal.index_mut-requires
index_mut-requires c =
    let found = rw c.deref.ensures.value at c.in-Some.ensures.found in
    omega (arith, c.args.files.now.ok.0, first_within c.args.name.now c.args.files.now.items c.in-Some.place found)

pub returns-in-Some-clause-ok : goal.returns-in-Some-clause-ok
returns-in-Some-clause-ok c =
    let name = c.args.name.now in
    let files = c.args.files.now.items in
    let found = rw c.deref.ensures.value at c.in-Some.ensures.found in
    let named = name_of_first name files c.in-Some.place c.index_mut.result.now found c.index_mut.ensures.value in
    held_replaced name files c.in-Some.place (record { name = c.index_mut.result.now.name; octets = c.in_ok-octets.octets }) found named
    ∙ ap (insert (held_of files) name) c.in_ok-octets.ensures.items

pub returns-in-Some-clause-names : goal.returns-in-Some-clause-names
returns-in-Some-clause-names c =
    let name = c.args.name.now in
    let files = c.args.files.now.items in
    let found = rw c.deref.ensures.value at c.in-Some.ensures.found in
    let named = name_of_first name files c.in-Some.place c.index_mut.result.now found c.index_mut.ensures.value in
    keeps_replaced name files c.in-Some.place (record { name = c.index_mut.result.now.name; octets = c.in_ok-octets.octets }) found named

pub returns-in_ok-push-in-None-clause-ok : goal.returns-in_ok-push-in-None-clause-ok
returns-in_ok-push-in-None-clause-ok c =
    let none = rw c.deref.ensures.value at c.in-None.ensures.none in
    ap held_of c.in_ok-push-in-None.ensures.items
    ∙ held_pushed c.args.name.now c.args.files.now.items _ none c.in_ok-from_str-in-None.ensures.ok
    ∙ ap (insert (held_of c.args.files.now.items) c.args.name.now) c.in_ok-octets.ensures.items

pub returns-in_ok-push-in-None-clause-names : goal.returns-in_ok-push-in-None-clause-names
returns-in_ok-push-in-None-clause-names c =
    subst (KeepsNames c.args.files.now.items) (sym c.in_ok-push-in-None.ensures.items) (keeps_pushed c.args.files.now.items _)

use Rattle.std.proofs.Common.{◌∙◌, inl, inr, sym, string_bytes}
use Rattle.link_base.proofs.Stops.{one_passed, one_ahead, same_stop_name, names_differ, names_same}
use Rattle.link_base.proofs.mem_shelf.shortened.Goals as goal

pub returns-then-ne : goal.returns-then-ne
returns-then-ne c = λ stops run.
    let differs = names_differ c.args.name.now c.as_str.result.now c.if-ne.ensures in
    one_passed stops c.args.name.now (string_bytes c.args.stop.now.name) c.args.position c.args.free c.args.stop.now.offset
    (inl (λ same. differs (c.as_str.ensures.value ∙ same))) run

pub returns-then-stop-position : goal.returns-then-stop-position
returns-then-stop-position c = λ stops run.
    one_passed stops c.args.name.now (string_bytes c.args.stop.now.name) c.args.position c.args.free c.args.stop.now.offset (inr c.if-stop-position.true) run

pub returns : goal.returns
returns c = λ stops run.
    let same = sym c.as_str.ensures.value ∙ names_same c.args.name.now c.as_str.result.now c.if-ne.ensures in
    rw c.min.ensures (same_stop_name c.args.name.now (string_bytes c.args.stop.now.name) c.args.position _ c.args.stop.now.offset stops same
    (one_ahead stops c.args.name.now c.args.position c.args.free c.args.stop.now.offset c.if-stop-position.false run))

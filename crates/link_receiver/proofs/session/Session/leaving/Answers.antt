use Rattle.link_receiver.proofs.ListedEntries.{leaving-length, leaving-few, leaving-numbers, leaving-entries}
use Rattle.link_receiver.proofs.session.Session.leaving.Goals as goal

pub slice_bounds-result-end : goal.slice_bounds-result-end
slice_bounds-result-end g c =
    leaving-length _ _ c.self.view_is c.self.invariant.0 c.args.c c.index-kept.result.now c.index-kept.ensures c.requires c.deref.result.now c.deref.ensures.value

pub returns-clause-few : goal.returns-clause-few
returns-clause-few g c =
    leaving-few _ _ c.self.view_is c.self.invariant.0 c.args.c c.index-kept.result.now c.index-kept.ensures c.requires c.deref.result.now c.deref.ensures.value

pub returns-clause-numbers : goal.returns-clause-numbers
returns-clause-numbers g c =
    leaving-numbers _ _ c.self.view_is c.self.invariant.0 c.args.c c.index-kept.result.now c.index-kept.ensures c.requires c.deref.result.now c.deref.ensures.value

pub returns-clause-entries : goal.returns-clause-entries
returns-clause-entries g c =
    leaving-entries _ _ c.self.view_is c.self.invariant.0 c.args.c c.index-kept.result.now c.index-kept.ensures c.requires c.deref.result.now c.deref.ensures.value

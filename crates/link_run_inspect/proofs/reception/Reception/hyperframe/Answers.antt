use Rattle.std.proofs.Common.{◌∙◌, sym, ap}
use Rattle.control_words.specs.Reading.{numbers, announced}
use Rattle.link_run_inspect.proofs.Receiving.{hyperframe_none, hyperframe_some, of_parts}
use Rattle.link_run_inspect.proofs.reception.Reception.hyperframe.Goals as goal

pub returns-then-not-ends_in-clause-hyperframe : goal.returns-then-not-ends_in-clause-hyperframe
returns-then-not-ends_in-clause-hyperframe c frames h =
    hyperframe_none c.args.self.now.width frames c.args.self.now.state c.x.result h.state (c.x.ensures _ h.acquire) (sym c.ends_in.ensures ∙ c.if-not-ends_in.true)

pub returns-clause-hyperframe : goal.returns-clause-hyperframe
returns-clause-hyperframe c frames h =
    of_parts c.args.self.now.width c.args.self.now.in_hand.control.items c.args.self.now.in_hand.violations c.numbers-z.result c.announced.result
    (c.numbers-z.ensures ∙ ap (numbers c.args.self.now.width) c.deref.ensures.value)
    (c.announced.ensures.announced ∙ ap (announced c.args.self.now.width) c.deref-2.ensures.value)
    ∙ hyperframe_some c.args.self.now frames c.x.result h (c.x.ensures _ h.acquire) c.args.self.now.whole (sym c.ends_in.ensures ∙ c.if-not-ends_in.false)

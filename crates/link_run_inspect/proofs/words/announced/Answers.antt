use Rattle.std.proofs.Common.{◌≡◌, sym, ap, ◌∙◌, rules}
use Rattle.control_words.specs.Reading.{announced}
use Rattle.link_run_inspect.proofs.words.announced.Goals as goal

pub returns-in-2-clause-announced : goal.returns-in-2-clause-announced
returns-in-2-clause-announced c = c.announce_of-in-2.ensures.announced ∙ ap (λ w. announced w c.args.control.now) (sym c.in-2.is)

pub returns-in-4-clause-announced : goal.returns-in-4-clause-announced
returns-in-4-clause-announced c = c.announce_of-in-4.ensures.announced ∙ ap (λ w. announced w c.args.control.now) (sym c.in-4.is)

pub returns-in-5-clause-announced : goal.returns-in-5-clause-announced
returns-in-5-clause-announced c = c.announce_of-in-5.ensures.announced ∙ ap (λ w. announced w c.args.control.now) (sym c.in-5.is)

pub returns-in-8-clause-announced : goal.returns-in-8-clause-announced
returns-in-8-clause-announced c = c.announce_of-in-8.ensures.announced ∙ ap (λ w. announced w c.args.control.now) (sym c.in-8.is)

pub returns-in-10-clause-announced : goal.returns-in-10-clause-announced
returns-in-10-clause-announced c = c.announce_of-in-10.ensures.announced ∙ ap (λ w. announced w c.args.control.now) (sym c.in-10.is)

pub returns-in_default-clause-announced : goal.returns-in_default-clause-announced
returns-in_default-clause-announced c =
    let sixteen : c.args.width ≡ 16 = search rules in c.announce_of-in_default.ensures.announced ∙ ap (λ w. announced w c.args.control.now) (sym sixteen)

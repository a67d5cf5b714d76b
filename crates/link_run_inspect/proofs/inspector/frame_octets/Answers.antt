use Rattle.std.proofs.Common.{◌*◌, ◌==◌, ◌∙◌, length, None, eq-eqb}
use Rattle.std.proofs.lemmas.Bool.{cond-true}
use Rattle.link_text.specs.Hexadecimal.{spelled_octets}
use Rattle.link_run_inspect.proofs.inspector.frame_octets.Goals as goal

pub returns-in-None-clause-none : goal.returns-in-None-clause-none
returns-in-None-clause-none c =
    cond-true (length c.args.line.now == 40 * c.args.width) (spelled_octets c.args.line.now) None (eq-eqb (length c.args.line.now) (40 * c.args.width) c.if-line-width.false)
    ∙ c.in-None.ensures.none

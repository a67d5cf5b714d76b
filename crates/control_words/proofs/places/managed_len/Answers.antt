use Rattle.std.proofs.Common.{sym, arith, ◌∙◌}
use Rattle.control_words.proofs.ManagedPlaces.{managed_count, managed_slow, managed_fast}
use Rattle.control_words.proofs.places.managed_len.Goals as goal

pub returns-then-is_fast-clause-count : goal.returns-then-is_fast-clause-count
returns-then-is_fast-clause-count g c =
    sym (managed_count g.row.Y c.args.x g.row.Y c.args.a (omega arith) (managed_fast g.row.Y c.args.x c.args.a (sym c.is_fast.ensures ∙ c.if-is_fast.true)))

pub returns-then-is_fast-clause-first : goal.returns-then-is_fast-clause-first
returns-then-is_fast-clause-first g c = managed_fast g.row.Y c.args.x c.args.a (sym c.is_fast.ensures ∙ c.if-is_fast.true)

pub returns-clause-count : goal.returns-clause-count
returns-clause-count g c =
    sym (managed_count g.row.Y c.args.x c.slow_width.result c.args.a (omega arith)
    (managed_slow g.row.Y c.args.x c.slow_width.result c.args.a (sym c.is_fast.ensures ∙ c.if-is_fast.false) c.slow_width.ensures.first))

pub returns-clause-first : goal.returns-clause-first
returns-clause-first g c = managed_slow g.row.Y c.args.x c.slow_width.result c.args.a (sym c.is_fast.ensures ∙ c.if-is_fast.false) c.slow_width.ensures.first

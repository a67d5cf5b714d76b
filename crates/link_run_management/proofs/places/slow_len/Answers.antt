use Rattle.std.proofs.Common.{sym, ◌∙◌}
use Rattle.link_run_management.proofs.WordPlaces.{slow_none}
use Rattle.link_run_management.proofs.places.slow_len.Goals as goal

pub returns-then-fast_octet-clause-first : goal.returns-then-fast_octet-clause-first
returns-then-fast_octet-clause-first g c y within = slow_none c.args.a.hdlc c.args.a.pointer c.args.x y (sym c.fast_octet.ensures ∙ c.if-fast_octet.true)

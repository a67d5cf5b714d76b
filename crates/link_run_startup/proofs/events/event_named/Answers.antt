use Rattle.std.proofs.Common.{refl, arith, rules}
use Rattle.std.specs.Prelude.{codes}
use Rattle.std.proofs.lemmas.Slice.Eq.{text_from_reads}
use Rattle.link_run_startup.proofs.events.event_named.Goals as goal

pub returns-in-silence : goal.returns-in-silence
returns-in-silence c = rw (text_from_reads c.args.word.now (codes "silence") (omega arith) (search rules)) refl

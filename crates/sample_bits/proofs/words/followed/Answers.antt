use Rattle.sample_bits.proofs.FilledLemmas.{followed-first, followed-next, followed-lt}
use Rattle.sample_bits.proofs.words.followed.Goals as goal

pub returns-clause-first : goal.returns-clause-first
returns-clause-first c j h = followed-first c.args.bits c.args.count c.args.word j c.requires.few h

pub returns-clause-next : goal.returns-clause-next
returns-clause-next c j h = followed-next c.args.bits c.args.count c.args.word j c.requires.no_others h

pub returns-clause-no_others : goal.returns-clause-no_others
returns-clause-no_others c width h = followed-lt c.args.bits c.args.count c.args.word width c.requires.no_others h

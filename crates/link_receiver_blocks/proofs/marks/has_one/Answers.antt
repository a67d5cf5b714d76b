use Rattle.link_receiver_blocks.proofs.Masks.{none_within, one_within}
use Rattle.link_receiver_blocks.proofs.marks.has_one.Goals as goal

pub returns-clause-one : goal.returns-clause-one
returns-clause-one c some = one_within c.args.mask c.args.first c.args.last c.requires.order c.requires.short some

pub returns-clause-none : goal.returns-clause-none
returns-clause-none c none p from to = none_within c.args.mask c.args.first c.args.last p c.requires.order c.requires.short none from to

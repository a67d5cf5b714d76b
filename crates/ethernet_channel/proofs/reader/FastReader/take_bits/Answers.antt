use Rattle.std.proofs.Common.{◌∙◌, refl}
use Rattle.ethernet_channel.proofs.Chunks.{ran_few, ran_group}
use Rattle.ethernet_channel.proofs.reader.FastReader.take_bits.Goals as goal

pub returns-then-self-count-lt5-clause-ran : goal.returns-then-self-count-lt5-clause-ran
returns-then-self-count-lt5-clause-ran c =
    ran_few c.args.self.now _ _ c.args.count c.args.part c.requires.inside (c.self.view_is ∙ c.keep_all.ensures) refl c.requires.some c.if-self-count-lt5.true

pub returns-clause-ran : goal.returns-clause-ran
returns-clause-ran c =
    ran_group c.args.self.now _ _ c.take_group.new.self c.take_group.result c.args.count c.args.part c.requires.inside (c.self.view_is ∙ c.keep_all.ensures) refl
    (c.take_group.ensures.event, c.take_group.ensures.kept) c.requires.some c.if-self-count-lt5.false c.requires.few

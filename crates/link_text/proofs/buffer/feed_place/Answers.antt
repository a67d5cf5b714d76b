use Rattle.link_text.proofs.LineLemmas.{no_feed_in_tail, feed_in_tail}
use Rattle.link_text.proofs.buffer.feed_place.Goals as goal

pub returns-in-Some-clause-some : goal.returns-in-Some-clause-some
returns-in-Some-clause-some c =
    feed_in_tail c.args.octets.now c.args.searched c.in-Some.place c.requires.within c.requires.none c.in-Some.ensures

pub returns-in-None-clause-none : goal.returns-in-None-clause-none
returns-in-None-clause-none c = no_feed_in_tail c.args.octets.now c.args.searched c.requires.none c.in-None.ensures

use Rattle.link_run_feed.proofs.Counting.{given_all}
use Rattle.link_run_feed.proofs.feed_reader.conclude.Goals as goal

pub returns-in-Ok-clause-given : goal.returns-in-Ok-clause-given
returns-in-Ok-clause-given g c = λ s over.
    given_all _ _ _ _ _ _ _ _ (c.in-Ok.ensures.closes s over) c.in-Ok.ensures.cause.by_result c.give_text.ensures

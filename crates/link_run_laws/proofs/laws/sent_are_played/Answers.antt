use Rattle.link_run_laws.proofs.SentPlayed.{SentArePlayed-holds}
use Rattle.link_run_laws.proofs.laws.sent_are_played.Goals as goal

pub returns : goal.returns
returns c =
    SentArePlayed-holds c.bits_have_one_sample.ensures c.parts_are_given_back.ensures c.samples_are_delayed.ensures c.packets_are_those.ensures c.candidates_are_unique.ensures

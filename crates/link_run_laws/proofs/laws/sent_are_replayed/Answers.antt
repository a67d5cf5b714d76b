use Rattle.link_run_laws.proofs.SentReplayed.{SentAreReplayed-holds}
use Rattle.link_run_laws.proofs.laws.sent_are_replayed.Goals as goal

pub returns : goal.returns
returns c =
    SentAreReplayed-holds c.parts_are_given_back.ensures c.packets_exist.ensures c.packets_are_those.ensures c.packets_are_determined.ensures c.management_arrives.ensures
    c.packets_are_written_once.ensures c.text_is_whole.ensures c.sent_are_played.ensures

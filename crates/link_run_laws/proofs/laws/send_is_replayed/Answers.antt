use Rattle.link_run_laws.proofs.SendReplayed.{SendIsReplayed-holds}
use Rattle.link_run_laws.proofs.laws.send_is_replayed.Goals as goal

pub returns : goal.returns
returns c =
    SendIsReplayed-holds c.verdicts_are_determined.ensures.computed c.text_is_whole.ensures c.sent_are_replayed.ensures c.read_plans_are_plain.ensures c.read_addresses_are_octets.ensures

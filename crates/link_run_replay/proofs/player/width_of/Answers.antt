use Rattle.std.proofs.Common.{sym, subst}
use Rattle.link_base.specs.WordSize.{IsWordSize}
use Rattle.link_receiver.proofs.Begun.{good_word_size}
use Rattle.link_run_replay.proofs.player.width_of.Goals as goal

pub returns-clause-size : goal.returns-clause-size
returns-clause-size c = subst IsWordSize (sym c.octets_of_word.ensures.value) (good_word_size c.plan.result.now c.plan.ensures.good)

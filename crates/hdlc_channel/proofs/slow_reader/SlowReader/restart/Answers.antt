use Rattle.std.proofs.Common.{[], false, sym, subst}
use Rattle.hdlc_channel.specs.Reader.{StandsFor, reader_view}
use Rattle.hdlc_channel.proofs.StepLaw.{begun_stands}
use Rattle.hdlc_channel.proofs.slow_reader.SlowReader.restart.Goals as goal

pub returns : goal.returns
returns c = subst (λ bits. StandsFor (reader_view 7 false bits c.self.inside.frame.items 0) []) (sym c.clear.ensures) begun_stands

use Rattle.std.proofs.Common.{◌∙◌, ◌++◌, sym, subst}
use Rattle.ethernet_channel.specs.Bits.{octet_bits}
use Rattle.ethernet_channel.specs.Keeps.{StandsFor}
use Rattle.ethernet_channel.proofs.Runs.{StandsFor-run, events_in-run}
use Rattle.ethernet_channel.proofs.reader.FastReader.push_octet.Goals as goal

pub returns-clause-answer : goal.returns-clause-answer
returns-clause-answer c bits h = events_in-run c.args.self.now bits (octet_bits c.args.octet) h ∙ c.take_octet.ensures.event

pub returns-clause-stands : goal.returns-clause-stands
returns-clause-stands c bits h =
    subst (λ k. StandsFor k (bits ++ octet_bits c.args.octet)) (sym c.take_octet.ensures.kept)
    (StandsFor-run c.args.self.now bits (octet_bits c.args.octet) h)

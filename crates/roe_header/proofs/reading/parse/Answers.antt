use Rattle.std.proofs.Common.{arith}
use Rattle.roe_header.proofs.RoundTrip.{found_by}
use Rattle.roe_header.proofs.reading.parse.Goals as goal

pub returns-clause-found : goal.returns-clause-found
returns-clause-found c = found_by c.packet_of.result c.args.octets.now (λ i. omega (arith, c.type_inv.octets i)) c.packet_of.ensures

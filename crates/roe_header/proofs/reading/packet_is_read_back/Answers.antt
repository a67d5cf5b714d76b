use Rattle.roe_header.proofs.RoundTrip.{read_back}
use Rattle.roe_header.proofs.reading.packet_is_read_back.Goals as goal

pub returns : goal.returns
returns c = read_back

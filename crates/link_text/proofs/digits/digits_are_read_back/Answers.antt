use Rattle.link_text.proofs.HexadecimalLemmas.{spelled_octets-encode_lower}
use Rattle.link_text.proofs.digits.digits_are_read_back.Goals as goal

pub returns : goal.returns
returns c = spelled_octets-encode_lower

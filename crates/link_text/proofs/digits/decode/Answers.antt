use Rattle.std.proofs.Common.{length}
use Rattle.link_text.proofs.HexadecimalLemmas.{decoded_digits}
use Rattle.link_text.proofs.digits.decode.Goals as goal

pub returns-then-out-lt-OCTETS-clause-digits : goal.returns-then-out-lt-OCTETS-clause-digits
returns-then-out-lt-OCTETS-clause-digits c =
    let both = decoded_digits c.args.text.now (length c.args.out.now) c.decode_to_slice.result _ c.decode_to_slice.ensures.value c.requires in
    rw c.is_ok.ensures.value both

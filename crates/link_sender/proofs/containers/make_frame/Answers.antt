use Rattle.std.proofs.Common.{ℕ, ◌<◌, List, get_or, length, Fits, w8, arith}
use Rattle.std.proofs.lemmas.List.{get_or_default}
use Rattle.link_sender.proofs.containers.make_frame.Goals as goal

octets_small : (octets : List ℕ) (k d : ℕ) → ((i : ℕ) → Fits w8 (get_or octets i 0)) → k < length octets → get_or octets k d < 256
octets_small octets k d fits inside = let small = (fits k).fits in let same = get_or_default octets k d 0 inside in omega arith

pub returns-clause-small : goal.returns-clause-small
returns-clause-small c k d inside = octets_small _ k d c.type_inv.octets inside

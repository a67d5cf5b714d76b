use Rattle.std.proofs.Common.{arith}
use Rattle.std.proofs.lemmas.Simd.{zip2_splat}
use Rattle.link_text.proofs.DigitLanes.{each_beside}
use Rattle.link_text.proofs.lanes.high_values.Goals as goal

pub nonzero_div-result : goal.nonzero_div-result
nonzero_div-result c = each_beside _ 16 (λ _. omega arith) 32 c.args.octets

pub returns : goal.returns
returns c = zip2_splat _ c.args.octets 32 16 c.fits-octets.0

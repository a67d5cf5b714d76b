use Rattle.std.proofs.Common.{arith}
use Rattle.playout_buffer.proofs.Candidates.{alone_below, latest_alike, latest_near}
use Rattle.playout_buffer.proofs.window.latest_below.Goals as goal

pub returns-then-behind-modulus : goal.returns-then-behind-modulus
returns-then-behind-modulus c = alone_below c.args.end c.args.remainder c.args.modulus c.requires c.if-end-remainder.false c.if-behind-modulus.true

pub returns : goal.returns
returns c = (omega (arith, c.if-end-remainder.false), latest_alike c.args.end c.args.remainder c.args.modulus c.requires c.if-end-remainder.false, latest_near c.args.end c.args.remainder c.args.modulus c.requires c.if-end-remainder.false)

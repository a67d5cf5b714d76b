use Rattle.std.proofs.Common.{eqb, take, w8, arith}
use Rattle.std.proofs.lemmas.List.{length-take-le}
use Rattle.std.proofs.lemmas.Simd.{bitmask_splat}
use Rattle.link_text.proofs.NearFeeds.{near_feed}
use Rattle.link_text.proofs.lanes.near_feed.Goals as goal

pub returns-then-place-lt-OCTETS : goal.returns-then-place-lt-OCTETS
returns-then-place-lt-OCTETS c =
    let octets = c.args.octets.now in
    let mask = bitmask_splat w8 eqb (take 32 octets) 32 10 (length-take-le 32 octets c.requires) (omega arith) in
    (near_feed 32 octets _ (omega arith) c.requires mask c.if-feeds-ne0.true c.if-place-lt-OCTETS.true, c.if-place-lt-OCTETS.true)

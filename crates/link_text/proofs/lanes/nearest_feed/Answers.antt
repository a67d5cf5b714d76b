use Rattle.std.proofs.Common.{eqb, take, w8, arith}
use Rattle.std.proofs.lemmas.List.{length-take-le}
use Rattle.std.proofs.lemmas.Simd.{bitmask_splat}
use Rattle.link_text.proofs.NearFeeds.{near_feed}
use Rattle.link_text.proofs.lanes.nearest_feed.Goals as goal

pub returns-then-place-lt16 : goal.returns-then-place-lt16
returns-then-place-lt16 c =
    let octets = c.args.octets.now in
    let mask = bitmask_splat w8 eqb (take 16 octets) 16 10 (length-take-le 16 octets c.requires) (omega arith) in
    (near_feed 16 octets _ (omega arith) c.requires mask c.if-feeds-ne0.true c.if-place-lt16.true, c.if-place-lt16.true)

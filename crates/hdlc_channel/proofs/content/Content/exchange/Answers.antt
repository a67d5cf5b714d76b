use Rattle.std.proofs.Common.{◌≡◌, ◌*◌, length, take, sym, ap, ◌∙◌, arith}
use Rattle.hdlc_channel.specs.Bits.{octets_of}
use Rattle.hdlc_channel.proofs.ContentReads.{content-nil, octets_of-content, length-content}
use Rattle.hdlc_channel.proofs.content.Content.exchange.Goals as goal

pub returns-clause-empty : goal.returns-clause-empty
returns-clause-empty c = content-nil c.swap.new.x.items

pub returns-clause-octets : goal.returns-clause-octets
returns-clause-octets c k h =
    let inside = c.self.inside in
    let long : length c.args.self.now ≡ inside.len = ap length (sym c.self.view_is) ∙ length-content inside.octets.items inside.len inside.last c.self.invariant in
    ap (λ xs. octets_of (take (8 * k) xs)) (sym c.self.view_is)
    ∙ octets_of-content inside.octets.items inside.len inside.last k c.self.invariant (omega (arith, h, long))
    ∙ ap (λ v. take k v.items) (sym c.swap.ensures.y_after)

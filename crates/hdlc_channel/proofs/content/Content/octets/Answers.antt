use Rattle.std.proofs.Common.{◌≡◌, ◌*◌, ◌/◌, length, take, sym, ap, ◌∙◌, arith}
use Rattle.std.proofs.lemmas.List.{take-take}
use Rattle.hdlc_channel.specs.Bits.{octets_of}
use Rattle.hdlc_channel.proofs.ContentReads.{length-content, octets_of-content, whole-length}
use Rattle.hdlc_channel.proofs.content.Content.octets.Goals as goal

pub returns-clause-len : goal.returns-clause-len
returns-clause-len c =
    let inside = c.self.inside in
    ap (λ xs. length (take (inside.len / 8) xs)) c.deref.ensures.value ∙ whole-length inside.octets.items inside.len inside.last c.self.invariant
    ∙ ap (λ n. n / 8) (sym (length-content inside.octets.items inside.len inside.last c.self.invariant) ∙ ap length c.self.view_is)

pub returns-clause-octets : goal.returns-clause-octets
returns-clause-octets c k h =
    let inside = c.self.inside in
    let long : length c.args.self.now ≡ inside.len = ap length (sym c.self.view_is) ∙ length-content inside.octets.items inside.len inside.last c.self.invariant in
    ap (λ xs. octets_of (take (8 * k) xs)) (sym c.self.view_is)
    ∙ octets_of-content inside.octets.items inside.len inside.last k c.self.invariant (omega (arith, h, long))
    ∙ sym (ap (λ xs. take k (take (inside.len / 8) xs)) c.deref.ensures.value ∙ take-take k (inside.len / 8) inside.octets.items (omega (arith, h, long)))

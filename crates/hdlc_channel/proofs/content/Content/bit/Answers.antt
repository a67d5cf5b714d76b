use Rattle.std.proofs.Common.{◌≡◌, ◌/◌, ◌%◌, ◌^◌, ◌==◌, true, length, get_or, bit_and, sym, ap, ◌∙◌, ◌<◌, ◌≤◌, arith}
use Rattle.std.proofs.lemmas.List.{get_or_read}
use Rattle.hdlc_channel.proofs.ContentReads.{bit_in_octets, bit_in_last, length-content}
use Rattle.hdlc_channel.proofs.content.Content.bit.Goals.{then-place-self, else-place-self}
use Rattle.hdlc_channel.proofs.content.Content.bit.Goals as goal

pub returns : goal.returns
returns c =
    let inside = c.self.inside in
    let long : length c.args.self.now ≡ inside.len = ap length (sym c.self.view_is) ∙ length-content inside.octets.items inside.len inside.last c.self.invariant in
    let asked : c.args.place < length c.args.self.now = c.requires in
    let room : length inside.octets.items ≡ 1502 = c.self.invariant.room.len in
    let within : inside.len ≤ 12023 = c.self.invariant.within in
    elim c.if-place-self.branch [
      | then-place-self w ↦
          ap (λ o. bit_and (o / 2 ^ (c.args.place % 8)) 1 == 1) (w.octet-is ∙ w.from-octet.ensures ∙ get_or_read inside.octets.items (c.args.place / 8) w.index.result.now (let below : c.args.place / 8 < inside.len / 8 = w.if-place-self.true in omega (arith, below, room, within)) w.index.ensures 0)
          ∙ bit_in_octets inside.octets.items inside.len inside.last c.args.place c.self.invariant w.if-place-self.true
          ∙ ap (λ xs. get_or xs c.args.place true) c.self.view_is
      | else-place-self w ↦
          ap (λ o. bit_and (o / 2 ^ (c.args.place % 8)) 1 == 1) w.octet-is
          ∙ bit_in_last inside.octets.items inside.len inside.last c.args.place c.self.invariant (omega (arith, long, asked)) w.if-place-self.false
          ∙ ap (λ xs. get_or xs c.args.place true) c.self.view_is
    ]

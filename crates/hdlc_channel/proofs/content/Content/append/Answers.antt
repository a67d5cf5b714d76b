use Rattle.std.proofs.Common.{◌≡◌, ◌+◌, ◌≤◌, ◌++◌, length, sym, ap, ◌∙◌, subst, arith}
use Rattle.hdlc_channel.specs.declared.content.Content.TheInside.{Inside}
use Rattle.hdlc_channel.specs.Bits.{low_bits}
use Rattle.hdlc_channel.specs.Content.{content_bits, IsContent}
use Rattle.hdlc_channel.proofs.Appended.{short_bits, short_content, long_bits, long_content, place_in}
use Rattle.hdlc_channel.proofs.ContentReads.{room_left}
use Rattle.hdlc_channel.proofs.content.Content.append.Goals.{then-had-count-lt8, else-had-count-lt8}
use Rattle.hdlc_channel.proofs.content.Content.append.Goals as goal

pub index_mut-requires : goal.index_mut-requires
index_mut-requires c =
    let room : c.self.inside.len + c.args.count ≤ 12023 = room_left c.self.inside.octets.items c.self.inside.len c.self.inside.last c.args.count c.args.self.now c.self.invariant c.self.view_is c.requires.room in
    let len : c.self.inside.octets.len ≡ length c.self.inside.octets.items = c.self.inside.octets.ok.0 in
    let h = place_in c.self.inside.octets.items c.self.inside.len c.self.inside.last c.args.bits c.args.count c.self.invariant c.requires.few c.requires.small room c.if-had-count-lt8.false in
    omega (arith, h)

pub invariant_of-self : goal.invariant_of-self
invariant_of-self c =
    let room : c.self.inside.len + c.args.count ≤ 12023 = room_left c.self.inside.octets.items c.self.inside.len c.self.inside.last c.args.count c.args.self.now c.self.invariant c.self.view_is c.requires.room in
    let P : Inside → Type 0 = λ s. IsContent s.octets.items (s.len + c.args.count) s.last in
    elim c.if-had-count-lt8.branch [
      | then-had-count-lt8 w ↦ subst P (sym w.self-inside-is)
          (short_content c.self.inside.octets.items c.self.inside.len c.self.inside.last c.args.bits c.args.count c.self.invariant c.requires.few c.requires.small room w.if-had-count-lt8.true)
      | else-had-count-lt8 w ↦ subst P (sym w.self-inside-is)
          (long_content c.self.inside.octets.items c.self.inside.len c.self.inside.last c.args.bits c.args.count c.self.invariant c.requires.few c.requires.small room w.if-had-count-lt8.false)
    ]

pub returns : goal.returns
returns c =
    let room : c.self.inside.len + c.args.count ≤ 12023 = room_left c.self.inside.octets.items c.self.inside.len c.self.inside.last c.args.count c.args.self.now c.self.invariant c.self.view_is c.requires.room in
    let P : Inside → Type 0 = λ s. content_bits s.octets.items (s.len + c.args.count) s.last ≡ c.args.self.now ++ low_bits c.args.count c.args.bits in
    let old = ap (λ xs. xs ++ low_bits c.args.count c.args.bits) c.self.view_is in
    elim c.if-had-count-lt8.branch [
      | then-had-count-lt8 w ↦ subst P (sym w.self-inside-is)
          (short_bits c.self.inside.octets.items c.self.inside.len c.self.inside.last c.args.bits c.args.count c.self.invariant c.requires.few c.requires.small room w.if-had-count-lt8.true ∙ old)
      | else-had-count-lt8 w ↦ subst P (sym w.self-inside-is)
          (long_bits c.self.inside.octets.items c.self.inside.len c.self.inside.last c.args.bits c.args.count c.self.invariant c.requires.few c.requires.small room w.if-had-count-lt8.false ∙ old)
    ]

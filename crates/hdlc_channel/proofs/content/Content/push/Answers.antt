use Rattle.std.proofs.Common.{◌≡◌, Bool, true, false, [], ◌∷◌, ◌++◌, refl, ap, ◌∙◌}
use mir.Val.{bool_byte}
use Rattle.hdlc_channel.specs.Bits.{low_bits}
use Rattle.hdlc_channel.proofs.content.Content.push.Goals as goal

one_bit : (b : Bool) → low_bits 1 (bool_byte b) ≡ b ∷ []
unfolding low_bits
one_bit true = refl
one_bit false = refl

pub returns : goal.returns
returns c = c.append.ensures ∙ ap (λ n. c.args.self.now ++ low_bits 1 n) c.from.ensures ∙ ap (λ xs. c.args.self.now ++ xs) (one_bit c.args.bit)

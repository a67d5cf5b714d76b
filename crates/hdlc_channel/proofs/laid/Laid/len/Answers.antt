use Rattle.std.proofs.Common.{length, sym, ap, ◌∙◌}
use Rattle.hdlc_channel.proofs.Contents.{length-low_bits}
use Rattle.hdlc_channel.proofs.laid.Laid.len.Goals as goal

pub returns : goal.returns
returns c = sym (length-low_bits c.self.inside.len c.self.inside.bits) ∙ ap length c.self.view_is

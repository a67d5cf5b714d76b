use Rattle.std.proofs.Common.{length, sym, ap, ◌∙◌}
use Rattle.hdlc_channel.proofs.ContentReads.{length-content}
use Rattle.hdlc_channel.proofs.content.Content.len.Goals as goal

pub returns-clause-len : goal.returns-clause-len
returns-clause-len c = sym (length-content c.self.inside.octets.items c.self.inside.len c.self.inside.last c.self.invariant) ∙ ap length c.self.view_is

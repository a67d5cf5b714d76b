use Rattle.std.proofs.Common.{take, ap, ◌∙◌}
use Rattle.hdlc_channel.proofs.slow_reader.SlowReader.frame.Goals as goal

pub returns-clause-frame : goal.returns-clause-frame
returns-clause-frame c bits stands = ap (take c.self.inside.frame_len) c.deref.ensures.value ∙ ap (λ v. v.frame) c.self.view_is ∙ stands.frame

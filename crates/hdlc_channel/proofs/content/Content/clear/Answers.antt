use Rattle.hdlc_channel.proofs.ContentReads.{content-nil}
use Rattle.hdlc_channel.proofs.content.Content.clear.Goals as goal

pub returns : goal.returns
returns c = content-nil c.self.inside.octets.items

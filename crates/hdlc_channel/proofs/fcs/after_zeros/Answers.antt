use Rattle.hdlc_channel.proofs.Registers.{entry}
use Rattle.hdlc_channel.proofs.fcs.after_zeros.Goals as goal

pub returns : goal.returns
returns c = entry c.args.low c.requires

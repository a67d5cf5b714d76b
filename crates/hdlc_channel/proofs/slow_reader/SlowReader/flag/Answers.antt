use Rattle.std.proofs.Common.{ap, ◌∙◌}
use Rattle.hdlc_channel.proofs.ReaderCases.{flagged_is}
use Rattle.hdlc_channel.proofs.slow_reader.SlowReader.flag.Goals as goal

pub returns : goal.returns
returns c =
    flagged_is c.args.self.now c.clear.new.self _ c.close-event.result c.clear.ensures c.close-event.ensures.answer (ap (λ v. v.frame) c.self.view_is ∙ c.close-event.ensures.frame)

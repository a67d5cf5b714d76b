use Rattle.std.proofs.Common.{◌∙◌, ap, sym, subst}
use Rattle.link_sender.specs.Frames.{IsFrame}
use Rattle.link_sender.specs.Senders.{SenderView}
use Rattle.plan_checker.specs.WordSize.{word_size}
use Rattle.link_sender.proofs.sender.Sender.frame.Goals as goal

pub returns-clause-last : goal.returns-clause-last
returns-clause-last g c σ n stands next = subst (IsFrame c.args.self.now.plan σ n) (sym (ap (λ (v : SenderView). v.frame) c.self.view_is)) (stands.frames.last n next)

pub returns-clause-words : goal.returns-clause-words
returns-clause-words g c = c.self.invariant.1 ∙ ap (λ (v : SenderView). word_size v.plan.option) c.self.view_is

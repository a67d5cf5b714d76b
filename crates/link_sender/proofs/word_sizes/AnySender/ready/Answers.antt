use Rattle.std.proofs.Common.{sym, ap, ◌∙◌}
use Rattle.link_sender.specs.WordSizes.{sender_in}
use Rattle.link_sender.proofs.Sizes.{ready_same}
use Rattle.link_sender.proofs.word_sizes.AnySender.ready.Goals as goal

pub returns-in-One-clause-packet : goal.returns-in-One-clause-packet
returns-in-One-clause-packet c = ready_same c.ready.result (λ packet. packet.now) c.args.f c.in-One.sender c.args.self.now (sym (ap sender_in c.in-One.is) ∙ c.self.view_is) c.ready.ensures.packet

pub returns-in-Two-clause-packet : goal.returns-in-Two-clause-packet
returns-in-Two-clause-packet c = ready_same c.ready-in-Two.result (λ packet. packet.now) c.args.f c.in-Two.sender c.args.self.now (sym (ap sender_in c.in-Two.is) ∙ c.self.view_is) c.ready-in-Two.ensures.packet

pub returns-in-Four-clause-packet : goal.returns-in-Four-clause-packet
returns-in-Four-clause-packet c = ready_same c.ready-in-Four.result (λ packet. packet.now) c.args.f c.in-Four.sender c.args.self.now (sym (ap sender_in c.in-Four.is) ∙ c.self.view_is) c.ready-in-Four.ensures.packet

pub returns-in-Five-clause-packet : goal.returns-in-Five-clause-packet
returns-in-Five-clause-packet c = ready_same c.ready-in-Five.result (λ packet. packet.now) c.args.f c.in-Five.sender c.args.self.now (sym (ap sender_in c.in-Five.is) ∙ c.self.view_is) c.ready-in-Five.ensures.packet

pub returns-in-Eight-clause-packet : goal.returns-in-Eight-clause-packet
returns-in-Eight-clause-packet c = ready_same c.ready-in-Eight.result (λ packet. packet.now) c.args.f c.in-Eight.sender c.args.self.now (sym (ap sender_in c.in-Eight.is) ∙ c.self.view_is) c.ready-in-Eight.ensures.packet

pub returns-in-Ten-clause-packet : goal.returns-in-Ten-clause-packet
returns-in-Ten-clause-packet c = ready_same c.ready-in-Ten.result (λ packet. packet.now) c.args.f c.in-Ten.sender c.args.self.now (sym (ap sender_in c.in-Ten.is) ∙ c.self.view_is) c.ready-in-Ten.ensures.packet

pub returns-in-Sixteen-clause-packet : goal.returns-in-Sixteen-clause-packet
returns-in-Sixteen-clause-packet c = ready_same c.ready-in-Sixteen.result (λ packet. packet.now) c.args.f c.in-Sixteen.sender c.args.self.now (sym (ap sender_in c.in-Sixteen.is) ∙ c.self.view_is) c.ready-in-Sixteen.ensures.packet

use Rattle.std.proofs.Common.{◌≡◌, [], ◌∷◌, ◌++◌, ap, ◌∙◌, subst}
use Rattle.std.specs.Result.{OnOk}
use Rattle.ethernet_channel.specs.FastStream as fast
use Rattle.link_sender.specs.HandedIn.{with_fast}
use Rattle.link_sender.specs.Senders.{SenderView, StandsFor}
use Rattle.link_sender.specs.Stream.{Stream}
use Rattle.link_sender.proofs.QueueSteps.{on_ok, fast_at_first, stands_with_fast, with_fast_channel}
use Rattle.link_sender.proofs.sender.Sender.queue_fast.Goals as goal

pub returns-clause-stands : goal.returns-clause-stands
returns-clause-stands g c =
    let s : SenderView = record {
      plan = c.self.inside.checked;
      frames = c.self.inside.frames;
      announcement = c.self.inside.announce;
      tick = c.self.inside.next;
      handed = c.self.inside.handed.items;
      carriers = c.self.inside.carriers.items;
      slow = c.self.inside.channels.slow;
      fast = c.self.inside.channels.fast;
      frame = c.self.inside.frame;
      octets = c.self.inside.octets.items;
      rd = c.self.inside.rd;
      rings = c.self.inside.rings.items;
    } in
    let frame = c.args.frame.now in
    let first : s.tick ≡ 0 = ap (λ (v : SenderView). v.tick) c.self.view_is ∙ c.requires.first in
    let grown : fast.Channel = record { rest = s.fast.rest; queue = s.fast.queue ++ frame ∷ [] } in
    let new = c.queue.new.self in
    subst (λ (v : SenderView). OnOk c.queue.result ((σ : Stream) → StandsFor v σ → StandsFor (with_fast_channel s new) (with_fast σ frame))) c.self.view_is
    (on_ok c.queue.result (new ≡ grown) ((σ : Stream) → StandsFor s σ → StandsFor (with_fast_channel s new) (with_fast σ frame)) c.queue.ensures.ok
    (λ grows σ stands. stands_with_fast s σ frame new first stands grows))

pub returns-clause-queue : goal.returns-clause-queue
returns-clause-queue g c =
    let s : SenderView = record {
      plan = c.self.inside.checked;
      frames = c.self.inside.frames;
      announcement = c.self.inside.announce;
      tick = c.self.inside.next;
      handed = c.self.inside.handed.items;
      carriers = c.self.inside.carriers.items;
      slow = c.self.inside.channels.slow;
      fast = c.self.inside.channels.fast;
      frame = c.self.inside.frame;
      octets = c.self.inside.octets.items;
      rd = c.self.inside.rd;
      rings = c.self.inside.rings.items;
    } in
    let first : s.tick ≡ 0 = ap (λ (v : SenderView). v.tick) c.self.view_is ∙ c.requires.first in
    subst (λ (v : SenderView). (σ : Stream) → StandsFor v σ → v.fast.queue ≡ σ.fast) c.self.view_is (λ σ stands. ap (λ (x : fast.Channel). x.queue) (fast_at_first s σ first stands))

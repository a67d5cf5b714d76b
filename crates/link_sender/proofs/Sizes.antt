-- A sender, seen as one of any word size.
use Rattle.std.proofs.Common.{◌≡◌, ℕ, ◌+◌, ◌*◌, List, Option, MatchOption, Some, length, replicate, slice_get, ap, sym, subst, ◌∙◌}
use Rattle.carrier_plan.specs.declared.plan.Flow.{Flow}
use Rattle.plan_checker.specs.WordSize.{word_size}
use Rattle.link_sender.specs.Frames.{IsFrame}
use Rattle.link_sender.specs.Packets.{IsPacket}
use Rattle.link_sender.specs.Senders.{OpensBefore, SenderView, StandsFor}
use Rattle.link_sender.specs.Stream.{Stream}

-- the octets that are lent are those of a frame
module _ (s now : SenderView) (frame octets : List ℕ) (same : s ≡ now) (is : octets ≡ frame) where
  pub no_frame : ((σ : Stream) → StandsFor s σ → s.tick ≡ 0 → frame ≡ replicate (16 * word_size s.plan.option) 0)
      → (σ : Stream) → StandsFor now σ → now.tick ≡ 0 → octets ≡ replicate (16 * word_size now.plan.option) 0
  no_frame none σ stands first = is ∙ subst (λ (v : SenderView). StandsFor v σ → v.tick ≡ 0 → frame ≡ replicate (16 * word_size v.plan.option) 0) same (none σ) stands first

  pub last_frame : ((σ : Stream) (n : ℕ) → StandsFor s σ → n + 1 ≡ s.tick → IsFrame s.plan σ n frame) → (σ : Stream) (n : ℕ) → StandsFor now σ → n + 1 ≡ now.tick → IsFrame now.plan σ n octets
  last_frame last σ n stands next = subst (IsFrame now.plan σ n) (sym is) (subst (λ (v : SenderView). StandsFor v σ → n + 1 ≡ v.tick → IsFrame v.plan σ n frame) same (last σ n) stands next)

-- how many they are, in words of y octets
pub size_same : (y : ℕ) (s now : SenderView) (octets : List ℕ) → s ≡ now → y ≡ word_size s.plan.option → length octets ≡ 16 * y → length octets ≡ 16 * word_size now.plan.option
size_same y s now octets same words size = size ∙ ap (λ n. 16 * n) (words ∙ ap (λ (v : SenderView). word_size v.plan.option) same)

-- what a call says of the packet of flow f that is ready
abbrev IsReady : {X : Type 0} → Option X → (X → List ℕ) → ℕ → SenderView → Type 0
IsReady packet octets f v =
    (flow : Flow) → slice_get v.plan.flows f ≡ Some flow
    → MatchOption packet ((i : ℕ) → ¬ OpensBefore v.plan v.frames flow v.tick i)
    (λ x. (i : ℕ) × OpensBefore v.plan v.frames flow v.tick i × ((σ : Stream) → StandsFor v σ → IsPacket v.plan σ flow i (octets x)))

pub ready_same : {X : Type 0} (packet : Option X) (octets : X → List ℕ) (f : ℕ) (s now : SenderView) → s ≡ now → IsReady packet octets f s → IsReady packet octets f now
ready_same packet octets f s now same ready = subst (IsReady packet octets f) same ready

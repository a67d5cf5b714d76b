-- A session, seen as one of any word size.
use Rattle.std.proofs.Common.{◌≡◌, ℕ, List, [], ◌∷◌, ◌++◌, Some, slice_get, sym, subst}
use Rattle.carrier_plan.specs.declared.plan.Flow.{Flow}
use Rattle.link_base.specs.Record.{Record}
use Rattle.plan_checker.specs.Packets.{run_packets}
use Rattle.link_receiver.specs.Received.{taken}
use Rattle.link_receiver.specs.Sessions.{SessionView, StandsFor}
use Rattle.link_receiver.proofs.Taking.{at_tick}

pub stands-arrived : (s s' now : SessionView) (octets : List ℕ) (records : List Record) → s ≡ now → ((more : List Record) → StandsFor s more → StandsFor s' (more ++ at_tick s.tick octets ∷ []))
    → StandsFor now records → StandsFor s' (records ++ at_tick now.tick octets ∷ [])
stands-arrived s s' now octets records same step stands =
    subst (λ (v : SessionView). StandsFor s' (records ++ at_tick v.tick octets ∷ [])) same (step records (subst (λ v. StandsFor v records) (sym same) stands))

pub counted : (s now : SessionView) (f count packets : ℕ) → s ≡ now
    → ((records : List Record) (flow : Flow) → StandsFor s records → slice_get s.plan.flows f ≡ Some flow → (count ≡ taken s.plan flow s.frames records) × (packets ≡ run_packets s.plan flow s.frames))
    → (records : List Record) (flow : Flow) → StandsFor now records → slice_get now.plan.flows f ≡ Some flow → (count ≡ taken now.plan flow now.frames records) × (packets ≡ run_packets now.plan flow now.frames)
counted s now f count packets same is records flow stands read =
    subst (λ (v : SessionView). (count ≡ taken v.plan flow v.frames records) × (packets ≡ run_packets v.plan flow v.frames)) same
    (is records flow (subst (λ v. StandsFor v records) (sym same) stands) (subst (λ (v : SessionView). slice_get v.plan.flows f ≡ Some flow) (sym same) read))

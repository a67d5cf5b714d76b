use Rattle.std.proofs.Common.{◌≡◌, ℕ, ◌+◌, ◌*◌, ◌<◌, ◌≤◌, List, length, get_or, set, All, refl, sym, ap, ◌∙◌, subst, arith}
use Rattle.std.specs.List.{AllPairs}
use Rattle.std.proofs.lemmas.List.{get_or_default}
use Rattle.std.proofs.lemmas.Option.{slice_get_within}
use Rattle.carrier_plan.specs.declared.plan.Piece.{Piece}
use Rattle.link_sender_blocks.specs.Containers.{container_bits}
use Rattle.link_sender_blocks.specs.InHand.{SamplesView, after_frame}
use Rattle.plan_checker.specs.Container.{SharesNoBit, pieces_size}
use Rattle.link_sender.proofs.ContainerSteps.{containers_more, free_more}
use Rattle.link_sender.proofs.GoodCarriers.{good_carrier}
use Rattle.link_sender.proofs.Items.{get_or-partly, partly-all, set-partly}
use Rattle.link_sender.proofs.containers.send_containers.Goals as goal

-- the samples in hand of the carrier whose turn it is
here : (hands carriers : List SamplesView) (i : ℕ) (h : SamplesView) → carriers ≡ hands → i < length hands → (d : SamplesView) → get_or hands i d ≡ get_or carriers i h
here hands carriers i h same inside d = get_or_default hands i d h inside ∙ ap (λ xs. get_or xs i h) (sym same)

pub send-requires-clause-size : goal.send-requires-clause-size
send-requires-clause-size c =
    let p = c.args.plan.now in
    let i : ℕ = c.loop-c.c in
    let h = c.index-carriers-c.result in
    let carrier = c.at.result.now in
    let is = good_carrier p i carrier c.requires.good c.at.ensures in
    let hand = ap (λ xs. get_or xs i h) c.loop-c.invariant.sent ∙ get_or-partly after_frame i c.args.carriers.now h c.loop-c-test.true in
    let mapping = ap (λ (v : SamplesView). v.mapping) hand ∙ c.requires.mapped.each i carrier c.at.ensures h in
    ap pieces_size c.as_slice.ensures ∙ is.size.prescribed ∙ ap container_bits (sym mapping)

pub send-requires-clause-within : goal.send-requires-clause-within
send-requires-clause-within c =
    let p = c.args.plan.now in
    let is = good_carrier p c.loop-c.c c.at.result.now c.requires.good c.at.ensures in
    subst (All (λ (q : Piece). q.start + q.size ≤ 8 * length c.loop-c.block)) (sym c.as_slice.ensures)
    (λ k d less. let end = is.within k d less in omega (arith, end, c.requires.room, c.loop-c.auto.block))

pub send-requires-clause-apart : goal.send-requires-clause-apart
send-requires-clause-apart c =
    let p = c.args.plan.now in
    let is = good_carrier p c.loop-c.c c.at.result.now c.requires.good c.at.ensures in
    subst (λ (ps : List Piece). AllPairs SharesNoBit ps) (sym c.as_slice.ensures) is.apart

pub loop-c-init : goal.loop-c-init
loop-c-init c = record { sent = refl; containers = λ i carrier less read d. absurd (omega arith); free = λ x free. refl }

pub loop-c-preserved : goal.loop-c-preserved
loop-c-preserved c =
    let p = c.args.plan.now in
    let i : ℕ = c.loop-c.c in
    let hands = c.args.carriers.now in
    let h = c.index-carriers-c.result in
    let carrier = c.at.result.now in
    let done = c.loop-c.invariant in
    let v = get_or c.loop-c.carriers i h in
    let hand : v ≡ get_or hands i h = ap (λ xs. get_or xs i h) done.sent ∙ get_or-partly after_frame i hands h c.loop-c-test.true in
    let same : (d : SamplesView) → get_or hands i d ≡ v = λ d. get_or_default hands i d h c.loop-c-test.true ∙ sym hand in
    let mapping = ap (λ (x : SamplesView). x.mapping) hand ∙ c.requires.mapped.each i carrier c.at.ensures h in
    record {
      sent =
          ap (set c.loop-c.carriers i) c.send.ensures.next ∙ ap (λ x. set c.loop-c.carriers i (after_frame x)) hand
          ∙ ap (λ xs. set xs i (after_frame (get_or hands i h))) done.sent ∙ set-partly after_frame i hands h c.loop-c-test.true;
      containers = containers_more p c.requires.good hands i carrier c.as_slice.result.now v c.loop-c.block c.send.new.octets c.at.ensures c.as_slice.ensures mapping same c.send.ensures.container done.containers;
      free = free_more p c.requires.good hands i carrier c.as_slice.result.now v c.loop-c.block c.send.new.octets c.at.ensures c.as_slice.ensures mapping same c.send.ensures.container c.args.block.now done.free;
    }

pub returns-clause-containers : goal.returns-clause-containers
returns-clause-containers c =
    let done = c.loop-c.invariant in
    record {
      same_length = c.loop-c.auto.block;
      each = λ i carrier read. let inside = slice_get_within c.args.plan.now.carriers i carrier read in done.containers i carrier (omega (arith, inside, c.requires.mapped.as_many, c.loop-c-test.false)) read;
      free = done.free;
    }

pub returns-clause-next : goal.returns-clause-next
returns-clause-next c = c.loop-c.invariant.sent ∙ partly-all after_frame c.loop-c.c c.args.carriers.now (omega (arith, c.loop-c-test.false))

use Rattle.std.proofs.Common.{◌≡◌, ℕ, List, [], get_or, refl, sym, ◌∙◌, arith}
use Rattle.std.proofs.lemmas.List.{get_or_default}
use Rattle.link_receiver.specs.Sessions.{StandsFor}
use Rattle.link_drill.specs.declared.fates.Fate.TheVariants.{Lost}
use Rattle.link_drill.proofs.PlaySteps.{arrivals_of_first-none, deliver_more, with_none}
use Rattle.link_drill.proofs.playing.deliver_all.Goals as goal

pub loop-i-init : goal.loop-i-init
loop-i-init c = (
  refl,
  refl,
  refl,
  λ records before. with_none (StandsFor c.args.session.now) records _ (arrivals_of_first-none c.args.packets.now c.args.fates.now c.args.session.now.tick) before,
)

pub loop-i-preserved : goal.loop-i-preserved
loop-i-preserved c =
    let inv = c.loop-i.invariant in
    let i : ℕ = c.loop-i.i in
    let packets : List (List ℕ) = c.args.packets.now in
    let packet : get_or packets i [] ≡ c.as_slice.result.now =
    get_or_default packets i [] c.index-packets-i.result (omega arith) ∙ sym c.index-packets-i.is ∙ sym c.as_slice.ensures in (
      c.deliver.ensures.plan ∙ inv.0,
      c.deliver.ensures.frames ∙ inv.1,
      c.deliver.ensures.tick ∙ inv.2,
      λ records before. deliver_more (StandsFor c.deliver.new.session) records packets c.args.fates.now c.args.session.now.tick c.loop-i.session.tick i c.as_slice.result.now _ inv.2 packet
          (get_or_default c.args.fates.now i Lost _ (omega (arith, c.requires)))
          (c.deliver.ensures.stands _ (inv.3 records before)),
    )

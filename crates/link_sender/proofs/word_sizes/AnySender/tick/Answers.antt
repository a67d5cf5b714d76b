use Rattle.std.proofs.Common.{sym, ap, ◌∙◌, subst}
use Rattle.link_sender.specs.Senders.{StandsFor}
use Rattle.link_sender.specs.WordSizes.{sender_in}
use Rattle.link_sender.specs.contracts.word_sizes.AnySender.{the_view}
use Rattle.link_sender.proofs.word_sizes.AnySender.tick.Goals as goal
use Rattle.link_sender.proofs.word_sizes.AnySender.tick.Goals.{in-One, in-Two, in-Four, in-Five, in-Eight, in-Ten, in-Sixteen}

pub returns-clause-stands : goal.returns-clause-stands
returns-clause-stands c σ stands = elim c.match-self.branch [
  | in-One w ↦
      subst (λ i. StandsFor (the_view i) σ) (sym w.self-inside-is)
      (w.tick.ensures.stands σ (subst (λ v. StandsFor v σ) (sym (sym (ap sender_in w.in-One.is) ∙ c.self.view_is)) stands))
  | in-Two w ↦
      subst (λ i. StandsFor (the_view i) σ) (sym w.self-inside-is)
      (w.tick-in-Two.ensures.stands σ (subst (λ v. StandsFor v σ) (sym (sym (ap sender_in w.in-Two.is) ∙ c.self.view_is)) stands))
  | in-Four w ↦
      subst (λ i. StandsFor (the_view i) σ) (sym w.self-inside-is)
      (w.tick-in-Four.ensures.stands σ (subst (λ v. StandsFor v σ) (sym (sym (ap sender_in w.in-Four.is) ∙ c.self.view_is)) stands))
  | in-Five w ↦
      subst (λ i. StandsFor (the_view i) σ) (sym w.self-inside-is)
      (w.tick-in-Five.ensures.stands σ (subst (λ v. StandsFor v σ) (sym (sym (ap sender_in w.in-Five.is) ∙ c.self.view_is)) stands))
  | in-Eight w ↦
      subst (λ i. StandsFor (the_view i) σ) (sym w.self-inside-is)
      (w.tick-in-Eight.ensures.stands σ (subst (λ v. StandsFor v σ) (sym (sym (ap sender_in w.in-Eight.is) ∙ c.self.view_is)) stands))
  | in-Ten w ↦
      subst (λ i. StandsFor (the_view i) σ) (sym w.self-inside-is)
      (w.tick-in-Ten.ensures.stands σ (subst (λ v. StandsFor v σ) (sym (sym (ap sender_in w.in-Ten.is) ∙ c.self.view_is)) stands))
  | in-Sixteen w ↦
      subst (λ i. StandsFor (the_view i) σ) (sym w.self-inside-is)
      (w.tick-in-Sixteen.ensures.stands σ (subst (λ v. StandsFor v σ) (sym (sym (ap sender_in w.in-Sixteen.is) ∙ c.self.view_is)) stands))
]

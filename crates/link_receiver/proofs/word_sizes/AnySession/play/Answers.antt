use Rattle.std.proofs.Common.{sym, ap, ◌∙◌, subst}
use Rattle.link_receiver.specs.Sessions.{StandsFor}
use Rattle.link_receiver.specs.WordSizes.{session_in}
use Rattle.link_receiver.specs.contracts.word_sizes.AnySession.{the_view}
use Rattle.link_receiver.proofs.word_sizes.AnySession.play.Goals as goal
use Rattle.link_receiver.proofs.word_sizes.AnySession.play.Goals.{in-One, in-Two, in-Four, in-Five, in-Eight, in-Ten, in-Sixteen}

pub returns-clause-stands : goal.returns-clause-stands
returns-clause-stands c records stands = elim c.match-self.branch [
  | in-One w ↦
      subst (λ i. StandsFor (the_view i) records) (sym w.self-inside-is)
      (w.play.ensures.stands records (subst (λ v. StandsFor v records) (sym (sym (ap session_in w.in-One.is) ∙ c.self.view_is)) stands))
  | in-Two w ↦
      subst (λ i. StandsFor (the_view i) records) (sym w.self-inside-is)
      (w.play-in-Two.ensures.stands records (subst (λ v. StandsFor v records) (sym (sym (ap session_in w.in-Two.is) ∙ c.self.view_is)) stands))
  | in-Four w ↦
      subst (λ i. StandsFor (the_view i) records) (sym w.self-inside-is)
      (w.play-in-Four.ensures.stands records (subst (λ v. StandsFor v records) (sym (sym (ap session_in w.in-Four.is) ∙ c.self.view_is)) stands))
  | in-Five w ↦
      subst (λ i. StandsFor (the_view i) records) (sym w.self-inside-is)
      (w.play-in-Five.ensures.stands records (subst (λ v. StandsFor v records) (sym (sym (ap session_in w.in-Five.is) ∙ c.self.view_is)) stands))
  | in-Eight w ↦
      subst (λ i. StandsFor (the_view i) records) (sym w.self-inside-is)
      (w.play-in-Eight.ensures.stands records (subst (λ v. StandsFor v records) (sym (sym (ap session_in w.in-Eight.is) ∙ c.self.view_is)) stands))
  | in-Ten w ↦
      subst (λ i. StandsFor (the_view i) records) (sym w.self-inside-is)
      (w.play-in-Ten.ensures.stands records (subst (λ v. StandsFor v records) (sym (sym (ap session_in w.in-Ten.is) ∙ c.self.view_is)) stands))
  | in-Sixteen w ↦
      subst (λ i. StandsFor (the_view i) records) (sym w.self-inside-is)
      (w.play-in-Sixteen.ensures.stands records (subst (λ v. StandsFor v records) (sym (sym (ap session_in w.in-Sixteen.is) ∙ c.self.view_is)) stands))
]

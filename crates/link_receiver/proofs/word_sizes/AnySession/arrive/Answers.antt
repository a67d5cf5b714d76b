use Rattle.std.proofs.Common.{◌++◌, ◌∷◌, [], sym, ap, ◌∙◌, subst}
use Rattle.link_receiver.specs.Sessions.{StandsFor}
use Rattle.link_receiver.specs.WordSizes.{session_in}
use Rattle.link_receiver.specs.contracts.word_sizes.AnySession.{the_view}
use Rattle.link_receiver.proofs.Taking.{at_tick}
use Rattle.link_receiver.proofs.Sizes.{stands-arrived}
use Rattle.link_receiver.proofs.word_sizes.AnySession.arrive.Goals as goal
use Rattle.link_receiver.proofs.word_sizes.AnySession.arrive.Goals.{in-One, in-Two, in-Four, in-Five, in-Eight, in-Ten, in-Sixteen}

pub returns-clause-stands : goal.returns-clause-stands
returns-clause-stands c records stands = elim c.match-self.branch [
  | in-One w ↦
      subst (λ i. StandsFor (the_view i) (records ++ at_tick c.args.self.now.tick c.args.octets.now ∷ [])) (sym w.self-inside-is)
      (stands-arrived w.in-One.session w.arrive.new.self c.args.self.now c.args.octets.now records (sym (ap session_in w.in-One.is) ∙ c.self.view_is) w.arrive.ensures.stands stands)
  | in-Two w ↦
      subst (λ i. StandsFor (the_view i) (records ++ at_tick c.args.self.now.tick c.args.octets.now ∷ [])) (sym w.self-inside-is)
      (stands-arrived w.in-Two.session w.arrive-in-Two.new.self c.args.self.now c.args.octets.now records (sym (ap session_in w.in-Two.is) ∙ c.self.view_is) w.arrive-in-Two.ensures.stands stands)
  | in-Four w ↦
      subst (λ i. StandsFor (the_view i) (records ++ at_tick c.args.self.now.tick c.args.octets.now ∷ [])) (sym w.self-inside-is)
      (stands-arrived w.in-Four.session w.arrive-in-Four.new.self c.args.self.now c.args.octets.now records (sym (ap session_in w.in-Four.is) ∙ c.self.view_is) w.arrive-in-Four.ensures.stands stands)
  | in-Five w ↦
      subst (λ i. StandsFor (the_view i) (records ++ at_tick c.args.self.now.tick c.args.octets.now ∷ [])) (sym w.self-inside-is)
      (stands-arrived w.in-Five.session w.arrive-in-Five.new.self c.args.self.now c.args.octets.now records (sym (ap session_in w.in-Five.is) ∙ c.self.view_is) w.arrive-in-Five.ensures.stands stands)
  | in-Eight w ↦
      subst (λ i. StandsFor (the_view i) (records ++ at_tick c.args.self.now.tick c.args.octets.now ∷ [])) (sym w.self-inside-is)
      (stands-arrived w.in-Eight.session w.arrive-in-Eight.new.self c.args.self.now c.args.octets.now records (sym (ap session_in w.in-Eight.is) ∙ c.self.view_is) w.arrive-in-Eight.ensures.stands stands)
  | in-Ten w ↦
      subst (λ i. StandsFor (the_view i) (records ++ at_tick c.args.self.now.tick c.args.octets.now ∷ [])) (sym w.self-inside-is)
      (stands-arrived w.in-Ten.session w.arrive-in-Ten.new.self c.args.self.now c.args.octets.now records (sym (ap session_in w.in-Ten.is) ∙ c.self.view_is) w.arrive-in-Ten.ensures.stands stands)
  | in-Sixteen w ↦
      subst (λ i. StandsFor (the_view i) (records ++ at_tick c.args.self.now.tick c.args.octets.now ∷ [])) (sym w.self-inside-is)
      (stands-arrived w.in-Sixteen.session w.arrive-in-Sixteen.new.self c.args.self.now c.args.octets.now records (sym (ap session_in w.in-Sixteen.is) ∙ c.self.view_is) w.arrive-in-Sixteen.ensures.stands stands)
]

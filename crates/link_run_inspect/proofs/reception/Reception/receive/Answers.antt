use Rattle.std.proofs.Common.{◌≡◌, ◌∙◌, ◌+◌, ◌<◌, ◌++◌, subst, ◌∷◌, [], ap, refl, arith}
use Rattle.hyperframe.specs.Locks.{sync_state, sync_x}
use Rattle.hyperframe.specs.Acquires.{Acquires}
use Rattle.hyperframe.specs.Loss.{is_lost}
use Rattle.hyperframe.specs.CountsLoss.{CountsLoss, counted as count}
use Rattle.line_code.specs.Packed.{symbols_in}
use Rattle.line_code.specs.Decoded.{is_comma}
use Rattle.link_run_inspect.specs.Frames.{commas, counted, has_comma}
use Rattle.link_run_inspect.proofs.Receiving.{Receives-push, if_some}
use Rattle.link_run_inspect.proofs.reception.Reception.receive.Goals as goal

pub returns-clause-stands : goal.returns-clause-stands
unfolding has_comma
returns-clause-stands c frames h =
    let violations = c.read_symbols-line.result.violations in
    let comma : c.is_comma.result ≡ has_comma (symbols_in c.args.octets.now) = c.is_comma.ensures ∙ ap is_comma c.symbol_at.ensures in
    Receives-push c.args.self.now _ frames (symbols_in c.args.octets.now) c.x-x.result c.control_word-word.result.items c.read_symbols-line.result.violations
    (record {
      width = refl;
      number = refl;
      disparity = c.read_symbols-line.ensures.disparity;
      counts = c.read_symbols-line.ensures.violations;
      violations = ap (λ n. c.args.self.now.violations + n) c.from.ensures;
      acquire = subst (λ b. Acquires c.step-self.new.self (commas frames ++ b ∷ [])) comma (c.step-self.ensures.stands (commas frames) h.acquire);
      state = c.step-self.ensures.answer (commas frames) h.acquire ∙ ap (λ b. sync_state (commas frames ++ b ∷ [])) comma;
      place = c.x-x.ensures (commas frames ++ c.is_comma.result ∷ []) (c.step-self.ensures.stands (commas frames) h.acquire) ∙ ap (λ b. sync_x (commas frames ++ b ∷ [])) comma;
      los = subst (λ b. CountsLoss c.step-self-2.new.self (counted frames ++ count b violations ∷ [])) c.is_first.ensures (c.step-self-2.ensures.stands (counted frames) h.los);
      lost = c.step-self-2.ensures.answer (counted frames) h.los ∙ ap (λ b. is_lost (counted frames ++ count b violations ∷ [])) c.is_first.ensures;
      word_is = c.control_word-word.ensures.word;
      word_len = c.control_word-word.ensures.len;
      room = omega (arith, c.args.self.now.whole);
      small = λ n e. if_some (λ m. m < 256) c.x-x.result n e c.follow.ensures.place;
      control = rw c.as_slice.ensures.value at c.follow.ensures.control;
      in_hand = rw c.from-2.ensures at c.follow.ensures.violations;
    }) h

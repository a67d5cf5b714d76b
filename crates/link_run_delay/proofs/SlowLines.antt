-- The lines about bits of the slow channel are those of what the reader answers to them.
use Rattle.std.proofs.Common.{◌≡◌, ℕ, suc, ◌-◌, Bool, cond, List, [], ◌∷◌, ◌++◌, length, Option, Some, None, refl, sym, ap, ◌∙◌, arith, append_assoc, append-nil}
use Rattle.std.specs.List.{flat_map}
use Rattle.std.proofs.lemmas.Grind.{flat_map-append}
use Rattle.std.proofs.lemmas.List.{length_push}
use Rattle.hdlc_channel.specs.SlowLaw.{Answer, answer_to, slow_answers}
use Rattle.hdlc_channel.specs.SlowText.{frame_at, is_frame, last_frame, slow_at}
use Rattle.hdlc_channel.specs.declared.slow_event.SlowEvent.{SlowEvent}
use Rattle.hdlc_channel.specs.declared.slow_event.SlowEvent.TheVariants.{Frame, Aborted, TooShort, Uneven, BadFcs, TooLong}
use Rattle.hdlc_channel.proofs.Runs.{slow_answers-append}
use Rattle.link_run_management.specs.Events.{bit_lines, numbered, slow_event_line, slow_line, slow_words}

-- the line of an answer
abbrev pub answer_line : ℕ → Answer → List ℕ
answer_line n a = numbered n (slow_words a.event a.frame)

answered_line : (n p : ℕ) (o : Option SlowEvent) (frame other : List ℕ)
    → slow_event_line n o (cond (is_frame o) frame other) ≡ flat_map (answer_line n) (answer_to p frame o)
answered_line n p None frame other = refl
answered_line n p (Some Frame) frame other = sym (append-nil (numbered n (slow_words Frame frame)))
answered_line n p (Some Aborted) frame other = sym (append-nil (numbered n (slow_words Aborted [])))
answered_line n p (Some (TooShort bits)) frame other = sym (append-nil (numbered n (slow_words (TooShort bits) [])))
answered_line n p (Some (Uneven bits)) frame other = sym (append-nil (numbered n (slow_words (Uneven bits) [])))
answered_line n p (Some (BadFcs got want)) frame other = sym (append-nil (numbered n (slow_words (BadFcs got want) [])))
answered_line n p (Some TooLong) frame other = sym (append-nil (numbered n (slow_words TooLong [])))

-- the answers to more bits behind others, and their lines
pub record Answered (bits more : List Bool) : Type 0 where
  pub answers : List Answer
  pub whole : slow_answers (bits ++ more) (length (bits ++ more)) ≡ slow_answers bits (length bits) ++ answers
  pub lines : (n : ℕ) → bit_lines slow_line n bits more ≡ flat_map (answer_line n) answers

module _ (bits : List Bool) (bit : Bool) where
  abbrev here : List Bool
  here = bits ++ bit ∷ []

  abbrev answer : List Answer
  answer = answer_to (length bits) (frame_at here (length bits)) (slow_at here (length bits))

  answer_more : slow_answers here (length here) ≡ slow_answers bits (length bits) ++ answer
  unfolding slow_answers
  answer_more =
      let long : length here ≡ suc (length bits) = omega (arith, length_push bits bit) in
      ap (slow_answers here) long ∙ ap (λ xs. xs ++ answer) (slow_answers-append bits (bit ∷ []) (length bits) (omega arith))

  line_more : (n : ℕ) → slow_line n here ≡ flat_map (answer_line n) answer
  unfolding slow_line last_frame
  line_more n =
      let p = length bits in
      let long : length here ≡ suc p = omega (arith, length_push bits bit) in
      let place : length here - 1 ≡ p = omega arith in
      ap (λ k. slow_event_line n (slow_at here k) (last_frame here (length here))) place
      ∙ ap (λ k. slow_event_line n (slow_at here p) (last_frame here k)) long
      ∙ answered_line n p (slow_at here p) (frame_at here p) (last_frame here p)

pub answered : (bits more : List Bool) → Answered bits more
unfolding bit_lines
answered bits [] = record {
  answers = [];
  whole = ap (λ b. slow_answers b (length b)) (append-nil bits) ∙ sym (append-nil (slow_answers bits (length bits)));
  lines = λ n. refl;
}
answered bits (bit ∷ more) =
    let now = here bits bit in
    let next = answered now more in
    let first = answer bits bit in
    record {
      answers = first ++ next.answers;
      whole = ap (λ b. slow_answers b (length b)) (sym (append_assoc bits (bit ∷ []) more)) ∙ next.whole
          ∙ ap (λ xs. xs ++ next.answers) (answer_more bits bit) ∙ append_assoc (slow_answers bits (length bits)) first next.answers;
      lines = λ n. ap (λ t. t ++ bit_lines slow_line n now more) (line_more bits bit n)
          ∙ ap (λ t. flat_map (answer_line n) first ++ t) (next.lines n) ∙ sym (flat_map-append (answer_line n) first next.answers);
    }

-- What a reader answers to one bit after another.
use Rattle.std.proofs.Common.{◌≡◌, ℕ, zero, suc, ◌+◌, ◌<◌, ◌≤◌, Bool, true, List, [], ◌∷◌, ◌++◌, length, Option, Some, None, refl, sym, ap, ◌∙◌, arith, append_assoc}
use Rattle.std.proofs.lemmas.Bool.{cond-true}
use Rattle.std.proofs.lemmas.List.{length-append, append-nil}
use Rattle.hdlc_channel.specs.SlowText.{slow_at, frame_at, last_frame, is_frame}
use Rattle.hdlc_channel.specs.Reader.{SlowView, StandsFor, step}
use Rattle.hdlc_channel.specs.SlowLaw.{Answer, answer_to, slow_answers}
use Rattle.hdlc_channel.specs.declared.slow_event.SlowEvent.{SlowEvent}
use Rattle.hdlc_channel.specs.declared.slow_event.SlowEvent.TheVariants.{Frame, Aborted, TooShort, Uneven, BadFcs, TooLong}
use Rattle.hdlc_channel.proofs.Places.{slow_at-append, frame_at-append}
use Rattle.hdlc_channel.proofs.StepLaw.{step_keeps, step_keeps_at}

-- the answers of a reader that keeps v, to bits from place p on
unfoldable pub run : SlowView → ℕ → List Bool → List Answer
run v p [] = []
run v p (b ∷ bits) = answer_to p (step v b).0.frame (step v b).1 ++ run (step v b).0 (suc p) bits

-- what it keeps after them
unfoldable pub after : SlowView → List Bool → SlowView
after v [] = v
after v (b ∷ bits) = after (step v b).0 bits

pub run-append : (v : SlowView) (p : ℕ) (xs ys : List Bool) → run v p (xs ++ ys) ≡ run v p xs ++ run (after v xs) (p + length xs) ys
unfolding run after
run-append v p [] ys = let e : p ≡ p + 0 = omega arith in ap (λ n. run v n ys) e
run-append v p (b ∷ xs) ys =
    let e : suc p + length xs ≡ p + suc (length xs) = omega arith in
    ap (λ r. answer_to p (step v b).0.frame (step v b).1 ++ r) (run-append (step v b).0 (suc p) xs ys ∙ ap (λ n. run (step v b).0 (suc p) xs ++ run (after (step v b).0 xs) n ys) e)
    ∙ sym (append_assoc (answer_to p (step v b).0.frame (step v b).1) (run (step v b).0 (suc p) xs) (run (after (step v b).0 xs) (p + suc (length xs)) ys))

pub after-append : (v : SlowView) (xs ys : List Bool) → after v (xs ++ ys) ≡ after (after v xs) ys
unfolding after
after-append v [] ys = refl
after-append v (b ∷ xs) ys = after-append (step v b).0 xs ys

-- a bit without an answer
pub run-quiet : (v w : SlowView) (p : ℕ) (b : Bool) (bits : List Bool) → step v b ≡ (w, None) → run v p (b ∷ bits) ≡ run w (suc p) bits
unfolding run
run-quiet v w p b bits e = ap (λ r. answer_to p r.0.frame r.1 ++ run r.0 (suc p) bits) e

pub after-quiet : (v w : SlowView) (b : Bool) (bits : List Bool) → step v b ≡ (w, None) → after v (b ∷ bits) ≡ after w bits
unfolding after
after-quiet v w b bits e = ap (λ r. after r.0 bits) e

-- the octets count at a frame alone
answer_to-same : (p : ℕ) (f g : List ℕ) (o : Option SlowEvent) → (is_frame o ≡ true → f ≡ g) → answer_to p f o ≡ answer_to p g o
answer_to-same p f g None same = refl
answer_to-same p f g (Some Frame) same = ap (λ x. record { at = p; event = Frame; frame = x } ∷ []) (same refl)
answer_to-same p f g (Some Aborted) same = refl
answer_to-same p f g (Some (TooShort n)) same = refl
answer_to-same p f g (Some (Uneven n)) same = refl
answer_to-same p f g (Some (BadFcs a b)) same = refl
answer_to-same p f g (Some TooLong) same = refl

pub slow_answers-append : (bits more : List Bool) (n : ℕ) → n ≤ length bits → slow_answers (bits ++ more) n ≡ slow_answers bits n
unfolding slow_answers
slow_answers-append bits more zero h = refl
slow_answers-append bits more (suc p) h =
    let inside : p < length bits = omega arith in
    ap (λ x. x ++ answer_to p (frame_at (bits ++ more) p) (slow_at (bits ++ more) p)) (slow_answers-append bits more p (omega arith))
    ∙ ap (λ f. slow_answers bits p ++ answer_to p f (slow_at (bits ++ more) p)) (frame_at-append bits more p inside)
    ∙ ap (λ o. slow_answers bits p ++ answer_to p (frame_at bits p) o) (slow_at-append bits more p inside)

-- one bit more
answered_more : (v : SlowView) (pre : List Bool) (b : Bool) → StandsFor v pre
    → slow_answers (pre ++ b ∷ []) (suc (length pre)) ≡ slow_answers pre (length pre) ++ answer_to (length pre) (step v b).0.frame (step v b).1
unfolding slow_answers last_frame
answered_more v pre b stands =
    let grown = pre ++ b ∷ [] in
    let kept = step_keeps_at v pre stands b in
    ap (λ x. x ++ answer_to (length pre) (frame_at grown (length pre)) (slow_at grown (length pre))) (slow_answers-append pre (b ∷ []) (length pre) (omega arith))
    ∙ ap (λ x. slow_answers pre (length pre) ++ x)
    (answer_to-same (length pre) (frame_at grown (length pre)) (step v b).0.frame (slow_at grown (length pre))
    (λ is. sym (kept.1.frame ∙ cond-true (is_frame (slow_at grown (length pre))) (frame_at grown (length pre)) (last_frame grown (length pre)) is))
    ∙ ap (answer_to (length pre) (step v b).0.frame) (sym kept.0))

pub answers_of_run : (bits : List Bool) (v : SlowView) (pre : List Bool) → StandsFor v pre
    → slow_answers (pre ++ bits) (length (pre ++ bits)) ≡ slow_answers pre (length pre) ++ run v (length pre) bits
unfolding run
answers_of_run [] v pre stands = ap (λ xs. slow_answers xs (length xs)) (append-nil pre) ∙ sym (append-nil (slow_answers pre (length pre)))
answers_of_run (b ∷ bits) v pre stands =
    let grown = pre ++ b ∷ [] in
    let long : length grown ≡ suc (length pre) = omega (arith, length-append pre (b ∷ [])) in
    let answer = answer_to (length pre) (step v b).0.frame (step v b).1 in
    ap (λ xs. slow_answers xs (length xs)) (sym (append_assoc pre (b ∷ []) bits))
    ∙ answers_of_run bits (step v b).0 grown (step_keeps v pre b stands).1
    ∙ ap (λ n. slow_answers grown n ++ run (step v b).0 n bits) long
    ∙ ap (λ x. x ++ run (step v b).0 (suc (length pre)) bits) (answered_more v pre b stands)
    ∙ append_assoc (slow_answers pre (length pre)) answer (run (step v b).0 (suc (length pre)) bits)

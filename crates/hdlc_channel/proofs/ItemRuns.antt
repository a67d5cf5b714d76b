-- A reader over one item after another.
use Rattle.std.proofs.Common.{◌≡◌, ℕ, zero, suc, ◌+◌, ◌-◌, ◌*◌, ◌/◌, ◌%◌, ◌<◌, ◌≤◌, ◌==◌, nat_lt, min, Bool, true, false, List, [], ◌∷◌, ◌++◌, length, take, get_or, replicate, All, Option, Some, None, refl, sym, ap, ◌∙◌, subst, arith, inl, inr, append_assoc}
use Rattle.std.proofs.lemmas.Bool.{cond-true, cond-false, cases_Bool, eq-eqb, ne_eqb, eqb-true, eqb-false, le-ltb}
use Rattle.std.proofs.lemmas.List.{length-append, append-nil, take_at, get_or_at, get_or-append_right}
use Rattle.std.proofs.lemmas.List.Elements.{All-append, All-cons, All-nil}
use Rattle.hdlc_channel.specs.Bits.{bits_of, octets_of}
use Rattle.hdlc_channel.specs.Fcs.{fcs_of, body_of, field_of, field_octets}
use Rattle.hdlc_channel.specs.SlowText.{flag, content_answer, octets_answer}
use Rattle.hdlc_channel.specs.SlowStream.{stuffed, content_of, IsFrame}
use Rattle.hdlc_channel.specs.Outgoing.{ones_after}
use Rattle.hdlc_channel.specs.Reader.{SlowView, step, collecting, flagged, before_flag, kept_frame}
use Rattle.hdlc_channel.specs.SlowLaw.{answer_to}
use Rattle.hdlc_channel.specs.declared.slow_event.SlowEvent.{SlowEvent}
use Rattle.hdlc_channel.specs.declared.slow_event.SlowEvent.TheVariants.{Frame}
use Rattle.hdlc_channel.proofs.Contents.{octets_of-bits_of, length-bits_of}
use Rattle.hdlc_channel.proofs.Flags.{before_flag-ends, without_zero-false}
use Rattle.hdlc_channel.proofs.ReaderCases.{collecting_room, other_one, zero_stuffed, zero_of_flag, zero_collected}
use Rattle.hdlc_channel.proofs.StuffedBits.{stuffed-fifth, stuffed-one, ones_after-fifth, ones_after-one}
use Rattle.hdlc_channel.proofs.Runs.{run, after, run-quiet, after-quiet}

-- a reader that collects a frame
abbrev pub open_view : ℕ → List Bool → List ℕ → SlowView
open_view ones collected frame = record { ones = ones; in_frame = true; collected = collected; frame = frame }

module _ (collected : List Bool) (frame : List ℕ) where
  pub step_one : (ones : ℕ) → ones ≤ 5 → length collected < 12023 → step (open_view ones collected frame) true ≡ (open_view (suc ones) (collected ++ true ∷ []) frame, None)
  step_one ones few room =
      let v = open_view ones collected frame in
      let counted : min 7 (ones + 1) ≡ suc ones = omega arith in
      sym (other_one v (λ six. absurd (omega arith)))
      ∙ ap (λ n. collecting (open_view n collected frame) true) counted
      ∙ sym (collecting_room (open_view (suc ones) collected frame) true refl (λ full. absurd (omega arith)))

  pub step_zero : (ones : ℕ) → ones ≤ 4 → length collected < 12023 → step (open_view ones collected frame) false ≡ (open_view 0 (collected ++ false ∷ []) frame, None)
  step_zero ones few room =
      sym (zero_collected (open_view ones collected frame) (λ five. absurd (omega arith)) (λ six. absurd (omega arith)))
      ∙ sym (collecting_room (open_view 0 collected frame) false refl (λ full. absurd (omega arith)))

  pub step_stuffed : step (open_view 5 collected frame) false ≡ (open_view 0 collected frame, None)
  step_stuffed = sym (zero_stuffed (open_view 5 collected frame) refl)

-- bits over which nothing is answered
pub record Passes (v w : SlowView) (bits : List Bool) : Type 0 where
  pub quiet : (p : ℕ) (more : List Bool) → run v p (bits ++ more) ≡ run w (p + length bits) more
  pub kept : (more : List Bool) → after v (bits ++ more) ≡ after w more

pass_none : (v : SlowView) → Passes v v []
pass_none v = record { quiet = λ p more. let e : p ≡ p + 0 = omega arith in ap (λ n. run v n more) e; kept = λ more. refl }

pass_bit : (v w x : SlowView) (b : Bool) (bits : List Bool) → step v b ≡ (w, None) → Passes w x bits → Passes v x (b ∷ bits)
pass_bit v w x b bits e rest = record {
  quiet = λ p more. let n : suc p + length bits ≡ p + length (b ∷ bits) = omega arith in
      run-quiet v w p b (bits ++ more) e ∙ rest.quiet (suc p) more ∙ ap (λ k. run x k more) n;
  kept = λ more. after-quiet v w b (bits ++ more) e ∙ rest.kept more;
}

-- stuffed bits are collected as they were before they were stuffed
pub pass_stuffed : (frame : List ℕ) (bits collected : List Bool) (ones : ℕ) → ones ≤ 4 → length collected + length bits ≤ 12016
    → Passes (open_view ones collected frame) (open_view (ones_after ones bits) (collected ++ bits) frame) (stuffed ones bits)
unfolding stuffed ones_after
pass_stuffed frame [] collected ones few room =
    subst (λ xs. Passes (open_view ones collected frame) (open_view ones xs frame) []) (sym (append-nil collected)) (pass_none (open_view ones collected frame))
pass_stuffed frame (false ∷ bits) collected ones few room =
    pass_bit (open_view ones collected frame) (open_view 0 (collected ++ false ∷ []) frame) _ false (stuffed 0 bits) (step_zero collected frame ones few (omega arith))
    (subst (λ xs. Passes (open_view 0 (collected ++ false ∷ []) frame) (open_view (ones_after 0 bits) xs frame) (stuffed 0 bits)) (append_assoc collected (false ∷ []) bits)
    (pass_stuffed frame bits (collected ++ false ∷ []) 0 (omega arith) (omega (arith, length-append collected (false ∷ [])))))
pass_stuffed frame (true ∷ bits) collected ones few room =
    let v = open_view ones collected frame in
    let longer = length-append collected (true ∷ []) in
    elim (cases_Bool (ones == 4)) [
      | inl on ↦
          let four = eqb-true ones 4 on in
          let e : suc ones ≡ 5 = omega arith in
          let rest = subst (λ xs. Passes (open_view 0 (collected ++ true ∷ []) frame) (open_view (ones_after 0 bits) xs frame) (stuffed 0 bits)) (append_assoc collected (true ∷ []) bits)
          (pass_stuffed frame bits (collected ++ true ∷ []) 0 (omega arith) (omega arith)) in
          subst (λ xs. Passes v (open_view (ones_after ones (true ∷ bits)) (collected ++ true ∷ bits) frame) xs) (sym (stuffed-fifth ones bits four))
          (subst (λ n. Passes v (open_view n (collected ++ true ∷ bits) frame) (true ∷ false ∷ stuffed 0 bits)) (sym (ones_after-fifth ones bits four))
          (pass_bit v (open_view (suc ones) (collected ++ true ∷ []) frame) _ true (false ∷ stuffed 0 bits) (step_one collected frame ones (omega arith) (omega arith))
          (pass_bit (open_view (suc ones) (collected ++ true ∷ []) frame) (open_view 0 (collected ++ true ∷ []) frame) _ false (stuffed 0 bits)
          (ap (λ n. step (open_view n (collected ++ true ∷ []) frame) false) e ∙ step_stuffed (collected ++ true ∷ []) frame) rest)))
      | inr off ↦
          let other = eqb-false ones 4 off in
          let rest = subst (λ xs. Passes (open_view (suc ones) (collected ++ true ∷ []) frame) (open_view (ones_after (suc ones) bits) xs frame) (stuffed (suc ones) bits)) (append_assoc collected (true ∷ []) bits)
          (pass_stuffed frame bits (collected ++ true ∷ []) (suc ones) (omega arith) (omega arith)) in
          subst (λ xs. Passes v (open_view (ones_after ones (true ∷ bits)) (collected ++ true ∷ bits) frame) xs) (sym (stuffed-one ones bits off))
          (subst (λ n. Passes v (open_view n (collected ++ true ∷ bits) frame) (true ∷ stuffed (suc ones) bits)) (sym (ones_after-one ones bits off))
          (pass_bit v (open_view (suc ones) (collected ++ true ∷ []) frame) _ true (stuffed (suc ones) bits) (step_one collected frame ones (omega arith) (omega arith)) rest))
    ]

-- so many 1s
ones_bits : ℕ → List Bool
ones_bits n = replicate n true

pass_ones : (frame : List ℕ) (n : ℕ) (collected : List Bool) (ones : ℕ) → ones + n ≤ 6 → length collected + n ≤ 12023
    → Passes (open_view ones collected frame) (open_view (ones + n) (collected ++ replicate n true) frame) (replicate n true)
pass_ones frame zero collected ones few room =
    let e : ones ≡ ones + 0 = omega arith in
    subst (λ k. Passes (open_view ones collected frame) (open_view k (collected ++ []) frame) []) e
    (subst (λ xs. Passes (open_view ones collected frame) (open_view ones xs frame) []) (sym (append-nil collected)) (pass_none (open_view ones collected frame)))
pass_ones frame (suc n) collected ones few room =
    let e : suc ones + n ≡ ones + suc n = omega arith in
    pass_bit (open_view ones collected frame) (open_view (suc ones) (collected ++ true ∷ []) frame) _ true (replicate n true) (step_one collected frame ones (omega arith) (omega arith))
    (subst (λ k. Passes (open_view (suc ones) (collected ++ true ∷ []) frame) (open_view k (collected ++ true ∷ replicate n true) frame) (replicate n true)) e
    (subst (λ xs. Passes (open_view (suc ones) (collected ++ true ∷ []) frame) (open_view (suc ones + n) xs frame) (replicate n true)) (append_assoc collected (true ∷ []) (replicate n true))
    (pass_ones frame n (collected ++ true ∷ []) (suc ones) (omega arith) (omega (arith, length-append collected (true ∷ []))))))

-- ---- a flag that closes what was collected

closed_to : List Bool → List ℕ → SlowView × Option SlowEvent
closed_to content frame = (open_view 0 [] (kept_frame (content_answer content) content frame), content_answer content)

-- a flag without its last bit
front : List Bool
front = false ∷ replicate 6 true

pass_front : (frame : List ℕ) (content : List Bool) (ones : ℕ) → ones ≤ 4 → length content ≤ 12016
    → Passes (open_view ones content frame) (open_view 6 ((content ++ false ∷ []) ++ replicate 6 true) frame) front
unfolding front
pass_front frame content ones few room =
    pass_bit (open_view ones content frame) (open_view 0 (content ++ false ∷ []) frame) _ false (replicate 6 true) (step_zero content frame ones few (omega arith))
    (pass_ones frame 6 (content ++ false ∷ []) 0 (omega arith) (omega (arith, length-append content (false ∷ []))))

last_bit : (frame : List ℕ) (content : List Bool) → step (open_view 6 ((content ++ false ∷ []) ++ replicate 6 true) frame) false ≡ closed_to content frame
unfolding closed_to flagged
last_bit frame content =
    let v = open_view 6 ((content ++ false ∷ []) ++ replicate 6 true) frame in
    let before : before_flag ((content ++ false ∷ []) ++ replicate 6 true) ≡ content =
    before_flag-ends ((content ++ false ∷ []) ++ replicate 6 true) content (record { zero_kept = false ∷ []; whole = refl; cut = without_zero-false content }) in
    sym (zero_of_flag v refl) ∙ ap (λ xs. (open_view 0 [] (kept_frame (content_answer xs) xs frame), content_answer xs)) before

pub run_flag : (frame : List ℕ) (content : List Bool) (ones p : ℕ) (more : List Bool) → ones ≤ 4 → length content ≤ 12016
    → run (open_view ones content frame) p (flag ++ more)
    ≡ answer_to (p + 7) (kept_frame (content_answer content) content frame) (content_answer content) ++ run (open_view 0 [] (kept_frame (content_answer content) content frame)) (p + 8) more
unfolding front run closed_to
run_flag frame content ones p more few room =
    let e : suc (p + 7) ≡ p + 8 = omega arith in
    (pass_front frame content ones few room).quiet p (false ∷ more)
    ∙ ap (λ r. answer_to (p + 7) r.0.frame r.1 ++ run r.0 (suc (p + 7)) more) (last_bit frame content)
    ∙ ap (λ n. answer_to (p + 7) (kept_frame (content_answer content) content frame) (content_answer content) ++ run (open_view 0 [] (kept_frame (content_answer content) content frame)) n more) e

-- ---- a frame

fcs_of-lt : (frame : List ℕ) → fcs_of frame < 65536
unfolding fcs_of
fcs_of-lt frame = omega arith

module _ (frame : List ℕ) (is : IsFrame frame) where
  content_small : All (λ x. x < 256) (content_of frame)
  unfolding content_of field_octets
  content_small =
      let f = fcs_of-lt frame in
      All-append (λ x. x < 256) frame (field_octets (fcs_of frame)) is.octets
      (All-cons (λ x. x < 256) (fcs_of frame % 256) (fcs_of frame / 256 ∷ []) (omega arith) (All-cons (λ x. x < 256) (fcs_of frame / 256) [] (omega arith) (All-nil (λ x. x < 256))))

  pub content_length : length (content_of frame) ≡ length frame + 2
  unfolding content_of field_octets
  content_length = length-append frame (field_octets (fcs_of frame))

  octets_are : octets_of (bits_of (content_of frame)) ≡ content_of frame
  octets_are = octets_of-bits_of (content_of frame) content_small

  pub content_bits-length : length (bits_of (content_of frame)) ≡ 8 * (length frame + 2)
  content_bits-length = length-bits_of (content_of frame) ∙ ap (λ n. 8 * n) content_length

  body_is : body_of (content_of frame) ≡ frame
  unfolding body_of content_of field_octets
  body_is =
      let e : length (frame ++ field_octets (fcs_of frame)) - 2 ≡ length frame = omega (arith, length-append frame (field_octets (fcs_of frame))) in
      ap (λ n. take n (frame ++ field_octets (fcs_of frame))) e ∙ take_at frame (field_octets (fcs_of frame)) (length frame) refl

  field_is : field_of (content_of frame) ≡ fcs_of frame
  unfolding field_of content_of field_octets
  field_is =
      let f = fcs_of-lt frame in
      let long = length-append frame (field_octets (fcs_of frame)) in
      let octets = frame ++ field_octets (fcs_of frame) in
      let low_place : length octets - 2 ≡ length frame = omega arith in
      let high_place : length octets - 1 ≡ length frame + 1 = omega arith in
      let first : length frame + 1 - length frame ≡ 1 = omega arith in
      let low : get_or octets (length octets - 2) 0 ≡ fcs_of frame % 256 = ap (λ n. get_or octets n 0) low_place ∙ get_or_at frame (fcs_of frame % 256) (fcs_of frame / 256 ∷ []) 0 (length frame) refl in
      let high : get_or octets (length octets - 1) 0 ≡ fcs_of frame / 256 =
      ap (λ n. get_or octets n 0) high_place ∙ get_or-append_right frame (field_octets (fcs_of frame)) (length frame) (length frame + 1) 0 refl (omega arith)
      ∙ ap (λ n. get_or (field_octets (fcs_of frame)) n 0) first in
      ap (λ n. n + 256 * get_or octets (length octets - 1) 0) low ∙ ap (λ n. fcs_of frame % 256 + 256 * n) high ∙ omega arith

  pub frame_answered : content_answer (bits_of (content_of frame)) ≡ Some Frame
  unfolding content_answer octets_answer
  frame_answered =
      let bits = bits_of (content_of frame) in
      let l = content_bits-length in
      let some = is.some in
      let right : (field_of (octets_of bits) == fcs_of (body_of (octets_of bits))) ≡ true =
      eq-eqb (field_of (octets_of bits)) (fcs_of (body_of (octets_of bits)))
      (ap field_of octets_are ∙ field_is ∙ sym (ap (λ o. fcs_of (body_of o)) octets_are ∙ ap fcs_of body_is)) in
      cond-false (length bits == 0) None _ (ne_eqb (length bits) 0 (λ e. absurd (omega arith)))
      ∙ cond-false (nat_lt (length bits) 24) _ _ (le-ltb (length bits) 24 (omega arith))
      ∙ cond-true (length bits % 8 == 0) _ _ (eq-eqb (length bits % 8) 0 (omega arith))
      ∙ ap Some (cond-true (field_of (octets_of bits) == fcs_of (body_of (octets_of bits))) Frame _ right)

  pub frame_kept : (old : List ℕ) → kept_frame (content_answer (bits_of (content_of frame))) (bits_of (content_of frame)) old ≡ frame
  frame_kept old = ap (λ a. kept_frame a (bits_of (content_of frame)) old) frame_answered ∙ ap body_of octets_are ∙ body_is

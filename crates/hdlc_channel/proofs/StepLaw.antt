-- A reader that stands for bits answers the next one by its place, and then stands for the longer list.
use Rattle.std.proofs.Common.{◌≡◌, ℕ, suc, ◌+◌, ◌-◌, ◌<◌, ◌&&◌, min, not, if◌then◌else◌, nat_lt, ◌==◌, Bool, true, false, List, [], ◌∷◌, ◌++◌, length, Option, Some, None, refl, sym, ap, ◌∙◌, subst, arith, inl, inr, T}
use Rattle.std.specs.Option.{is_some}
use Rattle.std.proofs.lemmas.Bool.{cond-true, cond-false, eq-eqb, ne_eqb, lt-ltb, eqb-true, eqb-false, cases_Bool}
use Rattle.std.proofs.lemmas.List.{length-append}
use Rattle.hdlc_channel.specs.Bits.{octets_of}
use Rattle.hdlc_channel.specs.Fcs.{body_of}
use Rattle.hdlc_channel.specs.SlowText.{ends_with, flag, stuffing, seven_ones, after_flag, unstuffed, opened_at, opened, open_answer, answer_since, slow_at, is_frame, frame_at, content_since, last_frame, content_answer, too_long}
use Rattle.hdlc_channel.specs.Reader.{SlowView, StandsAt, StandsFor, ones_at, begun, flagged, aborting, step, before_flag, kept_frame}
use Rattle.hdlc_channel.specs.declared.slow_event.SlowEvent.{SlowEvent}
use Rattle.hdlc_channel.specs.declared.slow_event.SlowEvent.TheVariants.{Aborted}
use Rattle.hdlc_channel.proofs.Places.{ones_back, ends_with-ones, unstuffed-append, opened-append}
use Rattle.hdlc_channel.proofs.Steps.{Keeps, closes, goes_on, no_frame_ends, collecting_keeps, not_open, open_answer_is, stays_open_is, stays_open, opened-next, opened-flag, slow_at-grown, last_frame-grown, flag_grown, stuffing_grown, seven_grown, ones_grown, unstuffed_grown, unstuffed-from_here, opened-le, opened-short, grown, opened_at-some}
use Rattle.hdlc_channel.proofs.Flags.{before_flag-is}

no_frame : (test : Bool) → is_frame (if test then Some Aborted else None) ≡ false
no_frame true = refl
no_frame false = refl

module _ (v : SlowView) (bits : List Bool) (stands : StandsAt v bits (length bits)) where
  -- ---- the seventh 1
  module _ (six : v.ones ≡ 6) where
    six_ones : ones_at bits (length bits) ≡ 6
    six_ones = let e : v.ones ≡ min 7 (ones_at bits (length bits)) = stands.ones in omega arith

    no_flag_at_one : ends_with flag (grown bits true) (suc (length bits)) ≡ false
    no_flag_at_one = flag_grown bits true

    seventh : ends_with seven_ones (grown bits true) (suc (length bits)) ≡ true
    seventh = seven_grown bits true ∙ eq-eqb (ones_at bits (length bits)) 6 six_ones

    abort_ones : 7 ≡ min 7 (ones_at (grown bits true) (suc (length bits)))
    abort_ones = let e : ones_at (grown bits true) (suc (length bits)) ≡ suc (ones_at bits (length bits)) = ones_grown bits true in omega (arith, six_ones)

    aborted : (o : Option ℕ) → opened bits (length bits) ≡ o → Keeps bits true (record v { ones = 7; in_frame = false }, if v.in_frame && nat_lt 6 (length v.collected) then Some Aborted else None)
    unfolding open_answer
    aborted None none =
        let shut : v.in_frame ≡ false = stands.in_frame ∙ ap is_some none in
        let answer : (if v.in_frame && nat_lt 6 (length v.collected) then Some Aborted else None) ≡ None = ap (λ x. if x && nat_lt 6 (length v.collected) then Some Aborted else None) shut in
        closes bits true (record v { ones = 7; in_frame = false }) _ abort_ones refl stands.frame (no_frame _)
        (answer ∙ sym (slow_at-grown bits true ∙ ap (answer_since (grown bits true) (length bits)) none))
        (opened-next bits true no_flag_at_one ∙ ap (stays_open bits true) none)
    aborted (Some from) some =
        let on : v.in_frame ≡ true = stands.in_frame ∙ ap is_some some in
        let answer : (if v.in_frame && nat_lt 6 (length v.collected) then Some Aborted else None) ≡ (if nat_lt 6 (length (unstuffed (grown bits true) from (length bits))) then Some Aborted else None) =
        ap (λ x. if x && nat_lt 6 (length v.collected) then Some Aborted else None) on
        ∙ ap (λ x. if nat_lt 6 (length x) then Some Aborted else None) (stands.collected from some ∙ sym (unstuffed-append bits (true ∷ []) from (length bits) (omega arith))) in
        let is : open_answer (grown bits true) from (length bits) ≡ (if nat_lt 6 (length (unstuffed (grown bits true) from (length bits))) then Some Aborted else None) =
        cond-false (ends_with flag (grown bits true) (suc (length bits))) _ _ no_flag_at_one ∙ cond-true (ends_with seven_ones (grown bits true) (suc (length bits))) _ _ seventh in
        closes bits true (record v { ones = 7; in_frame = false }) _ abort_ones refl stands.frame (no_frame _)
        (answer ∙ sym (slow_at-grown bits true ∙ ap (answer_since (grown bits true) (length bits)) some ∙ is))
        (opened-next bits true no_flag_at_one ∙ ap (stays_open bits true) some
        ∙ ap (λ x. if not x && nat_lt (length (unstuffed (grown bits true) from (suc (length bits)))) too_long then Some from else None) seventh)

  -- ---- stuffing
  module _ (five : v.ones ≡ 5) where
    five_ones : ones_at bits (length bits) ≡ 5
    five_ones = let e : v.ones ≡ min 7 (ones_at bits (length bits)) = stands.ones in omega arith

    no_flag_at_stuffing : ends_with flag (grown bits false) (suc (length bits)) ≡ false
    no_flag_at_stuffing = flag_grown bits false ∙ ne_eqb (ones_at bits (length bits)) 6 (λ e. absurd (omega (arith, five_ones)))

    is_stuffing : ends_with stuffing (grown bits false) (suc (length bits)) ≡ true
    is_stuffing = stuffing_grown bits false ∙ eq-eqb (ones_at bits (length bits)) 5 five_ones

    dropped : (o : Option ℕ) → opened bits (length bits) ≡ o → Keeps bits false (record v { ones = 0 }, None)
    dropped None none =
        not_open bits false no_flag_at_stuffing (seven_grown bits false) (record v { ones = 0 }) (sym (ap (min 7) (ones_grown bits false))) stands.frame none (stands.in_frame ∙ ap is_some none)
    dropped (Some from) some =
        let same : unstuffed (grown bits false) from (suc (length bits)) ≡ unstuffed bits from (length bits) =
        unstuffed_grown bits false from (opened-le bits (length bits) from some) ∙ cond-true (ends_with stuffing (grown bits false) (suc (length bits))) _ _ is_stuffing in
        let short : length (unstuffed (grown bits false) from (suc (length bits))) < 12024 = subst (λ x. length x < 12024) (sym same) (opened-short bits (length bits) from some) in
        goes_on bits false (record v { ones = 0 }) from (sym (ap (min 7) (ones_grown bits false))) (stands.in_frame ∙ ap is_some some) (stands.collected from some ∙ sym same) stands.frame
        (sym (slow_at-grown bits false ∙ ap (answer_since (grown bits false) (length bits)) some ∙ open_answer_is bits false no_flag_at_stuffing (seven_grown bits false) from
        ∙ cond-false (length (unstuffed (grown bits false) from (suc (length bits))) == too_long) _ _ (ne_eqb (length (unstuffed (grown bits false) from (suc (length bits)))) 12024 (λ e. absurd (omega arith)))))
        (opened-next bits false no_flag_at_stuffing ∙ ap (stays_open bits false) some ∙ stays_open_is bits false no_flag_at_stuffing (seven_grown bits false) from
        ∙ cond-true (nat_lt (length (unstuffed (grown bits false) from (suc (length bits)))) too_long) _ _ (lt-ltb (length (unstuffed (grown bits false) from (suc (length bits)))) 12024 short))

  -- ---- a flag
  module _ (six : v.ones ≡ 6) where
    is_flag : ends_with flag (grown bits false) (suc (length bits)) ≡ true
    is_flag = flag_grown bits false ∙ eq-eqb (ones_at bits (length bits)) 6 (six_ones six)

    -- with the content that the flag closes, if it closes one
    flag_keeps : (content : List Bool) → content_answer content ≡ slow_at (grown bits false) (length bits)
        → (is_frame (content_answer content) ≡ true → body_of (octets_of content) ≡ frame_at (grown bits false) (length bits))
        → Keeps bits false (record { ones = 0; in_frame = true; collected = []; frame = kept_frame (content_answer content) content v.frame }, content_answer content)
    flag_keeps content is frame =
        let now : opened (grown bits false) (suc (length bits)) ≡ Some (suc (length bits)) = opened-flag bits false is_flag in (
          is,
          record {
            ones = sym (ap (min 7) (ones_grown bits false));
            in_frame = sym (ap is_some now);
            collected = λ f e. let both : Some (suc (length bits)) ≡ Some f = sym now ∙ e in let f_is : suc (length bits) ≡ f = cc in
                subst (λ x. [] ≡ unstuffed (grown bits false) x (suc (length bits))) f_is (sym (unstuffed-from_here (grown bits false) (suc (length bits))));
            frame = elim (cases_Bool (is_frame (content_answer content))) [
              | inl on ↦ cond-true (is_frame (content_answer content)) _ _ on ∙ frame on
                  ∙ sym (last_frame-grown bits false ∙ cond-true (is_frame (slow_at (grown bits false) (length bits))) _ _ (sym (ap is_frame is) ∙ on))
              | inr off ↦ cond-false (is_frame (content_answer content)) _ _ off ∙ stands.frame ∙ sym (no_frame_ends bits false (sym (ap is_frame is) ∙ off))
            ];
          },
        )

    flagged_keeps : (o : Option ℕ) → opened bits (length bits) ≡ o → Keeps bits false (flagged v)
    unfolding flagged open_answer frame_at content_answer
    flagged_keeps None none =
        let shut : v.in_frame ≡ false = stands.in_frame ∙ ap is_some none in
        let e : (if v.in_frame then before_flag v.collected else []) ≡ [] = cond-false v.in_frame _ _ shut in
        let F : List Bool → SlowView × Option SlowEvent = λ content. (record { ones = 0; in_frame = true; collected = []; frame = kept_frame (content_answer content) content v.frame }, content_answer content) in
        subst (λ content. Keeps bits false (F content)) (sym e)
        (flag_keeps [] (sym (slow_at-grown bits false ∙ ap (answer_since (grown bits false) (length bits)) none)) (λ wrong. cc))
    flagged_keeps (Some from) some =
        let on : v.in_frame ≡ true = stands.in_frame ∙ ap is_some some in
        let last = (opened_at-some bits (length bits) from (after_flag bits (length bits)) some).0 in
        let ends : ends_with (ones_back 6) bits (length bits) ≡ true = ends_with-ones 6 bits (length bits) (omega arith) ∙ eq-eqb (ones_at bits (length bits)) 6 (six_ones six) in
        let content : (if v.in_frame then before_flag v.collected else []) ≡ unstuffed (grown bits false) from (length bits - 7) =
        cond-true v.in_frame _ _ on ∙ ap before_flag (stands.collected from some) ∙ before_flag-is bits (length bits) from ends last
        ∙ sym (unstuffed-append bits (false ∷ []) from (length bits - 7) (omega arith)) in
        let F : List Bool → SlowView × Option SlowEvent = λ content. (record { ones = 0; in_frame = true; collected = []; frame = kept_frame (content_answer content) content v.frame }, content_answer content) in
        subst (λ content. Keeps bits false (F content)) (sym content)
        (flag_keeps (unstuffed (grown bits false) from (length bits - 7))
        (sym (slow_at-grown bits false ∙ ap (answer_since (grown bits false) (length bits)) some ∙ cond-true (ends_with flag (grown bits false) (suc (length bits))) _ _ is_flag))
        (λ is. ap (λ o. body_of (octets_of (content_since (grown bits false) (length bits) o))) (sym (opened-append bits (false ∷ []) (length bits) (omega arith) ∙ some))))

  pub step_keeps_at : (b : Bool) → Keeps bits b (step v b)
  unfolding step aborting
  step_keeps_at true =
      elim (cases_Bool (v.ones == 6)) [
        | inl on ↦ let six : v.ones ≡ 6 = eqb-true v.ones 6 on in subst (Keeps bits true) (sym (cond-true (v.ones == 6) _ _ on)) (aborted six (opened bits (length bits)) refl)
        | inr off ↦
            let e : v.ones ≡ min 7 (ones_at bits (length bits)) = stands.ones in
            let not_six : ones_at bits (length bits) ≡ 6 → T false = λ (six : ones_at bits (length bits) ≡ 6). absurd (eqb-false v.ones 6 off (omega arith)) in
            let more : ones_at (grown bits true) (suc (length bits)) ≡ suc (ones_at bits (length bits)) = ones_grown bits true in
            subst (Keeps bits true) (sym (cond-false (v.ones == 6) _ _ off))
            (collecting_keeps bits true (flag_grown bits true) (seven_grown bits true ∙ ne_eqb (ones_at bits (length bits)) 6 (λ six. not_six six))
            (record v { ones = min 7 (v.ones + 1) }) (omega arith) stands.frame (opened bits (length bits)) refl (stuffing_grown bits true) stands.in_frame stands.collected)
      ]
  step_keeps_at false =
      let e : v.ones ≡ min 7 (ones_at bits (length bits)) = stands.ones in
      elim (cases_Bool (v.ones == 5)) [
        | inl on ↦ let five : v.ones ≡ 5 = eqb-true v.ones 5 on in subst (Keeps bits false) (sym (cond-true (v.ones == 5) _ _ on)) (dropped five (opened bits (length bits)) refl)
        | inr off ↦ subst (Keeps bits false) (sym (cond-false (v.ones == 5) _ _ off))
            (elim (cases_Bool (v.ones == 6)) [
              | inl six ↦ subst (Keeps bits false) (sym (cond-true (v.ones == 6) _ _ six)) (flagged_keeps (eqb-true v.ones 6 six) (opened bits (length bits)) refl)
              | inr other ↦ subst (Keeps bits false) (sym (cond-false (v.ones == 6) _ _ other))
                  (collecting_keeps bits false
                  (flag_grown bits false ∙ ne_eqb (ones_at bits (length bits)) 6 (λ six. eqb-false v.ones 6 other (omega arith)))
                  (seven_grown bits false) (record v { ones = 0 }) (sym (ap (min 7) (ones_grown bits false))) stands.frame (opened bits (length bits)) refl
                  (stuffing_grown bits false ∙ ne_eqb (ones_at bits (length bits)) 5 (λ five. eqb-false v.ones 5 off (omega arith)))
                  stands.in_frame stands.collected)
            ])
      ]

-- the step law, over the definitions alone
pub step_keeps : (v : SlowView) (bits : List Bool) (b : Bool) → StandsFor v bits → ((step v b).1 ≡ slow_at (bits ++ b ∷ []) (length bits)) × StandsFor (step v b).0 (bits ++ b ∷ [])
step_keeps v bits b stands =
    let kept = step_keeps_at v bits stands b in
    let long : suc (length bits) ≡ length (bits ++ b ∷ []) = omega (arith, length-append bits (b ∷ [])) in
    (kept.0, subst (StandsAt (step v b).0 (bits ++ b ∷ [])) long kept.1)

pub begun_stands : StandsFor begun []
unfolding ones_at last_frame opened_at after_flag
begun_stands = record { ones = refl; in_frame = refl; collected = λ from e. cc; frame = refl }

-- The answers of a reader, case by case as the code tells them apart.
use Rattle.std.proofs.Common.{◌≡◌, ℕ, ◌+◌, ◌-◌, ◌*◌, ◌/◌, ◌%◌, ◌<◌, ◌≤◌, ◌==◌, nat_lt, if◌then◌else◌, Bool, true, false, List, [], ◌∷◌, ◌++◌, length, take, get_or, min, Option, Some, None, refl, sym, ap, ◌∙◌, arith}
use Rattle.std.proofs.lemmas.Bool.{cond-true, cond-false, eq-eqb, ne_eqb, lt-ltb, le-ltb}
use Rattle.std.proofs.lemmas.List.{length-take-le, take-take}
use Rattle.hdlc_channel.specs.Bits.{octets_of}
use Rattle.hdlc_channel.specs.Fcs.{fcs_of, body_of, field_of}
use Rattle.hdlc_channel.specs.SlowText.{content_answer, octets_answer, too_long}
use Rattle.hdlc_channel.specs.Reader.{SlowView, collecting, aborting, flagged, step, closed_content, kept_frame}
use Rattle.hdlc_channel.specs.declared.slow_event.SlowEvent.{SlowEvent}
use Rattle.hdlc_channel.specs.declared.slow_event.SlowEvent.TheVariants.{Frame, TooShort, Uneven, BadFcs, TooLong}

module _ (v : SlowView) (b : Bool) where
  pub collecting_shut : v.in_frame ≡ false → (v, None) ≡ collecting v b
  unfolding collecting
  collecting_shut shut = sym (cond-false v.in_frame _ (v, None) shut)

  full_to : SlowView × Option SlowEvent
  full_to = (record v { in_frame = false }, Some TooLong)

  room_to : SlowView × Option SlowEvent
  room_to = (record v { collected = v.collected ++ b ∷ [] }, None)

  pub collecting_full : v.in_frame ≡ true → length v.collected ≡ 12023 → (record v { in_frame = false }, Some TooLong) ≡ collecting v b
  unfolding collecting full_to room_to
  collecting_full on full =
      sym (cond-true v.in_frame _ (v, None) on ∙ cond-true (length v.collected + 1 == too_long) full_to room_to (eq-eqb (length v.collected + 1) 12024 (omega arith)))

  pub collecting_room : v.in_frame ≡ true → (length v.collected ≡ 12023 → ⊥) → (record v { collected = v.collected ++ b ∷ [] }, None) ≡ collecting v b
  unfolding collecting full_to room_to
  collecting_room on room =
      sym (cond-true v.in_frame _ (v, None) on ∙ cond-false (length v.collected + 1 == too_long) full_to room_to (ne_eqb (length v.collected + 1) 12024 (λ e. room (omega arith))))

-- ---- the content before a flag, which is the front of what was collected

module _ (collected content : List Bool) (n : ℕ) (front : take n collected ≡ content) (within : n ≤ length collected) where
  content_length : length content ≡ n
  content_length = ap length (sym front) ∙ length-take-le n collected within

  pub answer_none : n ≡ 0 → None ≡ content_answer content
  unfolding content_answer
  answer_none none = sym (cond-true (length content == 0) None _ (eq-eqb (length content) 0 (content_length ∙ none)))

  -- the other answers
  some_content : (n ≡ 0 → ⊥) → (length content == 0) ≡ false
  some_content some = ne_eqb (length content) 0 (λ e. some (sym content_length ∙ e))

  pub answer_short : (n ≡ 0 → ⊥) → n < 24 → Some (TooShort n) ≡ content_answer content
  unfolding content_answer
  answer_short some short =
      ap (λ k. Some (TooShort k)) (sym content_length)
      ∙ sym (cond-false (length content == 0) None _ (some_content some)
      ∙ cond-true (nat_lt (length content) 24) (Some (TooShort (length content))) _ (lt-ltb (length content) 24 (let l = content_length in omega arith)))

  pub answer_uneven : 24 ≤ n → (n % 8 ≡ 0 → ⊥) → Some (Uneven n) ≡ content_answer content
  unfolding content_answer
  answer_uneven long uneven =
      ap (λ k. Some (Uneven k)) (sym content_length)
      ∙ sym (cond-false (length content == 0) None _ (some_content (λ e. absurd (omega arith)))
      ∙ cond-false (nat_lt (length content) 24) (Some (TooShort (length content))) _ (le-ltb (length content) 24 (let l = content_length in omega arith))
      ∙ cond-false (length content % 8 == 0) (Some (octets_answer (octets_of content))) (Some (Uneven (length content)))
      (ne_eqb (length content % 8) 0 (λ e. uneven (ap (λ k. k % 8) (sym content_length) ∙ e))))

  pub whole_front : n % 8 ≡ 0 → take (8 * (n / 8)) collected ≡ content
  whole_front even = let e : 8 * (n / 8) ≡ n = omega arith in ap (λ k. take k collected) e ∙ front

  pub answer_octets : (event : SlowEvent) → 24 ≤ n → n % 8 ≡ 0 → event ≡ octets_answer (octets_of (take (8 * (n / 8)) collected)) → Some event ≡ content_answer content
  unfolding content_answer
  answer_octets event long even is =
      ap Some (is ∙ ap (λ xs. octets_answer (octets_of xs)) (whole_front even))
      ∙ sym (cond-false (length content == 0) None _ (some_content (λ e. absurd (omega arith)))
      ∙ cond-false (nat_lt (length content) 24) (Some (TooShort (length content))) _ (le-ltb (length content) 24 (let l = content_length in omega arith))
      ∙ cond-true (length content % 8 == 0) (Some (octets_answer (octets_of content))) (Some (Uneven (length content)))
      (eq-eqb (length content % 8) 0 (ap (λ k. k % 8) content_length ∙ even)))

-- ---- whole octets, of which the last two are their sequence

module _ (octets xs : List ℕ) (n low high want : ℕ) (same : octets ≡ xs) (long : length xs ≡ n) (low_is : low ≡ get_or xs (n - 2) 0) (high_is : high ≡ get_or xs (n - 1) 0) (want_is : want ≡ fcs_of (take (n - 2) xs)) where
  field : field_of octets ≡ low + 256 * high
  unfolding field_of
  field =
      ap (λ o. get_or o (length o - 2) 0 + 256 * get_or o (length o - 1) 0) same
      ∙ ap (λ l. get_or xs (l - 2) 0 + 256 * get_or xs (l - 1) 0) long
      ∙ ap (λ l. l + 256 * get_or xs (n - 1) 0) (sym low_is) ∙ ap (λ h. low + 256 * h) (sym high_is)

  computed : fcs_of (body_of octets) ≡ want
  unfolding body_of
  computed = ap (λ o. fcs_of (take (length o - 2) o)) same ∙ ap (λ l. fcs_of (take (l - 2) xs)) long ∙ sym want_is

  pub frame_answer : low + 256 * high ≡ want → Frame ≡ octets_answer octets
  unfolding octets_answer
  frame_answer right = sym (cond-true (field_of octets == fcs_of (body_of octets)) Frame _ (eq-eqb (field_of octets) (fcs_of (body_of octets)) (field ∙ right ∙ sym computed)))

  pub wrong_answer : (low + 256 * high ≡ want → ⊥) → BadFcs (low + 256 * high) want ≡ octets_answer octets
  unfolding octets_answer
  wrong_answer wrong =
      ap (λ g. BadFcs g want) (sym field) ∙ ap (BadFcs (field_of octets)) (sym computed)
      ∙ sym (cond-false (field_of octets == fcs_of (body_of octets)) Frame _ (ne_eqb (field_of octets) (fcs_of (body_of octets)) (λ e. wrong (sym field ∙ e ∙ computed))))

-- the octets of a frame, of those that were put in the place of others
pub body-taken : (octets others : List ℕ) (n : ℕ) → octets ≡ take n others → length octets ≡ n → take (n - 2) others ≡ body_of octets
unfolding body_of
body-taken octets others n same long =
    sym (ap (λ l. take (l - 2) octets) long ∙ ap (take (n - 2)) same ∙ take-take (n - 2) n others (omega arith))

pub content_none : None ≡ content_answer []
unfolding content_answer
content_none = refl

pub flagged_is : (v : SlowView) (collected : List Bool) (frame : List ℕ) (answer : Option SlowEvent) → collected ≡ [] → answer ≡ content_answer (closed_content v)
    → frame ≡ kept_frame answer (closed_content v) v.frame → (record { ones = 0; in_frame = true; collected = collected; frame = frame }, answer) ≡ flagged v
unfolding flagged
flagged_is v collected frame answer none is kept =
    ap (λ xs. (record { ones = 0; in_frame = true; collected = xs; frame = frame }, answer)) none
    ∙ ap (λ f. (record { ones = 0; in_frame = true; collected = []; frame = f }, answer)) kept
    ∙ ap (λ a. (record { ones = 0; in_frame = true; collected = []; frame = kept_frame a (closed_content v) v.frame }, a)) is

module _ (v : SlowView) where
  pub seventh_one : v.ones ≡ 6 → aborting v ≡ step v true
  unfolding step
  seventh_one six = sym (cond-true (v.ones == 6) (aborting v) (collecting (record v { ones = min 7 (v.ones + 1) }) true) (eq-eqb v.ones 6 six))

  pub other_one : (v.ones ≡ 6 → ⊥) → collecting (record v { ones = min 7 (v.ones + 1) }) true ≡ step v true
  unfolding step
  other_one other = sym (cond-false (v.ones == 6) (aborting v) (collecting (record v { ones = min 7 (v.ones + 1) }) true) (ne_eqb v.ones 6 other))

  after_other : SlowView × Option SlowEvent
  after_other = if v.ones == 6 then flagged v else collecting (record v { ones = 0 }) false

  pub zero_stuffed : v.ones ≡ 5 → (record v { ones = 0 }, None) ≡ step v false
  unfolding step after_other
  zero_stuffed five = sym (cond-true (v.ones == 5) (record v { ones = 0 }, None) after_other (eq-eqb v.ones 5 five))

  pub zero_of_flag : v.ones ≡ 6 → flagged v ≡ step v false
  unfolding step after_other
  zero_of_flag six = sym (cond-false (v.ones == 5) (record v { ones = 0 }, None) after_other (ne_eqb v.ones 5 (λ five. absurd (omega arith)))
      ∙ cond-true (v.ones == 6) (flagged v) (collecting (record v { ones = 0 }) false) (eq-eqb v.ones 6 six))

  pub zero_collected : (v.ones ≡ 5 → ⊥) → (v.ones ≡ 6 → ⊥) → collecting (record v { ones = 0 }) false ≡ step v false
  unfolding step after_other
  zero_collected not_five not_six = sym (cond-false (v.ones == 5) (record v { ones = 0 }, None) after_other (ne_eqb v.ones 5 not_five)
      ∙ cond-false (v.ones == 6) (flagged v) (collecting (record v { ones = 0 }) false) (ne_eqb v.ones 6 not_six))

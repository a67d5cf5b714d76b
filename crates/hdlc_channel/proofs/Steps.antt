-- What a reader stands for after one more bit.
use Rattle.std.proofs.Common.{◌≡◌, ℕ, zero, suc, ◌+◌, ◌<◌, ◌≤◌, ◌&&◌, min, not, if◌then◌else◌, nat_lt, ◌==◌, eqb, Bool, true, false, List, [], ◌∷◌, ◌++◌, length, Option, Some, None, refl, sym, ap, ◌∙◌, subst, arith, inl, inr}
use Rattle.std.specs.Option.{is_some}
use Rattle.std.specs.Bool.{beq}
use Rattle.std.proofs.lemmas.Bool.{cond-true, cond-false, lt-ltb, le-ltb, ltb-true, ltb-false, eqb-true, eqb-false, cases_Bool, and_parts}
use Rattle.std.proofs.lemmas.List.{get_or_at, length-append}
use Rattle.hdlc_channel.specs.SlowText.{bit, ends_with, flag, stuffing, seven_ones, after_flag, unstuffed, holds_no_seven, is_open_since, opened_at, opened, open_answer, answer_since, slow_at, is_frame, frame_at, last_frame, too_long}
use Rattle.hdlc_channel.specs.Reader.{SlowView, StandsAt, ones_at, collecting}
use Rattle.hdlc_channel.specs.declared.slow_event.SlowEvent.{SlowEvent}
use Rattle.hdlc_channel.specs.declared.slow_event.SlowEvent.TheVariants.{TooLong}
use Rattle.hdlc_channel.proofs.Places.{ones_at-append, after_flag-append, unstuffed-append, holds_no_seven-append, opened-append, last_frame-append, flag_at, stuffing_at, seven_at}

-- ---- places after the last flag

pub after_flag-le : (bits : List Bool) (n from : ℕ) → after_flag bits n ≡ Some from → from ≤ n
unfolding after_flag
after_flag-le bits zero from e = cc
after_flag-le bits (suc n) from e =
    elim (cases_Bool (ends_with flag bits (suc n))) [
      | inl on ↦ let here : suc n ≡ from = let f : Some (suc n) ≡ Some from = sym (cond-true (ends_with flag bits (suc n)) (Some (suc n)) (after_flag bits n) on) ∙ e in cc in omega arith
      | inr off ↦ let before : from ≤ n = after_flag-le bits n from (sym (cond-false (ends_with flag bits (suc n)) (Some (suc n)) (after_flag bits n) off) ∙ e) in omega arith
    ]

pub opened_at-some : (bits : List Bool) (n from : ℕ) (last : Option ℕ) → opened_at bits n last ≡ Some from → (last ≡ Some from) × (is_open_since bits from n ≡ true)
unfolding opened_at
opened_at-some bits n from None e = cc
opened_at-some bits n from (Some f) e =
    elim (cases_Bool (is_open_since bits f n)) [
      | inl on ↦
          let same : Some f ≡ Some from = sym (cond-true (is_open_since bits f n) (Some f) None on) ∙ e in
          let f_is : f ≡ from = cc in
          (same, subst (λ x. is_open_since bits x n ≡ true) f_is on)
      | inr off ↦ let wrong : None ≡ Some from = sym (cond-false (is_open_since bits f n) (Some f) None off) ∙ e in cc
    ]

pub opened-le : (bits : List Bool) (n from : ℕ) → opened bits n ≡ Some from → from ≤ n
opened-le bits n from e = after_flag-le bits n from (opened_at-some bits n from (after_flag bits n) e).0

pub opened-short : (bits : List Bool) (n from : ℕ) → opened bits n ≡ Some from → length (unstuffed bits from n) < 12024
unfolding is_open_since
opened-short bits n from e =
    let whole : is_open_since bits from n ≡ true = (opened_at-some bits n from (after_flag bits n) e).1 in
    ltb-true (length (unstuffed bits from n)) 12024 (and_parts (holds_no_seven bits from n) (nat_lt (length (unstuffed bits from n)) 12024) whole).1

pub unstuffed-from_here : (bits : List Bool) (n : ℕ) → unstuffed bits n n ≡ []
unfolding unstuffed
unstuffed-from_here bits zero = refl
unstuffed-from_here bits (suc n) = cond-true (nat_lt n (suc n)) [] _ (lt-ltb n (suc n) (omega arith))

holds_no_seven-from_here : (bits : List Bool) (n : ℕ) → holds_no_seven bits n n ≡ true
unfolding holds_no_seven
holds_no_seven-from_here bits zero = refl
holds_no_seven-from_here bits (suc n) = cond-true (nat_lt n (suc n)) true _ (lt-ltb n (suc n) (omega arith))

is_open_since-from_here : (bits : List Bool) (n : ℕ) → is_open_since bits n n ≡ true
unfolding is_open_since
is_open_since-from_here bits n = rw (holds_no_seven-from_here bits n, unstuffed-from_here bits n) refl

-- ---- the list with one more bit

module _ (bits : List Bool) (b : Bool) where
  abbrev pub grown : List Bool
  grown = bits ++ b ∷ []

  pub bit_grown : bit grown (length bits) ≡ b
  bit_grown = get_or_at bits b [] false (length bits) refl

  pub ones_grown : ones_at grown (suc (length bits)) ≡ (if b then suc (ones_at bits (length bits)) else 0)
  unfolding ones_at
  ones_grown = rw (bit_grown, ones_at-append bits (b ∷ []) (length bits) (omega arith)) refl

  pub flag_grown : ends_with flag grown (suc (length bits)) ≡ (beq false b && eqb (ones_at bits (length bits)) 6)
  flag_grown = flag_at grown (length bits) ∙ rw (bit_grown, ones_at-append bits (b ∷ []) (length bits) (omega arith)) refl

  pub stuffing_grown : ends_with stuffing grown (suc (length bits)) ≡ (beq false b && eqb (ones_at bits (length bits)) 5)
  stuffing_grown = stuffing_at grown (length bits) ∙ rw (bit_grown, ones_at-append bits (b ∷ []) (length bits) (omega arith)) refl

  pub seven_grown : ends_with seven_ones grown (suc (length bits)) ≡ (beq true b && eqb (ones_at bits (length bits)) 6)
  seven_grown = seven_at grown (length bits) ∙ rw (bit_grown, ones_at-append bits (b ∷ []) (length bits) (omega arith)) refl

  pub unstuffed_grown : (from : ℕ) → from ≤ length bits → unstuffed grown from (suc (length bits))
      ≡ (if ends_with stuffing grown (suc (length bits)) then unstuffed bits from (length bits) else unstuffed bits from (length bits) ++ b ∷ [])
  unfolding unstuffed
  unstuffed_grown from h =
      let inside : nat_lt (length bits) from ≡ false = le-ltb (length bits) from h in
      rw (inside, unstuffed-append bits (b ∷ []) from (length bits) (omega arith), bit_grown) refl

  holds_grown : (from : ℕ) → from ≤ length bits → holds_no_seven grown from (suc (length bits))
      ≡ (not (ends_with seven_ones grown (suc (length bits))) && holds_no_seven bits from (length bits))
  unfolding holds_no_seven
  holds_grown from h =
      let inside : nat_lt (length bits) from ≡ false = le-ltb (length bits) from h in
      rw (inside, holds_no_seven-append bits (b ∷ []) from (length bits) (omega arith)) refl

  -- where a frame that was open before the last bit is still open, with no flag between
  abbrev pub stays_open : Option ℕ → Option ℕ
  stays_open None = None
  stays_open (Some from) =
      if not (ends_with seven_ones grown (suc (length bits))) && nat_lt (length (unstuffed grown from (suc (length bits)))) too_long
      then Some from else None

  unstuffed_not_shorter : (from : ℕ) → from ≤ length bits → length (unstuffed bits from (length bits)) ≤ length (unstuffed grown from (suc (length bits)))
  unstuffed_not_shorter from h =
      elim (cases_Bool (ends_with stuffing grown (suc (length bits)))) [
        | inl on ↦ let same = ap length (unstuffed_grown from h ∙ cond-true (ends_with stuffing grown (suc (length bits))) _ _ on) in omega arith
        | inr off ↦ let longer = ap length (unstuffed_grown from h ∙ cond-false (ends_with stuffing grown (suc (length bits))) _ _ off) in
            omega (arith, longer, length-append (unstuffed bits from (length bits)) (b ∷ []))
      ]

  -- a test that fails where either part of another failed
  still_shut : (s h l l' : Bool) → (h && l) ≡ false → (l ≡ false → l' ≡ false) → ((not s && h) && l') ≡ false
  still_shut true true true l' e less = refl
  still_shut false true true l' e less = cc
  still_shut true true false l' e less = refl
  still_shut false true false l' e less = less refl
  still_shut true false l l' e less = refl
  still_shut false false l l' e less = refl

  still_open : (s h l l' : Bool) → (h && l) ≡ true → ((not s && h) && l') ≡ (not s && l')
  still_open true true l l' e = refl
  still_open false true l l' e = refl
  still_open s false l l' e = cc

  opened_at-next : (last : Option ℕ) → ((from : ℕ) → last ≡ Some from → from ≤ length bits) → opened_at grown (suc (length bits)) last ≡ stays_open (opened_at bits (length bits) last)
  unfolding opened_at is_open_since
  opened_at-next None earlier = refl
  opened_at-next (Some from) earlier =
      let h : from ≤ length bits = earlier from refl in
      let longer : length (unstuffed bits from (length bits)) ≤ length (unstuffed grown from (suc (length bits))) = unstuffed_not_shorter from h in
      let s = ends_with seven_ones grown (suc (length bits)) in
      let held = holds_no_seven bits from (length bits) in
      let short = nat_lt (length (unstuffed bits from (length bits))) too_long in
      let short' = nat_lt (length (unstuffed grown from (suc (length bits)))) too_long in
      let less : short ≡ false → short' ≡ false = λ (e : short ≡ false).
      let long : 12024 ≤ length (unstuffed bits from (length bits)) = ltb-false (length (unstuffed bits from (length bits))) 12024 e in
      le-ltb (length (unstuffed grown from (suc (length bits)))) 12024 (omega arith) in
      let left : opened_at grown (suc (length bits)) (Some from) ≡ (if (not s && held) && short' then Some from else None) =
      ap (λ x. if x && short' then Some from else None) (holds_grown from h) in
      elim (cases_Bool (held && short)) [
        | inl on ↦
            left ∙ ap (λ x. if x then Some from else None) (still_open s held short short' on)
            ∙ sym (ap stays_open (cond-true (held && short) (Some from) None on))
        | inr off ↦
            left ∙ cond-false ((not s && held) && short') (Some from) None (still_shut s held short short' off less)
            ∙ sym (ap stays_open (cond-false (held && short) (Some from) None off))
      ]

  pub opened-next : ends_with flag grown (suc (length bits)) ≡ false → opened grown (suc (length bits)) ≡ stays_open (opened bits (length bits))
  unfolding after_flag
  opened-next none =
      let last : after_flag grown (suc (length bits)) ≡ after_flag bits (length bits) =
      cond-false (ends_with flag grown (suc (length bits))) (Some (suc (length bits))) (after_flag grown (length bits)) none
      ∙ after_flag-append bits (b ∷ []) (length bits) (omega arith) in
      ap (opened_at grown (suc (length bits))) last ∙ opened_at-next (after_flag bits (length bits)) (after_flag-le bits (length bits))

  pub opened-flag : ends_with flag grown (suc (length bits)) ≡ true → opened grown (suc (length bits)) ≡ Some (suc (length bits))
  unfolding after_flag opened_at
  opened-flag ends =
      ap (opened_at grown (suc (length bits))) (cond-true (ends_with flag grown (suc (length bits))) (Some (suc (length bits))) (after_flag grown (length bits)) ends)
      ∙ cond-true (is_open_since grown (suc (length bits)) (suc (length bits))) (Some (suc (length bits))) None (is_open_since-from_here grown (suc (length bits)))

  -- the answer to the last bit
  pub slow_at-grown : slow_at grown (length bits) ≡ answer_since grown (length bits) (opened bits (length bits))
  unfolding slow_at
  slow_at-grown = ap (answer_since grown (length bits)) (opened-append bits (b ∷ []) (length bits) (omega arith))

  pub last_frame-grown : last_frame grown (suc (length bits)) ≡ (if is_frame (slow_at grown (length bits)) then frame_at grown (length bits) else last_frame bits (length bits))
  unfolding last_frame
  last_frame-grown = rw (last_frame-append bits (b ∷ []) (length bits) (omega arith)) refl

  -- what a reader does with the last bit keeps what it stands for
  abbrev pub Keeps : SlowView × Option SlowEvent → Type 0
  Keeps r = (r.1 ≡ slow_at grown (length bits)) × StandsAt r.0 grown (suc (length bits))

  pub no_frame_ends : is_frame (slow_at grown (length bits)) ≡ false → last_frame grown (suc (length bits)) ≡ last_frame bits (length bits)
  no_frame_ends none = last_frame-grown ∙ cond-false (is_frame (slow_at grown (length bits))) _ _ none

  -- a bit after which no frame is open, with an answer that is no frame
  pub closes : (v : SlowView) (answer : Option SlowEvent) → v.ones ≡ min 7 (ones_at grown (suc (length bits))) → v.in_frame ≡ false
      → v.frame ≡ last_frame bits (length bits) → is_frame answer ≡ false → answer ≡ slow_at grown (length bits) → opened grown (suc (length bits)) ≡ None → Keeps (v, answer)
  closes v answer ones shut frame other is none = (
    is,
    record {
      ones = ones;
      in_frame = shut ∙ sym (ap is_some none);
      collected = λ from e. let wrong : None ≡ Some from = sym none ∙ e in cc;
      frame = frame ∙ sym (no_frame_ends (sym (ap is_frame is) ∙ other));
    },
  )

  -- a bit after which the same frame is open, with no answer
  pub goes_on : (v : SlowView) (from : ℕ) → v.ones ≡ min 7 (ones_at grown (suc (length bits))) → v.in_frame ≡ true → v.collected ≡ unstuffed grown from (suc (length bits))
      → v.frame ≡ last_frame bits (length bits) → None ≡ slow_at grown (length bits) → opened grown (suc (length bits)) ≡ Some from → Keeps (v, None)
  goes_on v from ones stays collected frame is same = (
    is,
    record {
      ones = ones;
      in_frame = stays ∙ sym (ap is_some same);
      collected = λ f e. let both : Some from ≡ Some f = sym same ∙ e in let f_is : from ≡ f = cc in subst (λ x. v.collected ≡ unstuffed grown x (suc (length bits))) f_is collected;
      frame = frame ∙ sym (no_frame_ends (sym (ap is_frame is)));
    },
  )

  module _ (no_flag : ends_with flag grown (suc (length bits)) ≡ false) (no_seven : ends_with seven_ones grown (suc (length bits)) ≡ false) where
    pub open_answer_is : (from : ℕ) → open_answer grown from (length bits) ≡ (if length (unstuffed grown from (suc (length bits))) == too_long then Some TooLong else None)
    unfolding open_answer
    open_answer_is from = rw (no_flag, no_seven) refl

    pub stays_open_is : (from : ℕ) → stays_open (Some from) ≡ (if nat_lt (length (unstuffed grown from (suc (length bits)))) too_long then Some from else None)
    stays_open_is from = rw no_seven refl

    still_none : opened bits (length bits) ≡ None → opened grown (suc (length bits)) ≡ None
    still_none none = opened-next no_flag ∙ ap stays_open none

    closed_answer : opened bits (length bits) ≡ None → None ≡ slow_at grown (length bits)
    closed_answer none = sym (slow_at-grown ∙ ap (answer_since grown (length bits)) none)

    module _ (v : SlowView) (ones : v.ones ≡ min 7 (ones_at grown (suc (length bits)))) (frame : v.frame ≡ last_frame bits (length bits)) where
      pub not_open : opened bits (length bits) ≡ None → v.in_frame ≡ false → Keeps (v, None)
      not_open none shut = closes v None ones shut frame refl (closed_answer none) (still_none none)

      collect_open : (from : ℕ) → opened bits (length bits) ≡ Some from → ends_with stuffing grown (suc (length bits)) ≡ false → v.in_frame ≡ true → v.collected ≡ unstuffed bits from (length bits) → Keeps (collecting v b)
      unfolding collecting
      collect_open from some no_stuffing on collected =
          let grows : unstuffed grown from (suc (length bits)) ≡ unstuffed bits from (length bits) ++ b ∷ [] =
          unstuffed_grown from (opened-le bits (length bits) from some) ∙ cond-false (ends_with stuffing grown (suc (length bits))) _ _ no_stuffing in
          let longer : length (unstuffed grown from (suc (length bits))) ≡ length v.collected + 1 =
          ap length grows ∙ length-append (unstuffed bits from (length bits)) (b ∷ []) ∙ ap (λ x. length x + 1) (sym collected) in
          let short : length v.collected < 12024 = subst (λ x. length x < 12024) (sym collected) (opened-short bits (length bits) from some) in
          let answer : slow_at grown (length bits) ≡ (if length v.collected + 1 == too_long then Some TooLong else None) =
          slow_at-grown ∙ ap (answer_since grown (length bits)) some ∙ open_answer_is from ∙ ap (λ x. if x == too_long then Some TooLong else None) longer in
          let open' : opened grown (suc (length bits)) ≡ (if nat_lt (length v.collected + 1) too_long then Some from else None) =
          opened-next no_flag ∙ ap stays_open some ∙ stays_open_is from ∙ ap (λ x. if nat_lt x too_long then Some from else None) longer in
          let full_to : SlowView × Option SlowEvent = (record v { in_frame = false }, Some TooLong) in
          let room_to : SlowView × Option SlowEvent = (record v { collected = v.collected ++ b ∷ [] }, None) in
          elim (cases_Bool (length v.collected + 1 == too_long)) [
            | inl full ↦
                let e : collecting v b ≡ full_to = cond-true v.in_frame _ (v, None) on ∙ cond-true (length v.collected + 1 == too_long) full_to room_to full in
                subst Keeps (sym e)
                (closes (record v { in_frame = false }) (Some TooLong) ones refl frame refl (sym (answer ∙ cond-true (length v.collected + 1 == too_long) _ _ full))
                (open' ∙ cond-false (nat_lt (length v.collected + 1) too_long) _ _ (le-ltb (length v.collected + 1) 12024 (let e = eqb-true (length v.collected + 1) 12024 full in omega arith))))
            | inr room ↦
                let e : collecting v b ≡ room_to = cond-true v.in_frame _ (v, None) on ∙ cond-false (length v.collected + 1 == too_long) full_to room_to room in
                subst Keeps (sym e)
                (goes_on (record v { collected = v.collected ++ b ∷ [] }) from ones on (ap (λ x. x ++ b ∷ []) collected ∙ sym grows) frame (sym (answer ∙ cond-false (length v.collected + 1 == too_long) _ _ room))
                (open' ∙ cond-true (nat_lt (length v.collected + 1) too_long) _ _ (lt-ltb (length v.collected + 1) 12024 (let e = eqb-false (length v.collected + 1) 12024 room in omega arith))))
          ]

      -- a bit that ends no flag, is no seventh 1 and no stuffing
      pub collecting_keeps : (o : Option ℕ) → opened bits (length bits) ≡ o → ends_with stuffing grown (suc (length bits)) ≡ false → v.in_frame ≡ is_some (opened bits (length bits))
          → ((from : ℕ) → opened bits (length bits) ≡ Some from → v.collected ≡ unstuffed bits from (length bits)) → Keeps (collecting v b)
      unfolding collecting
      collecting_keeps None none no_stuffing stays collected =
          let shut : v.in_frame ≡ false = stays ∙ ap is_some none in
          subst Keeps (sym (cond-false v.in_frame _ (v, None) shut)) (not_open none shut)
      collecting_keeps (Some from) some no_stuffing stays collected =
          collect_open from some no_stuffing (stays ∙ ap is_some some) (collected from some)

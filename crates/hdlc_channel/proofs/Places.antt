-- What is read at a place does not depend on the bits behind it, and what is read at the next place.
use Rattle.std.proofs.Common.{◌≡◌, ℕ, zero, suc, ◌-◌, ◌<◌, ◌≤◌, ◌&&◌, if◌then◌else◌, eqb, Bool, true, false, List, [], ◌∷◌, ◌++◌, length, Option, Some, None, refl, sym, ap, ◌∙◌, arith}
use Rattle.std.specs.Bool.{beq}
use Rattle.std.proofs.lemmas.Bool.{ne_eqb}
use Rattle.std.proofs.Math.Dec.{eqb-suc-zero, eqb-zero-suc, eqb-suc-suc}
use Rattle.std.proofs.lemmas.List.{get_or_append_left}
use Rattle.hdlc_channel.specs.SlowText.{bit, ends_with, flag, stuffing, seven_ones, after_flag, unstuffed, holds_no_seven, is_open_since, opened_at, opened, open_answer, answer_since, slow_at, frame_at, content_since, last_frame}
use Rattle.hdlc_channel.specs.Reader.{ones_at}

pub ends_with-append : (pattern bits more : List Bool) (n : ℕ) → n ≤ length bits → ends_with pattern (bits ++ more) n ≡ ends_with pattern bits n
unfolding ends_with
ends_with-append [] bits more n h = refl
ends_with-append (last ∷ before) bits more zero h = refl
ends_with-append (last ∷ before) bits more (suc n) h =
    let inside : n < length bits = omega arith in
    let earlier : n ≤ length bits = omega arith in
    rw (get_or_append_left bits more false n inside, ends_with-append before bits more n earlier) refl

pub ones_at-append : (bits more : List Bool) (n : ℕ) → n ≤ length bits → ones_at (bits ++ more) n ≡ ones_at bits n
unfolding ones_at
ones_at-append bits more zero h = refl
ones_at-append bits more (suc n) h =
    let inside : n < length bits = omega arith in
    let earlier : n ≤ length bits = omega arith in
    rw (get_or_append_left bits more false n inside, ones_at-append bits more n earlier) refl

pub after_flag-append : (bits more : List Bool) (n : ℕ) → n ≤ length bits → after_flag (bits ++ more) n ≡ after_flag bits n
unfolding after_flag
after_flag-append bits more zero h = refl
after_flag-append bits more (suc n) h =
    let earlier : n ≤ length bits = omega arith in
    rw (ends_with-append flag bits more (suc n) h, after_flag-append bits more n earlier) refl

pub unstuffed-append : (bits more : List Bool) (from n : ℕ) → n ≤ length bits → unstuffed (bits ++ more) from n ≡ unstuffed bits from n
unfolding unstuffed
unstuffed-append bits more from zero h = refl
unstuffed-append bits more from (suc n) h =
    let inside : n < length bits = omega arith in
    let earlier : n ≤ length bits = omega arith in
    rw (ends_with-append stuffing bits more (suc n) h, get_or_append_left bits more false n inside, unstuffed-append bits more from n earlier) refl

pub holds_no_seven-append : (bits more : List Bool) (from n : ℕ) → n ≤ length bits → holds_no_seven (bits ++ more) from n ≡ holds_no_seven bits from n
unfolding holds_no_seven
holds_no_seven-append bits more from zero h = refl
holds_no_seven-append bits more from (suc n) h =
    let earlier : n ≤ length bits = omega arith in
    rw (ends_with-append seven_ones bits more (suc n) h, holds_no_seven-append bits more from n earlier) refl

pub is_open_since-append : (bits more : List Bool) (from n : ℕ) → n ≤ length bits → is_open_since (bits ++ more) from n ≡ is_open_since bits from n
unfolding is_open_since
is_open_since-append bits more from n h = rw (holds_no_seven-append bits more from n h, unstuffed-append bits more from n h) refl

opened_at-append : (bits more : List Bool) (n : ℕ) (last : Option ℕ) → n ≤ length bits → opened_at (bits ++ more) n last ≡ opened_at bits n last
unfolding opened_at
opened_at-append bits more n None h = refl
opened_at-append bits more n (Some from) h = rw (is_open_since-append bits more from n h) refl

pub opened-append : (bits more : List Bool) (n : ℕ) → n ≤ length bits → opened (bits ++ more) n ≡ opened bits n
opened-append bits more n h = rw (after_flag-append bits more n h) (opened_at-append bits more n (after_flag bits n) h)

open_answer-append : (bits more : List Bool) (from p : ℕ) → p < length bits → open_answer (bits ++ more) from p ≡ open_answer bits from p
unfolding open_answer
open_answer-append bits more from p h =
    let here : suc p ≤ length bits = omega arith in
    let before : p ≤ length bits = omega arith in
    let content : p - 7 ≤ length bits = omega arith in
    rw (
      ends_with-append flag bits more (suc p) here,
      ends_with-append seven_ones bits more (suc p) here,
      unstuffed-append bits more from (p - 7) content,
      unstuffed-append bits more from p before,
      unstuffed-append bits more from (suc p) here,
    ) refl

answer_since-append : (bits more : List Bool) (p : ℕ) (last : Option ℕ) → p < length bits → answer_since (bits ++ more) p last ≡ answer_since bits p last
answer_since-append bits more p None h = refl
answer_since-append bits more p (Some from) h = open_answer-append bits more from p h

pub slow_at-append : (bits more : List Bool) (p : ℕ) → p < length bits → slow_at (bits ++ more) p ≡ slow_at bits p
unfolding slow_at
slow_at-append bits more p h =
    let before : p ≤ length bits = omega arith in
    ap (answer_since (bits ++ more) p) (opened-append bits more p before) ∙ answer_since-append bits more p (opened bits p) h

content_since-append : (bits more : List Bool) (p : ℕ) (last : Option ℕ) → p < length bits → content_since (bits ++ more) p last ≡ content_since bits p last
content_since-append bits more p None h = refl
content_since-append bits more p (Some from) h = unstuffed-append bits more from (p - 7) (omega arith)

pub frame_at-append : (bits more : List Bool) (p : ℕ) → p < length bits → frame_at (bits ++ more) p ≡ frame_at bits p
unfolding frame_at
frame_at-append bits more p h =
    let before : p ≤ length bits = omega arith in
    let same : content_since (bits ++ more) p (opened (bits ++ more) p) ≡ content_since bits p (opened bits p) =
    ap (content_since (bits ++ more) p) (opened-append bits more p before) ∙ content_since-append bits more p (opened bits p) h in
    rw same refl

pub last_frame-append : (bits more : List Bool) (n : ℕ) → n ≤ length bits → last_frame (bits ++ more) n ≡ last_frame bits n
unfolding last_frame
last_frame-append bits more zero h = refl
last_frame-append bits more (suc p) h =
    let inside : p < length bits = omega arith in
    let earlier : p ≤ length bits = omega arith in
    rw (slow_at-append bits more p inside, frame_at-append bits more p inside, last_frame-append bits more p earlier) refl

-- ---- a 0 and then so many 1s, from the last bit back

unfoldable pub ones_back : ℕ → List Bool
ones_back zero = false ∷ []
ones_back (suc k) = true ∷ ones_back k

no_ones : (b : Bool) (r : ℕ) → (beq false b && true) ≡ eqb (if b then suc r else 0) 0
no_ones true r = sym (eqb-suc-zero r)
no_ones false r = refl

one_more : (b : Bool) (r k : ℕ) (x : Bool) → x ≡ eqb r k → (beq true b && x) ≡ eqb (if b then suc r else 0) (suc k)
one_more true r k x e = e ∙ sym (eqb-suc-suc r k)
one_more false r k x e = sym (eqb-zero-suc k)

pub ends_with-ones : (k : ℕ) (bits : List Bool) (n : ℕ) → k < 7 → ends_with (ones_back k) bits n ≡ eqb (ones_at bits n) k
unfolding ends_with ones_at ones_back
ends_with-ones zero bits zero h = refl
ends_with-ones zero bits (suc n) h = no_ones (bit bits n) (ones_at bits n)
ends_with-ones (suc k) bits zero h = sym (ne_eqb 7 (suc k) (λ e. absurd (omega arith)))
ends_with-ones (suc k) bits (suc n) h = one_more (bit bits n) (ones_at bits n) k (ends_with (ones_back k) bits n) (ends_with-ones k bits n (omega arith))

pub flag_at : (bits : List Bool) (n : ℕ) → ends_with flag bits (suc n) ≡ (beq false (bit bits n) && eqb (ones_at bits n) 6)
unfolding ends_with ones_back
flag_at bits n = ap (λ x. beq false (bit bits n) && x) (ends_with-ones 6 bits n (omega arith))

pub stuffing_at : (bits : List Bool) (n : ℕ) → ends_with stuffing bits (suc n) ≡ (beq false (bit bits n) && eqb (ones_at bits n) 5)
unfolding ends_with ones_back
stuffing_at bits n = ap (λ x. beq false (bit bits n) && x) (ends_with-ones 5 bits n (omega arith))

pub seven_at : (bits : List Bool) (n : ℕ) → ends_with seven_ones bits (suc n) ≡ (beq true (bit bits n) && eqb (ones_at bits n) 6)
unfolding ends_with ones_back
seven_at bits n = ap (λ x. beq true (bit bits n) && x) (ends_with-ones 6 bits n (omega arith))

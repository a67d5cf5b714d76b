-- A reader takes one bit of an octet after another.
use Rattle.std.proofs.Common.{◌≡◌, ℕ, ◌+◌, ◌-◌, ◌/◌, ◌^◌, ◌<◌, ◌≤◌, ◌==◌, Bool, List, [], ◌∷◌, ◌++◌, length, take, drop, get_or, bit_and, false, Option, Some, None, refl, sym, ap, ◌∙◌, subst, arith, inl, inr, append_assoc}
use Rattle.std.proofs.lemmas.Bool.{cases_lt}
use Rattle.std.proofs.lemmas.List.{length-append, length-take-le, length-drop, take_more, take-append-drop, append-nil, get_or-drop}
use Rattle.std.proofs.lemmas.Nat.{and_mask}
use Rattle.hdlc_channel.specs.Bits.{octet_bits}
use Rattle.hdlc_channel.specs.SlowText.{slow_at}
use Rattle.hdlc_channel.specs.Reader.{SlowView, StandsFor}
use Rattle.hdlc_channel.specs.Octet.{TakesBits}
use Rattle.std.specs.Option.{is_some}
use Rattle.hdlc_channel.specs.declared.slow_event.SlowEvent.{SlowEvent}
use Rattle.hdlc_channel.proofs.Contents.{length-low_bits}
use Rattle.hdlc_channel.proofs.ContentReads.{get_or-low_bits}
use Rattle.hdlc_channel.proofs.Places.{slow_at-append}

-- so many of the given bits were taken, with no answer
pub record TakenSo (given : List Bool) (k : ℕ) (v : SlowView) (bits : List Bool) : Type 0 where
  pub stands : StandsFor v (bits ++ take k given)
  pub quiet : (j : ℕ) → j < k → slow_at (bits ++ given) (length bits + j) ≡ None

pub none_taken : (given : List Bool) (v : SlowView) (bits : List Bool) → StandsFor v bits → TakenSo given 0 v bits
none_taken given v bits stands = record { stands = subst (StandsFor v) (sym (append-nil bits)) stands; quiet = λ j h. absurd (omega arith) }

module _ (given bits : List Bool) (k : ℕ) (b : Bool) (inside : k < length given) (is : b ≡ get_or given k b) where
  grown_is : (bits ++ take k given) ++ b ∷ [] ≡ bits ++ take (k + 1) given
  grown_is = append_assoc bits (take k given) (b ∷ []) ∙ ap (λ xs. bits ++ xs) (sym (take_more given k b inside ∙ ap (λ x. take k given ++ x ∷ []) (sym is)))

  place_is : length (bits ++ take k given) ≡ length bits + k
  place_is = length-append bits (take k given) ∙ ap (λ n. length bits + n) (length-take-le k given (omega arith))

  pub answer_at : (answer : Option SlowEvent) → answer ≡ slow_at ((bits ++ take k given) ++ b ∷ []) (length (bits ++ take k given)) → slow_at (bits ++ given) (length bits + k) ≡ answer
  answer_at answer e =
      let long : length (bits ++ take (k + 1) given) ≡ length bits + (k + 1) = length-append bits (take (k + 1) given) ∙ ap (λ n. length bits + n) (length-take-le (k + 1) given (omega arith)) in
      let whole : (bits ++ take (k + 1) given) ++ drop (k + 1) given ≡ bits ++ given = append_assoc bits (take (k + 1) given) (drop (k + 1) given) ∙ ap (λ xs. bits ++ xs) (take-append-drop (k + 1) given) in
      sym (e ∙ ap (slow_at ((bits ++ take k given) ++ b ∷ [])) place_is ∙ ap (λ xs. slow_at xs (length bits + k)) grown_is
      ∙ sym (slow_at-append (bits ++ take (k + 1) given) (drop (k + 1) given) (length bits + k) (omega arith))
      ∙ ap (λ xs. slow_at xs (length bits + k)) whole)

  pub stands_after : (v : SlowView) → StandsFor v ((bits ++ take k given) ++ b ∷ []) → StandsFor v (bits ++ take (k + 1) given)
  stands_after v stands = subst (StandsFor v) grown_is stands

pub one_more_taken : (given bits : List Bool) (k : ℕ) (v v' : SlowView) → TakenSo given k v bits → slow_at (bits ++ given) (length bits + k) ≡ None → StandsFor v' (bits ++ take (k + 1) given) → TakenSo given (k + 1) v' bits
one_more_taken given bits k v v' before none stands = record {
  stands = stands;
  quiet = λ j h. elim (cases_lt j k) [
    | inl less ↦ before.quiet j less
    | inr same ↦ let e : k ≡ j = omega arith in ap (λ n. slow_at (bits ++ given) (length bits + n)) (sym e) ∙ none
  ];
}

-- the bit at a place of an octet
pub given_bit : (octet from place : ℕ) (d : Bool) → from ≤ place → place < 8 → (bit_and (octet / 2 ^ place) 1 == 1) ≡ get_or (drop from (octet_bits octet)) (place - from) d
given_bit octet from place d h inside =
    let e : from + (place - from) ≡ place = omega arith in
    ap (λ x. x == 1) (and_mask (octet / 2 ^ place) 1)
    ∙ sym (get_or-drop from (octet_bits octet) (place - from) d ∙ ap (λ n. get_or (octet_bits octet) n d) e ∙ get_or-low_bits 8 octet place d inside)

pub given_length : (octet from : ℕ) → length (drop from (octet_bits octet)) ≡ 8 - from
given_length octet from = length-drop from (octet_bits octet) ∙ ap (λ n. n - from) (length-low_bits 8 octet)

pub none_from : (o : Option SlowEvent) → is_some o ≡ false → o ≡ None
none_from None e = refl
none_from (Some x) e = cc

-- the bit at a place was taken, with an answer
pub takes : (given bits : List Bool) (from place : ℕ) (answer : Option SlowEvent) (v v' : SlowView) → from ≤ place → TakenSo given (place - from) v bits
    → slow_at (bits ++ given) (length bits + (place - from)) ≡ answer → StandsFor v' (bits ++ take (place - from + 1) given) → TakesBits given (place + 1 - from) answer v' bits
takes given bits from place answer v v' h before last stands =
    let e : place - from + 1 ≡ place + 1 - from = omega arith in
    let l : place + 1 - from - 1 ≡ place - from = omega arith in
    record {
      quiet = λ k less. before.quiet k (omega arith);
      last = ap (λ n. slow_at (bits ++ given) (length bits + n)) l ∙ last;
      stands = subst (λ n. StandsFor v' (bits ++ take n given)) e stands;
    }

-- all were taken, with no answer
pub takes_all : (given bits : List Bool) (n : ℕ) (v : SlowView) → 0 < n → TakenSo given n v bits → TakesBits given n None v bits
takes_all given bits n v some before = record { quiet = λ k less. before.quiet k (omega arith); last = before.quiet (n - 1) (omega arith); stands = before.stands }

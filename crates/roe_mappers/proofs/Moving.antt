-- Bits that are moved piece after piece.
use Rattle.std.proofs.Common.{◌≡◌, ℕ, ◌+◌, ◌-◌, ◌*◌, ◌<◌, List, [], ◌++◌, length, take, get_or, Contains, refl, sym, ap, ◌∙◌, inl, inr, arith, length-append}
use Rattle.std.specs.List.{range_with_len, flat_map}
use Rattle.std.proofs.lemmas.Bool.{cases_lt}
use Rattle.std.proofs.lemmas.List.{flat_map_more, get_or-append_right, get_or_append_left, get_or_default, take_more}
use Rattle.std.proofs.lemmas.List.FromFn.{get_or-range_with_len, length-range_with_len}
use Rattle.basic_frame.specs.Frames.{iq_bit}
use Rattle.link_base.specs.Bits.{bit_of}
use Rattle.sample_bits.specs.Copied.{CopiesBits}
use Rattle.roe_mappers.specs.MovedBits.{GivesBits, TakesBits}

-- ---- membership

pub contains_at : (xs : List ℕ) (i : ℕ) → i < length xs → Contains xs (get_or xs i 0)
contains_at xs i lt = (i, lt, get_or_default xs i (get_or xs i 0) 0 lt)

pub contains-left : (xs ys : List ℕ) (x : ℕ) → Contains xs x → Contains (xs ++ ys) x
contains-left xs ys x h = (h.0, omega (arith, length-append xs ys, h.1), get_or_append_left xs ys x h.0 h.1 ∙ h.2)

pub contains-right : (xs ys : List ℕ) (x : ℕ) → Contains ys x → Contains (xs ++ ys) x
contains-right xs ys x h =
    let back : length xs + h.0 - length xs ≡ h.0 = omega arith in (
      length xs + h.0,
      omega (arith, length-append xs ys, h.1),
      get_or-append_right xs ys (length xs) (length xs + h.0) x refl (omega arith) ∙ ap (λ n. get_or ys n x) back ∙ h.2,
    )

-- the pieces so far and one more
pub flat_map-take_more : {A : Type 0} (g : A → List ℕ) (xs : List A) (i : ℕ) (d : A) → i < length xs → flat_map g (take (i + 1) xs) ≡ flat_map g (take i xs) ++ g (get_or xs i d)
flat_map-take_more g xs i d lt = ap (flat_map g) (take_more xs i d lt) ∙ sym (flat_map_more g [] (take i xs) (get_or xs i d))

-- ---- out of a frame

pub TakesBits-none : (y : ℕ) (frame old : List ℕ) (at : ℕ) → TakesBits y frame [] old old at
TakesBits-none y frame old at = record { same_length = refl; taken = λ i lt. absurd (omega arith); before = λ k _. refl; after = λ k _. refl }

pub TakesBits-piece : (y : ℕ) (frame old new : List ℕ) (x at count : ℕ) → CopiesBits frame (8 * y + x) old new at count → TakesBits y frame (range_with_len x count) old new at
TakesBits-piece y frame old new x at count h =
    let long = length-range_with_len x count in
    record {
      same_length = h.same_length;
      taken = λ i lt.
          let low : i < count = omega arith in
          let bit = get_or-range_with_len x count i 0 low in
          let place : 8 * y + x + i ≡ 8 * y + get_or (range_with_len x count) i 0 = omega arith in
          h.copied i low ∙ ap (bit_of frame) place;
      before = h.before;
      after = λ k le. h.after k (omega arith);
    }

pub TakesBits-join : (y : ℕ) (frame bs cs old mid new : List ℕ) (at next : ℕ) → next ≡ at + length bs
    → TakesBits y frame bs old mid at → TakesBits y frame cs mid new next → TakesBits y frame (bs ++ cs) old new at
TakesBits-join y frame bs cs old mid new at next then first second =
    let long = length-append bs cs in
    record {
      same_length = second.same_length ∙ first.same_length;
      taken = λ i lt. elim (cases_lt i (length bs)) [
        | inl low ↦
            let bit = get_or_append_left bs cs 0 i low in
            second.before (at + i) (omega arith) ∙ first.taken i low ∙ ap (iq_bit y frame) (sym bit)
        | inr high ↦
            let place : at + i ≡ next + (i - length bs) = omega arith in
            let bit = get_or-append_right bs cs (length bs) i 0 refl high in
            ap (bit_of new) place ∙ second.taken (i - length bs) (omega arith) ∙ ap (iq_bit y frame) (sym bit)
      ];
      before = λ k lt. second.before k (omega arith) ∙ first.before k lt;
      after = λ k le. second.after k (omega arith) ∙ first.after k (omega arith);
    }

-- ---- into a frame

pub GivesBits-none : (y : ℕ) (octets : List ℕ) (from : ℕ) (old : List ℕ) → GivesBits y octets from [] old old
GivesBits-none y octets from old = record { control = λ k _. refl; given = λ i lt. absurd (omega arith); others = λ x _. refl }

pub GivesBits-piece : (y : ℕ) (octets old new : List ℕ) (x from count : ℕ) → CopiesBits octets from old new (8 * y + x) count → GivesBits y octets from (range_with_len x count) old new
GivesBits-piece y octets old new x from count h =
    let long = length-range_with_len x count in
    record {
      control = λ k lt. h.before k (omega arith);
      given = λ i lt.
          let low : i < count = omega arith in
          let bit = get_or-range_with_len x count i 0 low in
          let place : 8 * y + get_or (range_with_len x count) i 0 ≡ 8 * y + x + i = omega arith in
          ap (bit_of new) place ∙ h.copied i low;
      others = λ z absent. elim (cases_lt z x) [
        | inl low ↦ h.before (8 * y + z) (omega arith)
        | inr high ↦ elim (cases_lt z (x + count)) [
          | inl within ↦
              let low : z - x < count = omega arith in
              let back : x + (z - x) ≡ z = omega arith in
              absurd (absent (z - x, omega arith, get_or-range_with_len x count (z - x) z low ∙ back))
          | inr past ↦ h.after (8 * y + z) (omega arith)
        ]
      ];
    }

-- no number of the one list is in the other
abbrev pub AreApart : List ℕ → List ℕ → Type 0
AreApart bs cs = (i : ℕ) → i < length bs → ¬ Contains cs (get_or bs i 0)

pub GivesBits-join : (y : ℕ) (octets bs cs old mid new : List ℕ) (from next : ℕ) → next ≡ from + length bs → AreApart bs cs
    → GivesBits y octets from bs old mid → GivesBits y octets next cs mid new → GivesBits y octets from (bs ++ cs) old new
GivesBits-join y octets bs cs old mid new from next then apart first second =
    let long = length-append bs cs in
    record {
      control = λ k lt. second.control k lt ∙ first.control k lt;
      given = λ i lt. elim (cases_lt i (length bs)) [
        | inl low ↦
            let bit = get_or_append_left bs cs 0 i low in
            ap (iq_bit y new) bit ∙ second.others (get_or bs i 0) (apart i low) ∙ first.given i low
        | inr high ↦
            let bit = get_or-append_right bs cs (length bs) i 0 refl high in
            let place : next + (i - length bs) ≡ from + i = omega arith in
            ap (iq_bit y new) bit ∙ second.given (i - length bs) (omega arith) ∙ ap (bit_of octets) place
      ];
      others = λ x absent. second.others x (λ h. absent (contains-right bs cs x h)) ∙ first.others x (λ h. absent (contains-left bs cs x h));
    }

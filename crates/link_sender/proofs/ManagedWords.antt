-- Which octets of a control word belong to which channel.
use Rattle.std.proofs.Common.{◌≡◌, ℕ, zero, suc, ◌+◌, ◌<◌, ◌≤◌, ltb, Bool, true, false, cond, count_by, List, [], ◌∷◌, ◌||◌, refl, sym, ap, ◌∙◌, arith}
use Rattle.std.specs.List.{range_with_len}
use Rattle.std.proofs.lemmas.Bool.{false≢true, lt-ltb}
use Rattle.std.proofs.lemmas.Bool.Decides.{nat_tests}
use Rattle.std.proofs.lemmas.List.Sums.{sum_by-cons}
use Rattle.control_words.specs.Places.{is_fast_place, is_managed_place, is_slow_place, managed_before}
use Rattle.control_words.specs.declared.announce.Announce.{Announce}
use Rattle.ethernet_channel.specs.FastStream as fast
use Rattle.hdlc_channel.specs.SlowStream as slow
use Rattle.link_base.specs.WordSize.{IsWordSize}
use Rattle.link_sender.specs.Channels.{fast_next, managed_next, slow_next}
use Rattle.link_sender.specs.Managed.{fast_in_word, slow_in_word}

-- ---- the places

-- the octets of the slow channel are the first ones of their word
slow_first : (code x y : ℕ) → is_slow_place code x 0 ≡ false → is_slow_place code x y ≡ false
unfolding is_slow_place
slow_first code x y none = grind (arith, nat_tests)

-- no word belongs to both channels
slow_apart : (code x pointer : ℕ) → is_slow_place code x 0 ≡ true → is_fast_place pointer x ≡ false
unfolding is_slow_place
slow_apart code x pointer slow = grind (arith, nat_tests)

-- ---- how many there are

abbrev counted : (ℕ → Bool) → ℕ → ℕ
counted f x = cond (f x) 1 0

count_same : (f g : ℕ → Bool) (xs : List ℕ) → ((x : ℕ) → f x ≡ g x) → count_by f xs ≡ count_by g xs
count_same f g [] same = refl
count_same f g (x ∷ xs) same =
    sum_by-cons (counted f) x xs ∙ ap (λ b. cond b 1 0 + count_by f xs) (same x) ∙ ap (λ n. counted g x + n) (count_same f g xs same)
    ∙ sym (sum_by-cons (counted g) x xs)

none_counted : (f : ℕ → Bool) (xs : List ℕ) → ((x : ℕ) → f x ≡ false) → count_by f xs ≡ 0
none_counted f [] none = refl
none_counted f (x ∷ xs) none =
    let rest = none_counted f xs none in
    sum_by-cons (counted f) x xs ∙ ap (λ b. cond b 1 0 + count_by f xs) (none x) ∙ omega arith

first_counted : (f : ℕ → Bool) (n : ℕ) → 1 ≤ n → f 0 ≡ true → 0 < count_by f (range_with_len 0 n)
first_counted f zero some first = absurd (omega arith)
first_counted f (suc n) some first =
    let rest = count_by f (range_with_len 1 n) in
    let whole : count_by f (range_with_len 0 (suc n)) ≡ 1 + rest = sum_by-cons (counted f) 0 (range_with_len 1 n) ∙ ap (λ b. cond b 1 0 + rest) first in
    omega arith

or_false : (b c : Bool) → c ≡ false → (b || c) ≡ b
or_false true c none = refl
or_false false c none = none

or_second : (b c : Bool) → b ≡ false → (b || c) ≡ c
or_second true c none = absurd (false≢true (sym none))
or_second false c none = refl

module _ (Y : ℕ) (a : Announce) (x : ℕ) where
  -- a word of the slow channel
  module _ (slow : is_slow_place a.hdlc x 0 ≡ true) where
    pub slow_counted : managed_before Y x a ≡ slow_in_word Y a x
    slow_counted = count_same (is_managed_place a x) (is_slow_place a.hdlc x) (range_with_len 0 Y) (λ y. or_false (is_slow_place a.hdlc x y) (is_fast_place a.pointer x) (slow_apart a.hdlc x a.pointer slow))

    pub no_fast : fast_in_word Y a x ≡ 0
    no_fast = none_counted (λ y. is_fast_place a.pointer x) (range_with_len 0 Y) (λ y. slow_apart a.hdlc x a.pointer slow)

    pub some_slow : 1 ≤ Y → 0 < slow_in_word Y a x
    some_slow some = first_counted (is_slow_place a.hdlc x) Y some slow

  module _ (slow : is_slow_place a.hdlc x 0 ≡ false) where
    pub no_slow : slow_in_word Y a x ≡ 0
    no_slow = none_counted (is_slow_place a.hdlc x) (range_with_len 0 Y) (λ y. slow_first a.hdlc x y slow)

    pub fast_counted : managed_before Y x a ≡ fast_in_word Y a x
    fast_counted = count_same (is_managed_place a x) (λ (y : ℕ). is_fast_place a.pointer x) (range_with_len 0 Y) (λ y. or_second (is_slow_place a.hdlc x y) (is_fast_place a.pointer x) (slow_first a.hdlc x y slow))

-- ---- the octets of a word

module _ (Y : ℕ) (a : Announce) (x : ℕ) (slow_channel : slow.Channel) (fast_channel : fast.Channel) where
  pub slow_word_next : (count : ℕ) → is_slow_place a.hdlc x 0 ≡ true → 1 ≤ Y → count ≡ managed_before Y x a
      → slow_next count slow_channel ≡ managed_next Y a x slow_channel fast_channel
  slow_word_next count slow some is =
      ap (λ n. slow_next n slow_channel) (is ∙ slow_counted Y a x slow)
      ∙ ap (λ b. cond b (slow_next (slow_in_word Y a x) slow_channel) (fast_next (fast_in_word Y a x) fast_channel)) (sym (lt-ltb 0 (slow_in_word Y a x) (some_slow Y a x slow some)))

  pub fast_word_next : (count : ℕ) → is_slow_place a.hdlc x 0 ≡ false → count ≡ managed_before Y x a
      → fast_next count fast_channel ≡ managed_next Y a x slow_channel fast_channel
  fast_word_next count slow is =
      ap (λ n. fast_next n fast_channel) (is ∙ fast_counted Y a x slow)
      ∙ ap (λ n. cond (ltb 0 n) (slow_next n slow_channel) (fast_next (fast_in_word Y a x) fast_channel)) (sym (no_slow Y a x slow))

pub some_octets : (y : ℕ) → IsWordSize y → 1 ≤ y
some_octets y size = grind (arith, nat_tests)

pub few_octets : (y : ℕ) → IsWordSize y → y ≤ 16
few_octets y size = grind (arith, nat_tests)

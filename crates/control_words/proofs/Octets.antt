-- The octets of a control word.
use Rattle.std.specs.Prelude.{◌≡◌, ◌≢◌, ℕ, ◌<◌, ◌≤◌, List, length, Bool, true, false, cond, ◌==◌, ◌&&◌, ◌||◌, ◌⊎◌, ◌%◌, nat_lt, nat_le, slice_index, refl}
use Rattle.std.proofs.Common.{arith, ap, ◌∙◌, sym, zero, suc, inl, inr}
use Rattle.std.proofs.lemmas.Bool.Decides.{nat_tests}
use Rattle.std.specs.List.{range_with_len}
use Rattle.std.proofs.lemmas.List.{get_or_past}
use Rattle.std.proofs.lemmas.List.Sums.{count_by-le-length}
use Rattle.std.proofs.lemmas.List.FromFn.{length-range_with_len}
use Rattle.control_words.specs.declared.announce.Announce.{Announce}
use Rattle.link_base.specs.WordSize.{IsWordSize}
use Rattle.control_words.specs.Places.{is_slow_place, is_fast_place, is_managed_place, managed_before}
use Rattle.control_words.specs.ControlWord.{octet_of}
use Rattle.control_words.proofs.ManagedPlaces.{managed_first, managed_rank}

-- a word has an octet, and at most 16
pub word_size_bounds : (Y : ℕ) → IsWordSize Y → (0 < Y) × (Y ≤ 16)
word_size_bounds Y h = (grind (arith, nat_tests), grind (arith, nat_tests))

-- an octet that has no other use is that of the channels at its place, or 0
pub channel_octet : (Y x y : ℕ) (a : Announce) (managed : List ℕ) → length managed ≡ managed_before Y x a → y < Y →
    cond (is_managed_place a x y) (slice_index managed (managed_before y x a)) 0 ≡ slice_index managed y
channel_octet Y x y a managed l h = by_test (is_managed_place a x y) (managed_first Y x y a h)
  where
    by_test : (b : Bool) → b ≡ nat_lt y (managed_before Y x a) →
        cond b (slice_index managed (managed_before y x a)) 0 ≡ slice_index managed y
    by_test true e =
        let k : y < managed_before Y x a = grind (arith, nat_tests) in
        ap (slice_index managed) (managed_rank Y x y a h k)
    by_test false e =
        let k : length managed ≤ y = grind (arith, nat_tests) in
        sym (get_or_past managed y 0 k)

-- behind the first octet
pub later_octet : (Y x z bfn y : ℕ) (a : Announce) (managed : List ℕ) →
    length managed ≡ managed_before Y x a → y < Y → y ≢ 0 → x ≢ 0 →
    octet_of x z bfn a managed y ≡ slice_index managed y
unfolding octet_of
later_octet Y x z bfn y a managed l h ny nx =
    let ey : (y == 0) ≡ false = grind (arith, nat_tests) in
    let ex : (x == 0) ≡ false = grind (arith, nat_tests) in
    rw (ey, ex) (channel_octet Y x y a managed l h)

-- the first octet of a word that has no other use
pub first_octet : (Y x z bfn : ℕ) (a : Announce) (managed : List ℕ) → length managed ≡ managed_before Y x a → 0 < Y →
    (x == 0) ≡ false → (x == 64) ≡ false → (x == 128) ≡ false → (x == 192) ≡ false → (x == 2) ≡ false → (x == 66) ≡ false → (x == 130) ≡ false → (x == 194) ≡ false →
    octet_of x z bfn a managed 0 ≡ slice_index managed 0
unfolding octet_of
first_octet Y x z bfn a managed l h e0 e64 e128 e192 e2 e66 e130 e194 =
    rw (e0, e64, e128, e192, e2, e66, e130, e194) (channel_octet Y x 0 a managed l h)

-- what follows where a choice of tests passes
by_choice : (R : Type 0) (b p q : Bool) → cond b p q ≡ true → (p ≡ true → R) → (q ≡ true → R) → R
by_choice R true p q h f g = f h
by_choice R false p q h f g = g h

-- the slow channel is in subchannel 1
slow_subchannel : (code x y : ℕ) → is_slow_place code x y ≡ true → x % 64 ≡ 1
unfolding is_slow_place
slow_subchannel code x y h =
    by_choice (x % 64 ≡ 1) (code == 1) _ _ h (λ e. grind (arith, nat_tests)) (λ h.
    by_choice (x % 64 ≡ 1) (code == 2) _ _ h (λ e. grind (arith, nat_tests)) (λ h.
    by_choice (x % 64 ≡ 1) (code == 3) _ _ h (λ e. grind (arith, nat_tests)) (λ h.
    by_choice (x % 64 ≡ 1) (code == 4) _ _ h (λ e. grind (arith, nat_tests)) (λ h.
    by_choice (x % 64 ≡ 1) (code == 5) _ _ h (λ e. grind (arith, nat_tests)) (λ h.
    by_choice (x % 64 ≡ 1) (code == 6) _ _ h (λ e. grind (arith, nat_tests)) (λ e. cc))))))

-- the channels are in no subchannel with another use
channel_subchannel : (slow fast : Bool) (x pointer : ℕ) → (slow ≡ true → x % 64 ≡ 1) →
    fast ≡ (nat_le 20 pointer && nat_le pointer (x % 64)) → (slow || fast) ≡ true →
    (x % 64 ≡ 1) ⊎ (20 ≤ x % 64)
channel_subchannel true fast x pointer s f h = inl (s refl)
channel_subchannel false fast x pointer s f h = inr (grind (arith, nat_tests))

-- they are octets of the word
pub managed_fits : (Y x : ℕ) (a : Announce) → managed_before Y x a ≤ Y
managed_fits Y x a = omega (arith, count_by-le-length (is_managed_place a x) (range_with_len 0 Y), length-range_with_len 0 Y)

-- the octets of the channels stand where they belong
pub octet_of_channel : (Y x z bfn y : ℕ) (a : Announce) (managed : List ℕ) →
    length managed ≡ managed_before Y x a → y < Y → y < length managed →
    octet_of x z bfn a managed y ≡ slice_index managed y
octet_of_channel Y x z bfn y a managed l h k =
    let here : is_managed_place a x y ≡ true = managed_first Y x y a h ∙ grind (arith, nat_tests) in
    let subchannel = channel_subchannel (is_slow_place a.hdlc x y) (is_fast_place a.pointer x) x a.pointer (slow_subchannel a.hdlc x y) refl here in
    by_place y h subchannel
  where
    by_place : (y : ℕ) → y < Y → (x % 64 ≡ 1) ⊎ (20 ≤ x % 64) → octet_of x z bfn a managed y ≡ slice_index managed y
    by_place zero h subchannel =
        first_octet Y x z bfn a managed l h
        (grind (arith, nat_tests)) (grind (arith, nat_tests)) (grind (arith, nat_tests)) (grind (arith, nat_tests))
        (grind (arith, nat_tests)) (grind (arith, nat_tests)) (grind (arith, nat_tests)) (grind (arith, nat_tests))
    by_place (suc y) h subchannel = later_octet Y x z bfn (suc y) a managed l h (omega arith) (grind arith)

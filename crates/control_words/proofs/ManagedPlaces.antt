-- The octets of the channels are the first octets of a word.
use Rattle.std.specs.Prelude.{◌≡◌, ℕ, ◌+◌, ◌-◌, ◌<◌, ◌≤◌, min, Bool, true, false, cond, ◌==◌, ◌&&◌, ◌||◌, nat_lt, count_by, refl}
use Rattle.std.specs.List.{range_with_len}
use Rattle.std.proofs.Common.{arith, zero, suc, ap, ◌∙◌}
use Rattle.std.proofs.lemmas.Bool.Decides.{nat_tests}
use Rattle.std.proofs.lemmas.List.Sums.{sum_by-cons}
use Rattle.control_words.specs.declared.announce.Announce.{Announce}
use Rattle.control_words.specs.Places.{is_slow_word, is_slow_place, is_fast_place, is_managed_place, managed_before}

-- the step of the count below: whether a is below w, and how many of the n numbers after a are
count_step : (w a n : ℕ) (b : Bool) → b ≡ nat_lt a w → cond b 1 0 + min (w - (a + 1)) n ≡ min (w - a) (suc n)
count_step w a n true h = grind (arith, nat_tests)
count_step w a n false h = grind (arith, nat_tests)

-- how many of n numbers from a on pass a test that the numbers below w pass
pub count_below : (p : ℕ → Bool) (w a n : ℕ) → ((y : ℕ) → a ≤ y → y < a + n → p y ≡ nat_lt y w) →
    count_by p (range_with_len a n) ≡ min (w - a) n
count_below p w a zero h = omega arith
count_below p w a (suc n) h =
    let rest = count_below p w (a + 1) n (λ y l r. h y (omega arith) (omega arith)) in
    sum_by-cons (λ (y : ℕ). cond (p y) 1 0) a (range_with_len (a + 1) n) ∙ ap (λ (k : ℕ). cond (p a) 1 0 + k) rest ∙ count_step w a n (p a) (h a (omega arith) (omega arith))

-- a choice of a test of this kind is one
choice : (y m n : ℕ) (b p q : Bool) → p ≡ nat_lt y m → q ≡ nat_lt y n → cond b p q ≡ nat_lt y (cond b m n)
choice y m n true p q h k = h
choice y m n false p q h k = k

-- and so is such a test after another
after : (y m : ℕ) (b p : Bool) → p ≡ nat_lt y m → (b && p) ≡ nat_lt y (cond b m 0)
after y m true p h = h
after y m false p h = grind (arith, nat_tests)

is_first : (y : ℕ) → (y == 0) ≡ nat_lt y 1
is_first y = grind (arith, nat_tests)

in_word : (y Y : ℕ) (b : Bool) → y < Y → b ≡ nat_lt y (cond b Y 0)
in_word y Y true h = grind (arith, nat_tests)
in_word y Y false h = grind (arith, nat_tests)

none : (y : ℕ) → false ≡ nat_lt y 0
none y = grind (arith, nat_tests)

-- how many octets of word x belong to the slow channel, of those of a word of Y octets
slow_count : ℕ → ℕ → ℕ → ℕ
slow_count Y code x =
    cond (code == 1) (cond (x == 1 || x == 129) 1 0) (
    cond (code == 2) (cond (is_slow_word x) 1 0) (
    cond (code == 3) (cond (is_slow_word x) 2 0) (
    cond (code == 4) (cond (is_slow_word x) 4 0) (
    cond (code == 5) (cond (is_slow_word x) 5 0) (
    cond (code == 6) (cond (is_slow_word x) Y 0) 0)))))

slow_first : (Y code x y : ℕ) → y < Y → is_slow_place code x y ≡ nat_lt y (slow_count Y code x)
unfolding slow_count is_slow_place
slow_first Y code x y h =
    choice y _ _ (code == 1) _ _ (after y 1 (x == 1 || x == 129) _ (is_first y)) (
    choice y _ _ (code == 2) _ _ (after y 1 (is_slow_word x) _ (is_first y)) (
    choice y _ _ (code == 3) _ _ (after y 2 (is_slow_word x) _ refl) (
    choice y _ _ (code == 4) _ _ (after y 4 (is_slow_word x) _ refl) (
    choice y _ _ (code == 5) _ _ (after y 5 (is_slow_word x) _ refl) (
    choice y _ _ (code == 6) _ _ (in_word y Y (is_slow_word x) h) (none y))))))

-- of those that belong to one of the channels
count : ℕ → ℕ → Announce → ℕ
count Y x a = cond (is_fast_place a.pointer x) Y (slow_count Y a.hdlc x)

either : (y Y m : ℕ) (fast slow : Bool) → y < Y → slow ≡ nat_lt y m → (slow || fast) ≡ nat_lt y (cond fast Y m)
either y Y m true true h k = grind (arith, nat_tests)
either y Y m true false h k = grind (arith, nat_tests)
either y Y m false true h k = k
either y Y m false false h k = k

count_first : (Y x y : ℕ) (a : Announce) → y < Y → is_managed_place a x y ≡ nat_lt y (count Y x a)
unfolding count
count_first Y x y a h = either y Y _ (is_fast_place a.pointer x) _ h (slow_first Y a.hdlc x y h)

-- how many of the first y octets of a word belong to the channels
before : (Y x y : ℕ) (a : Announce) → y ≤ Y → managed_before y x a ≡ min (count Y x a) y
before Y x y a h =
    let e : managed_before y x a ≡ min (count Y x a - 0) y = count_below (is_managed_place a x) (count Y x a) 0 y (λ i l r. count_first Y x i a (omega arith)) in
    omega arith

-- the places of the channels in a word are those of its first octets
pub managed_first : (Y x y : ℕ) (a : Announce) → y < Y → is_managed_place a x y ≡ nat_lt y (managed_before Y x a)
managed_first Y x y a h =
    let whole : managed_before Y x a ≡ min (count Y x a) Y = before Y x Y a (omega arith) in
    count_first Y x y a h ∙ below_min y Y _ _ h whole
  where
    below_min : (y Y n m : ℕ) → y < Y → m ≡ min n Y → nat_lt y n ≡ nat_lt y m
    below_min y Y n m h k = grind (arith, nat_tests)

-- before such a place all octets belong to the channels
pub managed_rank : (Y x y : ℕ) (a : Announce) → y < Y → y < managed_before Y x a → managed_before y x a ≡ y
managed_rank Y x y a h k =
    let whole : managed_before Y x a ≡ min (count Y x a) Y = before Y x Y a (omega arith) in
    let part : managed_before y x a ≡ min (count Y x a) y = before Y x y a (omega arith) in
    omega arith

-- how many octets of a word belong to the channels, by its first octets
pub managed_count : (Y x w : ℕ) (a : Announce) → w ≤ Y →
    ((y : ℕ) → y < Y → is_managed_place a x y ≡ nat_lt y w) → managed_before Y x a ≡ w
managed_count Y x w a l h =
    let e : managed_before Y x a ≡ min (w - 0) Y = count_below (is_managed_place a x) w 0 Y (λ y m r. h y (omega arith)) in
    omega arith

-- where no octet belongs to the fast channel, the octets of the slow channel are all
pub managed_slow : (Y x w : ℕ) (a : Announce) → is_fast_place a.pointer x ≡ false →
    ((y : ℕ) → y < Y → is_slow_place a.hdlc x y ≡ nat_lt y w) → (y : ℕ) → y < Y →
    is_managed_place a x y ≡ nat_lt y w
managed_slow Y x w a f s y h = alone (is_slow_place a.hdlc x y) (is_fast_place a.pointer x) (nat_lt y w) f (s y h)
  where
    alone : (slow fast b : Bool) → fast ≡ false → slow ≡ b → (slow || fast) ≡ b
    alone true fast b f s = s
    alone false fast b f s = f ∙ s

-- where the octets belong to the fast channel, they are all
pub managed_fast : (Y x : ℕ) (a : Announce) → is_fast_place a.pointer x ≡ true → (y : ℕ) → y < Y →
    is_managed_place a x y ≡ nat_lt y Y
managed_fast Y x a f y h = all (is_slow_place a.hdlc x y) (is_fast_place a.pointer x) f ∙ within y Y h
  where
    all : (slow fast : Bool) → fast ≡ true → (slow || fast) ≡ true
    all true fast f = refl
    all false fast f = f

    within : (y Y : ℕ) → y < Y → true ≡ nat_lt y Y
    within y Y h = grind (arith, nat_tests)

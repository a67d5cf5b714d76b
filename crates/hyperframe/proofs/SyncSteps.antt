-- One more frame at the end of a list, for synchronization.
use Rattle.std.proofs.Common.{◌≡◌, ℕ, zero, suc, ◌+◌, ◌-◌, ◌%◌, ◌<◌, ◌≤◌, Bool, true, false, not, ◌&&◌, cond, eqb, ltb, leb, ◌⊎◌, inl, inr, List, [], ◌∷◌, ◌++◌, length, drop, Option, Some, None, refl, sym, ◌∙◌, ap, arith, add-one, zero-add, length-drop, eq-eqb}
use Rattle.std.proofs.lemmas.List.{drop-append-le, drop_at, length_push}
use Rattle.std.proofs.lemmas.Bool.{eqb-true, ne_eqb, lt-ltb, le-ltb, lt-leb, le-leb, cases_lt, cond-true, cond-false}
use Rattle.hyperframe.specs.declared.synchronization.Acquire.{Acquire}
use Rattle.hyperframe.specs.declared.synchronization.SyncState.TheVariants.{Found, Held}
use Rattle.hyperframe.specs.Locks.{Sync, from_comma, first_missing, end_of_lock, locked, unlocked, hunting, sync_by_end, sync_from, sync_within, sync_of}
use Rattle.hyperframe.specs.Acquires.{Acquires, kept, state_without, next}

-- ---- the first comma

from_comma-none : (frames more : List Bool) → from_comma frames ≡ [] → from_comma (frames ++ more) ≡ from_comma more
from_comma-none [] more e = refl
from_comma-none (true ∷ frames) more e = cc
from_comma-none (false ∷ frames) more e = from_comma-none frames more e

from_comma-some : (frames more : List Bool) (comma : Bool) (rest : List Bool) → from_comma frames ≡ comma ∷ rest
    → from_comma (frames ++ more) ≡ (comma ∷ rest) ++ more
from_comma-some [] more comma rest e = cc
from_comma-some (true ∷ frames) more comma rest e = ap (λ xs. xs ++ more) e
from_comma-some (false ∷ frames) more comma rest e = from_comma-some frames more comma rest e

length-from_comma : (frames : List Bool) → length (from_comma frames) ≤ length frames
length-from_comma [] = omega arith
length-from_comma (true ∷ frames) = omega arith
length-from_comma (false ∷ frames) = omega (arith, length-from_comma frames)

-- ---- the end of a lock

none_by : (b : Bool) (n : ℕ) (frames more : List Bool)
    → (first_missing (suc n) frames ≡ None → first_missing (suc n) (frames ++ more) ≡ first_missing (suc n + length frames) more)
    → cond b (Some n) (first_missing (suc n) frames) ≡ None
    → cond b (Some n) (first_missing (suc n) (frames ++ more)) ≡ first_missing (n + suc (length frames)) more
none_by true n frames more here e = cc
none_by false n frames more here e =
    let same : suc n + length frames ≡ n + suc (length frames) = omega arith in
    here e ∙ ap (λ k. first_missing k more) same

first_missing-none : (n : ℕ) (frames more : List Bool) → first_missing n frames ≡ None
    → first_missing n (frames ++ more) ≡ first_missing (n + length frames) more
first_missing-none n [] more e = let same : n ≡ n + 0 = omega arith in ap (λ k. first_missing k more) same
first_missing-none n (comma ∷ frames) more e =
    none_by (eqb (n % 256) 0 && not comma) n frames more (first_missing-none (suc n) frames more) e

record IsEnd (n : ℕ) (frames more : List Bool) (at : ℕ) : Type 0 where
  same : first_missing n (frames ++ more) ≡ Some at
  low : n ≤ at
  high : at < n + length frames

some_by : (b : Bool) (n : ℕ) (comma : Bool) (frames more : List Bool) (at : ℕ) → eqb (n % 256) 0 && not comma ≡ b
    → (first_missing (suc n) frames ≡ Some at → IsEnd (suc n) frames more at)
    → cond b (Some n) (first_missing (suc n) frames) ≡ Some at
    → IsEnd n (comma ∷ frames) more at
some_by true n comma frames more at is here e =
    let found : n ≡ at = cc in
    record {
      same = rw is (cc);
      low = omega arith;
      high = omega arith;
    }
some_by false n comma frames more at is here e =
    let later = here e in
    record {
      same = rw is later.same;
      low = omega (arith, later.low);
      high = omega (arith, later.high);
    }

first_missing-some : (n : ℕ) (frames more : List Bool) (at : ℕ) → first_missing n frames ≡ Some at → IsEnd n frames more at
first_missing-some n [] more at e = absurd (cc)
first_missing-some n (comma ∷ frames) more at e =
    some_by (eqb (n % 256) 0 && not comma) n comma frames more at refl (first_missing-some (suc n) frames more at) e

-- ---- one more frame

held_after : (n : ℕ) → n % 256 < 255 → (n < 256) ⊎ (256 ≤ n) → leb 256 (suc n) ≡ leb 256 n
held_after n h (inl low) = lt-leb 256 (suc n) (omega arith) ∙ sym (lt-leb 256 n low)
held_after n h (inr high) = le-leb 256 (suc n) (omega arith) ∙ sym (le-leb 256 n high)

-- within a hyperframe
after_inside : (n : ℕ) (comma : Bool) → n % 256 < 255 → next (locked n) comma ≡ cond (eqb (suc n % 256) 0 && not comma) (unlocked (suc n)) (locked (suc n))
unfolding next
after_inside n comma h =
    let inside : ltb (n % 256) 255 ≡ true = lt-ltb (n % 256) 255 h in
    let due : eqb (suc n % 256) 0 ≡ false = ne_eqb (suc n % 256) 0 (λ e. omega (arith, e)) in
    let held : leb 256 (suc n) ≡ leb 256 n = held_after n h (cases_lt n 256) in
    let x : suc n % 256 ≡ n % 256 + 1 = omega arith in
    rw (inside, due, held, x) refl

-- at the end of a hyperframe
after_last : (n : ℕ) (comma : Bool) → 255 ≤ n % 256 → (n < 256) ⊎ (256 ≤ n)
    → next (locked n) comma ≡ cond (eqb (suc n % 256) 0 && not comma) (unlocked (suc n)) (locked (suc n))
unfolding next
after_last n comma h old =
    let last : ltb (n % 256) 255 ≡ false = le-ltb (n % 256) 255 h in
    let x : suc n % 256 ≡ 0 = omega arith in
    let whole : leb 256 (suc n) ≡ true = le-leb 256 (suc n) (omega arith) in
    rw (last, x, whole) (by_comma comma old)
  where
    by_comma : (comma : Bool) → (n < 256) ⊎ (256 ≤ n)
        → (let s : Sync = cond comma (record { state = Held; x = Some 0 }) (record { state = state_without (cond (leb 256 n) Held Found); x = None }) in s)
        ≡ cond (not comma) (unlocked (suc n)) (record { state = Held; x = Some 0 })
    by_comma true old = refl
    by_comma false (inl low) =
        let found : leb 256 n ≡ false = lt-leb 256 n low in
        let early : eqb (suc n) 256 ≡ true = eq-eqb (suc n) 256 (omega arith) in
        rw (found, early) refl
    by_comma false (inr high) =
        let held : leb 256 n ≡ true = le-leb 256 n high in
        let late : eqb (suc n) 256 ≡ false = ne_eqb (suc n) 256 (λ e. omega arith) in
        rw (held, late) refl

after_by : (n : ℕ) (comma : Bool) → (n % 256 < 255) ⊎ (255 ≤ n % 256)
    → next (locked n) comma ≡ cond (eqb (suc n % 256) 0 && not comma) (unlocked (suc n)) (locked (suc n))
after_by n comma (inl h) = after_inside n comma h
after_by n comma (inr h) = after_last n comma h (cases_lt n 256)

after_locked : (n : ℕ) (comma : Bool) → next (locked n) comma ≡ cond (eqb (suc n % 256) 0 && not comma) (unlocked (suc n)) (locked (suc n))
after_locked n comma = after_by n comma (cases_lt (n % 256) 255)

after_unlocked : (n : ℕ) (comma : Bool) → next (unlocked n) comma ≡ next hunting comma
unfolding next
after_unlocked n comma = refl

end_by : (b : Bool) (n : ℕ) (comma : Bool) (lock : List Bool) (later : List Bool → Sync) → length lock ≡ suc n
    → sync_by_end later (lock ++ comma ∷ []) (cond b (Some (length lock)) None) ≡ cond b (unlocked (suc n)) (locked (suc n))
end_by true n comma lock later e =
    let same : eqb (length (lock ++ comma ∷ [])) (suc (length lock)) ≡ true = eq-eqb _ _ (length_push lock comma ∙ add-one (length lock)) in
    cond-true (eqb (length (lock ++ comma ∷ [])) (suc (length lock))) (unlocked (length lock)) (later (drop (suc (length lock)) (lock ++ comma ∷ []))) same
    ∙ ap unlocked e
end_by false n comma lock later e =
    let same : length (lock ++ comma ∷ []) - 1 ≡ suc n = omega (arith, length_push lock comma) in ap locked same

none_then : (later later' : List Bool → Sync) (lock : List Bool) (comma : Bool) (n : ℕ) → length lock ≡ suc n → end_of_lock lock ≡ None
    → sync_by_end later' (lock ++ comma ∷ []) (end_of_lock (lock ++ comma ∷ [])) ≡ next (sync_by_end later lock None) comma
none_then later later' lock comma n is e =
    let here : end_of_lock (lock ++ comma ∷ []) ≡ cond (eqb (length lock % 256) 0 && not comma) (Some (length lock)) None =
    first_missing-none 0 lock (comma ∷ []) e ∙ ap (λ k. first_missing k (comma ∷ [])) (zero-add (length lock)) in
    let last : length lock - 1 ≡ n = omega arith in
    ap (λ found. sync_by_end later' (lock ++ comma ∷ []) found) here
    ∙ end_by (eqb (length lock % 256) 0 && not comma) n comma lock later' is
    ∙ ap (λ k. cond (eqb (k % 256) 0 && not comma) (unlocked (suc n)) (locked (suc n))) is
    ∙ sym (after_locked n comma)
    ∙ ap (λ k. next (locked k) comma) (sym last)

-- the lock ended at the frame before, or earlier
ended_by : (b : Bool) (later later' : List Bool → Sync) (lock : List Bool) (comma : Bool) (at : ℕ) → eqb (length lock) (suc at) ≡ b
    → at < length lock
    → ((rest : List Bool) → length rest < length lock → later' (rest ++ comma ∷ []) ≡ next (later rest) comma)
    → later' (comma ∷ []) ≡ next hunting comma
    → later' (drop (suc at) (lock ++ comma ∷ [])) ≡ next (cond b (unlocked at) (later (drop (suc at) lock))) comma
ended_by true later later' lock comma at is within here fresh =
    let all : length lock ≡ suc at = eqb-true _ _ is in
    let rest : drop (suc at) (lock ++ comma ∷ []) ≡ comma ∷ [] = drop_at lock (comma ∷ []) (suc at) all in
    ap later' rest ∙ fresh ∙ sym (after_unlocked at comma)
ended_by false later later' lock comma at is within here fresh =
    let rest : drop (suc at) (lock ++ comma ∷ []) ≡ drop (suc at) lock ++ comma ∷ [] = drop-append-le (suc at) lock (comma ∷ []) (omega arith) in
    ap later' rest ∙ here (drop (suc at) lock) (omega (arith, length-drop (suc at) lock))

some_then : (later later' : List Bool → Sync) (lock : List Bool) (comma : Bool) (at : ℕ) → end_of_lock lock ≡ Some at
    → ((rest : List Bool) → length rest < length lock → later' (rest ++ comma ∷ []) ≡ next (later rest) comma)
    → later' (comma ∷ []) ≡ next hunting comma
    → sync_by_end later' (lock ++ comma ∷ []) (end_of_lock (lock ++ comma ∷ [])) ≡ next (sync_by_end later lock (Some at)) comma
some_then later later' lock comma at e here fresh =
    let found = first_missing-some 0 lock (comma ∷ []) at e in
    let not_last : eqb (length (lock ++ comma ∷ [])) (suc at) ≡ false = ne_eqb _ _ (λ e. omega (arith, e, found.high, length_push lock comma)) in
    let within : at < length lock = omega (arith, found.high) in
    ap (λ end. sync_by_end later' (lock ++ comma ∷ []) end) found.same
    ∙ cond-false (eqb (length (lock ++ comma ∷ [])) (suc at)) (unlocked at) (later' (drop (suc at) (lock ++ comma ∷ []))) not_last
    ∙ ended_by (eqb (length lock) (suc at)) later later' lock comma at refl within here fresh

lock_then : (later later' : List Bool → Sync) (lock : List Bool) (comma : Bool) (end : Option ℕ) (n : ℕ) → length lock ≡ suc n → end_of_lock lock ≡ end
    → ((rest : List Bool) → length rest < length lock → later' (rest ++ comma ∷ []) ≡ next (later rest) comma)
    → later' (comma ∷ []) ≡ next hunting comma
    → sync_by_end later' (lock ++ comma ∷ []) (end_of_lock (lock ++ comma ∷ [])) ≡ next (sync_by_end later lock end) comma
lock_then later later' lock comma None n is e here fresh = none_then later later' lock comma n is e
lock_then later later' lock comma (Some at) n is e here fresh = some_then later later' lock comma at e here fresh

one_frame : (locks : ℕ) (comma : Bool) → sync_within (suc locks) (comma ∷ []) ≡ next hunting comma
unfolding sync_within next
one_frame locks true = refl
one_frame locks false = refl

from_then : (later later' : List Bool → Sync) (frames lock : List Bool) (comma : Bool) → from_comma frames ≡ lock
    → ((rest : List Bool) → length rest < length frames → later' (rest ++ comma ∷ []) ≡ next (later rest) comma)
    → (0 < length frames → later' (comma ∷ []) ≡ next hunting comma)
    → sync_from later' (from_comma (frames ++ comma ∷ [])) ≡ next (sync_from later lock) comma
unfolding next
from_then later later' frames [] true e here fresh = ap (sync_from later') (from_comma-none frames (true ∷ []) e)
from_then later later' frames [] false e here fresh = ap (sync_from later') (from_comma-none frames (false ∷ []) e)
from_then later later' frames (first ∷ rest) comma e here fresh =
    let short : suc (length rest) ≤ length frames = omega (arith, length-from_comma frames, ap length e) in
    ap (sync_from later') (from_comma-some frames (comma ∷ []) first rest e)
    ∙ lock_then later later' (first ∷ rest) comma (end_of_lock (first ∷ rest)) (length rest) refl refl
    (λ more h. here more (omega (arith, h, short))) (fresh (omega arith))

within_then : (locks locks' : ℕ) (frames : List Bool) (comma : Bool) → length frames ≤ locks → length frames < locks'
    → sync_within locks' (frames ++ comma ∷ []) ≡ next (sync_within locks frames) comma
unfolding sync_within
within_then locks zero frames comma h h' = absurd (omega arith)
within_then zero (suc locks') [] comma h h' = one_frame locks' comma
within_then zero (suc locks') (first ∷ rest) comma h h' = absurd (omega arith)
within_then (suc locks) (suc locks') frames comma h h' =
    from_then (sync_within locks) (sync_within locks') frames (from_comma frames) comma refl
    (λ rest less. within_then locks locks' rest comma (omega (arith, less)) (omega (arith, less)))
    (λ some. fresh_by locks' (omega (arith, some)))
  where
    fresh_by : (k : ℕ) → 0 < k → sync_within k (comma ∷ []) ≡ next hunting comma
    fresh_by zero h = absurd (omega arith)
    fresh_by (suc k) h = one_frame k comma

pub sync_of-push : (frames : List Bool) (comma : Bool) → sync_of (frames ++ comma ∷ []) ≡ next (sync_of frames) comma
unfolding sync_of
sync_of-push frames comma =
    within_then (length frames) (length (frames ++ comma ∷ [])) frames comma (omega arith) (omega (arith, length_push frames comma))

-- ---- the receiver

kept-sync_of : (a : Acquire) (frames : List Bool) → Acquires a frames → kept a ≡ sync_of frames
kept-sync_of a frames h =
    ap (λ s. let it : Sync = record { state = s; x = (kept a).x } in it) h.state
    ∙ ap (λ x. let it : Sync = record { state = (sync_of frames).state; x = x } in it) h.x

pub Acquires-push : (a b : Acquire) (comma : Bool) → kept b ≡ next (kept a) comma
    → (frames : List Bool) → Acquires a frames → Acquires b (frames ++ comma ∷ [])
Acquires-push a b comma e frames h =
    let all : kept b ≡ sync_of (frames ++ comma ∷ []) =
    e ∙ ap (λ s. next s comma) (kept-sync_of a frames h) ∙ sym (sync_of-push frames comma) in
    record { state = ap (λ s. s.state) all; x = ap (λ s. s.x) all }

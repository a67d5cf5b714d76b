-- One more frame at the end of a list, for the loss of signal.
use Rattle.std.proofs.Common.{◌≡◌, ℕ, zero, suc, ◌+◌, ◌-◌, ◌*◌, ◌/◌, ◌<◌, ◌≤◌, min, Bool, true, false, ◌&&◌, ◌||◌, cond, eqb, leb, ◌⊎◌, inl, inr, List, [], ◌∷◌, ◌++◌, length, take, drop, refl, sym, ◌∙◌, ap, arith, length-drop, eq-eqb}
use Rattle.std.specs.List.{list_any}
use Rattle.std.proofs.lemmas.Bool.{ne_eqb, cases_eq, cond-true, cond-false, cases_lt, lt-leb, le-leb}
use Rattle.std.proofs.lemmas.List.{drop-append-le, drop_at, length_push, take-append-le, take_all}
use Rattle.std.proofs.lemmas.List.Sums.{sum_by_push}
use Rattle.hyperframe.specs.Loss.{Counted, since_first, last_window, window, violations_in, is_loss, is_clear, lost_after, is_lost}
use Rattle.hyperframe.specs.declared.loss.Los.{Los}
use Rattle.hyperframe.specs.CountsLoss.{CountsLoss, counted}

-- ---- the window

or_false : (b : Bool) → (b || false) ≡ b
or_false true = refl
or_false false = refl

any_first-push : (frames : List Counted) (last : Counted)
    → list_any (λ frame. frame.first) (frames ++ last ∷ []) ≡ (list_any (λ frame. frame.first) frames || last.first)
any_first-push [] last = or_false last.first
any_first-push (frame ∷ frames) last =
    elim frame.first as (λ b. (b || list_any (λ f. f.first) (frames ++ last ∷ [])) ≡ ((b || list_any (λ f. f.first) frames) || last.first))
    [ true ↦ refl | false ↦ any_first-push frames last ]

since_by : (any first : Bool) (frame : Counted) (since since' frames : List Counted) (last : Counted)
    → since' ≡ cond first (last ∷ []) (since ++ last ∷ [])
    → cond (any || first) since' (frame ∷ frames ++ last ∷ []) ≡ cond first (last ∷ []) (cond any since (frame ∷ frames) ++ last ∷ [])
since_by true first frame since since' frames last here = here
since_by false true frame since since' frames last here = here
since_by false false frame since since' frames last here = refl

since_first-push : (frames : List Counted) (last : Counted)
    → since_first (frames ++ last ∷ []) ≡ cond last.first (last ∷ []) (since_first frames ++ last ∷ [])
since_first-push [] last = elim last.first as (λ b. last ∷ [] ≡ cond b (last ∷ []) (last ∷ [])) [ true ↦ refl | false ↦ refl ]
since_first-push (frame ∷ frames) last =
    ap (λ any. cond any (since_first (frames ++ last ∷ [])) (frame ∷ frames ++ last ∷ [])) (any_first-push frames last)
    ∙ since_by (list_any (λ f. f.first) frames) last.first frame (since_first frames) (since_first (frames ++ last ∷ [])) frames last (since_first-push frames last)

full_by : (frames : List Counted) (last : Counted) → (length (last_window frames) ≡ 256) ⊎ (length (last_window frames) ≡ 256 → ⊥)
    → last_window (frames ++ last ∷ []) ≡ cond (eqb (length (last_window frames)) 256) (last ∷ []) (last_window frames ++ last ∷ [])
full_by frames last (inl full) =
    let n = length frames in
    let left : length (last_window frames) ≡ n - 256 * ((n - 1) / 256) = length-drop (256 * ((n - 1) / 256)) frames in
    let whole : 256 * (n / 256) ≡ n = omega (arith, left, full) in
    let more : length (frames ++ last ∷ []) - 1 ≡ n = omega (arith, length_push frames last) in
    let all : drop (256 * ((length (frames ++ last ∷ []) - 1) / 256)) (frames ++ last ∷ []) ≡ last ∷ [] =
    ap (λ k. drop (256 * (k / 256)) (frames ++ last ∷ [])) more ∙ drop_at frames (last ∷ []) (256 * (n / 256)) (sym whole) in
    all ∙ sym (cond-true (eqb (length (last_window frames)) 256) (last ∷ []) (last_window frames ++ last ∷ []) (eq-eqb _ _ full))
full_by frames last (inr part) =
    let n = length frames in
    let left : length (last_window frames) ≡ n - 256 * ((n - 1) / 256) = length-drop (256 * ((n - 1) / 256)) frames in
    let not_full : n - 256 * ((n - 1) / 256) ≡ 256 → ⊥ = λ e. part (left ∙ e) in
    let same : n / 256 ≡ (n - 1) / 256 = omega (arith, not_full) in
    let more : length (frames ++ last ∷ []) - 1 ≡ n = omega (arith, length_push frames last) in
    let here : drop (256 * ((length (frames ++ last ∷ []) - 1) / 256)) (frames ++ last ∷ []) ≡ last_window frames ++ last ∷ [] =
    ap (λ k. drop (256 * (k / 256)) (frames ++ last ∷ [])) more
    ∙ ap (λ k. drop (256 * k) (frames ++ last ∷ [])) same
    ∙ drop-append-le (256 * ((n - 1) / 256)) frames (last ∷ []) (omega arith) in
    here ∙ sym (cond-false (eqb (length (last_window frames)) 256) (last ∷ []) (last_window frames ++ last ∷ []) (ne_eqb _ _ part))

last_window-push : (frames : List Counted) (last : Counted)
    → last_window (frames ++ last ∷ []) ≡ cond (eqb (length (last_window frames)) 256) (last ∷ []) (last_window frames ++ last ∷ [])
last_window-push frames last = full_by frames last (cases_eq (length (last_window frames)) 256)

window_by : (first full : Bool) (since now : List Counted) (last : Counted)
    → last_window (since ++ last ∷ []) ≡ cond full (last ∷ []) (now ++ last ∷ [])
    → last_window (cond first (last ∷ []) (since ++ last ∷ [])) ≡ cond (first || full) (last ∷ []) (now ++ last ∷ [])
window_by true full since now last e = refl
window_by false full since now last e = e

window-push : (frames : List Counted) (last : Counted)
    → window (frames ++ last ∷ []) ≡ cond (last.first || eqb (length (window frames)) 256) (last ∷ []) (window frames ++ last ∷ [])
window-push frames last =
    ap last_window (since_first-push frames last)
    ∙ window_by last.first (eqb (length (window frames)) 256) (since_first frames) (window frames) last (last_window-push (since_first frames) last)

-- ---- whether the signal is lost

lost_after-append : (n : ℕ) (frames more : List Counted) → n ≤ length frames → lost_after n (frames ++ more) ≡ lost_after n frames
unfolding lost_after
lost_after-append zero frames more h = refl
lost_after-append (suc n) frames more h =
    let same : take (suc n) (frames ++ more) ≡ take (suc n) frames = take-append-le (suc n) frames more h in
    let before : lost_after n (frames ++ more) ≡ lost_after n frames = lost_after-append n frames more (omega arith) in
    rw (same, before) refl

is_lost-push : (frames : List Counted) (last : Counted)
    → is_lost (frames ++ last ∷ [])
    ≡ (let now = window (frames ++ last ∷ []) in cond (is_loss now) true (cond (is_clear now) false (is_lost frames)))
unfolding is_lost lost_after
is_lost-push frames last =
    let n = length frames in
    let long : length (frames ++ last ∷ []) ≡ suc n = omega (arith, length_push frames last) in
    let all : take (suc n) (frames ++ last ∷ []) ≡ frames ++ last ∷ [] = take_all (suc n) (frames ++ last ∷ []) (omega (arith, long)) in
    let before : lost_after n (frames ++ last ∷ []) ≡ lost_after n frames = lost_after-append n frames (last ∷ []) (omega arith) in
    ap (λ k. lost_after k (frames ++ last ∷ [])) long
    ∙ ap (λ now. let w = window now in cond (is_loss w) true (cond (is_clear w) false (lost_after n (frames ++ last ∷ [])))) all
    ∙ ap (λ b. let w = window (frames ++ last ∷ []) in cond (is_loss w) true (cond (is_clear w) false b)) before

-- ---- the count

length-added : (new : Bool) (now : List Counted) (last : Counted) → length (cond new (last ∷ []) (now ++ last ∷ [])) ≡ cond new 0 (length now) + 1
length-added true now last = omega arith
length-added false now last = length_push now last

violations_in-added : (new : Bool) (now : List Counted) (last : Counted)
    → violations_in (cond new (last ∷ []) (now ++ last ∷ [])) ≡ cond new 0 (violations_in now) + last.violations
violations_in-added true now last = omega arith
violations_in-added false now last = sum_by_push (λ frame. frame.violations) now last

capped_sum : (new : Bool) (all more : ℕ) → min (cond new 0 (min all 4294967295) + more) 4294967295 ≡ min (cond new 0 all + more) 4294967295
capped_sum true all more = refl
capped_sum false all more = omega arith

capped_loss : (all : ℕ) → (all < 16) ⊎ (16 ≤ all) → leb 16 (min all 4294967295) ≡ leb 16 all
capped_loss all (inl low) = lt-leb 16 (min all 4294967295) (omega arith) ∙ sym (lt-leb 16 all low)
capped_loss all (inr high) = le-leb 16 (min all 4294967295) (omega arith) ∙ sym (le-leb 16 all high)

capped_none : (all : ℕ) → (all ≡ 0) ⊎ (all ≡ 0 → ⊥) → eqb (min all 4294967295) 0 ≡ eqb all 0
capped_none all (inl none) = eq-eqb (min all 4294967295) 0 (omega arith) ∙ sym (eq-eqb all 0 none)
capped_none all (inr some) = ne_eqb (min all 4294967295) 0 (λ e. some (omega arith)) ∙ sym (ne_eqb all 0 some)

pub CountsLoss-push : (old mid : Los) (lost first : Bool) (violations : ℕ)
    → mid.frames ≡ cond (first || eqb old.frames 256) 0 old.frames + 1
    → mid.violations ≡ min (cond (first || eqb old.frames 256) 0 old.violations + violations) 4294967295
    → mid.lost ≡ old.lost
    → lost ≡ cond (leb 16 mid.violations) true (cond (eqb mid.frames 256 && eqb mid.violations 0) false mid.lost)
    → (past : List Counted) → CountsLoss old past
    → (let all = past ++ counted first violations ∷ [] in
    (mid.frames ≡ length (window all)) × (mid.violations ≡ min (violations_in (window all)) 4294967295) × (lost ≡ is_lost all))
CountsLoss-push old mid lost first violations f v kept l past h =
    let last = counted first violations in
    let begins = first || eqb (length (window past)) 256 in
    let now = window (past ++ last ∷ []) in
    let step : now ≡ cond begins (last ∷ []) (window past ++ last ∷ []) = window-push past last in
    let frames : mid.frames ≡ length now =
    f ∙ ap (λ n. cond (first || eqb n 256) 0 n + 1) h.frames ∙ sym (ap length step ∙ length-added begins (window past) last) in
    let sum : violations_in now ≡ cond begins 0 (violations_in (window past)) + violations =
    ap violations_in step ∙ violations_in-added begins (window past) last in
    let count : mid.violations ≡ min (violations_in now) 4294967295 =
    v ∙ ap (λ n. min (cond (first || eqb n 256) 0 old.violations + violations) 4294967295) h.frames
    ∙ ap (λ n. min (cond begins 0 n + violations) 4294967295) h.violations
    ∙ capped_sum begins (violations_in (window past)) violations
    ∙ ap (λ n. min n 4294967295) (sym sum) in
    let loss : leb 16 mid.violations ≡ is_loss now =
    ap (λ n. leb 16 n) count ∙ capped_loss (violations_in now) (cases_lt (violations_in now) 16) in
    let clear : (eqb mid.frames 256 && eqb mid.violations 0) ≡ is_clear now =
    ap (λ n. eqb n 256 && eqb mid.violations 0) frames
    ∙ ap (λ n. eqb (length now) 256 && eqb n 0) count
    ∙ ap (λ b. eqb (length now) 256 && b) (capped_none (violations_in now) (cases_eq (violations_in now) 0)) in (
      frames,
      count,
      l
          ∙ ap (λ b. cond b true (cond (eqb mid.frames 256 && eqb mid.violations 0) false mid.lost)) loss
          ∙ ap (λ b. cond (is_loss now) true (cond b false mid.lost)) clear
          ∙ ap (λ b. cond (is_loss now) true (cond (is_clear now) false b)) (kept ∙ h.lost)
          ∙ sym (is_lost-push past last),
    )

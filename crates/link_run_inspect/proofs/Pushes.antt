-- One more frame at the end of a list.
use Rattle.std.proofs.Common.{◌≡◌, ℕ, suc, ◌+◌, ◌-◌, Bool, true, false, cond, ltb, List, [], ◌∷◌, ◌++◌, length, drop, Option, Some, None, refl, sym, ◌∙◌, ap, arith, append_assoc, append-nil}
use Rattle.std.proofs.lemmas.List.{drop-append-le, drop_all, length_push}
use Rattle.std.specs.List.{flat_map}
use Rattle.std.proofs.lemmas.List.Sums.{sum_by_push}
use Rattle.line_code.specs.declared.characters.Rd.{Rd}
use Rattle.line_code.specs.declared.characters.Rd.TheVariants.{Minus}
use Rattle.hyperframe.specs.declared.synchronization.SyncState.{SyncState}
use Rattle.hyperframe.specs.declared.synchronization.SyncState.TheVariants.{Held}
use Rattle.hyperframe.specs.Locks.{Sync, sync_of, sync_x}
use Rattle.hyperframe.specs.Acquires.{next, next_in, state_without}
use Rattle.hyperframe.specs.Loss.{Counted, violations_in as violations_of}
use Rattle.hyperframe.proofs.SyncSteps.{sync_of-push}
use Rattle.line_code.proofs.Spelling.{no_some}
use Rattle.line_code.specs.Decoded.{violations_in, disparity_along}
use Rattle.link_run_inspect.specs.Frames.{has_comma, commas, disparity_after, is_first, counted_from, counted, last, control_word, control_words, violations_of_last, place_at}

pub commas-push : (frames : List (List ℕ)) (frame : List ℕ) → commas (frames ++ frame ∷ []) ≡ commas frames ++ has_comma frame ∷ []
commas-push [] frame = refl
commas-push (first ∷ frames) frame = ap (λ cs. has_comma first ∷ cs) (commas-push frames frame)

pub disparity_after-push : (rd : Rd) (frames : List (List ℕ)) (frame : List ℕ) → disparity_after rd (frames ++ frame ∷ []) ≡ disparity_along (disparity_after rd frames) frame
unfolding disparity_after
disparity_after-push rd [] frame = refl
disparity_after-push rd (first ∷ frames) frame = disparity_after-push (disparity_along rd first) frames frame

-- the count of the last frame
unfoldable pub count_of : List Bool → Rd → List ℕ → Counted
count_of now rd frame = record { first = is_first (sync_x now); violations = violations_in rd frame }

counted_from-push : (before : List Bool) (rd : Rd) (frames : List (List ℕ)) (frame : List ℕ)
    → counted_from before rd (frames ++ frame ∷ []) ≡ counted_from before rd frames ++ count_of (before ++ commas (frames ++ frame ∷ [])) (disparity_after rd frames) frame ∷ []
unfolding counted_from disparity_after count_of
counted_from-push before rd [] frame = refl
counted_from-push before rd (first ∷ frames) frame =
    let now = before ++ has_comma first ∷ [] in
    let one : Counted = record { first = is_first (sync_x now); violations = violations_in rd first } in
    ap (λ counts. one ∷ counts) (counted_from-push now (disparity_along rd first) frames frame)
    ∙ ap (λ all. one ∷ counted_from now (disparity_along rd first) frames ++ count_of all (disparity_after (disparity_along rd first) frames) frame ∷ [])
    (append_assoc before (has_comma first ∷ []) (commas (frames ++ frame ∷ [])))

pub counted-push : (frames : List (List ℕ)) (frame : List ℕ)
    → counted (frames ++ frame ∷ []) ≡ counted frames ++ count_of (commas (frames ++ frame ∷ [])) (disparity_after Minus frames) frame ∷ []
counted-push frames frame = counted_from-push [] Minus frames frame

counted_from-length : (before : List Bool) (rd : Rd) (frames : List (List ℕ)) → length (counted_from before rd frames) ≡ length frames
unfolding counted_from
counted_from-length before rd [] = refl
counted_from-length before rd (first ∷ frames) = ap suc (counted_from-length (before ++ has_comma first ∷ []) (disparity_along rd first) frames)

pub violations-push : (frames : List (List ℕ)) (frame : List ℕ)
    → violations_of (counted (frames ++ frame ∷ [])) ≡ violations_of (counted frames) + violations_in (disparity_after Minus frames) frame
unfolding count_of
violations-push frames frame =
    ap violations_of (counted-push frames frame)
    ∙ sum_by_push (λ f. f.violations) (counted frames) (count_of (commas (frames ++ frame ∷ [])) (disparity_after Minus frames) frame)

-- ---- the last frames

last-push : {A : Type 0} (k : ℕ) (xs : List A) (x : A) → last (suc k) (xs ++ x ∷ []) ≡ last k xs ++ x ∷ []
last-push k xs x =
    ap (λ n. drop n (xs ++ x ∷ [])) (let e : length (xs ++ x ∷ []) - suc k ≡ length xs - k = omega (arith, length_push xs x) in e)
    ∙ drop-append-le (length xs - k) xs (x ∷ []) (omega arith)

last-zero : {A : Type 0} (xs : List A) → last 0 xs ≡ []
last-zero xs = drop_all (length xs - 0) xs (omega arith)

words-push : (width : ℕ) (frames : List (List ℕ)) (frame : List ℕ)
    → flat_map (control_word width) (frames ++ frame ∷ []) ≡ flat_map (control_word width) frames ++ control_word width frame
words-push width [] frame = append-nil (control_word width frame)
words-push width (first ∷ frames) frame =
    ap (λ w. control_word width first ++ w) (words-push width frames frame)
    ∙ sym (append_assoc (control_word width first) (flat_map (control_word width) frames) (control_word width frame))

pub control_words-push : (width k : ℕ) (frames : List (List ℕ)) (frame : List ℕ)
    → control_words width (suc k) (frames ++ frame ∷ []) ≡ control_words width k frames ++ control_word width frame
unfolding control_words
control_words-push width k frames frame = ap (flat_map (control_word width)) (last-push k frames frame) ∙ words-push width (last k frames) frame

pub control_words-zero : (width : ℕ) (frames : List (List ℕ)) → control_words width 0 frames ≡ []
unfolding control_words
control_words-zero width frames = ap (flat_map (control_word width)) (last-zero frames)

pub violations_of_last-push : (k : ℕ) (frames : List (List ℕ)) (frame : List ℕ)
    → violations_of_last (suc k) (frames ++ frame ∷ []) ≡ violations_of_last k frames + violations_in (disparity_after Minus frames) frame
unfolding violations_of_last count_of
violations_of_last-push k frames frame =
    let one = count_of (commas (frames ++ frame ∷ [])) (disparity_after Minus frames) frame in
    ap (λ counts. violations_of (last (suc k) counts)) (counted-push frames frame)
    ∙ ap violations_of (last-push k (counted frames) one)
    ∙ sum_by_push (λ f. f.violations) (last k (counted frames)) one

pub violations_of_last-zero : (frames : List (List ℕ)) → violations_of_last 0 frames ≡ 0
unfolding violations_of_last
violations_of_last-zero frames = ap violations_of (last-zero (counted frames))

-- ---- places follow one another in a lock

zero_is : (n : ℕ) (x : Option ℕ) → Some 0 ≡ Some (suc n) → x ≡ Some n
zero_is n x e = let wrong : 0 ≡ suc n = cc in absurd (omega arith)

suc_is : (x n : ℕ) → Some (x + 1) ≡ Some (suc n) → Some x ≡ Some n
suc_is x n e = let same : x + 1 ≡ suc n = cc in ap Some (omega arith)

none_then : (x : Option ℕ) (n : ℕ) → None ≡ Some (suc n) → x ≡ Some n
none_then x n e = absurd (no_some (suc n) e)

x_by : (state : SyncState) (x n : ℕ) (low comma : Bool)
    → (cond {A = Sync} low (record { state = state; x = Some (x + 1) }) (cond comma (record { state = Held; x = Some 0 }) (record { state = state_without state; x = None }))).x ≡ Some (suc n)
    → Some x ≡ Some n
x_by state x n true comma e = suc_is x n e
x_by state x n false true e = zero_is n (Some x) e
x_by state x n false false e = none_then (Some x) n e

x_then : (state : SyncState) (x : Option ℕ) (comma : Bool) (n : ℕ) → (next_in state x comma).x ≡ Some (suc n) → x ≡ Some n
x_then state None true n e = zero_is n None e
x_then state None false n e = none_then None n e
x_then state (Some x) comma n e = x_by state x n (ltb x 255) comma e

pub place-before : (frames : List (List ℕ)) (frame : List ℕ) (n : ℕ) → place_at (frames ++ frame ∷ []) ≡ Some (suc n) → place_at frames ≡ Some n
unfolding next
place-before frames frame n e =
    let s = sync_of (commas frames) in
    let after : (next_in s.state s.x (has_comma frame)).x ≡ Some (suc n) =
    ap (λ y. y.x) (sym (sync_of-push (commas frames) (has_comma frame))) ∙ ap sync_x (sym (commas-push frames frame)) ∙ e in
    x_then s.state s.x (has_comma frame) n after

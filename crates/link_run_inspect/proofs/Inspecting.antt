-- One more frame of a line, with its channels.
use Rattle.std.proofs.Common.{◌≡◌, ℕ, zero, suc, ◌+◌, ◌*◌, ◌≤◌, Bool, true, false, cond, List, [], ◌∷◌, ◌++◌, length, take, Option, Some, None, refl, sym, ◌∙◌, ap, arith}
use Rattle.std.proofs.lemmas.List.{length_push, take_all, take-append-le}
use Rattle.hyperframe.specs.declared.synchronization.SyncState.{SyncState}
use Rattle.link_run_inspect.specs.declared.changes.Changes.{Changes}
use Rattle.link_run_inspect.specs.declared.changes.Hyperframe.{Hyperframe}
use Rattle.link_run_inspect.specs.declared.reception.Reception.{Reception}
use Rattle.link_run_inspect.specs.Frames.{control_words, violations_of_last, state_at, place_at, ends_hyperframe}
use Rattle.link_run_inspect.specs.Changes.{hyperframe_of, hyperframe_at, changes_of, changes_text}
use Rattle.link_run_inspect.specs.Receives.{Receives}
use Rattle.link_run_inspect.specs.Managed.{Managed, after_hyperframe, after_frame, managed_after, managed}
use Rattle.link_run_inspect.specs.Events.{followed_text}
use Rattle.link_run_inspect.specs.Inspect.{frame_text}
use Rattle.line_code.proofs.Spelling.{no_some}
use Rattle.link_run_inspect.proofs.Receiving.{ends_true}

-- ---- what the channels were handed

managed_after-append : (width : ℕ) (frames more : List (List ℕ)) (n : ℕ) → n ≤ length frames → managed_after width (frames ++ more) n ≡ managed_after width frames n
unfolding managed_after
managed_after-append width frames more zero h = refl
managed_after-append width frames more (suc n) h =
    ap (λ f. after_frame width f (managed_after width (frames ++ more) n)) (take-append-le (suc n) frames more h)
    ∙ ap (λ m. after_frame width (take (suc n) frames) m) (managed_after-append width frames more n (omega arith))

pub managed-push : (width : ℕ) (frames : List (List ℕ)) (frame : List ℕ)
    → managed width (frames ++ frame ∷ []) ≡ after_frame width (frames ++ frame ∷ []) (managed width frames)
unfolding managed managed_after
managed-push width frames frame =
    let all = frames ++ frame ∷ [] in
    let long : length all ≡ suc (length frames) = omega (arith, length_push frames frame) in
    let whole : take (suc (length frames)) all ≡ all = take_all (suc (length frames)) all (omega (arith, long)) in
    ap (λ n. managed_after width all n) long
    ∙ ap (λ f. after_frame width f (managed_after width all (length frames))) whole
    ∙ ap (λ m. after_frame width all m) (managed_after-append width frames (frame ∷ []) (length frames) (omega arith))

-- ---- the control words of the hyperframe that a frame ends

some_true : (b : Bool) (h x : Hyperframe) → cond b (Some h) None ≡ Some x → b ≡ true
some_true true h x e = refl
some_true false h x e = absurd (no_some x e)

pub control_at : (r : Reception) (frames : List (List ℕ)) (h : Hyperframe) → Receives r frames → length r.in_hand.control.items ≡ 256 * r.width
    → hyperframe_at r.width frames ≡ Some h → r.in_hand.control.items ≡ control_words r.width 256 frames
unfolding hyperframe_at
control_at r frames h rec long e =
    let ends : ends_hyperframe frames ≡ true =
    some_true (ends_hyperframe frames) (hyperframe_of r.width (control_words r.width 256 frames) (violations_of_last 256 frames)) h e in
    let last : place_at frames ≡ Some 255 = ends_true (state_at frames) (place_at frames) ends in
    sym (take_all (r.width * (255 + 1)) r.in_hand.control.items (omega (arith, long))) ∙ rec.control 255 last

after_control : (width : ℕ) (control control' : List ℕ) (state : SyncState) (h : Option Hyperframe) (m : Managed)
    → ((x : Hyperframe) → h ≡ Some x → control ≡ control') → after_hyperframe width control state h m ≡ after_hyperframe width control' state h m
after_control width control control' state None m same = refl
after_control width control control' state (Some x) m same = ap (λ k. after_hyperframe width k state (Some x) m) (same x refl)

text_control : (n width : ℕ) (control control' : List ℕ) (h : Option Hyperframe) (m : Managed)
    → ((x : Hyperframe) → h ≡ Some x → control ≡ control') → followed_text n width control h m ≡ followed_text n width control' h m
text_control n width control control' None m same = refl
text_control n width control control' (Some x) m same = ap (λ k. followed_text n width k (Some x) m) (same x refl)

pub after_is : (r : Reception) (all : List (List ℕ)) (control : List ℕ) (h : Option Hyperframe) (m : Managed) → Receives r all
    → length r.in_hand.control.items ≡ 256 * r.width → control ≡ r.in_hand.control.items → h ≡ hyperframe_at r.width all
    → after_hyperframe r.width control r.state h m ≡ after_frame r.width all m
unfolding after_frame
after_is r all control h m rec long c e =
    ap (λ st. after_hyperframe r.width control st h m) rec.state
    ∙ after_control r.width control (control_words r.width 256 all) (state_at all) h m (λ x some. c ∙ control_at r all x rec long (sym e ∙ some))
    ∙ ap (λ o. after_hyperframe r.width (control_words r.width 256 all) (state_at all) o m) e

pub frame_text_is : (r : Reception) (frames : List (List ℕ)) (frame : List ℕ) (changes : Changes) (control : List ℕ) → changes ≡ changes_of r.width frames frame
    → Receives r (frames ++ frame ∷ []) → length r.in_hand.control.items ≡ 256 * r.width → control ≡ r.in_hand.control.items
    → changes_text changes ++ followed_text changes.number r.width control changes.hyperframe (managed r.width frames) ≡ frame_text r.width frames frame
unfolding frame_text changes_of
frame_text_is r frames frame changes control ch rec long c =
    let all = frames ++ frame ∷ [] in
    let m = managed r.width frames in
    ap (λ (k : Changes). changes_text k ++ followed_text k.number r.width control k.hyperframe m) ch
    ∙ ap (λ t. changes_text (changes_of r.width frames frame) ++ t)
    (text_control (length frames) r.width control (control_words r.width 256 all) (hyperframe_at r.width all) m (λ x some. c ∙ control_at r all x rec long some))

pub hyperframe_is : (width : ℕ) (frames : List (List ℕ)) (frame : List ℕ) (changes : Changes) → changes ≡ changes_of width frames frame
    → changes.hyperframe ≡ hyperframe_at width (frames ++ frame ∷ [])
unfolding changes_of
hyperframe_is width frames frame changes e = ap (λ (k : Changes). k.hyperframe) e

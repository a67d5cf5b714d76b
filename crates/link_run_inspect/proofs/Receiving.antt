-- What a receiver keeps after one more frame, and the hyperframe that it ends.
use Rattle.std.proofs.Common.{◌≡◌, ℕ, zero, suc, ◌+◌, ◌*◌, ◌<◌, ◌≤◌, ◌==◌, true, false, cond, List, [], ◌∷◌, ◌++◌, length, take, drop, Option, Some, None, Result, sym, ◌∙◌, ap, subst, arith, length-append}
use Rattle.std.specs.Prelude.{IfSome}
use Rattle.std.proofs.lemmas.Bool.{eqb-true, cond-false, ne_eqb}
use Rattle.std.proofs.lemmas.List.{length_push, take_all, take-append-le, length-take}
use Rattle.std.proofs.Math.Nat.{mul-add, mul-le-mul_left}
use Rattle.line_code.specs.declared.characters.Rd.TheVariants.{Minus}
use Rattle.hyperframe.specs.declared.synchronization.SyncState.{SyncState}
use Rattle.hyperframe.specs.declared.synchronization.SyncState.TheVariants.{Hunting, Found, Held, Lost}
use Rattle.hyperframe.specs.Locks.{sync_state, sync_x}
use Rattle.hyperframe.specs.Acquires.{Acquires}
use Rattle.hyperframe.specs.Loss.{is_lost}
use Rattle.hyperframe.specs.CountsLoss.{CountsLoss, counted as count}
use Rattle.control_words.specs.declared.announce.Announce.{Announce}
use Rattle.control_words.specs.declared.announce.BadControl.{BadControl}
use Rattle.control_words.specs.Reading.{announced, numbers}
use Rattle.link_run_inspect.specs.declared.changes.Hyperframe.{Hyperframe}
use Rattle.link_run_inspect.specs.declared.reception.Reception.{Reception}
use Rattle.line_code.specs.Decoded.{violations_in, disparity_along}
use Rattle.link_run_inspect.specs.Frames.{has_comma, commas, counted, disparity_after, is_first, control_word, control_words, violations_of_last, state_at, place_at, ends_in, ends_hyperframe}
use Rattle.link_run_inspect.specs.Changes.{hyperframe_of, hyperframe_at}
use Rattle.link_run_inspect.specs.Receives.{Receives}
use Rattle.link_run_inspect.proofs.Pushes.{commas-push, disparity_after-push, count_of, counted-push, violations-push, control_words-push, control_words-zero, violations_of_last-push, violations_of_last-zero, place-before}

-- ---- the hyperframe in hand

some_is : (a b : ℕ) → Some a ≡ Some b → a ≡ b
some_is a b e = cc

-- what was kept of the frames before this one, at place x
kept_before : (r : Reception) (frames : List (List ℕ)) (frame : List ℕ) (x : ℕ) → Receives r frames → place_at (frames ++ frame ∷ []) ≡ Some x
    → take (r.width * x) r.in_hand.control.items ≡ control_words r.width x frames
kept_before r frames frame zero h e =
    ap (λ n. take n r.in_hand.control.items) (let none : r.width * 0 ≡ 0 = omega arith in none) ∙ sym (control_words-zero r.width frames)
kept_before r frames frame (suc x) h e =
    ap (λ n. take (r.width * n) r.in_hand.control.items) (omega arith)
    ∙ h.control x (place-before frames frame x e)
    ∙ ap (λ n. control_words r.width n frames) (omega arith)

counted_before : (r : Reception) (frames : List (List ℕ)) (frame : List ℕ) (x : ℕ) → Receives r frames → place_at (frames ++ frame ∷ []) ≡ Some x
    → cond (x == 0) 0 r.in_hand.violations ≡ violations_of_last x frames
counted_before r frames frame zero h e = sym (violations_of_last-zero frames)
counted_before r frames frame (suc x) h e =
    cond-false (suc x == 0) 0 r.in_hand.violations (ne_eqb (suc x) 0 (λ z. omega arith))
    ∙ h.in_hand x (place-before frames frame x e) ∙ ap (λ n. violations_of_last n frames) (omega arith)

joined : (before word after : List ℕ) (n : ℕ) → length before + length word ≡ n → take n (before ++ word ++ after) ≡ before ++ word
joined before word after n e =
    let all : length (before ++ word) ≡ n = omega (arith, length-append before word) in
    take-append-le n (before ++ word) after (omega (arith, all)) ∙ take_all n (before ++ word) (omega (arith, all))

-- ---- one more frame

pub record Takes (a b : Reception) (frames : List (List ℕ)) (frame : List ℕ) (x : Option ℕ) (word : List ℕ) (more : ℕ) : Type 0 where
  pub width : b.width ≡ a.width
  pub number : b.number ≡ a.number + 1
  pub disparity : b.disparity ≡ disparity_along a.disparity frame
  pub counts : more ≡ violations_in a.disparity frame
  pub violations : b.violations ≡ a.violations + more
  pub acquire : Acquires b.acquire (commas frames ++ has_comma frame ∷ [])
  pub state : b.state ≡ sync_state (commas frames ++ has_comma frame ∷ [])
  pub place : x ≡ sync_x (commas frames ++ has_comma frame ∷ [])
  pub los : CountsLoss b.los (counted frames ++ count (is_first x) more ∷ [])
  pub lost : b.lost ≡ is_lost (counted frames ++ count (is_first x) more ∷ [])
  pub word_is : word ≡ control_word a.width frame
  pub word_len : length word ≡ a.width
  pub room : 256 * a.width ≤ length a.in_hand.control.items
  pub small : (n : ℕ) → x ≡ Some n → n < 256
  pub control : IfSome x (λ n. b.in_hand.control.items
      ≡ take (length word * n) a.in_hand.control.items ++ word ++ drop (length word * (n + 1)) a.in_hand.control.items)
  pub in_hand : IfSome x (λ n. b.in_hand.violations ≡ cond (n == 0) 0 a.in_hand.violations + more)

filled : (width width' n len : ℕ) (control : List ℕ) → width' ≡ width → len ≡ width → 256 * width ≤ length control → n < 256
    → length (take (len * n) control) + len ≡ width' * (n + 1)
filled width width' n len control w l room low =
    let bits : len * n ≡ width * n = ap (λ k. k * n) l in
    let whole : width' * (n + 1) ≡ width * n + width * 1 = ap (λ k. k * (n + 1)) w ∙ mul-add width n 1 in
    let short : width * n ≤ width * 256 = mul-le-mul_left width (omega arith) in
    omega (arith, bits, whole, short, l, room, length-take (len * n) control)

pub if_some : {A : Type 0} (P : A → Type 0) (x : Option A) (a : A) → x ≡ Some a → IfSome x P → P a
if_some P x a e h = subst (λ o. IfSome o P) e h

pub Receives-push : (a b : Reception) (frames : List (List ℕ)) (frame : List ℕ) (x : Option ℕ) (word : List ℕ) (violations : ℕ)
    → Takes a b frames frame x word violations → Receives a frames → Receives b (frames ++ frame ∷ [])
unfolding count_of
Receives-push a b frames frame x word violations t h =
    let all = frames ++ frame ∷ [] in
    let cs : commas all ≡ commas frames ++ has_comma frame ∷ [] = commas-push frames frame in
    let v : violations ≡ violations_in (disparity_after Minus frames) frame = t.counts ∙ ap (λ rd. violations_in rd frame) h.disparity in
    let place : x ≡ place_at all = t.place ∙ ap sync_x (sym cs) in
    let counts : counted frames ++ count (is_first x) violations ∷ [] ≡ counted all =
    ap (λ y. counted frames ++ count (is_first y) violations ∷ []) place
    ∙ ap (λ n. counted frames ++ count (is_first (place_at all)) n ∷ []) v ∙ sym (counted-push frames frame) in
    record {
      number = omega (arith, t.number, h.number, length_push frames frame);
      disparity = t.disparity ∙ ap (λ rd. disparity_along rd frame) h.disparity ∙ sym (disparity_after-push Minus frames frame);
      violations = omega (arith, t.violations, h.violations, v, violations-push frames frame);
      acquire = subst (λ c. Acquires b.acquire c) (sym cs) t.acquire;
      state = t.state ∙ ap sync_state (sym cs);
      los = subst (λ c. CountsLoss b.los c) counts t.los;
      lost = t.lost ∙ ap is_lost counts;
      control = λ n at.
          let here : x ≡ Some n = place ∙ at in
          let low : n < 256 = t.small n here in
          let before : length (take (length word * n) a.in_hand.control.items) + length word ≡ b.width * (n + 1) =
          filled a.width b.width n (length word) a.in_hand.control.items t.width t.word_len t.room low in
          let old : take (length word * n) a.in_hand.control.items ≡ control_words a.width n frames =
          ap (λ w. take (w * n) a.in_hand.control.items) t.word_len ∙ kept_before a frames frame n h at in
          ap (take (b.width * (n + 1))) (if_some (λ m. b.in_hand.control.items ≡ take (length word * m) a.in_hand.control.items ++ word ++ drop (length word * (m + 1)) a.in_hand.control.items) x n here t.control)
          ∙ joined (take (length word * n) a.in_hand.control.items) word (drop (length word * (n + 1)) a.in_hand.control.items) (b.width * (n + 1)) before
          ∙ ap (λ w. w ++ word) old
          ∙ ap (λ w. control_words a.width n frames ++ w) t.word_is
          ∙ sym (control_words-push a.width n frames frame)
          ∙ ap (λ w. control_words w (suc n) all) (sym t.width)
          ∙ ap (λ k. control_words b.width k all) (omega arith);
      in_hand = λ n at.
          let here : x ≡ Some n = place ∙ at in
          if_some (λ m. b.in_hand.violations ≡ cond (m == 0) 0 a.in_hand.violations + violations) x n here t.in_hand
          ∙ ap (λ k. k + violations) (counted_before a frames frame n h at)
          ∙ ap (λ k. violations_of_last n frames + k) v
          ∙ sym (violations_of_last-push n frames frame)
          ∙ ap (λ k. violations_of_last k all) (omega arith);
    }

-- ---- the hyperframe that a frame ends

pub ends_true : (state : SyncState) (x : Option ℕ) → ends_in state x ≡ true → x ≡ Some 255
ends_true Held (Some x) e = ap Some (eqb-true x 255 e)
ends_true Held None e = absurd (let wrong : false ≡ true = e in no_true wrong)
  where
    no_true : false ≡ true → ⊥
    no_true w = cc
ends_true Hunting x e = absurd (let wrong : false ≡ true = e in cc)
ends_true Found x e = absurd (let wrong : false ≡ true = e in cc)
ends_true Lost x e = absurd (let wrong : false ≡ true = e in cc)

pub hyperframe_none : (width : ℕ) (frames : List (List ℕ)) (state : SyncState) (x : Option ℕ) → state ≡ state_at frames → x ≡ place_at frames
    → ends_in state x ≡ false → None ≡ hyperframe_at width frames
unfolding hyperframe_at
hyperframe_none width frames state x s p e =
    sym (ap (λ b. cond b (Some (hyperframe_of width (control_words width 256 frames) (violations_of_last 256 frames))) None)
    (ap (λ st. ends_in st (place_at frames)) (sym s) ∙ ap (λ o. ends_in state o) (sym p) ∙ e))

pub hyperframe_some : (r : Reception) (frames : List (List ℕ)) (x : Option ℕ) → Receives r frames → x ≡ place_at frames
    → length r.in_hand.control.items ≡ 256 * r.width → ends_in r.state x ≡ true
    → Some (hyperframe_of r.width r.in_hand.control.items r.in_hand.violations) ≡ hyperframe_at r.width frames
unfolding hyperframe_at
hyperframe_some r frames x h p long e =
    let last : place_at frames ≡ Some 255 = sym p ∙ ends_true r.state x e in
    let words : r.in_hand.control.items ≡ control_words r.width 256 frames =
    sym (take_all (r.width * (255 + 1)) r.in_hand.control.items (omega (arith, long))) ∙ h.control 255 last in
    let count : r.in_hand.violations ≡ violations_of_last 256 frames = h.in_hand 255 last in
    let is : ends_hyperframe frames ≡ true = ap (λ st. ends_in st (place_at frames)) (sym h.state) ∙ ap (λ o. ends_in r.state o) (sym p) ∙ e in
    ap (λ w. Some (hyperframe_of r.width w r.in_hand.violations)) words
    ∙ ap (λ n. Some (hyperframe_of r.width (control_words r.width 256 frames) n)) count
    ∙ sym (ap (λ b. cond b (Some (hyperframe_of r.width (control_words r.width 256 frames) (violations_of_last 256 frames))) None) is)

pub of_parts : (width : ℕ) (control : List ℕ) (violations : ℕ) (ns : ℕ × ℕ) (answer : Result Announce BadControl) → ns ≡ numbers width control → answer ≡ announced width control
    → Some (let h : Hyperframe = record { z = ns.0; bfn = ns.1; violations = violations; answer = answer } in h) ≡ Some (hyperframe_of width control violations)
of_parts width control violations ns answer n a =
    ap (λ (m : ℕ × ℕ). Some (let h : Hyperframe = record { z = m.0; bfn = m.1; violations = violations; answer = answer } in h)) n
    ∙ ap (λ r. Some (let h : Hyperframe = record { z = (numbers width control).0; bfn = (numbers width control).1; violations = violations; answer = r } in h)) a

-- What is written is read.
use Rattle.std.proofs.Common.{◌≡◌, ℕ, zero, suc, ◌+◌, ◌-◌, ◌<◌, ◌≤◌, nat_lt, Bool, List, [], ◌∷◌, ◌++◌, length, map, take, drop, replicate, flat_map, filter, All, Option, Some, None, refl, sym, ap, ◌∙◌, subst, arith, append_assoc}
use Rattle.std.specs.List.{repeat}
use Rattle.std.proofs.lemmas.Bool.{cond-true, cond-false, lt-ltb, le-ltb}
use Rattle.std.proofs.lemmas.List.{length-append, append-nil, take-append-drop, length-take-le}
use Rattle.std.proofs.lemmas.List.Elements.{filter-append, All-head, All-tail, All-append, All-map, All-replicate}
use Rattle.std.proofs.lemmas.List.Concat.{flat_map-append}
use Rattle.hdlc_channel.specs.Bits.{bits_of}
use Rattle.hdlc_channel.specs.SlowText.{flag, slow_at, frame_at, content_answer}
use Rattle.hdlc_channel.specs.SlowStream.{slow_stream, content_of, frame_bits, stuffed, IsFrame}
use Rattle.hdlc_channel.specs.Outgoing.{ones_after}
use Rattle.hdlc_channel.specs.Reader.{begun, step, collecting, flagged, kept_frame}
use Rattle.hdlc_channel.specs.SlowLaw.{answer_to, IsItem, item_bits, frame_answers, slow_answers, written_bits}
use Rattle.hdlc_channel.specs.declared.slow_event.SlowEvent.{SlowEvent}
use Rattle.hdlc_channel.specs.declared.slow_event.SlowEvent.TheVariants.{Frame, Aborted, TooShort, Uneven, BadFcs, TooLong}
use Rattle.hdlc_channel.proofs.ItemRuns.{open_view, frame_kept, frame_answered, content_bits-length, run_flag, pass_stuffed}
use Rattle.hdlc_channel.proofs.ReaderCases.{content_none}
use Rattle.hdlc_channel.proofs.Runs.{run, answers_of_run, slow_answers-append}
use Rattle.hdlc_channel.proofs.StepLaw.{begun_stands}
use Rattle.hdlc_channel.proofs.StuffedBits.{ones_after-le}

-- ---- items

run_lone_flag : (frame : List ℕ) (p : ℕ) (more : List Bool) → run (open_view 0 [] frame) p (flag ++ more) ≡ run (open_view 0 [] frame) (p + 8) more
run_lone_flag frame p more =
    run_flag frame [] 0 p more (omega arith) (omega arith)
    ∙ ap (λ a. answer_to (p + 7) (kept_frame a [] frame) a ++ run (open_view 0 [] (kept_frame a [] frame)) (p + 8) more) (sym content_none)

run_frame : (old : List ℕ) (frame : List ℕ) (p : ℕ) (more : List Bool) → IsFrame frame
    → run (open_view 0 [] old) p (frame_bits frame ++ more)
    ≡ record { at = p + length (frame_bits frame) - 1; event = Frame; frame = frame } ∷ run (open_view 0 [] frame) (p + length (frame_bits frame)) more
unfolding frame_bits
run_frame old frame p more is =
    let bits = bits_of (content_of frame) in
    let few = is.few in
    let long = content_bits-length frame is in
    let short : length bits ≤ 12016 = omega arith in
    let s = stuffed 0 bits in
    let k = ones_after 0 bits in
    let size = length-append s flag in
    let place : p + length s + 7 ≡ p + length (s ++ flag) - 1 = omega arith in
    let next : p + length s + 8 ≡ p + length (s ++ flag) = omega arith in
    ap (run (open_view 0 [] old) p) (append_assoc s flag more)
    ∙ (pass_stuffed old bits [] 0 (omega arith) (omega arith)).quiet p (flag ++ more)
    ∙ run_flag old bits k (p + length s) more (ones_after-le 0 bits (omega arith)) short
    ∙ ap (λ f. answer_to (p + length s + 7) f (content_answer bits) ++ run (open_view 0 [] f) (p + length s + 8) more) (frame_kept frame is old)
    ∙ ap (λ a. answer_to (p + length s + 7) frame a ++ run (open_view 0 [] frame) (p + length s + 8) more) (frame_answered frame is)
    ∙ ap (λ n. record { at = n; event = Frame; frame = frame } ∷ run (open_view 0 [] frame) (p + length s + 8) more) place
    ∙ ap (λ n. record { at = p + length (s ++ flag) - 1; event = Frame; frame = frame } ∷ run (open_view 0 [] frame) n more) next

run_items : (items : List (Option (List ℕ))) (old : List ℕ) (p : ℕ) → All IsItem items → run (open_view 0 [] old) p (flat_map item_bits items) ≡ frame_answers p items
unfolding frame_answers run
run_items [] old p each = refl
run_items (None ∷ items) old p each = run_lone_flag old p (flat_map item_bits items) ∙ run_items items old (p + 8) (All-tail IsItem None items each)
run_items (Some frame ∷ items) old p each =
    run_frame old frame p (flat_map item_bits items) (All-head IsItem (Some frame) items each)
    ∙ ap (λ r. record { at = p + length (frame_bits frame) - 1; event = Frame; frame = frame } ∷ r)
    (run_items items frame (p + length (frame_bits frame)) (All-tail IsItem (Some frame) items each))

run_first_flag : (more : List Bool) → run begun 0 (flag ++ more) ≡ run (open_view 0 [] []) 8 more
unfolding run step collecting flagged content_answer
run_first_flag more = refl

whole_read : (items : List (Option (List ℕ))) → All IsItem items → slow_answers (written_bits items) (length (written_bits items)) ≡ frame_answers 8 items
unfolding slow_answers
whole_read items each = answers_of_run (written_bits items) begun [] begun_stands ∙ run_first_flag (flat_map item_bits items) ∙ run_items items [] 8 each

-- ---- the first bits

filter_below : (p n : ℕ) (frame : List ℕ) (o : Option SlowEvent) → p < n → filter (λ a. nat_lt a.at n) (answer_to p frame o) ≡ answer_to p frame o
filter_below p n frame None h = refl
filter_below p n frame (Some Frame) h = cond-true (nat_lt p n) _ _ (lt-ltb p n h)
filter_below p n frame (Some Aborted) h = cond-true (nat_lt p n) _ _ (lt-ltb p n h)
filter_below p n frame (Some (TooShort k)) h = cond-true (nat_lt p n) _ _ (lt-ltb p n h)
filter_below p n frame (Some (Uneven k)) h = cond-true (nat_lt p n) _ _ (lt-ltb p n h)
filter_below p n frame (Some (BadFcs a b)) h = cond-true (nat_lt p n) _ _ (lt-ltb p n h)
filter_below p n frame (Some TooLong) h = cond-true (nat_lt p n) _ _ (lt-ltb p n h)

filter_from : (p n : ℕ) (frame : List ℕ) (o : Option SlowEvent) → n ≤ p → filter (λ a. nat_lt a.at n) (answer_to p frame o) ≡ []
filter_from p n frame None h = refl
filter_from p n frame (Some Frame) h = cond-false (nat_lt p n) _ _ (le-ltb p n h)
filter_from p n frame (Some Aborted) h = cond-false (nat_lt p n) _ _ (le-ltb p n h)
filter_from p n frame (Some (TooShort k)) h = cond-false (nat_lt p n) _ _ (le-ltb p n h)
filter_from p n frame (Some (Uneven k)) h = cond-false (nat_lt p n) _ _ (le-ltb p n h)
filter_from p n frame (Some (BadFcs a b)) h = cond-false (nat_lt p n) _ _ (le-ltb p n h)
filter_from p n frame (Some TooLong) h = cond-false (nat_lt p n) _ _ (le-ltb p n h)

all_below : (bits : List Bool) (m n : ℕ) → m ≤ n → filter (λ a. nat_lt a.at n) (slow_answers bits m) ≡ slow_answers bits m
unfolding slow_answers
all_below bits zero n h = refl
all_below bits (suc p) n h =
    let last = answer_to p (frame_at bits p) (slow_at bits p) in
    filter-append (λ a. nat_lt a.at n) (slow_answers bits p) last
    ∙ ap (λ xs. xs ++ filter (λ a. nat_lt a.at n) last) (all_below bits p n (omega arith))
    ∙ ap (λ xs. slow_answers bits p ++ xs) (filter_below p n (frame_at bits p) (slow_at bits p) (omega arith))

first_below : (bits : List Bool) (n k : ℕ) → filter (λ a. nat_lt a.at n) (slow_answers bits (k + n)) ≡ slow_answers bits n
unfolding slow_answers
first_below bits n zero = let e : 0 + n ≡ n = omega arith in ap (λ m. filter (λ a. nat_lt a.at n) (slow_answers bits m)) e ∙ all_below bits n n (omega arith)
first_below bits n (suc k) =
    let e : suc k + n ≡ suc (k + n) = omega arith in
    let last = answer_to (k + n) (frame_at bits (k + n)) (slow_at bits (k + n)) in
    ap (λ m. filter (λ a. nat_lt a.at n) (slow_answers bits m)) e
    ∙ filter-append (λ a. nat_lt a.at n) (slow_answers bits (k + n)) last
    ∙ ap (λ xs. filter (λ a. nat_lt a.at n) (slow_answers bits (k + n)) ++ xs) (filter_from (k + n) n (frame_at bits (k + n)) (slow_at bits (k + n)) (omega arith))
    ∙ append-nil (filter (λ a. nat_lt a.at n) (slow_answers bits (k + n)))
    ∙ first_below bits n k

pub written_read : (items : List (Option (List ℕ))) (n : ℕ) → All IsItem items → n ≤ length (written_bits items)
    → slow_answers (written_bits items) n ≡ filter (λ a. nat_lt a.at n) (frame_answers 8 items)
written_read items n each h =
    let bits = written_bits items in
    let e : length bits - n + n ≡ length bits = omega arith in
    sym (first_below bits n (length bits - n))
    ∙ ap (λ m. filter (λ a. nat_lt a.at n) (slow_answers bits m)) e
    ∙ ap (filter (λ a. nat_lt a.at n)) (whole_read items each)

-- ---- a stream

flags_of : (n : ℕ) → flat_map item_bits (replicate n None) ≡ repeat n flag
flags_of zero = refl
flags_of (suc n) = ap (λ xs. flag ++ xs) (flags_of n)

frames_of : (frames : List (List ℕ)) → flat_map item_bits (map Some frames) ≡ flat_map frame_bits frames
frames_of [] = refl
frames_of (frame ∷ frames) = ap (λ xs. frame_bits frame ++ xs) (frames_of frames)

no_answers : (n p : ℕ) → frame_answers p (replicate n None) ≡ []
unfolding frame_answers
no_answers zero p = refl
no_answers (suc n) p = no_answers n (p + 8)

frame_answers-flags : (frames : List (List ℕ)) (n p : ℕ) → frame_answers p (map Some frames ++ replicate n None) ≡ frame_answers p (map Some frames)
unfolding frame_answers
frame_answers-flags [] n p = no_answers n p
frame_answers-flags (frame ∷ frames) n p =
    ap (λ r. record { at = p + length (frame_bits frame) - 1; event = Frame; frame = frame } ∷ r) (frame_answers-flags frames n (p + length (frame_bits frame)))

flags_long : (n : ℕ) → n ≤ length (repeat n flag)
flags_long zero = omega arith
flags_long (suc n) = let h = flags_long n in omega arith

pub stream_read : (frames : List (List ℕ)) (n : ℕ) → All IsFrame frames
    → slow_answers (slow_stream (record { rest = flag; queue = frames }) n) n ≡ filter (λ a. nat_lt a.at n) (frame_answers 8 (map Some frames))
unfolding slow_stream
stream_read frames n each =
    let none : List (Option (List ℕ)) = replicate n None in
    let items : List (Option (List ℕ)) = map Some frames ++ none in
    let bits = written_bits items in
    let same : flag ++ (flat_map frame_bits frames ++ repeat n flag) ≡ bits =
    ap (λ xs. flag ++ xs) (sym (flat_map-append item_bits (map Some frames) none ∙ ap (λ xs. xs ++ flat_map item_bits none) (frames_of frames) ∙ ap (λ xs. flat_map frame_bits frames ++ xs) (flags_of n))) in
    let each_item : All IsItem items = All-append IsItem (map Some frames) none (All-map IsItem Some frames each) (All-replicate IsItem n None tt) in
    let long : n ≤ length bits =
    subst (λ (xs : List Bool). n ≤ length xs) same (omega (arith, flags_long n, length-append flag (flat_map frame_bits frames ++ repeat n flag), length-append (flat_map frame_bits frames) (repeat n flag))) in
    let taken : length (take n bits) ≡ n = length-take-le n bits long in
    ap (λ xs. slow_answers (take n xs) n) same
    ∙ sym (slow_answers-append (take n bits) (drop n bits) n (omega arith))
    ∙ ap (λ xs. slow_answers xs n) (take-append-drop n bits)
    ∙ written_read items n each_item long
    ∙ ap (filter (λ a. nat_lt a.at n)) (frame_answers-flags frames n 8)

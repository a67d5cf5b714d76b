-- What is read of the first bits of a written stream, by the places at which its frames are whole.
use Rattle.std.proofs.Common.{◌≡◌, ℕ, zero, suc, ◌+◌, ◌-◌, ◌<◌, ◌≤◌, Bool, true, false, cond, leb, ltb, ◌&&◌, List, [], ◌∷◌, ◌++◌, length, take, map, replicate, Option, Some, None, inl, inr, refl, sym, ap, ◌∙◌, arith, append_assoc, length-append}
use Rattle.std.specs.List.{filter, flat_map}
use Rattle.std.proofs.lemmas.Bool.{and_from, and_right, cases_lt, le-leb, le-ltb, lt-ltb}
use Rattle.ethernet_channel.specs.Codes.{idle, start}
use Rattle.ethernet_channel.specs.Events.{Found}
use Rattle.ethernet_channel.specs.FastStream as fast
use Rattle.ethernet_channel.specs.Written.{found_in_frame, whole_frame}
use Rattle.hdlc_channel.specs.Bits.{bits_of}
use Rattle.hdlc_channel.specs.SlowLaw.{Answer, frame_answers}
use Rattle.hdlc_channel.specs.SlowStream as slow
use Rattle.hdlc_channel.specs.SlowText.{flag}
use Rattle.hdlc_channel.specs.declared.slow_event.SlowEvent.TheVariants.{Frame}
use Rattle.link_run_delay.specs.PrefixesAreRead.{Ending, Place, between, endings, fast_place, places, slow_answer}
use Rattle.link_run_delay.proofs.EndingSteps.{IsLonger}

-- ---- those below a place

module _ {X : Type 0} (shown : Ending → X) (at : X → ℕ) (is_at : (e : Ending) → at (shown e) ≡ e.at) (n : ℕ) where
  abbrev below : X → Bool
  below x = ltb (at x) n

  pub shown_below : (all : List Ending) → filter below (map shown all) ≡ map shown (between 0 n all)
  shown_below [] = refl
  shown_below (e ∷ rest) =
      elim (cases_lt e.at n) [
        | inl low ↦
            let there : at (shown e) < n = omega (arith, is_at e) in
            let here : (leb 0 e.at && ltb e.at n) ≡ true = and_from (leb 0 e.at) (ltb e.at n) (le-leb 0 e.at (omega arith)) (lt-ltb e.at n low) in
            ap (λ b. cond b (shown e ∷ filter below (map shown rest)) (filter below (map shown rest))) (lt-ltb (at (shown e)) n there)
            ∙ ap (λ xs. shown e ∷ xs) (shown_below rest)
            ∙ sym (ap (λ b. map shown (cond b (e ∷ between 0 n rest) (between 0 n rest))) here)
        | inr high ↦
            let there : n ≤ at (shown e) = omega (arith, is_at e) in
            let here : (leb 0 e.at && ltb e.at n) ≡ false = and_right (leb 0 e.at) (ltb e.at n) (le-ltb e.at n high) in
            ap (λ b. cond b (shown e ∷ filter below (map shown rest)) (filter below (map shown rest))) (le-ltb (at (shown e)) n there)
            ∙ shown_below rest
            ∙ sym (ap (λ b. map shown (cond b (e ∷ between 0 n rest) (between 0 n rest))) here)
      ]

-- ---- the slow channel

pub slow_longer : IsLonger slow.frame_bits 0
unfolding slow.frame_bits
slow_longer frame = omega (arith, length-append (slow.stuffed 0 (bits_of (slow.content_of frame))) flag)

pub slow_frames_answered : (p : ℕ) (frames : List (List ℕ)) → frame_answers p (map Some frames) ≡ map slow_answer (endings slow.frame_bits 0 p frames)
unfolding frame_answers endings
slow_frames_answered p [] = refl
slow_frames_answered p (frame ∷ frames) =
    ap (λ xs. (let first : Answer = record { at = p + length (slow.frame_bits frame) - 1; event = Frame; frame = frame } in first) ∷ xs)
    (slow_frames_answered (p + length (slow.frame_bits frame)) frames)

pub slow_below : (n : ℕ) (frames : List (List ℕ))
    → filter (λ (a : Answer). ltb a.at n) (frame_answers 8 (map Some frames)) ≡ map slow_answer (between 0 n (endings slow.frame_bits 0 8 frames))
slow_below n frames =
    ap (filter (λ (a : Answer). ltb a.at n)) (slow_frames_answered 8 frames)
    ∙ shown_below slow_answer (λ (a : Answer). a.at) (λ e. refl) n (endings slow.frame_bits 0 8 frames)

-- ---- the fast channel

pub length_idle : length idle ≡ 5
unfolding idle
length_idle = refl

pub fast_longer : IsLonger fast.frame_bits 5
unfolding fast.frame_bits start
fast_longer frame = omega arith

none_found : (k p : ℕ) (more : List (Option Found)) → places p (replicate k None ++ more) ≡ places (p + k) more
unfolding places
none_found zero p more = let e : p ≡ p + 0 = omega arith in ap (λ n. places n more) e
none_found (suc k) p more = let e : suc p + k ≡ p + suc k = omega arith in none_found k (suc p) more ∙ ap (λ n. places n more) e

only_none : (k p : ℕ) → places p (replicate k None) ≡ []
unfolding places
only_none zero p = refl
only_none (suc k) p = only_none k (suc p)

frames_placed : (k p : ℕ) (frames : List (List ℕ))
    → places p (flat_map found_in_frame frames ++ replicate k None) ≡ map fast_place (endings fast.frame_bits 5 p frames)
unfolding places endings
frames_placed k p [] = only_none k p
frames_placed k p (frame ∷ frames) =
    let long = fast_longer frame in
    let m = length (fast.frame_bits frame) - 6 in
    let nones : List (Option Found) = replicate k None in
    let ones : List (Option Found) = replicate m None in
    let fives : List (Option Found) = replicate 5 None in
    let rest = flat_map found_in_frame frames ++ nones in
    let whole : Option Found = Some (whole_frame frame) in
    let apart : (found_in_frame frame ++ flat_map found_in_frame frames) ++ nones ≡ ones ++ (whole ∷ (fives ++ rest)) =
    append_assoc (found_in_frame frame) (flat_map found_in_frame frames) nones ∙ append_assoc ones (whole ∷ fives) rest in
    let at : p + m ≡ p + length (fast.frame_bits frame) - suc 5 = omega arith in
    let next : suc (p + m) + 5 ≡ p + length (fast.frame_bits frame) = omega arith in
    ap (places p) apart ∙ none_found m p (whole ∷ (fives ++ rest))
    ∙ ap (λ xs. (let here : Place = record { at = p + m; found = whole_frame frame } in here) ∷ xs) (none_found 5 (suc (p + m)) rest ∙ ap (λ n. places n rest) next ∙ frames_placed k (p + length (fast.frame_bits frame)) frames)
    ∙ ap (λ n. (let here : Place = record { at = n; found = whole_frame frame } in here) ∷ map fast_place (endings fast.frame_bits 5 (p + length (fast.frame_bits frame)) frames)) at

-- ---- what is found in the first bits

abbrev is_below : ℕ → Place → Bool
is_below n place = ltb place.at n

none_below : (p n : ℕ) (found : List (Option Found)) → n ≤ p → filter (is_below n) (places p found) ≡ []
unfolding places
none_below p n [] past = refl
none_below p n (None ∷ found) past = none_below (suc p) n found (omega arith)
none_below p n (Some one ∷ found) past =
    let here : Place = record { at = p; found = one } in
    let rest = places (suc p) found in
    ap (λ b. cond b (here ∷ filter (is_below n) rest) (filter (is_below n) rest)) (le-ltb p n past) ∙ none_below (suc p) n found (omega arith)

places-take : (p k : ℕ) (found : List (Option Found)) → places p (take k found) ≡ filter (is_below (p + k)) (places p found)
unfolding places
places-take p zero found = sym (none_below p (p + 0) found (omega arith))
places-take p (suc k) [] = refl
places-take p (suc k) (None ∷ found) = let e : suc p + k ≡ p + suc k = omega arith in places-take (suc p) k found ∙ ap (λ n. filter (is_below n) (places (suc p) found)) e
places-take p (suc k) (Some one ∷ found) =
    let here : Place = record { at = p; found = one } in
    let rest = places (suc p) found in
    let e : suc p + k ≡ p + suc k = omega arith in
    ap (λ xs. here ∷ xs) (places-take (suc p) k found ∙ ap (λ n. filter (is_below n) rest) e)
    ∙ sym (ap (λ b. cond b (here ∷ filter (is_below (p + suc k)) rest) (filter (is_below (p + suc k)) rest)) (lt-ltb p (p + suc k) (omega arith)))

pub fast_below : (n : ℕ) (frames : List (List ℕ))
    → places 0 (take n (replicate 5 None ++ (flat_map found_in_frame frames ++ replicate n None))) ≡ map fast_place (between 0 n (endings fast.frame_bits 5 5 frames))
fast_below n frames =
    let none : List (Option Found) = replicate n None in
    let all : List (Option Found) = flat_map found_in_frame frames ++ none in
    let fives : List (Option Found) = replicate 5 None in
    let e : 0 + n ≡ n = omega arith in
    places-take 0 n (fives ++ all)
    ∙ ap (λ k. filter (is_below k) (places 0 (fives ++ all))) e
    ∙ ap (filter (is_below n)) (none_found 5 0 all ∙ frames_placed n 5 frames)
    ∙ shown_below fast_place (λ (place : Place). place.at) (λ e. refl) n (endings fast.frame_bits 5 5 frames)

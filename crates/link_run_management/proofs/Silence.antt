-- Where no channel is announced nothing is said.
use Rattle.std.proofs.Common.{codes, ◌≡◌, ℕ, ◌+◌, ◌<◌, Bool, true, false, cond, ◌||◌, ◌&&◌, List, [], ◌∷◌, ◌++◌, length, get_or, Option, Some, None, refl, sym, ◌∙◌, ap}
use Rattle.std.specs.Prelude.{nat_le, if◌then◌else◌}
use Rattle.std.specs.List.{flat_map, list_any, range_with_len}
use Rattle.control_words.specs.Places.{is_slow_place, is_fast_place}
use Rattle.control_words.specs.declared.announce.Announce.{Announce}
use Rattle.link_run_management.specs.Events.{slow_line, fast_line}
use Rattle.link_run_management.specs.Management.{given_by, given_lines, octets_so_far, slow_places, fast_places, frame_lines}
use Rattle.link_run_management.proofs.Giving.{lines_of_nothing}

no_octets : (is : ℕ → Bool) (word : List ℕ) (ys : List ℕ) → ((y : ℕ) → is y ≡ false) → flat_map (λ y. cond (is y) (get_or word y 0 ∷ []) []) ys ≡ []
no_octets is word [] none = refl
no_octets is word (y ∷ ys) none =
    ap (λ b. cond b (get_or word y 0 ∷ []) [] ++ flat_map (λ y. cond (is y) (get_or word y 0 ∷ []) []) ys) (none y) ∙ no_octets is word ys none

no_place : (is : ℕ → Bool) (ys : List ℕ) → ((y : ℕ) → is y ≡ false) → list_any is ys ≡ false
no_place is [] none = refl
no_place is (y ∷ ys) none = ap (λ b. b || list_any is ys) (none y) ∙ no_place is ys none

nothing_given : (is_place : ℕ → ℕ → Bool) (width n : ℕ) (word : Option (List ℕ)) → ((x y : ℕ) → is_place x y ≡ false) → given_by is_place width n word ≡ Some []
unfolding given_by
nothing_given is_place width n None none = ap (λ b. cond b None (Some [])) (no_place (is_place _) (range_with_len 0 width) (none _))
nothing_given is_place width n (Some word) none = ap Some (no_octets (is_place _) word (range_with_len 0 (length word)) (none _))

no_slow : (code x y : ℕ) → code ≡ 0 → is_slow_place code x y ≡ false
unfolding is_slow_place
no_slow code x y e = ap (λ code. is_slow_place code x y) e

no_fast : (pointer x : ℕ) → pointer ≡ 0 → is_fast_place pointer x ≡ false
no_fast pointer x e = ap (λ pointer. is_fast_place pointer x) e

pub silent : (width : ℕ) (a : Announce) (tick : ℕ) (words : List (Option (List ℕ))) (word : Option (List ℕ)) → a.hdlc ≡ 0 → a.pointer ≡ 0
    → frame_lines width a tick words word ≡ []
unfolding frame_lines
silent width a tick words word slow fast =
    ap (λ t. t ++ given_lines fast_line (codes "fast missed") tick (octets_so_far (fast_places a) width words) (given_by (fast_places a) width (length words) word))
    (lines_of_nothing slow_line (codes "slow missed") tick (octets_so_far (slow_places a) width words) _
    (nothing_given (slow_places a) width (length words) word (λ x y. no_slow a.hdlc x y slow)))
    ∙ lines_of_nothing fast_line (codes "fast missed") tick (octets_so_far (fast_places a) width words) _
    (nothing_given (fast_places a) width (length words) word (λ x y. no_fast a.pointer x fast))

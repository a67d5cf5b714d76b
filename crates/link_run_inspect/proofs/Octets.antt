-- Octets that are gathered place by place.
use Rattle.std.proofs.Common.{◌≡◌, ℕ, zero, suc, ◌+◌, ◌-◌, ◌*◌, ◌<◌, ◌≤◌, nat_lt, Bool, List, [], ◌∷◌, ◌++◌, length, take, drop, sym, ◌∙◌, ap, arith, append_assoc, append-nil}
use Rattle.std.specs.List.{flat_map, range_with_len}
use Rattle.std.proofs.lemmas.Grind.{flat_map-append}
use Rattle.link_run_management.proofs.WordPlaces.{pick, fronts_from}
use Rattle.link_run_inspect.specs.Managed.{octets_in_word}

range_push : (a n : ℕ) → range_with_len a (suc n) ≡ range_with_len a n ++ (a + n) ∷ []
range_push a zero = ap (λ k. k ∷ []) (omega arith)
range_push a (suc n) = ap (λ rest. a ∷ rest) (range_push (a + 1) n ∙ ap (λ k. range_with_len (a + 1) n ++ k ∷ []) (omega arith))

-- what one more place adds
pub more_places : (f : ℕ → List ℕ) (start items items' : List ℕ) (y : ℕ) → items ≡ start ++ flat_map f (range_with_len 0 y) → items' ≡ items ++ f y
    → items' ≡ start ++ flat_map f (range_with_len 0 (y + 1))
more_places f start items items' y so_far more =
    let one : y + 1 ≡ suc y = omega arith in
    let last : 0 + y ≡ y = omega arith in
    let all : flat_map f (range_with_len 0 (y + 1)) ≡ flat_map f (range_with_len 0 y) ++ f y =
    ap (λ n. flat_map f (range_with_len 0 n)) one
    ∙ ap (flat_map f) (range_push 0 y ∙ ap (λ k. range_with_len 0 y ++ k ∷ []) last)
    ∙ flat_map-append f (range_with_len 0 y) (y ∷ [])
    ∙ ap (λ t. flat_map f (range_with_len 0 y) ++ t) (append-nil (f y)) in
    more ∙ ap (λ t. t ++ f y) so_far ∙ append_assoc start (flat_map f (range_with_len 0 y)) (f y) ∙ ap (λ t. start ++ t) (sym all)

-- by the places of word x
pub front_of_word : (is_place : ℕ → ℕ → Bool) (width n x : ℕ) (control : List ℕ) → n ≤ width → ((y : ℕ) → y < width → is_place x y ≡ nat_lt y n) → width * x + width ≤ length control
    → take n (drop (width * x) control) ≡ octets_in_word is_place width control x
unfolding pick
front_of_word is_place width n x control few first long =
    let none : 0 + width ≡ width = omega arith in
    sym (fronts_from (is_place x) control (width * x) n 0 width (omega arith) (λ y lt. first y (omega (arith, lt))) (omega arith)
    ∙ ap (λ i. take (n - 0) (drop i control)) (omega arith) ∙ ap (λ i. take i (drop (width * x) control)) (omega arith))

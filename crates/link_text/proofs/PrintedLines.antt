-- Lines that are written one after another, one for each place.
use Rattle.std.proofs.Common.{◌≡◌, ◌∙◌, ◌+◌, ◌++◌, ◌∷◌, [], ℕ, zero, suc, List, sym, ap, arith, add-zero, add-one}
use Rattle.std.specs.List.{flat_map, range_with_len}
use Rattle.std.proofs.lemmas.List.{flat_map_more}

range_more : (a n : ℕ) → range_with_len a (suc n) ≡ range_with_len a n ++ (a + n) ∷ []
range_more a zero = ap (λ x. x ∷ []) (sym (add-zero a))
range_more a (suc n) = ap (λ xs. a ∷ xs) (range_more (a + 1) n ∙ ap (λ x. range_with_len (a + 1) n ++ x ∷ []) (omega arith))

-- the line of the next place, after those before
pub one_more_line : (line : ℕ → List ℕ) (before : List ℕ) (n : ℕ) → (before ++ flat_map line (range_with_len 0 n)) ++ line n ≡ before ++ flat_map line (range_with_len 0 (n + 1))
one_more_line line before n =
    flat_map_more line before (range_with_len 0 n) n
    ∙ ap (λ xs. before ++ flat_map line xs) (ap (λ x. range_with_len 0 n ++ x ∷ []) (omega arith) ∙ sym (range_more 0 n) ∙ ap (range_with_len 0) (sym (add-one n)))

-- Items that are apart in pairs, place by place.
use Rattle.std.proofs.Common.{◌↔◌, ℕ, ◌<◌, IsTrue, true, false, List, length, get_or, arith, refl, subst, sym}
use Rattle.std.specs.List.{AllPairs, AllWithin, HoldsAt}
use Rattle.std.proofs.lemmas.Bool.{false≢true}
use Rattle.std.proofs.lemmas.List.{get_or_default}

-- each earlier item is apart from the item in place i
abbrev pub IsNewAt : {A : Type 0} → (A → A → Type 0) → List A → ℕ → Type 0
IsNewAt apart xs i = HoldsAt (λ y. AllWithin (λ x. apart x y) xs 0 i) xs i

pub new_from_pairs : {A : Type 0} (apart : A → A → Type 0) (xs : List A) (i : ℕ) → i < length xs → AllPairs apart xs → IsNewAt apart xs i
new_from_pairs apart xs i lt pairs d k e low below =
    subst (λ x. apart x (get_or xs i d)) (sym (get_or_default xs k e d (omega arith))) (pairs k i d below lt)

pub pairs_from_new : {A : Type 0} (apart : A → A → Type 0) (xs : List A) → ((i : ℕ) → i < length xs → IsNewAt apart xs i) → AllPairs apart xs
pairs_from_new apart xs new i j d less lt = new j lt d i d (omega arith) less

pub answers_no : {P : Type 0} → ¬ P → IsTrue false ↔ P
answers_no fails = (λ e. absurd (false≢true e), λ h. absurd (fails h))

pub answers_yes : {P : Type 0} → P → IsTrue true ↔ P
answers_yes holds = (λ _. holds, λ _. refl)

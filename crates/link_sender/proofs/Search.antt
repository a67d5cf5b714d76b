-- A search below a number.
use Rattle.std.proofs.Common.{◌≡◌, ℕ, zero, suc, ◌<◌, Bool, true, false, refl, ap, ◌∙◌, arith, inl, inr}
use Rattle.std.proofs.lemmas.Bool.{cases_lt}

-- a number below n passes, or none does
pub data Searched (n : ℕ) (test : ℕ → Bool) : Type 0 where
  found : (k : ℕ) → k < n → test k ≡ true → Searched n test
  none : ((k : ℕ) → k < n → test k ≡ false) → Searched n test

next : (n : ℕ) (test : ℕ → Bool) (here : Bool) → test n ≡ here → Searched n test → Searched (suc n) test
next n test true is before = found n (omega arith) is
next n test false is (found k less passes) = found k (omega arith) passes
next n test false is (none fails) =
    none (λ k less. elim (cases_lt k n) [
      | inl before ↦ fails k before
      | inr last ↦ let here : k ≡ n = omega arith in ap test here ∙ is
    ])

pub search_below : (n : ℕ) (test : ℕ → Bool) → Searched n test
search_below zero test = none (λ k less. absurd (omega arith))
search_below (suc n) test = next n test (test n) refl (search_below n test)

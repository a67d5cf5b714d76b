-- A rule that speaks of the whole plan.
use Rattle.std.proofs.Common.{◌≡◌, codes, decimal, ℕ, ◌++◌, false, ap, append-nil}
use Rattle.plan_sentences.specs.Places.{is_of_carrier, is_of_flow, place_text}

pub place_alone : (rule item : ℕ) → is_of_carrier rule ≡ false → is_of_flow rule ≡ false → place_text rule item ≡ codes "rule " ++ decimal rule
unfolding place_text
place_alone rule item carrier flow = rw carrier (rw flow (ap (λ number. codes "rule " ++ number) (append-nil (decimal rule))))

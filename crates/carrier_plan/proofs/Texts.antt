-- Texts that are compared.
use Rattle.std.proofs.Common.{◌≡◌, ℕ, List, [], ◌∷◌, Bool, ◌||◌, false, Err, ap, refl, inl, inr, String, Global}
use Rattle.std.specs.Prelude.{bytes_eq, codes}
use Rattle.std.specs.List.{list_any}
use Rattle.std.specs.Map.{keys_of}
use Rattle.std.proofs.lemmas.Bool.{cases_Bool}
use Rattle.std.proofs.lemmas.Slice.Eq.{bytes_eq-Decides}
use Rattle.std.specs.String.{string_bytes}
use Rattle.toml.specs.View.{members_view}
use Rattle.toml.specs.declared.value.Value.{Value}
use Rattle.carrier_plan.specs.declared.fault.Spot.{Spot}
use Rattle.carrier_plan.specs.declared.fault.PlanText.TheVariants as fault
use Rattle.carrier_plan.specs.Keys.{mode_named}
use Rattle.carrier_plan.specs.PlanOf.{keys_in}

not_equal : (xs ys : List ℕ) → (xs ≡ ys → ⊥) → bytes_eq xs ys ≡ false
not_equal xs ys h = elim (cases_Bool (bytes_eq xs ys)) [ inl e ↦ absurd (h ((bytes_eq-Decides xs ys).0 e)) | inr e ↦ e ]

-- a name that is none of the three is of no mode
pub unknown_mode : (spot : Spot) (name : List ℕ) → (name ≡ codes "tunnel" → ⊥) → (name ≡ codes "bytes" → ⊥) → (name ≡ codes "aware" → ⊥) → mode_named spot name ≡ Err (fault.Value spot)
unknown_mode spot name tunnel bytes aware = rw (not_equal name (codes "tunnel") tunnel, not_equal name (codes "bytes") bytes, not_equal name (codes "aware") aware)

-- a test of the keys of a map is that of the members that it stands for
pub list_any-keys_in : (test : List ℕ → Bool) (es : List (String Global × Value)) → list_any (λ k. test (string_bytes k)) (keys_of es) ≡ list_any test (keys_in (members_view es))
list_any-keys_in test [] = refl
list_any-keys_in test (e ∷ es) = ap (λ b. test (string_bytes e.0) || b) (list_any-keys_in test es)

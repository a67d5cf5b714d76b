-- The fields of a capture's lines.
use Rattle.std.proofs.Common.{◌≡◌, ◌∙◌, ◌≤◌, ◌<◌, ℕ, Option, Some, None, refl, sym, ap}
use Rattle.std.specs.Prelude.{nat_le, IfSome, IfNone}
use Rattle.std.proofs.lemmas.Bool.{cond-true, cond-false, le-leb, lt-leb}
use Rattle.link_run_capture.specs.Capture.{at_most}

pub at_most_some : (most n : ℕ) (given : Option ℕ) → given ≡ Some n → n ≤ most → at_most most given ≡ Some n
at_most_some most n given is few = ap (at_most most) is ∙ cond-true (nat_le n most) (Some n) None (le-leb n most few)

pub at_most_none : (most : ℕ) (given : Option ℕ) → IfSome given (λ n. most < n) → at_most most given ≡ None
at_most_none most None beyond = refl
at_most_none most (Some n) beyond = cond-false (nat_le n most) (Some n) None (lt-leb n most beyond)

-- by what was read of a number
pub at_most_read : (most : ℕ) (given read : Option ℕ) → IfSome read (λ n. (given ≡ Some n) × (n ≤ most)) → IfNone read (IfSome given (λ n. most < n))
    → read ≡ at_most most given
at_most_read most given None some none = sym (at_most_none most given none)
at_most_read most given (Some n) some none = sym (at_most_some most n given some.0 some.1)

-- From the octets of a file to the table of their text.
use Rattle.std.proofs.Common.{◌≡◌, ℕ, ◌≤◌, Bool, true, false, List, length, nat_lt, Result, Some, Ok, Err, ap, IfOk, IfErr, ◌∙◌, inl, inr, arith, IsUtf8}
use Rattle.std.specs.Str.{is_utf8}
use Rattle.std.proofs.lemmas.Bool.{cases_Bool}
use Rattle.std.proofs.lemmas.Bool.Decides.{nat_tests}
use Rattle.std.proofs.lemmas.Str.{is_utf8-from_IsUtf8, IsUtf8-from_is_utf8}
use Rattle.toml.specs.Data.{Members}
use Rattle.toml.specs.Parse.{parse_document}
use Rattle.carrier_plan.specs.declared.plan.Plan.{Plan}
use Rattle.carrier_plan.specs.declared.fault.PlanText.{PlanText}
use Rattle.carrier_plan.specs.declared.fault.PlanText.TheVariants.{Utf8}
use Rattle.carrier_plan.specs.declared.fault.ReadError.{ReadError}
use Rattle.carrier_plan.specs.declared.fault.ReadError.TheVariants as error
use Rattle.carrier_plan.specs.PlanOf.{plan_of, plan_of_document, plan_in, Gives, IsFaultOf}

not_long : (n : ℕ) → n ≤ 65536 → nat_lt 65536 n ≡ false
not_long n h = grind (arith, nat_tests)

not_true : (b : Bool) → (b ≡ true → ⊥) → b ≡ false
not_true b h = elim (cases_Bool b) [ inl e ↦ absurd (h e) | inr e ↦ e ]

pub plan_of_text : (octets : List ℕ) → length octets ≤ 65536 → IsUtf8 octets → plan_of octets ≡ plan_of_document (parse_document octets)
unfolding plan_of
plan_of_text octets short text = rw (not_long (length octets) short, is_utf8-from_IsUtf8 octets text)

pub plan_of_no_text : (octets : List ℕ) → length octets ≤ 65536 → (IsUtf8 octets → ⊥) → plan_of octets ≡ Err Utf8
unfolding plan_of
plan_of_no_text octets short other = rw (not_long (length octets) short, not_true (is_utf8 octets) (λ e. other (IsUtf8-from_is_utf8 octets e)))

-- the two clauses of a reading
pub plan_given : (r : Result Plan ReadError) (whole read : Result Plan PlanText) → whole ≡ read → Gives r read → IfOk r (λ p. whole ≡ Ok p)
plan_given (Ok p) whole read e h = e ∙ h
plan_given (Err x) whole read e h = tt

pub fault_given : (r : Result Plan ReadError) (whole read : Result Plan PlanText) → whole ≡ read → Gives r read → IfErr r (IsFaultOf whole)
fault_given (Ok p) whole read e h = tt
fault_given (Err (error.Text fault)) whole read e h = e ∙ h
fault_given (Err error.NoMemory) whole read e h = tt

-- a text that is at most so long, and whose table gives a plan
pub printed_plan : (octets : List ℕ) (keys : Members) (plan : Plan) → length octets ≤ 65536 → IsUtf8 octets → parse_document octets ≡ Some keys → plan_in keys ≡ Ok plan → plan_of octets ≡ Ok plan
printed_plan octets keys plan short text parsed read = plan_of_text octets short text ∙ ap plan_of_document parsed ∙ read

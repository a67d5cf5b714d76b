-- The table of groups, and the groups of the nibbles, by computing each.
use Rattle.std.proofs.Common.{◌≡◌, ℕ, ◌<◌, Bool, true, false, not, ◌&&◌, eqb, ltb, get_or, Option, Some, None, refl, sym, ◌∙◌, ap, arith}
use Rattle.std.specs.Bool.{⊤}
use Rattle.std.proofs.lemmas.Bool.{and_parts, agree_below, agree_below_at, eqb-true, eqb-false, ltb-true, not-true}
use Rattle.ethernet_channel.specs.Codes.{nibble_texts, code_of, nibble_of, five, delimiter, terminate, reset}
use Rattle.ethernet_channel.specs.declared.groups.TheConstants.{NIBBLES}

-- what a proof unfolds to compute the code on literals
unfoldable pub code_on_literals : ⊤
unfolding nibble_texts code_of nibble_of five delimiter terminate reset
code_on_literals = tt

-- ---- the table

-- the entry of a nibble, or of none
abbrev entry_of : Option ℕ → ℕ
entry_of None = 255
entry_of (Some nibble) = nibble

abbrev is_small : Option ℕ → Bool
is_small None = true
is_small (Some nibble) = ltb nibble 16

abbrev is_entry : ℕ → Bool
is_entry g = eqb (entry_of (nibble_of g)) (get_or NIBBLES g 0) && is_small (nibble_of g)

table_passes : agree_below is_entry (λ g. true) 32 ≡ true
unfolding code_on_literals
table_passes = refl

entry_none : (o : Option ℕ) (e : ℕ) → entry_of o ≡ e → is_small o ≡ true → e ≡ 255 → o ≡ None
entry_none None e same small is = refl
entry_none (Some n) e same small is = let less : n < 16 = ltb-true n 16 small in absurd (omega arith)

entry_some : (o : Option ℕ) (e : ℕ) → entry_of o ≡ e → is_small o ≡ true → (e ≡ 255 → ⊥) → (o ≡ Some e) × (e < 16)
entry_some None e same small is = absurd (is (sym same))
entry_some (Some n) e same small is = let less : n < 16 = ltb-true n 16 small in (ap Some same, omega arith)

entry_parts : (g : ℕ) → g < 32 → (entry_of (nibble_of g) ≡ get_or NIBBLES g 0) × (is_small (nibble_of g) ≡ true)
entry_parts g h =
    let parts = and_parts (eqb (entry_of (nibble_of g)) (get_or NIBBLES g 0)) (is_small (nibble_of g)) (agree_below_at is_entry (λ k. true) 32 g table_passes h) in
    (eqb-true _ _ parts.0, parts.1)

pub nibble_of-none : (g : ℕ) → g < 32 → get_or NIBBLES g 0 ≡ 255 → nibble_of g ≡ None
nibble_of-none g h e = let parts = entry_parts g h in entry_none (nibble_of g) _ parts.0 parts.1 e

pub nibble_of-some : (g : ℕ) → g < 32 → (get_or NIBBLES g 0 ≡ 255 → ⊥) → (nibble_of g ≡ Some (get_or NIBBLES g 0)) × (get_or NIBBLES g 0 < 16)
nibble_of-some g h e = let parts = entry_parts g h in entry_some (nibble_of g) _ parts.0 parts.1 e

-- ---- the groups of the nibbles

abbrev is_nibble : Option ℕ → ℕ → Bool
is_nibble None n = false
is_nibble (Some k) n = eqb k n

abbrev is_own_code : ℕ → Bool
is_own_code n = is_nibble (nibble_of (code_of n)) n && (not (eqb (code_of n) terminate) && ltb (code_of n) 32)

codes_pass : agree_below is_own_code (λ n. true) 16 ≡ true
unfolding code_on_literals
codes_pass = refl

is_nibble-true : (o : Option ℕ) (n : ℕ) → is_nibble o n ≡ true → o ≡ Some n
is_nibble-true None n h = cc
is_nibble-true (Some k) n h = ap Some (eqb-true k n h)

pub record IsCode (n : ℕ) : Type 0 where
  pub back : nibble_of (code_of n) ≡ Some n
  pub no_end : code_of n ≡ terminate → ⊥
  pub five_bits : code_of n < 32

pub code_of_nibble : (n : ℕ) → n < 16 → IsCode n
code_of_nibble n h =
    let all = and_parts (is_nibble (nibble_of (code_of n)) n) _ (agree_below_at is_own_code (λ k. true) 16 n codes_pass h) in
    let rest = and_parts (not (eqb (code_of n) terminate)) (ltb (code_of n) 32) all.1 in
    record {
      back = is_nibble-true _ n all.0;
      no_end = eqb-false (code_of n) terminate (not-true _ rest.0);
      five_bits = ltb-true _ _ rest.1;
    }

-- ---- the nibbles of the groups

abbrev has_code : Option ℕ → ℕ → Bool
has_code None g = true
has_code (Some n) g = eqb (code_of n) g && ltb n 16

nibbles_pass : agree_below (λ g. has_code (nibble_of g) g) (λ g. true) 32 ≡ true
unfolding code_on_literals
nibbles_pass = refl

pub nibble_of_code : (g n : ℕ) → g < 32 → nibble_of g ≡ Some n → (code_of n ≡ g) × (n < 16)
nibble_of_code g n h e =
    let here : has_code (nibble_of g) g ≡ true = agree_below_at (λ k. has_code (nibble_of k) k) (λ k. true) 32 g nibbles_pass h in
    let known : has_code (Some n) g ≡ true = ap (λ o. has_code o g) (sym e) ∙ here in
    let parts = and_parts (eqb (code_of n) g) (ltb n 16) known in
    (eqb-true _ _ parts.0, ltb-true _ _ parts.1)

-- ---- the groups that are no nibbles, and those of the preamble

pub five_is : five ≡ 11
unfolding code_on_literals
five_is = refl

pub delimiter_is : delimiter ≡ 27
unfolding code_on_literals
delimiter_is = refl

pub terminate_is : terminate ≡ 13
unfolding code_on_literals
terminate_is = refl

pub reset_is : reset ≡ 7
unfolding code_on_literals
reset_is = refl

pub terminate_is_none : nibble_of terminate ≡ None
unfolding code_on_literals
terminate_is_none = refl

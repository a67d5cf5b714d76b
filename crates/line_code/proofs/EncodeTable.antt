-- The tables of symbols are held against the published code at each octet, by computing.
use Rattle.std.proofs.Common.{◌≡◌, ℕ, ◌+◌, ◌*◌, ◌<◌, Bool, true, false, ◌&&◌, ◌==◌, nat_lt, get_or, refl, sym, ◌∙◌}
use Rattle.std.proofs.lemmas.Bool.{and_parts, agree_below, agree_below_at, eqb-true, ltb-true}
use Rattle.line_code.proofs.OnLiterals.{code_on_literals}
use Rattle.line_code.specs.declared.characters.Char.TheVariants.{Octet, Comma}
use Rattle.line_code.specs.declared.characters.Char.{Char}
use Rattle.line_code.specs.declared.characters.Rd.{Rd}
use Rattle.line_code.specs.declared.characters.Rd.TheVariants.{Minus, Plus}
use Rattle.line_code.specs.declared.tables.TheConstants.{COMMA_AT_MINUS, COMMA_AT_PLUS, SYMBOLS, TURNS}
use Rattle.line_code.specs.Code.{disparity_after, symbol_of, Spells}
use Rattle.line_code.specs.Tables.{turned, rd_number}

-- whether two disparities are the same
abbrev pub same_disparity : Rd → Rd → Bool
same_disparity Minus Minus = true
same_disparity Plus Plus = true
same_disparity Minus Plus = false
same_disparity Plus Minus = false

pub same_disparity-true : (a b : Rd) → same_disparity a b ≡ true → a ≡ b
same_disparity-true Minus Minus h = refl
same_disparity-true Plus Plus h = refl
same_disparity-true Minus Plus h = cc
same_disparity-true Plus Minus h = cc

-- whether a test holds of each octet
abbrev pub holds_of_octets : (ℕ → Bool) → Bool
holds_of_octets test = agree_below test (λ octet. true) 256

pub at_octet : (test : ℕ → Bool) → holds_of_octets test ≡ true → (octet : ℕ) → octet < 256 → test octet ≡ true
at_octet test h octet small = agree_below_at test (λ k. true) 256 octet h small

-- whether a symbol is that of an octet at a disparity, and turns the disparity or leaves it so
is_symbol : Rd → ℕ → ℕ → Bool → Bool
is_symbol rd octet bits turns =
    nat_lt bits 1024 && bits == symbol_of rd (Octet octet)
    && same_disparity (turned rd turns) (disparity_after rd (Octet octet))

is_symbol-true : (rd : Rd) (octet bits : ℕ) (turns : Bool) → octet < 256 → is_symbol rd octet bits turns ≡ true
    → (bits < 1024) × Spells rd (Octet octet) bits (turned rd turns)
unfolding is_symbol
is_symbol-true rd octet bits turns small h =
    let parts = and_parts (nat_lt bits 1024 && bits == symbol_of rd (Octet octet)) _ h in
    let fronts = and_parts (nat_lt bits 1024) _ parts.0 in (
      ltb-true bits 1024 fronts.0,
      record {
        character = small;
        symbol = eqb-true _ _ fronts.1;
        disparity = same_disparity-true _ _ parts.1;
      },
    )

-- the entries of a disparity pass
passes_at : Rd → ℕ → Bool
passes_at rd octet = is_symbol rd octet (get_or SYMBOLS (256 * rd_number rd + octet) 0) (get_or TURNS octet false)

all_pass : (rd : Rd) → holds_of_octets (passes_at rd) ≡ true
unfolding passes_at is_symbol code_on_literals
all_pass Minus = refl
all_pass Plus = refl

pub Spells-octet : (rd : Rd) (octet : ℕ) → octet < 256
    → (get_or SYMBOLS (256 * rd_number rd + octet) 0 < 1024)
    × Spells rd (Octet octet) (get_or SYMBOLS (256 * rd_number rd + octet) 0) (turned rd (get_or TURNS octet false))
unfolding passes_at
Spells-octet rd octet small =
    is_symbol-true rd octet (get_or SYMBOLS (256 * rd_number rd + octet) 0) (get_or TURNS octet false) small (at_octet (passes_at rd) (all_pass rd) octet small)

-- the comma
pub Spells-comma_minus : Spells Minus Comma COMMA_AT_MINUS (turned Minus true)
unfolding code_on_literals
Spells-comma_minus = record { character = tt; symbol = refl; disparity = refl }

pub Spells-comma_plus : Spells Plus Comma COMMA_AT_PLUS (turned Plus true)
unfolding code_on_literals
Spells-comma_plus = record { character = tt; symbol = refl; disparity = refl }

-- a character has one symbol at a disparity, and one disparity after it
pub spelled_once : (rd : Rd) (ch : Char) (bits bits' : ℕ) (next next' : Rd)
    → Spells rd ch bits next → Spells rd ch bits' next' → (bits ≡ bits') × (next ≡ next')
spelled_once rd ch bits bits' next next' s s' = (s.symbol ∙ sym s'.symbol, s.disparity ∙ sym s'.disparity)

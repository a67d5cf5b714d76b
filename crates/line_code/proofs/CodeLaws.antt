-- What holds of every spelled symbol.
use Rattle.std.proofs.Common.{◌≡◌, ℕ, ◌<◌, Bool, true, Some, refl, sym, ◌∙◌}
use Rattle.std.proofs.lemmas.Option.{some_pair_parts}
use Rattle.line_code.proofs.OnLiterals.{code_on_literals}
use Rattle.line_code.specs.declared.characters.Char.{Char}
use Rattle.line_code.specs.declared.characters.Char.TheVariants.{Octet, Comma}
use Rattle.line_code.specs.declared.characters.Rd.{Rd}
use Rattle.line_code.specs.declared.characters.Rd.TheVariants.{Minus, Plus}
use Rattle.line_code.specs.Code.{disparity_after, symbol_of, disparity_by_ones, IsCharacter, Spells, IsCheckOf}
use Rattle.line_code.proofs.EncodeTable.{holds_of_octets, at_octet, same_disparity, same_disparity-true, spelled_once}
use Rattle.line_code.proofs.DecodeTable.{along, entry_of_spelled}

-- a symbol spells at most one character over both disparities
pub one_character : (rd rd' : Rd) (ch ch' : Char) (bits : ℕ) (next next' : Rd)
    → Spells rd ch bits next → Spells rd' ch' bits next' → ch ≡ ch'
one_character rd rd' ch ch' bits next next' s s' =
    sym (entry_of_spelled rd ch bits next s).2 ∙ (entry_of_spelled rd' ch' bits next' s').2

-- a spelled symbol has ten bits
pub spelled_small : (rd : Rd) (ch : Char) (bits : ℕ) (next : Rd) → Spells rd ch bits next → bits < 1024
spelled_small rd ch bits next s = (entry_of_spelled rd ch bits next s).0

-- the count of ones of a character's symbol gives the disparity after it
goes_by_ones : Rd → Char → Bool
goes_by_ones rd ch = same_disparity (disparity_after rd ch) (disparity_by_ones rd (symbol_of rd ch))

octets_by_ones : (rd : Rd) → holds_of_octets (λ octet. goes_by_ones rd (Octet octet)) ≡ true
unfolding goes_by_ones code_on_literals
octets_by_ones Minus = refl
octets_by_ones Plus = refl

comma_by_ones : (rd : Rd) → goes_by_ones rd Comma ≡ true
unfolding goes_by_ones code_on_literals
comma_by_ones Minus = refl
comma_by_ones Plus = refl

after_by_ones : (rd : Rd) (ch : Char) → IsCharacter ch → disparity_after rd ch ≡ disparity_by_ones rd (symbol_of rd ch)
unfolding goes_by_ones
after_by_ones rd (Octet octet) small =
    same_disparity-true _ _ (at_octet (λ k. goes_by_ones rd (Octet k)) (octets_by_ones rd) octet small)
after_by_ones rd Comma h = same_disparity-true _ _ (comma_by_ones rd)

pub next_by_ones : (rd : Rd) (ch : Char) (bits : ℕ) (next : Rd) → Spells rd ch bits next
    → next ≡ disparity_by_ones rd bits
next_by_ones rd ch bits next s = rw (s.disparity, s.symbol) (after_by_ones rd ch s.character)

-- a character's own symbol spells it
pub Spells-symbol_of : (rd : Rd) (ch : Char) → IsCharacter ch → Spells rd ch (symbol_of rd ch) (disparity_after rd ch)
Spells-symbol_of rd ch h = record { character = h; symbol = refl; disparity = refl }

-- what `check` answers at a character's own symbol
pub IsCheckOf-symbol_of : (rd : Rd) (ch : Char) → IsCharacter ch
    → IsCheckOf rd (symbol_of rd ch) (Some (ch, disparity_after rd ch))
IsCheckOf-symbol_of rd ch h ch' next' =
    let here = Spells-symbol_of rd ch h in (
      λ e. let same = some_pair_parts _ _ _ _ e in rw (← same.0, ← same.1) here,
      λ s.
          let same = one_character rd rd ch ch' (symbol_of rd ch) _ next' here s in
          let next_same = (spelled_once rd ch' _ _ _ next' (along rd _ ch ch' _ same here) s).1 in
          cc,
    )

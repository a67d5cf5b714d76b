use Rattle.std.proofs.Common.{◌≡◌, ℕ, ◌<◌, false, get_or}
use Rattle.line_code.specs.Packed.{symbols_in}
use Rattle.roe_mappers.specs.Symbols.{is_bad_symbol}
use Rattle.roe_mappers.proofs.symbols.first_bad.Given as goal

-- the symbols so far are good
abbrev pub invariant-loop-place : goal.invariant-loop-place
invariant-loop-place l = (s : ℕ) → s < l.place → is_bad_symbol l.n s (get_or (symbols_in l.part) s 0) ≡ false

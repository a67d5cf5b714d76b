-- What the reader of a channel does with further bits.
use Rattle.std.specs.Prelude.{ℕ, Bool, List, ◌++◌}
use Rattle.link_base.specs.Sink.{Taken}
use Rattle.link_text.specs.Gathered.{Gathers, BreaksOff}
use Rattle.link_run_management.specs.Events.{bit_lines}

-- Further bits were handed in, and their lines gathered.
abbrev pub HandsIn : {C : Type 0} → (C → List Bool → Type 0) → (ℕ → List Bool → List ℕ) → ℕ → List Bool → C → C → List ℕ → Taken → List ℕ → Taken → Type 0
HandsIn stands line n more old new hand sink hand' sink' =
    (bits : List Bool) → stands old bits → stands new (bits ++ more) × Gathers (bit_lines line n bits more) hand sink hand' sink'

-- A write failed among the lines of further bits.
abbrev pub BreaksAmong : {C : Type 0} → (C → List Bool → Type 0) → (ℕ → List Bool → List ℕ) → ℕ → List Bool → C → List ℕ → Taken → Taken → Type 0
BreaksAmong stands line n more old hand sink sink' = (bits : List Bool) → stands old bits → BreaksOff (bit_lines line n bits more) hand sink sink'

-- What the reader of a channel does with a frame.
use Rattle.std.specs.Prelude.{ℕ, Bool, List, [], ◌++◌, Option, Some, None}
use Rattle.hdlc_channel.specs.Bits.{bits_of}
use Rattle.link_base.specs.Sink.{Taken}
use Rattle.link_text.specs.Gathered.{Gathers, BreaksOff}
use Rattle.link_run_management.specs.Management.{given_lines}

-- the octets behind the last cut, after those before a frame and what it gives
abbrev pub behind : List ℕ → Option (List ℕ) → List ℕ
behind before None = []
behind before (Some octets) = before ++ octets

-- A frame gave this to a channel, and its lines were gathered.
abbrev pub Follows : {C : Type 0} → (C → List Bool → Type 0) → (ℕ → List Bool → List ℕ) → List ℕ → ℕ → Option (List ℕ) → C → C → List ℕ → Taken → List ℕ → Taken → Type 0
Follows stands line missed tick given old new hand sink hand' sink' =
    (before : List ℕ) → stands old (bits_of before)
    → stands new (bits_of (behind before given)) × Gathers (given_lines line missed tick before given) hand sink hand' sink'

-- A write failed among the lines of a frame.
abbrev pub BreaksInFrame : {C : Type 0} → (C → List Bool → Type 0) → (ℕ → List Bool → List ℕ) → List ℕ → ℕ → Option (List ℕ) → C → List ℕ → Taken → Taken → Type 0
BreaksInFrame stands line missed tick given old hand sink sink' =
    (before : List ℕ) → stands old (bits_of before) → BreaksOff (given_lines line missed tick before given) hand sink sink'

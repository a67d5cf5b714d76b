-- What is read of a basic frame out of the octets that carry it in a packet. This is the project's own.
use Rattle.std.specs.Prelude.{ℕ, ◌≡◌, ◌*◌, ◌<◌, false, IsTrue, List, take, Contains, Option, Some, None}
use Rattle.basic_frame.specs.Frames.{iq_bit}
use Rattle.carrier_plan.specs.declared.plan.Flow.{Flow}
use Rattle.carrier_plan.specs.declared.plan.Mode.{Mode}
use Rattle.carrier_plan.specs.declared.plan.Mode.TheVariants.{Tunnel, Bytes, Aware}
use Rattle.carrier_plan.specs.declared.plan.Plan.{Plan}
use Rattle.link_base.specs.Bits.{bit_of}
use Rattle.plan_checker.specs.WordSize.{word_size}
use Rattle.roe_mappers.specs.CarriedBits.{carried_bits}
use Rattle.roe_mappers.specs.Parts.{part_bit, part_control, spelled}
use Rattle.roe_mappers.specs.declared.unmapping.Unmapped.{Unmapped}
use Rattle.roe_mappers.specs.declared.unmapping.Unmapped.TheVariants.{Good, BadSymbol}

-- In mode `aware` the control word, where the flow has control, and the IQ bits of its carriers are those of the part, and
-- all else of the frame stays.
pub record PutsContainers (p : Plan) (f : Flow) (part old new : List ℕ) : Type 0 where
  pub control : IsTrue f.control → take (word_size p.option) new ≡ part_control p part
  pub no_control : f.control ≡ false → (k : ℕ) → k < 8 * word_size p.option → bit_of new k ≡ bit_of old k
  pub carried : (x : ℕ) → Contains (carried_bits p f) x → iq_bit (word_size p.option) new x ≡ part_bit p f part x
  pub others : (x : ℕ) → ¬ Contains (carried_bits p f) x → iq_bit (word_size p.option) new x ≡ iq_bit (word_size p.option) old x

-- The new frame is what the part gives, and else what it was. In the modes that carry whole frames the part gives all of it.
abbrev pub Puts : Mode → Plan → Flow → (part old new : List ℕ) → Type 0
Puts Tunnel p f part old new = new ≡ spelled Tunnel part
Puts Bytes p f part old new = new ≡ spelled Bytes part
Puts Aware p f part old new = PutsContainers p f part old new

-- the frame after an answer: what the part gives, or what it was where a symbol is bad
abbrev pub IsFrameAfter : Unmapped → Plan → Flow → (part old new : List ℕ) → Type 0
IsFrameAfter Good p f part old new = Puts p.mode p f part old new
IsFrameAfter (BadSymbol place) p f part old new = new ≡ old

-- the bad symbol that an answer names
abbrev pub named_symbol : Unmapped → Option ℕ
named_symbol Good = None
named_symbol (BadSymbol place) = Some place

-- a frame that an answer replaces as a whole, unless it names a bad symbol
abbrev pub IsReplacedUnless : Unmapped → (whole old new : List ℕ) → Type 0
IsReplacedUnless Good whole old new = new ≡ whole
IsReplacedUnless (BadSymbol place) whole old new = new ≡ old

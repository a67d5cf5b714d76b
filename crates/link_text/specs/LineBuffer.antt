-- What the buffer of a reader of lines holds. This is the project's own.
use Rattle.std.specs.Prelude.{◌≡◌, ℕ, ◌+◌, ◌<◌, ◌≤◌, List, [], ◌∷◌, ◌++◌, length, take, drop, Option, Some, None}
use Rattle.link_base.specs.Shelf.{Shown}
use Rattle.link_text.specs.declared.lines.Ending.{Ending}
use Rattle.link_text.specs.declared.buffer.Cut.{Cut}
use Rattle.link_text.specs.declared.buffer.Cut.TheVariants.{Line, TooLong, Short}
use Rattle.link_text.specs.Lines.{longest, HasNoFeed, IsLine, Stops, Took}

pub record Buffered : Type 0 where
  -- the line that was given last, with its line feed, while it is still there
  pub line : List ℕ
  -- the octets that were read and not yet given
  pub rest : List ℕ

-- the first line feed is at this place
pub record IsFirstFeed (octets : List ℕ) (place : ℕ) : Type 0 where
  pub before : HasNoFeed (take place octets)
  pub within : place < length octets
  pub at : octets ≡ take place octets ++ 10 ∷ drop (place + 1) octets

-- a line was taken off these octets
pub record TakesLine (hand : List ℕ) (new : Buffered) : Type 0 where
  pub text : List ℕ
  pub is_line : IsLine text
  pub line : new.line ≡ text ++ 10 ∷ []
  pub from : hand ≡ text ++ 10 ∷ new.rest

-- what a cut does
abbrev pub Cuts : Buffered → Buffered → Cut → Type 0
Cuts old new Line = TakesLine old.rest new
Cuts old new TooLong = (longest < length old.rest) × HasNoFeed (take (longest + 1) old.rest) × (new ≡ old)
Cuts old new Short = (length old.rest ≤ longest) × HasNoFeed old.rest × (new ≡ old)

-- a line was taken off the octets at hand, or there is none
abbrev pub Advances : List ℕ → Buffered → Option Ending → Type 0
Advances hand new None = TakesLine hand new
Advances hand new (Some ending) = Stops hand new.rest ending

-- what an advance does
pub record Advanced (old new : Buffered) (before after : Shown) (result : Option Ending) : Type 0 where
  pub octets : List ℕ
  pub took : Took octets before after
  pub advances : Advances (old.rest ++ octets) new result

-- The lines of a file, and what a reader of them answers. Lines end with a line feed, 10. Their greatest length is this project's own.
use Rattle.std.specs.Prelude.{◌≡◌, ◌≢◌, ◌==◌, ℕ, ◌+◌, ◌<◌, ◌≤◌, IsTrue, List, [], ◌∷◌, ◌++◌, length, take, flat_map, All, Option, Some, None, MatchOption}
use Rattle.std.specs.List.{slice_split}
use Rattle.link_base.specs.Faults.{Rose}
use Rattle.link_base.specs.Shelf.{Shown}
use Rattle.link_text.specs.declared.lines.Line.{Line}
use Rattle.link_text.specs.declared.lines.Line.TheVariants as line
use Rattle.link_text.specs.declared.lines.Ending.{Ending}
use Rattle.link_text.specs.declared.lines.Ending.TheVariants as ending

-- the parts but the last
abbrev pub all_but_last : List (List ℕ) → List (List ℕ)
all_but_last [] = []
all_but_last (part ∷ []) = []
all_but_last (part ∷ next ∷ parts) = part ∷ all_but_last (next ∷ parts)

abbrev pub last_part : List (List ℕ) → List ℕ
last_part [] = []
last_part (part ∷ []) = part
last_part (part ∷ next ∷ parts) = last_part (next ∷ parts)

-- the texts before line feeds
abbrev pub lines_of : List ℕ → List (List ℕ)
lines_of octets = all_but_last (slice_split (λ c. c == 10) octets)

-- what follows the last line feed
abbrev pub rest_of : List ℕ → List ℕ
rest_of octets = last_part (slice_split (λ c. c == 10) octets)

-- the lines, each with its line feed
abbrev pub with_feeds : List (List ℕ) → List ℕ
with_feeds lines = flat_map (λ line. line ++ 10 ∷ []) lines

-- there is no line feed
abbrev pub HasNoFeed : List ℕ → Type 0
HasNoFeed octets = All (λ c. c ≢ 10) octets

-- the octets of a longest line
abbrev pub longest : ℕ
longest = 4096

-- what a reader keeps
pub record Reading : Type 0 where
  -- the octets that were read and not yet given
  pub rest : List ℕ
  -- why no further line is given
  pub ended : Option Ending

-- why an answer gives no line
abbrev pub ending_of : Line → Option Ending
ending_of (line.Text text) = None
ending_of line.End = Some ending.End
ending_of line.TooLong = Some ending.TooLong
ending_of line.Unended = Some ending.Unended
ending_of line.Failed = Some ending.Failed

-- the line that an answer gives
abbrev pub text_of : Line → Option (List ℕ)
text_of (line.Text text) = Some text.now
text_of line.End = None
text_of line.TooLong = None
text_of line.Unended = None
text_of line.Failed = None

-- a text that is given as a line
abbrev pub IsLine : List ℕ → Type 0
IsLine text = (length text ≤ longest) × HasNoFeed text

-- Why these octets that are at hand give no line. None of them is taken off.
abbrev pub Stops : List ℕ → List ℕ → Ending → Type 0
Stops hand rest ending.End = (hand ≡ []) × (rest ≡ hand)
Stops hand rest ending.TooLong = (longest < length hand) × HasNoFeed (take (longest + 1) hand) × (rest ≡ hand)
Stops hand rest ending.Unended = (0 < length hand) × (length hand ≤ longest) × HasNoFeed hand × (rest ≡ hand)
Stops hand rest ending.Failed = (length hand ≤ longest) × HasNoFeed hand × (rest ≡ hand)

-- The answer for the octets at hand, and those that are left of them: a line and its line feed are taken off.
abbrev pub Gives : List ℕ → List ℕ → Line → Type 0
Gives hand rest (line.Text text) = IsLine text.now × (hand ≡ text.now ++ 10 ∷ rest)
Gives hand rest line.End = Stops hand rest ending.End
Gives hand rest line.TooLong = Stops hand rest ending.TooLong
Gives hand rest line.Unended = Stops hand rest ending.Unended
Gives hand rest line.Failed = Stops hand rest ending.Failed

-- no failure, and the shelf tells of the last one as before
pub record HasNoFault (before after : Shown) : Type 0 where
  pub faults : after.faults ≡ before.faults
  pub failed : IsTrue before.tells → after.failed ≡ before.failed

-- the file was read to its end
pub record ReadToEnd (before after : Shown) : Type 0 where
  pub no_fault : HasNoFault before after
  pub end : IsTrue before.tells → after.left ≡ []

-- a read of the selected file failed
pub record ReadFailed (before after : Shown) : Type 0 where
  pub never_falls : before.faults ≤ after.faults
  pub rose : Rose before.faults after.faults
  pub failed : IsTrue before.tells → after.failed ≡ before.chosen

-- what the shelf shows by the reason for which no line is given
abbrev pub ShowsEnding : Shown → Shown → Option Ending → Type 0
ShowsEnding before after None = HasNoFault before after
ShowsEnding before after (Some ending.TooLong) = HasNoFault before after
ShowsEnding before after (Some ending.End) = ReadToEnd before after
ShowsEnding before after (Some ending.Unended) = ReadToEnd before after
ShowsEnding before after (Some ending.Failed) = ReadFailed before after

-- these octets were read from the selected file
pub record Took (octets : List ℕ) (before after : Shown) : Type 0 where
  pub left : IsTrue before.tells → before.left ≡ octets ++ after.left
  pub chosen : IsTrue before.tells → after.chosen ≡ before.chosen

-- how many octets of the buffer an answer lends: those of the line and its line feed
abbrev pub lent_len : Line → ℕ
lent_len (line.Text text) = length text.now + 1
lent_len line.End = 0
lent_len line.TooLong = 0
lent_len line.Unended = 0
lent_len line.Failed = 0

-- The first answers: octets are read after those that are kept, and the answer is given for both.
pub record GivesNext (old new : Reading) (before after : Shown) (answer : Line) : Type 0 where
  pub octets : List ℕ
  pub took : Took octets before after
  pub gives : Gives (old.rest ++ octets) new.rest answer
  pub ended : new.ended ≡ ending_of answer
  pub fits : lent_len answer + length new.rest ≤ 8192

-- what is kept after an answer: no more is read once there was no line
abbrev pub Keeps : Reading → Reading → Shown → Shown → Line → Type 0
Keeps old new before after answer = MatchOption old.ended (GivesNext old new before after answer) (λ _. new ≡ old)

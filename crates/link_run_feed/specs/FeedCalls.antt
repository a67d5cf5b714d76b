-- What the calls that read a feed do to the text in hand, the sink and the shelf. This is the project's own.
use Rattle.std.specs.Prelude.{codes, bytes_eq, ◌≡◌, ◌≢◌, ◌⊎◌, ◌≤◌, ℕ, Bool, true, false, List, [], ◌∷◌, ◌++◌, length, Option, Some, None, Result, Ok, Err}
use Rattle.link_base.specs.Shelf.{Shown}
use Rattle.link_base.specs.Sink.{Taken, Appends}
use Rattle.link_text.specs.Gathered.{Gathers, BreaksOff}
use Rattle.link_text.specs.Lines.{lines_of, rest_of, longest, with_feeds, IsLine}
use Rattle.link_run_feed.specs.declared.reason.Reason.{Reason}
use Rattle.link_run_feed.specs.declared.feed.Reading.{Reading}
use Rattle.link_run_feed.specs.declared.feed.Reading.TheVariants.{Good, Bad}
use Rattle.link_run_feed.specs.declared.status.Status.{Status}
use Rattle.link_run_feed.specs.declared.status.Status.TheVariants.{Usage, ReadFault, NoMemory}
use Rattle.link_run_feed.specs.Answer.{Answer}
use Rattle.link_run_feed.specs.Given.{IsGiven}
use Rattle.link_run_feed.specs.Feed.{At, LineForm, FeedForm, Read, by_end, read_items, step_at, read_on, answer_on, is_good}

-- A header gives a feed in its first state and with the text that it settles, or the line is none.
abbrev pub IsOpened : {F S : Type 0} → (F → S → List ℕ → Type 0) → Option (S × List ℕ) → Option F → Type 0
IsOpened {F} {S} opens header (Some feed) = (s : S) × (text : List ℕ) × (header ≡ Some (s, text)) × opens feed s text
IsOpened opens header None = header ≡ None

-- The last line came: the text that it settles was gathered, and what the feed keeps is that of the state after it.
abbrev pub IsEnded : {S : Type 0} → LineForm S → S → (S → Type 0) → List ℕ → Taken → List ℕ → Taken → Type 0
IsEnded form s ended hand sink hand' sink' = ended (form.ending s).0 × Gathers (form.ending s).1 hand sink hand' sink'

-- A line was read as what it is, and the text that it settles was gathered. What the feed keeps stands for the state after it.
abbrev pub IsReadAs : {S : Type 0} → Result (S × List ℕ) Reason → Reading → (S → Type 0) → List ℕ → Taken → List ℕ → Taken → Type 0
IsReadAs {S} line Good stands hand sink hand' sink' = (next : S) × (settled : List ℕ) × (line ≡ Ok (next, settled)) × stands next × Gathers settled hand sink hand' sink'
IsReadAs line (Bad reason) stands hand sink hand' sink' = (line ≡ Err reason) × (hand' ≡ hand) × (sink' ≡ sink)

-- Good lines, none of them the last one, that lead from one state to another and settle no text.
abbrev pub LeadTo : {S : Type 0} → LineForm S → S → List (List ℕ) → S → Type 0
LeadTo form s [] next = s ≡ next
LeadTo {S} form s (line ∷ lines) next =
    IsLine line × (bytes_eq line (codes "end") ≡ false) × ((mid : S) × (form.line s line ≡ Ok (mid, [])) × LeadTo form mid lines next)

-- The octets are so many lines of this kind. What the feed keeps stands for the state after them.
pub record ReadsAhead {S : Type 0} (form : LineForm S) (s : S) (octets : List ℕ) (count : ℕ) (stands : S → Type 0) : Type 0 where
  pub lines : List (List ℕ)
  pub octets_are : octets ≡ with_feeds lines
  pub as_many : count ≡ length lines
  pub next : S
  pub lead : LeadTo form s lines next
  pub stands_for : stands next

-- The line was good, and its text could not be written whole.
abbrev pub BreaksOffAt : {S : Type 0} → Result (S × List ℕ) Reason → List ℕ → Taken → Taken → Type 0
BreaksOffAt {S} line hand sink sink' = (next : S) × (settled : List ℕ) × (line ≡ Ok (next, settled)) × BreaksOff settled hand sink sink'

-- Lines were read, from one reading to another, of which what is in hand is the end. What further octets are read as from the
-- first reading, they are read as from the other.
pub record GoesOn {S : Type 0} (form : FeedForm S) (first : Read S) (unread : List ℕ) (sink : Taken) (at : At S) (number : ℕ) (hand unread' : List ℕ) (sink' : Taken) : Type 0 where
  pub moved : List ℕ
  pub written : Appends moved sink sink'
  pub given : List ℕ
  pub all : unread ≡ given ++ unread'
  pub lines : (more : List ℕ) → read_items (step_at form) first (lines_of (given ++ more)) ≡ read_items (step_at form) (record { at = at; number = number; text = moved ++ hand }) (lines_of more)
  pub rest : (more : List ℕ) → rest_of (given ++ more) ≡ rest_of more

-- A read failed. These octets were taken: none of their lines is bad, and their settled text, which an answer goes on from, is
-- all of this text.
pub record IsStopped {S : Type 0} (form : FeedForm S) (r : Read S) (unread : List ℕ) (shelf shelf' : Shown) (answer : Answer) : Type 0 where
  pub status : answer.status ≡ ReadFault
  pub taken : List ℕ
  pub all : unread ≡ taken ++ shelf'.left
  pub settled : answer.text ≡ (read_on form r taken).text
  pub good : is_good (read_on form r taken).at ≡ true
  pub short : length (rest_of taken) ≤ longest
  pub failed : shelf'.failed ≡ shelf.chosen
  pub more : List ℕ
  pub grows : (answer_on form r unread).text ≡ answer.text ++ more

-- The rest of a feed was read from this reading on, whose text is that in hand: the answer to it is given, or a read failed.
pub record Concludes {S : Type 0} (form : FeedForm S) (r : Read S) (unread : List ℕ) (shelf shelf' : Shown) (sink sink' : Taken) (result : Status) : Type 0 where
  pub answer : Answer
  pub given : IsGiven answer.status answer.text sink sink' result
  pub due : (answer ≡ answer_on form r unread) ⊎ IsStopped form r unread shelf shelf' answer
  pub chosen : shelf'.chosen ≡ shelf.chosen

-- Memory was wanting before the line after the header was read.
pub record WantsMemory (octets : List ℕ) (shelf shelf' : Shown) : Type 0 where
  pub taken : List ℕ
  pub all : octets ≡ taken ++ shelf'.left
  pub few : length taken ≤ 8192
  pub chosen : shelf'.chosen ≡ shelf.chosen

-- how far a feed is read once the last line came, which may come or not, after this text
abbrev pub after_last : {S : Type 0} → Bool → S × List ℕ → ℕ → List ℕ → Read S
after_last may_end given number text = record { at = (by_end may_end given).at; number = number; text = text ++ (by_end may_end given).settled }

-- a status with which the reading of lines ends
abbrev pub EndsLines : Status → Type 0
EndsLines status = (status ≢ NoMemory) × (status ≢ Usage)

-- the form of the feeds that have this header and these lines
abbrev pub form_with : {S : Type 0} → (List ℕ → Option (S × List ℕ)) → LineForm S → FeedForm S
form_with header lines = record { header = header; lines = lines }

-- Feeds: files that are read, and answered, line by line. A feed has a header, then lines of its form, then the last line
-- `end`, and nothing after it. This is the project's own.
use Rattle.std.specs.Prelude.{codes, bytes_eq, ◌+◌, ℕ, Bool, true, false, ◌&&◌, nat_lt, nat_le, List, [], ◌∷◌, ◌++◌, length, Option, Some, None, Result, Ok, Err, if◌then◌else◌}
use Rattle.link_text.specs.Lines.{lines_of, rest_of, longest}
use Rattle.link_run_feed.specs.declared.reason.Reason.{Reason}
use Rattle.link_run_feed.specs.declared.reason.Reason.TheVariants.{Header, Long, Unended, Count, After}
use Rattle.link_run_feed.specs.declared.status.Status.TheVariants.{Done, FeedBad}
use Rattle.link_run_feed.specs.Answer.{Answer}
use Rattle.link_run_feed.specs.Reasons.{bad_line}

-- the form of the lines after a header
pub record LineForm (S : Type 0) : Type 0 where
  -- the state after a line and the text that it settles, in the state that the lines before it give, or why it is no line
  pub line : S → List ℕ → Result (S × List ℕ) Reason
  -- whether the last line may come
  pub may_end : S → Bool
  -- the state after the last line and the text that it settles, where it may come
  pub ending : S → S × List ℕ
  -- the text that is written once nothing follows the last line
  pub closing : S → List ℕ

-- a form of feeds: the state and the text that a header gives, if the line is one, and the form of the lines after it
pub record FeedForm (S : Type 0) : Type 0 where
  pub header : List ℕ → Option (S × List ℕ)
  pub lines : LineForm S

-- where the reading of a feed stands
pub data At (S : Type 0) : Type 0 where
  -- the header is to come
  start : At S
  -- lines are to come
  in_lines : S → At S
  -- the last line was read
  ended : S → At S
  -- an item was bad
  is_bad : Reason → At S

-- what one item does: where the reading stands after it, and the text that it settles
pub record Step (S : Type 0) : Type 0 where
  pub at : At S
  pub settled : List ℕ

-- how far a feed is read
pub record Read (S : Type 0) : Type 0 where
  pub at : At S
  -- the items that were read, the bad one included
  pub number : ℕ
  -- the text that the good ones settle
  pub text : List ℕ

abbrev pub bad : {S : Type 0} → Reason → Step S
bad reason = record { at = is_bad reason; settled = [] }

-- nothing is read after a bad item
abbrev pub read_more : {S : Type 0} → At S → ℕ → List ℕ → Step S → Read S
read_more (is_bad reason) number text next = record { at = is_bad reason; number = number; text = text }
read_more _ number text next = record { at = next.at; number = number + 1; text = text ++ next.settled }

-- items are read one after another, each by this step from where the reading stands
abbrev pub read_items : {Item S : Type 0} → (At S → Item → Step S) → Read S → List Item → Read S
read_items step r [] = r
read_items step r (item ∷ items) = read_items step (read_more r.at r.number r.text (step r.at item)) items

-- what a header, if the line is one, does
abbrev pub by_header : {S : Type 0} → Option (S × List ℕ) → Step S
by_header None = bad Header
by_header (Some given) = record { at = in_lines given.0; settled = given.1 }

-- what a line of the form, or no line of the form, does
abbrev pub by_line : {S : Type 0} → Result (S × List ℕ) Reason → Step S
by_line (Ok given) = record { at = in_lines given.0; settled = given.1 }
by_line (Err reason) = bad reason

-- the last line comes, where it may
abbrev pub by_end : {S : Type 0} → Bool → S × List ℕ → Step S
by_end true given = record { at = ended given.0; settled = given.1 }
by_end false given = bad Count

-- a line after the header
abbrev pub line_step : {S : Type 0} → LineForm S → S → List ℕ → Step S
line_step form s line = if bytes_eq line (codes "end") then by_end (form.may_end s) (form.ending s) else by_line (form.line s line)

-- what a line does: nothing may come after the last one, and none has too many octets
abbrev pub step_at : {S : Type 0} → FeedForm S → At S → List ℕ → Step S
step_at form start line = if nat_lt longest (length line) then bad Long else by_header (form.header line)
step_at form (in_lines s) line = if nat_lt longest (length line) then bad Long else line_step form.lines s line
step_at form (ended s) line = bad After
step_at form (is_bad reason) line = bad reason

-- the feed is refused at the item of this number, after this text
abbrev pub refused : List ℕ → ℕ → Reason → Answer
refused text number reason = record { status = FeedBad number reason; text = text ++ bad_line number reason }

-- by what follows the last line, in the state at it
abbrev pub answer_at_end : {S : Type 0} → LineForm S → S → ℕ → List ℕ → List ℕ → Answer
answer_at_end form s number text [] = record { status = Done; text = text ++ form.closing s }
answer_at_end form s number text (c ∷ rest) = refused text (number + 1) After

-- no line feed follows: the file ends within the next line, or before it
abbrev pub answer_unended : ℕ → List ℕ → List ℕ → Answer
answer_unended number text rest = refused text (number + 1) (if nat_lt longest (length rest) then Long else Unended)

-- the answer where the whole lines are read this far, and these octets follow the last line feed
abbrev pub answer_at : {S : Type 0} → LineForm S → At S → ℕ → List ℕ → List ℕ → Answer
answer_at form start number text rest = answer_unended number text rest
answer_at form (in_lines s) number text rest = answer_unended number text rest
answer_at form (ended s) number text rest = answer_at_end form s number text rest
answer_at form (is_bad reason) number text rest = refused text number reason

-- nothing is read so far
abbrev pub begun : {S : Type 0} → Read S
begun = record { at = start; number = 0; text = [] }

-- how far a feed is read once the whole lines of these octets are
unfoldable pub read_on : {S : Type 0} → FeedForm S → Read S → List ℕ → Read S
read_on form r octets = read_items (step_at form) r (lines_of octets)

abbrev pub answer_of : {S : Type 0} → FeedForm S → Read S → List ℕ → Answer
answer_of form r rest = answer_at form.lines r.at r.number r.text rest

-- the answer to a feed of which these octets are unread
unfoldable pub answer_on : {S : Type 0} → FeedForm S → Read S → List ℕ → Answer
answer_on form r octets = answer_of form (read_on form r octets) (rest_of octets)

-- the answer to the octets of a feed
abbrev pub feed_answer : {S : Type 0} → FeedForm S → List ℕ → Answer
feed_answer form octets = answer_on form begun octets

-- the text that the whole lines of these octets settle
abbrev pub settled : {S : Type 0} → FeedForm S → List ℕ → List ℕ
settled form octets = (read_on form begun octets).text

abbrev pub is_good : {S : Type 0} → At S → Bool
is_good (is_bad reason) = false
is_good _ = true

-- none of the whole lines of these octets is bad, and less than a line follows them
abbrev pub is_front : {S : Type 0} → FeedForm S → List ℕ → Bool
is_front form octets = is_good (read_on form begun octets).at && nat_le (length (rest_of octets)) longest

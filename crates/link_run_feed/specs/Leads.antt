-- Feeds as lists of good lines. This is the project's own.
use Rattle.std.specs.Prelude.{codes, bytes_eq, if◌then◌else◌, ◌&&◌, length, ◌≡◌, ◌<◌, ◌⊎◌, true, ℕ, List, [], ◌∷◌, ◌++◌, Some, Ok, Err}
use Rattle.link_text.specs.Lines.{lines_of, rest_of}
use Rattle.link_run_feed.specs.Feed.{LineForm, FeedForm}
use Rattle.link_run_feed.specs.declared.reason.Reason.{Reason}

-- These lines are good, each in the state that those before it give. They lead to this last state, and settle this text.
abbrev pub LeadTo : {S : Type 0} → LineForm S → S → List (List ℕ) → S → List ℕ → Type 0
LeadTo form s [] last text = (last ≡ s) × (text ≡ [])
LeadTo {S} form s (line ∷ lines) last text =
    (next : S) × (settled more : List ℕ) × (form.line s line ≡ Ok (next, settled)) × LeadTo form next lines last more × (text ≡ settled ++ more)

-- The first of these lines, where there is one, is not good in this state: it is too long, the last line, or no line of the form.
abbrev pub EndsGood : {S : Type 0} → LineForm S → S → List (List ℕ) → Type 0
EndsGood form s [] = Unit {0}
EndsGood form s (line ∷ lines) = (4096 < length line) ⊎ (line ≡ codes "end") ⊎ ((why : Reason) × (form.line s line ≡ Err why))

-- what the last line settles, where it is the first of these lines and may come in this state
abbrev pub ended_text : {S : Type 0} → LineForm S → S → List (List ℕ) → List ℕ
ended_text form s [] = []
ended_text form s (line ∷ lines) = if bytes_eq line (codes "end") && form.may_end s then (form.ending s).1 else []

-- The octets begin with a header and good lines, up to the first line that is not good, and this text is what these settle, and
-- the last line where it follows them.
pub record IsLedBy {S : Type 0} (form : FeedForm S) (octets text : List ℕ) : Type 0 where
  pub header : List ℕ
  pub first : S
  pub front : List ℕ
  pub good : List (List ℕ)
  pub following : List (List ℕ)
  pub last : S
  pub settled : List ℕ
  pub lines : lines_of octets ≡ header ∷ (good ++ following)
  pub opens : form.header header ≡ Some (first, front)
  pub leads : LeadTo form.lines first good last settled
  pub ends : EndsGood form.lines last following
  pub whole : text ≡ (front ++ settled) ++ ended_text form.lines last following

-- what is settled of a feed: nothing, or what a header and the good lines after it settle
abbrev pub IsSettledBy : {S : Type 0} → FeedForm S → List ℕ → List ℕ → Type 0
IsSettledBy form octets text = (text ≡ []) ⊎ IsLedBy form octets text

-- The octets are a header, good lines and the last line, with nothing after it, and this is the whole text.
pub record IsDone {S : Type 0} (form : FeedForm S) (octets text : List ℕ) : Type 0 where
  pub header : List ℕ
  pub first : S
  pub front : List ℕ
  pub good : List (List ℕ)
  pub last : S
  pub settled : List ℕ
  pub lines : lines_of octets ≡ header ∷ (good ++ codes "end" ∷ [])
  pub nothing_after : rest_of octets ≡ []
  pub opens : form.header header ≡ Some (first, front)
  pub leads : LeadTo form.lines first good last settled
  pub may_end : form.lines.may_end last ≡ true
  pub whole : text ≡ ((front ++ settled) ++ (form.lines.ending last).1) ++ form.lines.closing (form.lines.ending last).0

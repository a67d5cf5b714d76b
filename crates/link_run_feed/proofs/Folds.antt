-- The reading of a feed as one fold: text put in front, lines one after another, and the answers where it stands.
use Rattle.std.proofs.Common.{◌≡◌, ◌≢◌, ◌≤◌, ◌<◌, ◌+◌, inl, inr, ◌++◌, ◌∷◌, [], ℕ, List, length, take, length-append, length-take, get_or, get_or-take, arith, refl, sym, ap, ◌∙◌, append_assoc, append-nil}
use Rattle.std.specs.Prelude.{nat_lt}
use Rattle.std.proofs.lemmas.Bool.{cases_lt, cond-true, cond-false, lt-ltb, le-ltb}
use Rattle.std.proofs.lemmas.List.{get_or_at}
use Rattle.link_text.specs.Lines.{lines_of, rest_of, with_feeds, HasNoFeed}
use Rattle.link_text.proofs.LinesOf.{lines_of-line, rest_of-line, lines_of-rest, rest_of-rest, with_feeds-lines_of}
use Rattle.link_run_feed.specs.declared.reason.Reason.{Reason}
use Rattle.link_run_feed.specs.declared.reason.Reason.TheVariants as reason
use Rattle.link_run_feed.specs.declared.status.Status.TheVariants.{Done, FeedBad}
use Rattle.link_run_feed.specs.Answer.{Answer}
use Rattle.link_run_feed.specs.Reasons.{bad_line}
use Rattle.link_run_feed.specs.Feed.{At, start, in_lines, ended, is_bad, Step, Read, LineForm, FeedForm, read_more, read_items, step_at, refused, answer_at, answer_unended, answer_of, read_on, answer_on}

-- a reading and an answer with a text in front
abbrev pub in_front : {S : Type 0} → List ℕ → Read S → Read S
in_front front r = record { at = r.at; number = r.number; text = front ++ r.text }

abbrev pub with_front : List ℕ → Answer → Answer
with_front front answer = record { status = answer.status; text = front ++ answer.text }

more_in_front : {S : Type 0} (front : List ℕ) (at : At S) (number : ℕ) (text : List ℕ) (next : Step S) → read_more at number (front ++ text) next ≡ in_front front (read_more at number text next)
more_in_front {S} front start number text next = ap (λ (t : List ℕ). let r : Read S = record { at = next.at; number = number + 1; text = t } in r) (append_assoc front text next.settled)
more_in_front {S} front (in_lines s) number text next = ap (λ (t : List ℕ). let r : Read S = record { at = next.at; number = number + 1; text = t } in r) (append_assoc front text next.settled)
more_in_front {S} front (ended s) number text next = ap (λ (t : List ℕ). let r : Read S = record { at = next.at; number = number + 1; text = t } in r) (append_assoc front text next.settled)
more_in_front front (is_bad reason) number text next = refl

pub items_in_front : {Item S : Type 0} (step : At S → Item → Step S) (front : List ℕ) (r : Read S) (items : List Item) → read_items step (in_front front r) items ≡ in_front front (read_items step r items)
items_in_front step front r [] = refl
items_in_front step front r (item ∷ items) =
    ap (λ q. read_items step q items) (more_in_front front r.at r.number r.text (step r.at item))
    ∙ items_in_front step front (read_more r.at r.number r.text (step r.at item)) items

refused_in_front : (front text : List ℕ) (number : ℕ) (why : Reason) → refused (front ++ text) number why ≡ with_front front (refused text number why)
refused_in_front front text number why = ap (λ (t : List ℕ). let a : Answer = record { status = FeedBad number why; text = t } in a) (append_assoc front text (bad_line number why))

pub answer_in_front : {S : Type 0} (form : LineForm S) (front : List ℕ) (at : At S) (number : ℕ) (text rest : List ℕ) → answer_at form at number (front ++ text) rest ≡ with_front front (answer_at form at number text rest)
answer_in_front form front start number text rest = refused_in_front front text (number + 1) _
answer_in_front form front (in_lines s) number text rest = refused_in_front front text (number + 1) _
answer_in_front form front (ended s) number text [] = ap (λ (t : List ℕ). let a : Answer = record { status = Done; text = t } in a) (append_assoc front text (form.closing s))
answer_in_front form front (ended s) number text (c ∷ rest) = refused_in_front front text (number + 1) reason.After
answer_in_front form front (is_bad why) number text rest = refused_in_front front text number why

module _ {S : Type 0} (form : FeedForm S) where
  pub read_on-front : (front : List ℕ) (r : Read S) (octets : List ℕ) → read_on form (in_front front r) octets ≡ in_front front (read_on form r octets)
  unfolding read_on
  read_on-front front r octets = items_in_front (step_at form) front r (lines_of octets)

  pub answer_on-front : (front : List ℕ) (r : Read S) (octets : List ℕ) → answer_on form (in_front front r) octets ≡ with_front front (answer_on form r octets)
  unfolding answer_on
  answer_on-front front r octets =
      let read = read_on form r octets in
      ap (λ q. answer_of form q (rest_of octets)) (read_on-front front r octets)
      ∙ answer_in_front form.lines front read.at read.number read.text (rest_of octets)

  -- the text of an answer goes on from the one that is settled so far
  pub answer_grows : (r : Read S) (octets : List ℕ) → (more : List ℕ) × ((answer_on form r octets).text ≡ r.text ++ more)
  answer_grows r octets =
      let none : Read S = record { at = r.at; number = r.number; text = [] } in (
        (answer_on form none octets).text,
        ap (λ (t : List ℕ). let q : Read S = record { at = r.at; number = r.number; text = t } in (answer_on form q octets).text) (sym (append-nil r.text))
            ∙ ap (λ (a : Answer). a.text) (answer_on-front r.text none octets),
      )

  -- a line in front of further octets
  pub read_on-line : (r : Read S) (line more : List ℕ) → HasNoFeed line → read_on form r (line ++ 10 ∷ more) ≡ read_on form (read_more r.at r.number r.text (step_at form r.at line)) more
  unfolding read_on
  read_on-line r line more clean = ap (read_items (step_at form) r) (lines_of-line line more clean)

  pub answer_on-line : (r : Read S) (line more : List ℕ) → HasNoFeed line → answer_on form r (line ++ 10 ∷ more) ≡ answer_on form (read_more r.at r.number r.text (step_at form r.at line)) more
  unfolding answer_on
  answer_on-line r line more clean =
      let next = read_more r.at r.number r.text (step_at form r.at line) in
      ap (λ q. answer_of form q (rest_of (line ++ 10 ∷ more))) (read_on-line r line more clean)
      ∙ ap (answer_of form (read_on form next more)) (rest_of-line line more clean)

  -- less than a line
  pub read_on-rest : (r : Read S) (rest : List ℕ) → HasNoFeed rest → read_on form r rest ≡ r
  unfolding read_on
  read_on-rest r rest clean = ap (read_items (step_at form) r) (lines_of-rest rest clean)

  pub answer_on-rest : (r : Read S) (rest : List ℕ) → HasNoFeed rest → answer_on form r rest ≡ answer_of form r rest
  unfolding answer_on
  answer_on-rest r rest clean =
      ap (λ q. answer_of form q (rest_of rest)) (read_on-rest r rest clean) ∙ ap (answer_of form r) (rest_of-rest rest clean)

  -- nothing is read after a bad item
  pub items_bad : (why : Reason) (number : ℕ) (text : List ℕ) (lines : List (List ℕ)) → let r : Read S = record { at = is_bad why; number = number; text = text } in read_items (step_at form) r lines ≡ r
  items_bad why number text [] = refl
  items_bad why number text (line ∷ lines) = items_bad why number text lines

  pub answer_on-bad : (why : Reason) (number : ℕ) (text octets : List ℕ) → answer_on form (record { at = is_bad why; number = number; text = text }) octets ≡ refused text number why
  unfolding answer_on read_on
  answer_on-bad why number text octets = ap (λ q. answer_of form q (rest_of octets)) (items_bad why number text (lines_of octets))

-- The header or lines are to come.
abbrev pub IsOpen : {S : Type 0} → At S → Type 0
IsOpen start = Unit {0}
IsOpen (in_lines s) = Unit {0}
IsOpen (ended s) = ⊥
IsOpen (is_bad why) = ⊥

module _ {S : Type 0} (form : FeedForm S) where
  long_more : (at : At S) (number : ℕ) (text line : List ℕ) → IsOpen at → 4096 < length line → read_more at number text (step_at form at line) ≡ record { at = is_bad reason.Long; number = number + 1; text = text ++ [] }
  long_more start number text line open_at long = ap (read_more start number text) (cond-true (nat_lt 4096 (length line)) _ _ (lt-ltb 4096 (length line) long))
  long_more (in_lines s) number text line open_at long = ap (read_more (in_lines s) number text) (cond-true (nat_lt 4096 (length line)) _ _ (lt-ltb 4096 (length line) long))
  long_more (ended s) number text line open_at long = absurd open_at
  long_more (is_bad why) number text line open_at long = absurd open_at

  unended_at : (at : At S) (number : ℕ) (text rest : List ℕ) → IsOpen at → answer_at form.lines at number text rest ≡ answer_unended number text rest
  unended_at start number text rest open_at = refl
  unended_at (in_lines s) number text rest open_at = refl
  unended_at (ended s) number text rest open_at = absurd open_at
  unended_at (is_bad why) number text rest open_at = absurd open_at

  -- no line feed comes, and less than a line
  pub answer_on-unended : (r : Read S) (unread : List ℕ) → IsOpen r.at → length unread ≤ 4096 → HasNoFeed unread → answer_on form r unread ≡ refused r.text (r.number + 1) reason.Unended
  answer_on-unended r unread open_at short none =
      answer_on-rest form r unread none ∙ unended_at r.at r.number r.text unread open_at
      ∙ ap (refused r.text (r.number + 1)) (cond-false (nat_lt 4096 (length unread)) reason.Long reason.Unended (le-ltb 4096 (length unread) short))

-- a line feed among the first octets
feed_in_front : (unread text more : List ℕ) → unread ≡ text ++ 10 ∷ more → length text ≤ 4096 → HasNoFeed (take 4097 unread) → ⊥
feed_in_front unread text more is short none =
    let within : length text < length (take 4097 unread) = omega (arith, length-take 4097 unread, ap length is ∙ length-append text (10 ∷ more), short) in
    none (length text) 0 within
    (get_or-take 4097 unread (length text) 0 (omega (arith, short)) ∙ ap (λ octets. get_or octets (length text) 0) is ∙ get_or_at text 10 more 0 (length text) refl)

module _ {S : Type 0} (form : FeedForm S) where
  long_by : (r : Read S) (unread : List ℕ) (lines : List (List ℕ)) → IsOpen r.at → with_feeds lines ++ rest_of unread ≡ unread → 4096 < length unread → HasNoFeed (take 4097 unread)
      → answer_of form (read_items (step_at form) r lines) (rest_of unread) ≡ refused r.text (r.number + 1) reason.Long
  long_by r unread [] open_at whole long none =
      unended_at form r.at r.number r.text (rest_of unread) open_at
      ∙ ap (refused r.text (r.number + 1)) (cond-true (nat_lt 4096 (length (rest_of unread))) reason.Long reason.Unended (lt-ltb 4096 (length (rest_of unread)) (omega (arith, ap length whole))))
  long_by r unread (line ∷ lines) open_at whole long none = elim (cases_lt 4096 (length line)) [
    | inl longer ↦
        ap (λ q. answer_of form (read_items (step_at form) q lines) (rest_of unread)) (long_more form r.at r.number r.text line open_at longer)
        ∙ ap (λ q. answer_of form q (rest_of unread)) (items_bad form reason.Long (r.number + 1) (r.text ++ []) lines)
        ∙ ap (λ t. refused t (r.number + 1) reason.Long) (append-nil r.text)
    | inr short ↦
        absurd (feed_in_front unread line (with_feeds lines ++ rest_of unread)
        (sym whole ∙ append_assoc (line ++ 10 ∷ []) (with_feeds lines) (rest_of unread) ∙ append_assoc line (10 ∷ []) (with_feeds lines ++ rest_of unread)) short none)
  ]

  -- too many octets come before a line feed
  pub answer_on-long : (r : Read S) (unread : List ℕ) → IsOpen r.at → 4096 < length unread → HasNoFeed (take 4097 unread) → answer_on form r unread ≡ refused r.text (r.number + 1) reason.Long
  unfolding answer_on read_on
  answer_on-long r unread open_at long none = long_by r unread (lines_of unread) open_at (with_feeds-lines_of unread) long none

  after_by : (s : S) (number : ℕ) (text : List ℕ) (lines : List (List ℕ)) (rest : List ℕ) → with_feeds lines ++ rest ≢ []
      → answer_of form (read_items (step_at form) (record { at = ended s; number = number; text = text }) lines) rest ≡ refused text (number + 1) reason.After
  after_by s number text [] [] some = absurd (some refl)
  after_by s number text [] (c ∷ rest) some = refl
  after_by s number text (line ∷ lines) rest some =
      ap (λ q. answer_of form q rest) (items_bad form reason.After (number + 1) (text ++ []) lines) ∙ ap (λ t. refused t (number + 1) reason.After) (append-nil text)

  -- something follows the last line
  pub answer_on-after : (s : S) (number : ℕ) (text unread : List ℕ) → unread ≢ [] → answer_on form (record { at = ended s; number = number; text = text }) unread ≡ refused text (number + 1) reason.After
  unfolding answer_on read_on
  answer_on-after s number text unread some = after_by s number text (lines_of unread) (rest_of unread) (λ none. some (sym (with_feeds-lines_of unread) ∙ none))

  -- nothing follows the last line
  pub answer_on-done : (s : S) (number : ℕ) (text unread : List ℕ) → unread ≡ [] → answer_on form (record { at = ended s; number = number; text = text }) unread ≡ record { status = Done; text = text ++ form.lines.closing s }
  unfolding answer_on read_on
  answer_on-done s number text unread none = ap (answer_on form (record { at = ended s; number = number; text = text })) none

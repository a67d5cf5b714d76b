-- The lines of a list of octets, and the answers that they have.
use Rattle.std.proofs.Common.{◌≡◌, ◌≢◌, ◌==◌, ◌↔◌, ℕ, ◌+◌, ◌<◌, ◌≤◌, List, [], ◌∷◌, ◌++◌, length, take, drop, get_or, refl, sym, ◌∙◌, ap, subst, arith, true, false, Bool, ◌⊎◌, All, Some, IsTrue, length-append, length-take, get_or-take, append_assoc, append-nil, inl, inr}
use Rattle.std.specs.Prelude.{slice_index_or}
use Rattle.std.specs.List.{slice_split, join_with_byte}
use Rattle.std.proofs.lemmas.Bool.{eqb-true}
use Rattle.std.proofs.lemmas.List.{get_or_at, take-append-le, append_cancel_left}
use Rattle.std.proofs.lemmas.List.Splits.{slice_split_at, slice_split_none, length-slice_split, join_with_byte-slice_split}
use Rattle.link_base.specs.Shelf.{Shown}
use Rattle.link_text.specs.declared.lines.Line.{Line}
use Rattle.link_text.specs.declared.lines.Line.TheVariants as line
use Rattle.link_text.specs.declared.lines.Ending.TheVariants as ending
use Rattle.link_text.specs.Lines.{all_but_last, last_part, lines_of, rest_of, with_feeds, longest, HasNoFeed, IsLine, Reading, Gives, GivesNext, ShowsEnding, ending_of, text_of}

bool_cases : (b : Bool) → (b ≡ true) ⊎ (b ≡ false)
bool_cases true = inl refl
bool_cases false = inr refl

no_feed_test : (text : List ℕ) → HasNoFeed text → All (λ c. (c == 10) ≡ false) text
no_feed_test text none = λ k d within. elim (bool_cases (slice_index_or text k d == 10)) [
  | inl is ↦ absurd (none k d within (eqb-true (slice_index_or text k d) 10 is))
  | inr other ↦ other
]

-- parts before others
all_but_last-cons : (part : List ℕ) (parts : List (List ℕ)) → 0 < length parts → all_but_last (part ∷ parts) ≡ part ∷ all_but_last parts
all_but_last-cons part [] some = absurd (omega arith)
all_but_last-cons part (next ∷ parts) some = refl

last_part-cons : (part : List ℕ) (parts : List (List ℕ)) → 0 < length parts → last_part (part ∷ parts) ≡ last_part parts
last_part-cons part [] some = absurd (omega arith)
last_part-cons part (next ∷ parts) some = refl

parts_some : (octets : List ℕ) → 0 < length (slice_split (λ c. c == 10) octets)
parts_some octets = omega (arith, length-slice_split (λ c. c == 10) octets)

split_line : (text more : List ℕ) → HasNoFeed text → slice_split (λ c. c == 10) (text ++ 10 ∷ more) ≡ text ∷ slice_split (λ c. c == 10) more
split_line text more none = slice_split_at (λ c. c == 10) text 10 more (no_feed_test text none) refl

pub lines_of-line : (text more : List ℕ) → HasNoFeed text → lines_of (text ++ 10 ∷ more) ≡ text ∷ lines_of more
lines_of-line text more none =
    ap all_but_last (split_line text more none) ∙ all_but_last-cons text (slice_split (λ c. c == 10) more) (parts_some more)

pub rest_of-line : (text more : List ℕ) → HasNoFeed text → rest_of (text ++ 10 ∷ more) ≡ rest_of more
rest_of-line text more none =
    ap last_part (split_line text more none) ∙ last_part-cons text (slice_split (λ c. c == 10) more) (parts_some more)

pub lines_of-rest : (text : List ℕ) → HasNoFeed text → lines_of text ≡ []
lines_of-rest text none = ap all_but_last (slice_split_none (λ c. c == 10) text (no_feed_test text none))

pub rest_of-rest : (text : List ℕ) → HasNoFeed text → rest_of text ≡ text
rest_of-rest text none = ap last_part (slice_split_none (λ c. c == 10) text (no_feed_test text none))

-- the parts with a line feed after each but the last
joined : (part : List ℕ) (parts : List (List ℕ)) → with_feeds (all_but_last (part ∷ parts)) ++ last_part (part ∷ parts) ≡ join_with_byte 10 (part ∷ parts)
joined part [] = refl
joined part (next ∷ parts) =
    append_assoc (part ++ 10 ∷ []) (with_feeds (all_but_last (next ∷ parts))) (last_part (next ∷ parts))
    ∙ append_assoc part (10 ∷ []) _ ∙ ap (λ more. part ++ 10 ∷ more) (joined next parts)

joined_some : (parts : List (List ℕ)) → 0 < length parts → with_feeds (all_but_last parts) ++ last_part parts ≡ join_with_byte 10 parts
joined_some [] some = absurd (omega arith)
joined_some (part ∷ parts) some = joined part parts

pub with_feeds-lines_of : (octets : List ℕ) → with_feeds (lines_of octets) ++ rest_of octets ≡ octets
with_feeds-lines_of octets =
    joined_some (slice_split (λ c. c == 10) octets) (parts_some octets) ∙ join_with_byte-slice_split 10 octets

-- a list with a line feed has one
feed_in : (hand text more : List ℕ) → hand ≡ text ++ 10 ∷ more → HasNoFeed hand → ⊥
feed_in hand text more is none =
    let within : length text < length hand = omega (arith, ap length is ∙ length-append text (10 ∷ more)) in
    none (length text) 0 within (ap (λ octets. get_or octets (length text) 0) is ∙ get_or_at text 10 more 0 (length text) refl)

feed_in_front : (hand text more : List ℕ) → IsLine text → hand ≡ text ++ 10 ∷ more → HasNoFeed (take (longest + 1) hand) → ⊥
feed_in_front hand text more line is none =
    let within : length text < length (take 4097 hand) = omega (arith, length-take 4097 hand, ap length is ∙ length-append text (10 ∷ more), line.0) in
    none (length text) 0 within
    (get_or-take 4097 hand (length text) 0 (omega (arith, line.0)) ∙ ap (λ octets. get_or octets (length text) 0) is ∙ get_or_at text 10 more 0 (length text) refl)

-- one line is at the front
same_line : (text more other rest : List ℕ) → HasNoFeed text → HasNoFeed other → text ++ 10 ∷ more ≡ other ++ 10 ∷ rest → (text ≡ other) × (more ≡ rest)
same_line text more other rest none none' same =
    let lines : text ∷ lines_of more ≡ other ∷ lines_of rest = sym (lines_of-line text more none) ∙ ap lines_of same ∙ lines_of-line other rest none' in
    let texts : text ≡ other = cc in
    let tails : 10 ∷ more ≡ 10 ∷ rest = append_cancel_left other (10 ∷ more) (10 ∷ rest) (ap (λ t. t ++ 10 ∷ more) (sym texts) ∙ same) in
    (texts, ap (drop 1) tails)

-- the four answers for the octets at hand, but for a failure
pub text_exact : (hand rest text more : List ℕ) (answer : Line) → Gives hand rest answer → IsLine text → hand ≡ text ++ 10 ∷ more
    → (text_of answer ≡ Some text) × (rest ≡ more)
text_exact hand rest text more (line.Text t) gives line is =
    let same = same_line t.now rest text more gives.0.1 line.1 (sym gives.1 ∙ is) in (ap Some same.0, same.1)
text_exact hand rest text more line.End gives line is = absurd (omega (arith, ap length gives.0, ap length is, length-append text (10 ∷ more)))
text_exact hand rest text more line.TooLong gives line is = absurd (feed_in_front hand text more line is gives.1)
text_exact hand rest text more line.Unended gives line is = absurd (feed_in hand text more is gives.2)
text_exact hand rest text more line.Failed gives line is = absurd (feed_in hand text more is gives.1)

pub too_long_exact : (hand rest : List ℕ) (answer : Line) → Gives hand rest answer
    → (ending_of answer ≡ Some ending.TooLong) ↔ ((longest < length hand) × HasNoFeed (take (longest + 1) hand))
too_long_exact hand rest (line.Text t) gives = (λ e. cc e, λ h. absurd (feed_in_front hand t.now rest gives.0 gives.1 h.1))
too_long_exact hand rest line.End gives = (λ e. cc e, λ h. absurd (omega (arith, ap length gives.0, h.0)))
too_long_exact hand rest line.TooLong gives = (λ _. (gives.0, gives.1), λ _. refl)
too_long_exact hand rest line.Unended gives = (λ e. cc e, λ h. absurd (omega (arith, gives.1, h.0)))
too_long_exact hand rest line.Failed gives = (λ e. cc e, λ h. absurd (omega (arith, gives.0, h.0)))

pub end_exact : (hand rest : List ℕ) (answer : Line) → Gives hand rest answer → ending_of answer ≢ Some ending.Failed
    → (ending_of answer ≡ Some ending.End) ↔ (hand ≡ [])
end_exact hand rest (line.Text t) gives whole =
    (λ e. cc e, λ h. absurd (omega (arith, ap length gives.1, ap length h, length-append t.now (10 ∷ rest))))
end_exact hand rest line.End gives whole = (λ _. gives.0, λ _. refl)
end_exact hand rest line.TooLong gives whole = (λ e. cc e, λ h. absurd (omega (arith, gives.0, ap length h)))
end_exact hand rest line.Unended gives whole = (λ e. cc e, λ h. absurd (omega (arith, gives.0, ap length h)))
end_exact hand rest line.Failed gives whole = absurd (whole refl)

pub unended_exact : (hand rest : List ℕ) (answer : Line) → Gives hand rest answer → ending_of answer ≢ Some ending.Failed
    → (ending_of answer ≡ Some ending.Unended) ↔ ((0 < length hand) × (length hand ≤ longest) × HasNoFeed hand)
unended_exact hand rest (line.Text t) gives whole = (λ e. cc e, λ h. absurd (feed_in hand t.now rest gives.1 h.2))
unended_exact hand rest line.End gives whole = (λ e. cc e, λ h. absurd (omega (arith, ap length gives.0, h.0)))
unended_exact hand rest line.TooLong gives whole = (λ e. cc e, λ h. absurd (omega (arith, gives.0, h.1)))
unended_exact hand rest line.Unended gives whole = (λ _. (gives.0, gives.1, gives.2), λ _. refl)
unended_exact hand rest line.Failed gives whole = absurd (whole refl)

-- more octets after those at hand: the answer is the same, unless it was given for want of them
more_behind : (hand rest more : List ℕ) (answer : Line) → Gives hand rest answer → ending_of answer ≢ Some ending.Failed
    → (ending_of answer ≡ Some ending.End → more ≡ []) → (ending_of answer ≡ Some ending.Unended → more ≡ [])
    → Gives (hand ++ more) (rest ++ more) answer
more_behind hand rest more (line.Text t) gives whole end unended =
    (gives.0, ap (λ octets. octets ++ more) gives.1 ∙ append_assoc t.now (10 ∷ rest) more)
more_behind hand rest more line.End gives whole end unended =
    (ap (λ octets. octets ++ more) gives.0 ∙ end refl, ap (λ octets. octets ++ more) gives.1)
more_behind hand rest more line.TooLong gives whole end unended = (
  omega (arith, gives.0, length-append hand more),
  subst HasNoFeed (sym (take-append-le 4097 hand more (omega (arith, gives.0)))) gives.1,
  ap (λ octets. octets ++ more) gives.2,
)
more_behind hand rest more line.Unended gives whole end unended =
    let same : hand ≡ hand ++ more = sym (append-nil hand) ∙ ap (λ octets. hand ++ octets) (sym (unended refl)) in (
      omega (arith, gives.0, ap length same),
      omega (arith, gives.1, ap length same),
      subst HasNoFeed same gives.2,
      ap (λ octets. octets ++ more) gives.3,
    )
more_behind hand rest more line.Failed gives whole end unended = absurd (whole refl)

left_at_end : (before after : Shown) (answer : Line) → ShowsEnding before after (ending_of answer) → IsTrue before.tells
    → (ending_of answer ≡ Some ending.End → after.left ≡ []) × (ending_of answer ≡ Some ending.Unended → after.left ≡ [])
left_at_end before after (line.Text t) shows tells = (λ e. cc e, λ e. cc e)
left_at_end before after line.End shows tells = (λ e. shows.end tells, λ e. cc e)
left_at_end before after line.TooLong shows tells = (λ e. cc e, λ e. cc e)
left_at_end before after line.Unended shows tells = (λ e. cc e, λ e. shows.end tells)
left_at_end before after line.Failed shows tells = (λ e. cc e, λ e. cc e)

pub gives_of_file : (old new : Reading) (before after : Shown) (answer : Line) → GivesNext old new before after answer
    → ShowsEnding before after (ending_of answer) → IsTrue before.tells → ending_of answer ≢ Some ending.Failed
    → Gives (old.rest ++ before.left) (new.rest ++ after.left) answer
gives_of_file old new before after answer next shows tells whole =
    let left = left_at_end before after answer shows tells in
    let all : (old.rest ++ next.octets) ++ after.left ≡ old.rest ++ before.left =
    append_assoc old.rest next.octets after.left ∙ ap (λ octets. old.rest ++ octets) (sym (next.took.left tells)) in
    subst (λ octets. Gives octets (new.rest ++ after.left) answer) all
    (more_behind (old.rest ++ next.octets) new.rest after.left answer next.gives whole left.0 left.1)

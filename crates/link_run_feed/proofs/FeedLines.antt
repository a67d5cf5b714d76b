-- The calls that read a feed, one after another.
use Rattle.std.proofs.Common.{◌≡◌, ◌≢◌, ◌≤◌, ◌+◌, ◌⊎◌, inl, inr, ◌++◌, ◌∷◌, [], ℕ, List, length, arith, refl, sym, ap, subst, ◌∙◌, append_assoc, append-nil, IsTrue, true, false, Some, None, Ok, Err, MatchOption, Bool}
use Rattle.std.specs.Prelude.{nat_lt, codes, bytes_eq}
use Rattle.std.proofs.lemmas.Bool.{cond-true, cond-false, le-ltb}
use Rattle.link_base.specs.Faults.{Rose}
use Rattle.link_base.specs.Shelf.{Shown}
use Rattle.link_base.specs.Sink.{Taken, AppendsFront}
use Rattle.link_text.specs.Gathered.{Gathers, BreaksOff}
use Rattle.link_text.specs.Lines.{lines_of, rest_of, with_feeds, IsLine, Reading, Gives, GivesNext, Keeps, ShowsEnding, ending_of}
use Rattle.link_text.specs.declared.lines.Line.{Line}
use Rattle.link_text.specs.declared.lines.Line.TheVariants as line
use Rattle.link_text.specs.declared.lines.Ending.{Ending}
use Rattle.link_text.specs.declared.lines.Ending.TheVariants as stopped
use Rattle.link_text.proofs.LinesOf.{gives_of_file, end_exact, lines_of-line, rest_of-line, rest_of-rest}
use Rattle.link_text.proofs.Next.{GivesLine, GivesNone}
use Rattle.link_text.proofs.Gathering.{front_of_more, appends_none, appends_then}
use Rattle.link_run_feed.specs.declared.reason.Reason.{Reason}
use Rattle.link_run_feed.specs.declared.reason.Reason.TheVariants as reason
use Rattle.link_run_feed.specs.declared.status.Status.{Status}
use Rattle.link_run_feed.specs.declared.status.Status.TheVariants.{Done, FeedBad, ReadFault, WriteFault}
use Rattle.link_run_feed.specs.Answer.{Answer}
use Rattle.link_run_feed.specs.Given.{IsGiven}
use Rattle.link_run_feed.specs.Reasons.{bad_line}
use Rattle.link_run_feed.specs.Feed.{At, start, in_lines, ended, is_bad, Read, FeedForm, by_line, by_end, by_header, line_step, read_more, read_items, step_at, refused, answer_of, read_on, answer_on, is_good}
use Rattle.link_run_feed.specs.FeedCalls.{GoesOn, IsStopped, Concludes, LeadTo, after_last}
use Rattle.link_run_feed.proofs.Folds.{IsOpen, in_front, with_front, items_in_front, answer_in_front, answer_grows, answer_on-line, read_on-rest, answer_on-bad, answer_on-unended, answer_on-long, answer_on-after, answer_on-done}
use Rattle.link_run_feed.proofs.Counting.{given_behind}

-- the octets that a line is taken off
pub unread_line : (old new : Reading) (before after : Shown) (text : List ℕ) → GivesLine old new before after text → IsTrue before.tells
    → old.rest ++ before.left ≡ text ++ 10 ∷ (new.rest ++ after.left)
unread_line old new before after text line told =
    ap (λ left. old.rest ++ left) (line.took.left told) ∙ sym (append_assoc old.rest line.octets after.left)
    ∙ ap (λ hand. hand ++ after.left) line.hand ∙ append_assoc text (10 ∷ new.rest) after.left

-- the octets at hand where no line is given, and those left
pub unread_none : (old new : Reading) (before after : Shown) (ending : Ending) (none : GivesNone old new before after ending) → IsTrue before.tells
    → old.rest ++ before.left ≡ (old.rest ++ none.octets) ++ after.left
unread_none old new before after ending none told = ap (λ left. old.rest ++ left) (none.took.left told) ∙ sym (append_assoc old.rest none.octets after.left)

module _ {S : Type 0} (form : FeedForm S) where
  -- one line was read, and its text gathered
  pub goes_on_line : (at at' : At S) (number : ℕ) (settled hand hand' text : List ℕ) (old new : Reading) (before after : Shown) (sink sink' : Taken)
      → ((t : List ℕ) → read_more at number t (step_at form at text) ≡ record { at = at'; number = number + 1; text = t ++ settled })
      → GivesLine old new before after text → IsTrue before.tells → Gathers settled hand sink hand' sink'
      → GoesOn form (record { at = at; number = number; text = hand }) (old.rest ++ before.left) sink at' (number + 1) hand' (new.rest ++ after.left) sink'
  goes_on_line at at' number settled hand hand' text old new before after sink sink' step line told gathers =
      let r : Read S = record { at = at; number = number; text = hand } in record {
        moved = gathers.moved;
        written = gathers.written;
        given = text ++ 10 ∷ [];
        all = unread_line old new before after text line told ∙ sym (append_assoc text (10 ∷ []) (new.rest ++ after.left));
        lines = λ more.
            ap (λ octets. read_items (step_at form) r (lines_of octets)) (append_assoc text (10 ∷ []) more)
            ∙ ap (read_items (step_at form) r) (lines_of-line text more line.is_line.1)
            ∙ ap (λ q. read_items (step_at form) q (lines_of more)) (step hand)
            ∙ ap (λ (t : List ℕ). read_items (step_at form) (record { at = at'; number = number + 1; text = t }) (lines_of more)) gathers.kept;
        rest = λ more. ap rest_of (append_assoc text (10 ∷ []) more) ∙ rest_of-line text more line.is_line.1;
      }

  pub goes_on_then : (r : Read S) (at1 at2 : At S) (n1 n2 : ℕ) (hand1 hand2 unread unread1 unread2 : List ℕ) (sink sink1 sink2 : Taken)
      → GoesOn form r unread sink at1 n1 hand1 unread1 sink1 → GoesOn form (record { at = at1; number = n1; text = hand1 }) unread1 sink1 at2 n2 hand2 unread2 sink2
      → GoesOn form r unread sink at2 n2 hand2 unread2 sink2
  goes_on_then r at1 at2 n1 n2 hand1 hand2 unread unread1 unread2 sink sink1 sink2 first second =
      let mid : Read S = record { at = at1; number = n1; text = hand1 } in
      let last : Read S = record { at = at2; number = n2; text = second.moved ++ hand2 } in record {
        moved = first.moved ++ second.moved;
        written = appends_then first.moved second.moved sink sink1 sink2 first.written second.written;
        given = first.given ++ second.given;
        all = first.all ∙ ap (λ octets. first.given ++ octets) second.all ∙ sym (append_assoc first.given second.given unread2);
        lines = λ more.
            ap (λ octets. read_items (step_at form) r (lines_of octets)) (append_assoc first.given second.given more)
            ∙ first.lines (second.given ++ more)
            ∙ items_in_front (step_at form) first.moved mid (lines_of (second.given ++ more))
            ∙ ap (in_front first.moved) (second.lines more)
            ∙ sym (items_in_front (step_at form) first.moved last (lines_of more))
            ∙ ap (λ (t : List ℕ). read_items (step_at form) (record { at = at2; number = n2; text = t }) (lines_of more)) (sym (append_assoc first.moved second.moved hand2));
        rest = λ more. ap rest_of (append_assoc first.given second.given more) ∙ first.rest (second.given ++ more) ∙ second.rest more;
      }

  -- nothing was read yet
  pub goes_on_none : (at : At S) (number : ℕ) (hand unread : List ℕ) (sink : Taken) → GoesOn form (record { at = at; number = number; text = hand }) unread sink at number hand unread sink
  goes_on_none at number hand unread sink = record {
    moved = [];
    written = appends_none sink;
    given = [];
    all = refl;
    lines = λ more. refl;
    rest = λ more. refl;
  }

  -- text that is settled was gathered, and no line was read
  pub goes_on_gathered : (at : At S) (number : ℕ) (settled hand hand' unread : List ℕ) (sink sink' : Taken) → Gathers settled hand sink hand' sink'
      → GoesOn form (record { at = at; number = number; text = hand ++ settled }) unread sink at number hand' unread sink'
  goes_on_gathered at number settled hand hand' unread sink sink' gathers = record {
    moved = gathers.moved;
    written = gathers.written;
    given = [];
    all = refl;
    lines = λ more. ap (λ (t : List ℕ). read_items (step_at form) (record { at = at; number = number; text = t }) (lines_of more)) gathers.kept;
    rest = λ more. refl;
  }

  module _ (r : Read S) (at : At S) (number : ℕ) (hand unread unread' : List ℕ) (sink sink' : Taken) (on : GoesOn form r unread sink at number hand unread' sink') where
    read_on-goes : (more : List ℕ) → read_on form r (on.given ++ more) ≡ in_front on.moved (read_on form (record { at = at; number = number; text = hand }) more)
    unfolding read_on
    read_on-goes more = on.lines more ∙ items_in_front (step_at form) on.moved (record { at = at; number = number; text = hand }) (lines_of more)

    answer_on-goes : (more : List ℕ) → answer_on form r (on.given ++ more) ≡ with_front on.moved (answer_on form (record { at = at; number = number; text = hand }) more)
    unfolding answer_on
    answer_on-goes more =
        ap (λ q. answer_of form q (rest_of (on.given ++ more))) (read_on-goes more)
        ∙ ap (answer_of form (in_front on.moved (read_on form (record { at = at; number = number; text = hand }) more))) (on.rest more)
        ∙ let q = read_on form (record { at = at; number = number; text = hand }) more in answer_in_front form.lines on.moved q.at q.number q.text (rest_of more)

    answer_on-all : answer_on form r unread ≡ with_front on.moved (answer_on form (record { at = at; number = number; text = hand }) unread')
    answer_on-all = ap (answer_on form r) on.all ∙ answer_on-goes unread'

    -- what is concluded after some lines is concluded before them
    pub concludes_then : (shelf mid shelf' : Shown) (last : Taken) (result : Status) → sink'.faults ≡ sink.faults → mid.chosen ≡ shelf.chosen
        → Concludes form (record { at = at; number = number; text = hand }) unread' mid shelf' sink' last result → Concludes form r unread shelf shelf' sink last result
    concludes_then shelf mid shelf' last result same chosen concludes = record {
      answer = with_front on.moved concludes.answer;
      given = given_behind concludes.answer.status result on.moved concludes.answer.text sink sink' last on.written same concludes.given;
      due = due_by concludes.due;
      chosen = concludes.chosen ∙ chosen;
    }
      where
        due_by : (concludes.answer ≡ answer_on form (record { at = at; number = number; text = hand }) unread') ⊎ IsStopped form (record { at = at; number = number; text = hand }) unread' mid shelf' concludes.answer
            → (with_front on.moved concludes.answer ≡ answer_on form r unread) ⊎ IsStopped form r unread shelf shelf' (with_front on.moved concludes.answer)
        due_by (inl is) = inl (ap (with_front on.moved) is ∙ sym answer_on-all)
        due_by (inr stop) =
            inr (record {
              status = stop.status;
              taken = on.given ++ stop.taken;
              all = on.all ∙ ap (λ octets. on.given ++ octets) stop.all ∙ sym (append_assoc on.given stop.taken shelf'.left);
              settled = ap (λ t. on.moved ++ t) stop.settled ∙ ap (λ (q : Read S). q.text) (sym (read_on-goes stop.taken));
              good = ap (λ (q : Read S). is_good q.at) (read_on-goes stop.taken) ∙ stop.good;
              short = subst (λ rest. length rest ≤ 4096) (sym (on.rest stop.taken)) stop.short;
              failed = stop.failed ∙ chosen;
              more = stop.more;
              grows = ap (λ (a : Answer). a.text) answer_on-all ∙ ap (λ t. on.moved ++ t) stop.grows ∙ sym (append_assoc on.moved concludes.answer.text stop.more);
            })

  -- the answer is given
  pub concludes_here : (r : Read S) (unread : List ℕ) (shelf shelf' : Shown) (sink sink' : Taken) (result : Status) (answer : Answer)
      → answer_on form r unread ≡ answer → IsGiven answer.status answer.text sink sink' result → shelf'.chosen ≡ shelf.chosen → Concludes form r unread shelf shelf' sink sink' result
  concludes_here r unread shelf shelf' sink sink' result answer is given chosen = record { answer = answer; given = given; due = inl (sym is); chosen = chosen }

  -- a write failed within the text that is settled
  pub concludes_cut : (r : Read S) (unread : List ℕ) (shelf shelf' : Shown) (sink sink' : Taken) → AppendsFront r.text sink sink' → shelf'.chosen ≡ shelf.chosen
      → sink.faults ≤ sink'.faults → Rose sink.faults sink'.faults → Concludes form r unread shelf shelf' sink sink' WriteFault
  concludes_cut r unread shelf shelf' sink sink' front chosen never_falls rose =
      let grows = answer_grows form r unread in
      concludes_here r unread shelf shelf' sink sink' WriteFault (answer_on form r unread) refl
      (inr (record {
        status = refl;
        front = subst (λ t. AppendsFront t sink sink') (sym grows.1) (front_of_more r.text grows.0 sink sink' front);
        never_falls = never_falls;
        rose = rose;
      })) chosen

  -- an item was bad
  pub concludes_bad : (why : Reason) (number : ℕ) (hand unread : List ℕ) (shelf shelf' : Shown) (sink sink' : Taken) (result : Status)
      → IsGiven (FeedBad number why) (hand ++ bad_line number why) sink sink' result → shelf'.chosen ≡ shelf.chosen
      → Concludes form (record { at = is_bad why; number = number; text = hand }) unread shelf shelf' sink sink' result
  concludes_bad why number hand unread shelf shelf' sink sink' result given chosen =
      concludes_here (record { at = is_bad why; number = number; text = hand }) unread shelf shelf' sink sink' result (refused hand number why) (answer_on-bad form why number hand unread) given chosen

  -- a read failed before a line was at hand
  pub concludes_stopped : (r : Read S) (old new : Reading) (before after : Shown) (sink sink' : Taken) (result : Status) (none : GivesNone old new before after stopped.Failed)
      → is_good r.at ≡ true → IsTrue before.tells → after.chosen ≡ before.chosen → after.failed ≡ before.chosen → IsGiven ReadFault r.text sink sink' result
      → Concludes form r (old.rest ++ before.left) before after sink sink' result
  concludes_stopped r old new before after sink sink' result none good told chosen failed given =
      let taken = old.rest ++ none.octets in
      let grows = answer_grows form r (old.rest ++ before.left) in record {
        answer = record { status = ReadFault; text = r.text };
        given = given;
        due = inr (record {
          status = refl;
          taken = taken;
          all = unread_none old new before after stopped.Failed none told;
          settled = ap (λ (q : Read S). q.text) (sym (read_on-rest form r taken none.stops.1));
          good = ap (λ (q : Read S). is_good q.at) (read_on-rest form r taken none.stops.1) ∙ good;
          short = subst (λ rest. length rest ≤ 4096) (sym (rest_of-rest taken none.stops.1)) none.stops.0;
          failed = failed;
          more = grows.0;
          grows = grows.1;
        });
        chosen = chosen;
      }

  -- a write failed within the text of a good line
  pub concludes_broken : (at at' : At S) (number : ℕ) (settled hand text : List ℕ) (old new : Reading) (before after : Shown) (sink sink' : Taken)
      → ((t : List ℕ) → read_more at number t (step_at form at text) ≡ record { at = at'; number = number + 1; text = t ++ settled })
      → GivesLine old new before after text → IsTrue before.tells → after.chosen ≡ before.chosen
      → BreaksOff settled hand sink sink' → sink.faults ≤ sink'.faults → Rose sink.faults sink'.faults
      → Concludes form (record { at = at; number = number; text = hand }) (old.rest ++ before.left) before after sink sink' WriteFault
  concludes_broken at at' number settled hand text old new before after sink sink' step line told chosen front never_falls rose =
      let r : Read S = record { at = at; number = number; text = hand } in
      let next : Read S = record { at = at'; number = number + 1; text = hand ++ settled } in
      let more = new.rest ++ after.left in
      let is : answer_on form r (old.rest ++ before.left) ≡ answer_on form next more =
      ap (answer_on form r) (unread_line old new before after text line told) ∙ answer_on-line form r text more line.is_line.1 ∙ ap (λ q. answer_on form q more) (step hand) in
      let grows = answer_grows form next more in
      concludes_here r (old.rest ++ before.left) before after sink sink' WriteFault (answer_on form next more) is
      (inr (record {
        status = refl;
        front = subst (λ t. AppendsFront t sink sink') (sym grows.1) (front_of_more (hand ++ settled) grows.0 sink sink' front);
        never_falls = never_falls;
        rose = rose;
      })) chosen

-- what an answer other than a failure says of all that is unread
unread_gives : (old new : Reading) (before after : Shown) (answer : Line) → old.ended ≡ None → Keeps old new before after answer → ShowsEnding before after (ending_of answer)
    → IsTrue before.tells → ending_of answer ≢ Some stopped.Failed → Gives (old.rest ++ before.left) (new.rest ++ after.left) answer
unread_gives old new before after answer fresh keeps shows told no_fault =
    gives_of_file old new before after answer (subst (λ o. MatchOption o (GivesNext old new before after answer) (λ _. new ≡ old)) fresh keeps) shows told no_fault

-- an answer other than the end comes of some octets
some_unread : (old new : Reading) (before after : Shown) (answer : Line) → old.ended ≡ None → Keeps old new before after answer → ShowsEnding before after (ending_of answer)
    → IsTrue before.tells → answer ≢ line.End → answer ≢ line.Failed → old.rest ++ before.left ≢ []
some_unread old new before after answer fresh keeps shows told no_end no_fault none =
    let gives = unread_gives old new before after answer fresh keeps shows told (λ is. no_fault (failed_of answer is)) in
    no_end (end_of answer ((end_exact (old.rest ++ before.left) (new.rest ++ after.left) answer gives (λ is. no_fault (failed_of answer is))).1 none))
  where
    failed_of : (answer : Line) → ending_of answer ≡ Some stopped.Failed → answer ≡ line.Failed
    failed_of (line.Text text) is = absurd (cc)
    failed_of line.End is = absurd (cc)
    failed_of line.TooLong is = absurd (cc)
    failed_of line.Unended is = absurd (cc)
    failed_of line.Failed is = refl

    end_of : (answer : Line) → ending_of answer ≡ Some stopped.End → answer ≡ line.End
    end_of (line.Text text) is = absurd (cc)
    end_of line.End is = refl
    end_of line.TooLong is = absurd (cc)
    end_of line.Unended is = absurd (cc)
    end_of line.Failed is = absurd (cc)

-- What the reader answers where it gives no line.
module _ {S : Type 0} (form : FeedForm S) (r : Read S) (old new : Reading) (before after : Shown) (answer : Line) (sink sink' : Taken) (result : Status)
    (fresh : old.ended ≡ None) (keeps : Keeps old new before after answer) (shows : ShowsEnding before after (ending_of answer)) (told : IsTrue before.tells) (chosen : after.chosen ≡ before.chosen) where
  pub concludes_long : IsOpen r.at → answer ≡ line.TooLong → IsGiven (FeedBad (r.number + 1) reason.Long) (r.text ++ bad_line (r.number + 1) reason.Long) sink sink' result
      → Concludes form r (old.rest ++ before.left) before after sink sink' result
  concludes_long open_at is given =
      let gives = subst (Gives (old.rest ++ before.left) (new.rest ++ after.left)) is (unread_gives old new before after answer fresh keeps shows told (λ fault. absurd (let e = ap ending_of is in cc))) in
      concludes_here form r (old.rest ++ before.left) before after sink sink' result (refused r.text (r.number + 1) reason.Long)
      (answer_on-long form r (old.rest ++ before.left) open_at gives.0 gives.1) given chosen

  pub concludes_unended : IsOpen r.at → (answer ≡ line.End) ⊎ (answer ≡ line.Unended) → IsGiven (FeedBad (r.number + 1) reason.Unended) (r.text ++ bad_line (r.number + 1) reason.Unended) sink sink' result
      → Concludes form r (old.rest ++ before.left) before after sink sink' result
  concludes_unended open_at (inl is) given =
      let gives = subst (Gives (old.rest ++ before.left) (new.rest ++ after.left)) is (unread_gives old new before after answer fresh keeps shows told (λ fault. absurd (let e = ap ending_of is in cc))) in
      concludes_here form r (old.rest ++ before.left) before after sink sink' result (refused r.text (r.number + 1) reason.Unended)
      (ap (answer_on form r) gives.0 ∙ answer_on-unended form r [] open_at (omega arith) (λ k d within. absurd (omega arith))) given chosen
  concludes_unended open_at (inr is) given =
      let gives = subst (Gives (old.rest ++ before.left) (new.rest ++ after.left)) is (unread_gives old new before after answer fresh keeps shows told (λ fault. absurd (let e = ap ending_of is in cc))) in
      concludes_here form r (old.rest ++ before.left) before after sink sink' result (refused r.text (r.number + 1) reason.Unended)
      (answer_on-unended form r (old.rest ++ before.left) open_at gives.1 gives.2) given chosen

-- What follows the last line.
module _ {S : Type 0} (form : FeedForm S) (s : S) (number : ℕ) (hand : List ℕ) (old new : Reading) (before after : Shown) (answer : Line) (sink sink' : Taken) (result : Status)
    (fresh : old.ended ≡ None) (keeps : Keeps old new before after answer) (shows : ShowsEnding before after (ending_of answer)) (told : IsTrue before.tells) where
  pub concludes_done : after.chosen ≡ before.chosen → answer ≡ line.End → IsGiven Done (hand ++ form.lines.closing s) sink sink' result
      → Concludes form (record { at = ended s; number = number; text = hand }) (old.rest ++ before.left) before after sink sink' result
  concludes_done chosen is given =
      let gives = subst (Gives (old.rest ++ before.left) (new.rest ++ after.left)) is (unread_gives old new before after answer fresh keeps shows told (λ fault. absurd (let e = ap ending_of is in cc))) in
      concludes_here form (record { at = ended s; number = number; text = hand }) (old.rest ++ before.left) before after sink sink' result (record { status = Done; text = hand ++ form.lines.closing s })
      (answer_on-done form s number hand (old.rest ++ before.left) gives.0) given chosen

  pub concludes_after : after.chosen ≡ before.chosen → answer ≢ line.End → answer ≢ line.Failed → IsGiven (FeedBad (number + 1) reason.After) (hand ++ bad_line (number + 1) reason.After) sink sink' result
      → Concludes form (record { at = ended s; number = number; text = hand }) (old.rest ++ before.left) before after sink sink' result
  concludes_after chosen no_end no_fault given =
      concludes_here form (record { at = ended s; number = number; text = hand }) (old.rest ++ before.left) before after sink sink' result (refused hand (number + 1) reason.After)
      (answer_on-after form s number hand (old.rest ++ before.left) (some_unread old new before after answer fresh keeps shows told no_end no_fault)) given chosen

-- What a line is.
module _ {S : Type 0} (form : FeedForm S) (number : ℕ) (line : List ℕ) (short : length line ≤ 4096) where
  line_step-short : (s : S) → step_at form (in_lines s) line ≡ line_step form.lines s line
  line_step-short s = cond-false (nat_lt 4096 (length line)) _ _ (le-ltb 4096 (length line) short)

  line_step-other : (s : S) → bytes_eq line (codes "end") ≡ false → step_at form (in_lines s) line ≡ by_line (form.lines.line s line)
  line_step-other s other = line_step-short s ∙ cond-false (bytes_eq line (codes "end")) _ _ other

  pub step_good : (s next : S) (settled : List ℕ) → bytes_eq line (codes "end") ≡ false → form.lines.line s line ≡ Ok (next, settled)
      → (t : List ℕ) → read_more (in_lines s) number t (step_at form (in_lines s) line) ≡ record { at = in_lines next; number = number + 1; text = t ++ settled }
  step_good s next settled other is t = ap (read_more (in_lines s) number t) (line_step-other s other ∙ ap by_line is)

  pub step_bad : (s : S) (why : Reason) → bytes_eq line (codes "end") ≡ false → form.lines.line s line ≡ Err why
      → (t : List ℕ) → read_more (in_lines s) number t (step_at form (in_lines s) line) ≡ record { at = is_bad why; number = number + 1; text = t ++ [] }
  step_bad s why other is t = ap (read_more (in_lines s) number t) (line_step-other s other ∙ ap by_line is)

  end_more : (s : S) (may_end : Bool) (given : S × List ℕ) (t : List ℕ) → read_more (in_lines s) number t (by_end may_end given) ≡ after_last may_end given (number + 1) t
  end_more s true given t = refl
  end_more s false given t = refl

  pub step_end : (s : S) → bytes_eq line (codes "end") ≡ true
      → (t : List ℕ) → read_more (in_lines s) number t (step_at form (in_lines s) line) ≡ after_last (form.lines.may_end s) (form.lines.ending s) (number + 1) t
  step_end s is t =
      ap (read_more (in_lines s) number t) (line_step-short s ∙ cond-true (bytes_eq line (codes "end")) _ _ is) ∙ end_more s (form.lines.may_end s) (form.lines.ending s) t

  header_step : step_at form start line ≡ by_header (form.header line)
  header_step = cond-false (nat_lt 4096 (length line)) _ _ (le-ltb 4096 (length line) short)

  pub step_header : (s : S) (settled : List ℕ) → form.header line ≡ Some (s, settled)
      → (t : List ℕ) → read_more start number t (step_at form start line) ≡ record { at = in_lines s; number = number + 1; text = t ++ settled }
  step_header s settled is t = ap (read_more start number t) (header_step ∙ ap by_header is)

  pub step_no_header : form.header line ≡ None
      → (t : List ℕ) → read_more start number t (step_at form start line) ≡ record { at = is_bad reason.Header; number = number + 1; text = t ++ [] }
  step_no_header is t = ap (read_more start number t) (header_step ∙ ap by_header is)

-- The last line came, where it may or may not.
module _ {S : Type 0} (form : FeedForm S) (s : S) (number : ℕ) (hand unread : List ℕ) (shelf shelf' : Shown) (sink sink' : Taken) (result : Status) where
  abbrev pub ConcludesEnd : Bool → Type 0
  ConcludesEnd may_end = Concludes form (after_last may_end (form.lines.ending s) number hand) unread shelf shelf' sink sink' result

  pub concludes_early : form.lines.may_end s ≡ false → IsGiven (FeedBad number reason.Count) (hand ++ bad_line number reason.Count) sink sink' result → shelf'.chosen ≡ shelf.chosen
      → ConcludesEnd (form.lines.may_end s)
  concludes_early may_not given chosen =
      subst ConcludesEnd (sym may_not)
      (subst (λ (t : List ℕ). Concludes form (record { at = is_bad reason.Count; number = number; text = t }) unread shelf shelf' sink sink' result) (sym (append-nil hand))
      (concludes_bad form reason.Count number hand unread shelf shelf' sink sink' result given chosen))

  pub concludes_end : form.lines.may_end s ≡ true → Concludes form (record { at = ended (form.lines.ending s).0; number = number; text = hand ++ (form.lines.ending s).1 }) unread shelf shelf' sink sink' result
      → ConcludesEnd (form.lines.may_end s)
  concludes_end may concludes = subst ConcludesEnd (sym may) concludes

  -- the text that the last line settles was gathered
  pub concludes_gathered : (hand' : List ℕ) (sink1 : Taken) → form.lines.may_end s ≡ true → Gathers (form.lines.ending s).1 hand sink hand' sink1 → sink1.faults ≡ sink.faults
      → Concludes form (record { at = ended (form.lines.ending s).0; number = number; text = hand' }) unread shelf shelf' sink1 sink' result → ConcludesEnd (form.lines.may_end s)
  concludes_gathered hand' sink1 may gathers same concludes =
      let e = (form.lines.ending s).0 in
      let settled = (form.lines.ending s).1 in
      concludes_end may
      (concludes_then form (record { at = ended e; number = number; text = hand ++ settled }) (ended e) number hand' unread unread sink sink1
      (goes_on_gathered form (ended e) number settled hand hand' unread sink sink1 gathers) shelf shelf shelf' sink' result same refl concludes)

-- ---- lines that are read ahead, which settle no text

module _ {S : Type 0} (form : FeedForm S) where
  -- one line was read, which settles no text
  one_ahead : (s next : S) (number : ℕ) (hand text after : List ℕ) (sink : Taken) → IsLine text → bytes_eq text (codes "end") ≡ false
      → form.lines.line s text ≡ Ok (next, [])
      → GoesOn form (record { at = in_lines s; number = number; text = hand }) (text ++ 10 ∷ after) sink (in_lines next) (number + 1) hand after sink
  one_ahead s next number hand text after sink is_line other reads =
      let r : Read S = record { at = in_lines s; number = number; text = hand } in
      let step = step_good form number text is_line.0 s next [] other reads in record {
        moved = [];
        written = appends_none sink;
        given = text ++ 10 ∷ [];
        all = sym (append_assoc text (10 ∷ []) after);
        lines = λ more.
            ap (λ octets. read_items (step_at form) r (lines_of octets)) (append_assoc text (10 ∷ []) more)
            ∙ ap (read_items (step_at form) r) (lines_of-line text more is_line.1)
            ∙ ap (λ q. read_items (step_at form) q (lines_of more)) (step hand)
            ∙ ap (λ (t : List ℕ). read_items (step_at form) (record { at = in_lines next; number = number + 1; text = t }) (lines_of more)) (append-nil hand);
        rest = λ more. ap rest_of (append_assoc text (10 ∷ []) more) ∙ rest_of-line text more is_line.1;
      }

  pub goes_on_ahead : (s next : S) (number : ℕ) (hand : List ℕ) (lines : List (List ℕ)) (after : List ℕ) (sink : Taken) → LeadTo form.lines s lines next
      → GoesOn form (record { at = in_lines s; number = number; text = hand }) (with_feeds lines ++ after) sink (in_lines next) (number + length lines) hand after sink
  goes_on_ahead s next number hand [] after sink lead =
      subst (λ t. GoesOn form (record { at = in_lines s; number = number; text = hand }) after sink (in_lines t) (number + 0) hand after sink) lead
      (subst (λ n. GoesOn form (record { at = in_lines s; number = number; text = hand }) after sink (in_lines s) n hand after sink) (omega arith)
      (goes_on_none form (in_lines s) number hand after sink))
  goes_on_ahead s next number hand (line ∷ lines) after sink lead =
      let mid = lead.2.0 in
      let r : Read S = record { at = in_lines s; number = number; text = hand } in
      let rest = with_feeds lines ++ after in
      let whole : with_feeds (line ∷ lines) ++ after ≡ line ++ 10 ∷ rest = append_assoc (line ++ 10 ∷ []) (with_feeds lines) after ∙ append_assoc line (10 ∷ []) rest in
      let count : number + 1 + length lines ≡ number + length (line ∷ lines) = omega arith in
      subst (λ octets. GoesOn form r octets sink (in_lines next) (number + length (line ∷ lines)) hand after sink) (sym whole)
      (subst (λ n. GoesOn form r (line ++ 10 ∷ rest) sink (in_lines next) n hand after sink) count
      (goes_on_then form r (in_lines mid) (in_lines next) (number + 1) (number + 1 + length lines) hand hand (line ++ 10 ∷ rest) rest after sink sink sink
      (one_ahead s mid number hand line rest sink lead.0 lead.1 lead.2.1)
      (goes_on_ahead mid next (number + 1) hand lines after sink lead.2.2)))

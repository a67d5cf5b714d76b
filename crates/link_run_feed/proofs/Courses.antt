-- The promise of a call, from what each of its steps leaves.
use Rattle.std.proofs.Common.{IsTrue, ◌≡◌, ◌≢◌, ◌≤◌, ◌<◌, ◌+◌, ◌⊎◌, inl, inr, ◌++◌, ◌∷◌, [], ℕ, zero, suc, List, true, false, Bool, length, arith, refl, sym, ap, subst, ◌∙◌, Option, Some, None, get_or, append-nil}
use Rattle.std.specs.Prelude.{Contains, nat_le, ◌&&◌, is_some, if◌then◌else◌}
use Rattle.std.specs.FinMap.{get}
use Rattle.std.proofs.lemmas.List.{append_cancel_right}
use Rattle.std.proofs.lemmas.Option.{same_Some}
use Rattle.link_base.specs.Faults.{Rose}
use Rattle.link_base.specs.Shelf.{Files, Shown, SameFiles, Opens, FailsToOpen}
use Rattle.link_base.specs.Sink.{Taken, Appends, AppendsFront}
use Rattle.link_text.specs.Lines.{rest_of}
use Rattle.link_text.proofs.Gathering.{appends_none, front_of_more, all_front}
use Rattle.link_run_feed.specs.declared.reason.Reason.{Reason}
use Rattle.link_run_feed.specs.declared.status.Status.{Status}
use Rattle.link_run_feed.specs.declared.status.Status.TheVariants.{FeedBad, ReadFault, WriteFault, NoMemory}
use Rattle.link_run_feed.specs.Answer.{Answer, is_answer}
use Rattle.link_run_feed.specs.FaultCounts.{FaultCounts, CountsReads}
use Rattle.link_run_feed.specs.Course.{Course, reached, says, on_feed, after_whole, answer_on_file, feed_names}
use Rattle.link_run_feed.specs.Feed.{FeedForm, Read, At, begun, answer_on, read_on, feed_answer, settled, is_front}
use Rattle.link_run_feed.specs.FeedCalls.{Concludes, IsStopped, WantsMemory}
use Rattle.link_run_feed.specs.Given.{IsGiven}
use Rattle.link_run_feed.specs.Promises.{Promises, IsComplete, Told, StandsAt, LeavesSettled, LeavesNothing, LeavesBadLine, IsReached, IsSelected, IsTakenFeed}
use Rattle.link_run_feed.specs.Reasons.{bad_line}
use Rattle.link_run_feed.proofs.Counting.{counted_ok, counted_err, reads_stay, reads_failed, reads_then, files_stay}
use Rattle.std.proofs.lemmas.Bool.{le-leb}
use Rattle.std.proofs.lemmas.List.Elements.{Contains-append_left, Contains-append_right, Contains-append_cases}
use Rattle.link_run_feed.specs.Course.{on_file, on_octets}
use Rattle.link_run_feed.specs.Feed.{LineForm, start, in_lines, ended, is_bad, answer_at}

-- the one name of a list of one
the_one : (one name : List ℕ) → Contains (one ∷ []) name → one ≡ name
the_one one name h = only one name h.0 h.1 h.2
  where
    only : (one name : List ℕ) (k : ℕ) → k < 1 → get_or (one ∷ []) k name ≡ name → one ≡ name
    only one name zero within e = e
    only one name (suc k) within e = absurd (omega arith)

in_one : (name : List ℕ) → Contains (name ∷ []) name
in_one name = (0, omega arith, refl)

in_rest : (name other : List ℕ) (names : List (List ℕ)) → Contains names other → Contains (name ∷ names) other
in_rest name other names h = Contains-append_right (name ∷ []) names other h

first_in : (name : List ℕ) (names : List (List ℕ)) → Contains (name ∷ names) name
first_in name names = Contains-append_left (name ∷ []) names name (in_one name)

no_answer : (status failure : Status) → is_answer status ≡ true → is_answer failure ≡ false → status ≡ failure → ⊥
no_answer status failure answers fails same = let e = ap is_answer same in absurd (cc)

-- a name is that of a file, or of none
named : (name : List ℕ) (found : Option (List ℕ)) → ((if is_some found then Some name else None) ≡ Some name) ⊎ (((if is_some found then Some name else None) ≡ None) × (found ≡ None))
named name None = inr (refl, refl)
named name (Some octets) = inl refl

pub select_failed : (name : List ℕ) (old new : Shown) → FailsToOpen name old new → (new.failed ≡ Some name) ⊎ ((new.failed ≡ None) × (get old.held name ≡ None))
select_failed name old new fails = elim (named name (get old.held name)) [
  | inl held ↦ inl (fails.failed ∙ held)
  | inr none ↦ inr (fails.failed ∙ none.0, none.1)
]

-- What the answers to a feed are.
answers_at : {S : Type 0} (form : LineForm S) (at : At S) (number : ℕ) (text rest : List ℕ) → is_answer (answer_at form at number text rest).status ≡ true
answers_at form start number text rest = refl
answers_at form (in_lines s) number text rest = refl
answers_at form (ended s) number text [] = refl
answers_at form (ended s) number text (c ∷ rest) = refl
answers_at form (is_bad why) number text rest = refl

same_line : (text : List ℕ) (number line : ℕ) (why reason : Reason) → FeedBad number why ≡ FeedBad line reason → text ++ bad_line number why ≡ text ++ bad_line line reason
same_line text number line why reason same =
    let numbers : number ≡ line = cc in
    let reasons : why ≡ reason = cc in
    ap (λ n. text ++ bad_line n why) numbers ∙ ap (λ r. text ++ bad_line line r) reasons

bad_at : {S : Type 0} (form : LineForm S) (at : At S) (number : ℕ) (text rest : List ℕ) (line : ℕ) (reason : Reason) → (answer_at form at number text rest).status ≡ FeedBad line reason
    → (answer_at form at number text rest).text ≡ text ++ bad_line line reason
bad_at form start number text rest line reason is = same_line text (number + 1) line _ reason is
bad_at form (in_lines s) number text rest line reason is = same_line text (number + 1) line _ reason is
bad_at form (ended s) number text [] line reason is = absurd (cc)
bad_at form (ended s) number text (c ∷ rest) line reason is = same_line text (number + 1) line _ reason is
bad_at form (is_bad why) number text rest line reason is = same_line text number line why reason is

module _ {S : Type 0} (form : FeedForm S) (r : Read S) (octets : List ℕ) where
  answer_on-answers : is_answer (answer_on form r octets).status ≡ true
  unfolding answer_on
  answer_on-answers = let q = read_on form r octets in answers_at form.lines q.at q.number q.text (rest_of octets)

  answer_on-bad_at : (line : ℕ) (reason : Reason) → (answer_on form r octets).status ≡ FeedBad line reason → (answer_on form r octets).text ≡ (read_on form r octets).text ++ bad_line line reason
  unfolding answer_on
  answer_on-bad_at line reason is = let q = read_on form r octets in bad_at form.lines q.at q.number q.text (rest_of octets) line reason is

-- the octets that were taken of a feed are those before the ones that are left
taken_of : (held : Files) (name other octets taken taken' left : List ℕ) → get held name ≡ Some octets → Some name ≡ Some other → get held other ≡ Some (taken' ++ left) → octets ≡ taken ++ left → taken ≡ taken'
taken_of held name other octets taken taken' left here same there all =
    let found : get held name ≡ Some (taken' ++ left) = ap (get held) (same_Some name other same) ∙ there in
    let both : Some octets ≡ Some (taken' ++ left) = sym here ∙ found in
    let equal : octets ≡ taken' ++ left = cc in
    append_cancel_right taken taken' left (sym all ∙ equal)

module _ {S : Type 0} (form : FeedForm S) (name : List ℕ) (old mid new : Shown) (sink sink' : Taken) (result : Status) (opens : Opens name old mid)
    (read : Concludes form begun mid.left mid new sink sink' result) where
  course_answer : (on_feed form name old.held).answer ≡ feed_answer form mid.left
  course_answer = ap (answer_on_file (feed_answer form)) opens.left

  told_answer : IsTrue (is_answer result) → Told (on_feed form name old.held) sink sink' result
  told_answer ok = by_case read.given read.due
    where
      by_case : IsGiven read.answer.status read.answer.text sink sink' result → (read.answer ≡ feed_answer form mid.left) ⊎ IsStopped form begun mid.left mid new read.answer
          → Told (on_feed form name old.held) sink sink' result
      by_case (inl whole) (inl is) =
          let same : read.answer ≡ (on_feed form name old.held).answer = is ∙ sym course_answer in record {
            answer = whole.status ∙ ap (λ (a : Answer). a.status) same;
            written = subst (λ (a : Answer). Appends a.text sink sink') same whole.written;
          }
      by_case (inl whole) (inr stop) = absurd (no_answer result ReadFault ok refl (whole.status ∙ stop.status))
      by_case (inr cut) due = absurd (no_answer result WriteFault ok refl cut.status)

  prefix_written : AppendsFront (on_feed form name old.held).answer.text sink sink'
  prefix_written = subst (λ (a : Answer). AppendsFront a.text sink sink') (sym course_answer) (by_due read.due)
    where
      front_given : IsGiven read.answer.status read.answer.text sink sink' result → AppendsFront read.answer.text sink sink'
      front_given (inl whole) = all_front read.answer.text sink sink' whole.written
      front_given (inr cut) = cut.front

      by_due : (read.answer ≡ feed_answer form mid.left) ⊎ IsStopped form begun mid.left mid new read.answer → AppendsFront (feed_answer form mid.left).text sink sink'
      by_due (inl is) = subst (λ (a : Answer). AppendsFront a.text sink sink') is (front_given read.given)
      by_due (inr stop) = subst (λ t. AppendsFront t sink sink') (sym stop.grows) (front_of_more read.answer.text stop.more sink sink' (front_given read.given))

  -- a read fault is one of a read of this feed
  stopped_at : result ≡ ReadFault → IsStopped form begun mid.left mid new read.answer × Appends read.answer.text sink sink'
  stopped_at is = by_case read.given read.due
    where
      by_case : IsGiven read.answer.status read.answer.text sink sink' result → (read.answer ≡ feed_answer form mid.left) ⊎ IsStopped form begun mid.left mid new read.answer
          → IsStopped form begun mid.left mid new read.answer × Appends read.answer.text sink sink'
      by_case (inl whole) (inr stop) = (stop, whole.written)
      by_case (inl whole) (inl same) =
          absurd (no_answer (feed_answer form mid.left).status ReadFault (answer_on-answers form begun mid.left) refl (sym (ap (λ (a : Answer). a.status) same) ∙ sym whole.status ∙ is))
      by_case (inr cut) due = absurd (let two = sym is ∙ cut.status in cc)

  stands_at : result ≡ ReadFault → StandsAt (on_feed form name old.held) old new
  stands_at is = let stop = (stopped_at is).0 in record {
    failed = subst (IsReached (name ∷ []) old.held) (sym (stop.failed ∙ opens.chosen)) (in_one name);
    chosen = inl (read.chosen ∙ sym stop.failed);
    of_whole = λ other whole chosen in_none. absurd (omega (arith, in_none.1));
  }

  leaves_settled : result ≡ ReadFault → LeavesSettled (on_feed form name old.held) old new sink sink'
  leaves_settled is =
      let both = stopped_at is in
      let stop = both.0 in
      let same = λ (other taken : List ℕ) (at : IsTakenFeed (on_feed form name old.held) old new other taken). taken_of old.held name other mid.left stop.taken taken new.left opens.left at.1 at.2 stop.all in record {
        text = read.answer.text;
        written = both.1;
        settled = λ other taken at. inl (stop.settled ∙ ap (settled form) (same other taken at));
        good = λ other taken at not_whole. subst (λ octets. IsTrue (is_front form octets)) (same other taken at)
            (ap (λ b. b && nat_le (length (rest_of stop.taken)) 4096) stop.good ∙ le-leb (length (rest_of stop.taken)) 4096 stop.short);
        nothing = λ none. absurd (none name (read.chosen ∙ opens.chosen) refl);
      }

  leaves_bad : (line : ℕ) (reason : Reason) → result ≡ FeedBad line reason → LeavesBadLine (on_feed form name old.held) old.held sink sink' line reason
  leaves_bad line reason is = by_case read.given read.due
    where
      by_case : IsGiven read.answer.status read.answer.text sink sink' result → (read.answer ≡ feed_answer form mid.left) ⊎ IsStopped form begun mid.left mid new read.answer
          → LeavesBadLine (on_feed form name old.held) old.held sink sink' line reason
      by_case (inl whole) (inl same) =
          record {
            name = name;
            octets = mid.left;
            of_feed = refl;
            held_here = opens.left;
            written = subst (λ t. Appends t sink sink')
                (ap (λ (a : Answer). a.text) same ∙ answer_on-bad_at form begun mid.left line reason (sym (ap (λ (a : Answer). a.status) same) ∙ sym whole.status ∙ is)) whole.written;
          }
      by_case (inl whole) (inr stop) = absurd (let two = sym is ∙ whole.status ∙ stop.status in cc)
      by_case (inr cut) due = absurd (let two = sym is ∙ cut.status in cc)

-- memory was wanting for a feed
wanted : {S : Type 0} (form : FeedForm S) (name : List ℕ) (old mid new : Shown) (sink sink' : Taken) → sink' ≡ sink → (IsTrue old.tells → Opens name old mid) → (IsTrue old.tells → WantsMemory mid.left mid new)
    → LeavesNothing (on_feed form name old.held) old new sink sink'
wanted form name old mid new sink sink' same opens wants = record {
  written = subst (λ s. Appends [] sink s) (sym same) (appends_none sink);
  of_feed = λ told other taken at not_whole.
      let want = wants told in
      omega (arith, ap length (taken_of old.held name other mid.left want.taken taken new.left (opens told).left at.1 at.2 want.all), want.few);
  selected = λ told other chosen. inl (subst (Contains (name ∷ [])) (same_Some name other (sym ((wants told).chosen ∙ (opens told).chosen) ∙ chosen)) (in_one name));
}

-- the feed was selected and read
pub feed_promises : {S : Type 0} (form : FeedForm S) (name : List ℕ) (old mid new : Shown) (sink sink' : Taken) (result : Status)
    → SameFiles old mid → mid.faults ≡ old.faults → (IsTrue old.tells → Opens name old mid)
    → SameFiles mid new → CountsReads true result mid.faults new.faults → FaultCounts (result ≡ WriteFault) sink.faults sink'.faults → (result ≡ NoMemory → sink' ≡ sink)
    → (IsTrue mid.tells → result ≡ NoMemory → WantsMemory mid.left mid new) → (IsTrue mid.tells → result ≢ NoMemory → Concludes form begun mid.left mid new sink sink' result)
    → Promises true (on_feed form name old.held) old new sink sink' result
feed_promises form name old mid new sink sink' result opened count opens files reads writes nothing wants concludes =
    let later : IsTrue old.tells → IsTrue mid.tells = λ told. subst IsTrue (sym opened.tells) told in
    let read : (told : IsTrue old.tells) → result ≢ NoMemory → Concludes form begun mid.left mid new sink sink' result = λ told other. concludes (later told) other in record {
      files = files_stay old mid new opened files;
      reads = reads_then true result old.faults mid.faults new.faults count reads;
      writes = writes;
      answers = λ ok told. told_answer form name old mid new sink sink' result (opens told) (read told (λ want. no_answer result NoMemory ok refl want)) ok;
      prefix = λ is told. prefix_written form name old mid new sink sink' result (opens told) (read told (λ want. absurd (let two = sym is ∙ want in cc)));
      reached = λ is told. stands_at form name old mid new sink sink' result (opens told) (read told (λ want. absurd (let two = sym is ∙ want in cc))) is;
      settled = λ is told. leaves_settled form name old mid new sink sink' result (opens told) (read told (λ want. absurd (let two = sym is ∙ want in cc))) is;
      refused = λ line reason is told. leaves_bad form name old mid new sink sink' result (opens told) (read told (λ want. absurd (let two = sym is ∙ want in cc))) line reason is;
      memory = λ is. wanted form name old mid new sink sink' (nothing is) opens (λ told. wants (later told) is);
    }

-- the feed could not be selected
pub select_promises : {S : Type 0} (form : FeedForm S) (name : List ℕ) (old new : Shown) (sink : Taken) → SameFiles old new → old.faults ≤ new.faults → Rose old.faults new.faults
    → (IsTrue old.tells → FailsToOpen name old new) → Promises true (on_feed form name old.held) old new sink sink ReadFault
select_promises form name old new sink files never_falls rose fails = record {
  files = files;
  reads = reads_failed true old.faults new.faults never_falls rose;
  writes = counted_ok _ sink.faults sink.faults (λ h. cc) refl;
  answers = λ no told. absurd (cc);
  prefix = λ no. absurd (cc);
  reached = λ is told. record {
    failed = reached_one (select_failed name old new (fails told));
    chosen = inr (fails told).chosen;
    of_whole = λ other whole chosen in_none. absurd (omega (arith, in_none.1));
  };
  settled = λ is told. record {
    text = [];
    written = appends_none sink;
    settled = λ other taken at. absurd (let none = sym (fails told).chosen ∙ at.0 in cc);
    good = λ other taken at. absurd (let none = sym (fails told).chosen ∙ at.0 in cc);
    nothing = λ no. refl;
  };
  refused = λ line reason no. absurd (cc);
  memory = λ no. absurd (cc);
}
  where
    reached_one : (new.failed ≡ Some name) ⊎ ((new.failed ≡ None) × (get old.held name ≡ None)) → IsReached (name ∷ []) old.held new.failed
    reached_one (inl here) = subst (IsReached (name ∷ []) old.held) (sym here) (in_one name)
    reached_one (inr none) = subst (IsReached (name ∷ []) old.held) (sym none.0) (name, ([], refl), none.1)

-- The file that is read whole first could not be selected, or a read of it failed.
module _ (reads_feed : Bool) (name : List ℕ) (rest : List ℕ → Files → Course) (old new : Shown) (sink : Taken) where
  none_after : get old.held name ≡ None → reached (on_octets rest old.held (get old.held name)) ≡ []
  none_after none = ap (λ found. reached (on_octets rest old.held found)) none

  reached_first : (new.failed ≡ Some name) ⊎ ((new.failed ≡ None) × (get old.held name ≡ None)) → IsReached (reached (on_file name rest old.held)) old.held new.failed
  reached_first (inl here) = subst (IsReached (reached (on_file name rest old.held)) old.held) (sym here) (first_in name (reached (on_octets rest old.held (get old.held name))))
  reached_first (inr none) = subst (IsReached (reached (on_file name rest old.held)) old.held) (sym none.0) (name, ([], ap (λ names. name ∷ names) (none_after none.1)), none.1)

  chosen_first : (new.chosen ≡ new.failed) ⊎ (new.chosen ≡ None) → (new.failed ≡ Some name) ⊎ ((new.failed ≡ None) × (get old.held name ≡ None))
      → (other : List ℕ) → new.chosen ≡ Some other → name ≡ other
  chosen_first (inl same) (inl here) other is = same_Some name other (sym here ∙ sym same ∙ is)
  chosen_first (inl same) (inr none) other is = absurd (let no = sym none.0 ∙ sym same ∙ is in cc)
  chosen_first (inr none) failed other is = absurd (let no = sym none ∙ is in cc)

  pub at_file : SameFiles old new → old.faults ≤ new.faults → Rose old.faults new.faults
      → (IsTrue old.tells → (new.chosen ≡ new.failed) ⊎ (new.chosen ≡ None))
      → (IsTrue old.tells → (new.failed ≡ Some name) ⊎ ((new.failed ≡ None) × (get old.held name ≡ None)))
      → (IsTrue old.tells → (whole : List ℕ) → get old.held name ≡ Some whole → new.chosen ≡ Some name → length whole ≤ length new.left + 65_537)
      → Promises reads_feed (on_file name rest old.held) old new sink sink ReadFault
  at_file files never_falls rose chosen failed taken =
      let course = on_file name rest old.held in record {
        files = files;
        reads = reads_failed reads_feed old.faults new.faults never_falls rose;
        writes = counted_ok _ sink.faults sink.faults (λ h. cc) refl;
        answers = λ no told. absurd (cc);
        prefix = λ no. absurd (cc);
        reached = λ is told. record {
          failed = reached_first (failed told);
          chosen = chosen told;
          of_whole = λ other whole at in_whole no_feed held.
              let same : name ≡ other = chosen_first (chosen told) (failed told) other at in
              taken told whole (ap (get old.held) same ∙ held) (at ∙ ap Some (sym same));
        };
        settled = λ is told. record {
          text = [];
          written = appends_none sink;
          settled = λ other octets at. inr (subst (Contains course.whole) (chosen_first (chosen told) (failed told) other at.0) (first_in name (on_octets rest old.held (get old.held name)).whole), refl);
          good = λ other octets at not_whole. absurd (not_whole (subst (Contains course.whole) (chosen_first (chosen told) (failed told) other at.0) (first_in name (on_octets rest old.held (get old.held name)).whole)));
          nothing = λ no. refl;
        };
        refused = λ line reason no. absurd (cc);
        memory = λ no. absurd (cc);
      }

  -- memory was wanting before a further file was selected
  pub for_want : SameFiles old new → new.faults ≡ old.faults → (IsTrue old.tells → new.chosen ≡ Some name) → Promises reads_feed (on_file name rest old.held) old new sink sink NoMemory
  for_want files same chosen =
      let course = on_file name rest old.held in
      let after = on_octets rest old.held (get old.held name) in record {
        files = files;
        reads = reads_stay reads_feed NoMemory old.faults new.faults (λ h. cc) same;
        writes = counted_ok _ sink.faults sink.faults (λ h. cc) refl;
        answers = λ no told. absurd (cc);
        prefix = λ no. absurd (cc);
        reached = λ no. absurd (cc);
        settled = λ no. absurd (cc);
        refused = λ line reason no. absurd (cc);
        memory = λ is. record {
          written = appends_none sink;
          of_feed = λ told other octets at not_whole. absurd (not_whole (subst (Contains course.whole) (same_Some name other (sym (chosen told) ∙ at.0)) (first_in name after.whole)));
          selected = λ told other is. inl (subst (Contains (reached course)) (same_Some name other (sym (chosen told) ∙ is)) (first_in name (reached after)));
        };
      }

-- An answer is given that refuses no feed: the course's own, where that is known.
pub answered : (reads_feed : Bool) (course : Course) (old new : Shown) (sink sink' : Taken) (answer : Answer) (result : Status) → SameFiles old new → new.faults ≡ old.faults
    → is_answer answer.status ≡ true → ((line : ℕ) (reason : Reason) → answer.status ≢ FeedBad line reason) → (IsTrue old.tells → answer ≡ course.answer)
    → IsGiven answer.status answer.text sink sink' result → Promises reads_feed course old new sink sink' result
answered reads_feed course old new sink sink' answer result files same answers no_bad is (inl whole) =
    let ok : is_answer result ≡ true = ap is_answer whole.status ∙ answers in record {
      files = files;
      reads = reads_stay reads_feed result old.faults new.faults (λ no. no_answer result ReadFault ok refl no) same;
      writes = counted_ok _ sink.faults sink'.faults (λ no. no_answer result WriteFault ok refl no) whole.count;
      answers = λ yes told. record {
        answer = whole.status ∙ ap (λ (a : Answer). a.status) (is told);
        written = subst (λ (a : Answer). Appends a.text sink sink') (is told) whole.written;
      };
      prefix = λ no. absurd (no_answer result WriteFault ok refl no);
      reached = λ no. absurd (no_answer result ReadFault ok refl no);
      settled = λ no. absurd (no_answer result ReadFault ok refl no);
      refused = λ line reason bad. absurd (no_bad line reason (sym whole.status ∙ bad));
      memory = λ no. absurd (no_answer result NoMemory ok refl no);
    }
answered reads_feed course old new sink sink' answer result files same answers no_bad is (inr cut) =
    let failed = cut.status in record {
      files = files;
      reads = reads_stay reads_feed result old.faults new.faults (λ h. absurd (let two = sym h ∙ failed in cc)) same;
      writes = counted_err _ sink.faults sink'.faults failed cut.never_falls cut.rose;
      answers = λ yes told. absurd (no_answer result WriteFault yes refl failed);
      prefix = λ no told. subst (λ (a : Answer). AppendsFront a.text sink sink') (is told) cut.front;
      reached = λ no. absurd (let two = sym no ∙ failed in cc);
      settled = λ no. absurd (let two = sym no ∙ failed in cc);
      refused = λ line reason no. absurd (let two = sym no ∙ failed in cc);
      memory = λ no. absurd (let two = sym no ∙ failed in cc);
    }

-- Memory was wanting in a call that comes to no file.
pub wanted_alone : (status : Status) (text : List ℕ) (shelf : Shown) (sink : Taken) → Promises false (says status text) shelf shelf sink sink NoMemory
wanted_alone status text shelf sink = record {
  files = record { tells = refl; held = λ told. refl };
  reads = reads_stay false NoMemory shelf.faults shelf.faults (λ h. cc) refl;
  writes = counted_ok _ sink.faults sink.faults (λ h. cc) refl;
  answers = λ no told. absurd (cc);
  prefix = λ no. absurd (cc);
  reached = λ no. absurd (cc);
  settled = λ no. absurd (cc);
  refused = λ line reason no. absurd (cc);
  memory = λ is. record {
    written = appends_none sink;
    of_feed = λ told name taken at. absurd (let none = at.1 in cc);
    selected = λ told name is. inr (refl, is);
  };
}

-- A file was read whole, and the call went on.
module _ (reads_feed : Bool) (name : List ℕ) (rest rest' : Course) (old mid new : Shown) (sink sink' : Taken) (status : Status)
    (opened : SameFiles old mid) (count : mid.faults ≡ old.faults) (chosen : IsTrue old.tells → mid.chosen ≡ Some name) (same : IsTrue old.tells → rest' ≡ rest)
    (after : Promises reads_feed rest' mid new sink sink' status) where
  later : IsTrue old.tells → IsTrue mid.tells
  later told = subst IsTrue (sym opened.tells) told

  held_later : (told : IsTrue old.tells) (other octets : List ℕ) → get old.held other ≡ Some octets → get mid.held other ≡ Some octets
  held_later told other octets held = ap (λ (files : Files). get files other) (opened.held told) ∙ held

  reached_later : (names : List (List ℕ)) (failed : Option (List ℕ)) → IsTrue old.tells → IsReached names mid.held failed → IsReached (name ∷ names) old.held failed
  reached_later names (Some other) told h = in_rest name other names h
  reached_later names None told h = (h.0, (name ∷ h.1.0, ap (λ xs. name ∷ xs) h.1.1), ap (λ (files : Files). get files h.0) (sym (opened.held told)) ∙ h.2)

  stands_later : IsTrue old.tells → StandsAt rest mid new → StandsAt (after_whole name rest) old new
  stands_later told stands = record {
    failed = reached_later (reached rest) new.failed told stands.failed;
    chosen = stands.chosen;
    of_whole = λ other whole is in_whole no_feed held. stands.of_whole other whole is (whole_of other is no_feed stands.chosen) no_feed (held_later told other whole held);
  }
    where
      by_feed : (other : List ℕ) (feed : Option (List ℕ)) → feed ≢ Some other → Contains (rest.whole ++ feed_names feed) other → Contains rest.whole other
      by_feed other None no_feed h = subst (λ names. Contains names other) (append-nil rest.whole) h
      by_feed other (Some one) no_feed h = elim (Contains-append_cases rest.whole (one ∷ []) other h) [
        | inl in_whole ↦ in_whole
        | inr in_feed ↦ absurd (no_feed (ap Some (the_one one other in_feed)))
      ]

      whole_of : (other : List ℕ) → new.chosen ≡ Some other → rest.feed ≢ Some other → (new.chosen ≡ new.failed) ⊎ (new.chosen ≡ None) → Contains rest.whole other
      whole_of other is no_feed (inl at) = by_feed other rest.feed no_feed (subst (IsReached (reached rest) mid.held) (sym at ∙ is) stands.failed)
      whole_of other is no_feed (inr none) = absurd (let no = sym none ∙ is in cc)

  settled_later : IsTrue old.tells → LeavesSettled rest mid new sink sink' → LeavesSettled (after_whole name rest) old new sink sink'
  settled_later told leaves = record {
    text = leaves.text;
    written = leaves.written;
    settled = λ other taken at. elim (leaves.settled other taken (at.0, at.1, held_later told other (taken ++ new.left) at.2)) [
      | inl is ↦ inl is
      | inr none ↦ inr (in_rest name other rest.whole none.0, none.1)
    ];
    good = λ other taken at not_whole. leaves.good other taken (at.0, at.1, held_later told other (taken ++ new.left) at.2) (λ h. not_whole (in_rest name other rest.whole h));
    nothing = leaves.nothing;
  }

  bad_later : (line : ℕ) (reason : Reason) → IsTrue old.tells → LeavesBadLine rest mid.held sink sink' line reason → LeavesBadLine (after_whole name rest) old.held sink sink' line reason
  bad_later line reason told leaves = record {
    name = leaves.name;
    octets = leaves.octets;
    of_feed = leaves.of_feed;
    held_here = ap (λ (files : Files). get files leaves.name) (sym (opened.held told)) ∙ leaves.held_here;
    written = leaves.written;
  }

  selected_later : IsTrue old.tells → ((other : List ℕ) → new.chosen ≡ Some other → IsSelected rest mid other)
      → (other : List ℕ) → new.chosen ≡ Some other → IsSelected (after_whole name rest) old other
  selected_later told selects other is = elim (selects other is) [
    | inl there ↦ inl (in_rest name other (reached rest) there)
    | inr before ↦ inl (subst (Contains (name ∷ reached rest)) (same_Some name other (sym (chosen told) ∙ before.1)) (first_in name (reached rest)))
  ]

  pub went_on : Promises reads_feed (after_whole name rest) old new sink sink' status
  went_on = record {
    files = files_stay old mid new opened after.files;
    reads = reads_then reads_feed status old.faults mid.faults new.faults count after.reads;
    writes = after.writes;
    answers = λ ok told. let was = subst (λ c. Told c sink sink' status) (same told) (after.answers ok (later told)) in record { answer = was.answer; written = was.written };
    prefix = λ is told. subst (λ (c : Course). AppendsFront c.answer.text sink sink') (same told) (after.prefix is (later told));
    reached = λ is told. stands_later told (subst (λ c. StandsAt c mid new) (same told) (after.reached is (later told)));
    settled = λ is told. settled_later told (subst (λ c. LeavesSettled c mid new sink sink') (same told) (after.settled is (later told)));
    refused = λ line reason is told. bad_later line reason told (subst (λ c. LeavesBadLine c mid.held sink sink' line reason) (same told) (after.refused line reason is (later told)));
    memory = λ is. record {
      written = (after.memory is).written;
      of_feed = λ told other taken at not_whole.
          (subst (λ c. LeavesNothing c mid new sink sink') (same told) (after.memory is)).of_feed (later told) other taken (at.0, at.1, held_later told other (taken ++ new.left) at.2)
          (λ h. not_whole (in_rest name other rest.whole h));
      selected = λ told. selected_later told ((subst (λ c. LeavesNothing c mid new sink sink') (same told) (after.memory is)).selected (later told));
    };
  }

pub completes : (reads_feed : Bool) (course : Course) (shelf shelf' : Shown) (sink sink' : Taken) (status : Status) → Promises reads_feed course shelf shelf' sink sink' status → IsComplete course shelf shelf' sink sink' status
completes reads_feed course shelf shelf' sink sink' ReadFault p told reads writes = absurd (reads (p.reads.rose refl))
completes reads_feed course shelf shelf' sink sink' WriteFault p told reads writes = absurd (writes (p.writes.rose refl))
completes reads_feed course shelf shelf' sink sink' NoMemory p told reads writes = inl refl
completes reads_feed course shelf shelf' sink sink' _ p told reads writes = inr (p.answers refl told)

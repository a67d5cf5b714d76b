-- A feed that is read is a header and good lines.
use Rattle.std.proofs.Common.{◌≡◌, ◌≢◌, ◌+◌, inl, inr, ◌++◌, ◌∷◌, [], ℕ, List, length, arith, refl, sym, ap, subst, ◌∙◌, append_assoc, append-nil, Bool, true, false, Option, Some, None, Result, Ok, Err}
use Rattle.std.specs.Prelude.{nat_lt, codes, bytes_eq, if◌then◌else◌, ◌&&◌, ◌<◌}
use Rattle.std.proofs.lemmas.Slice.Eq.{bytes_eq-Decides}
use Rattle.std.proofs.lemmas.Bool.{ltb-true}
use Rattle.link_text.specs.Lines.{lines_of, rest_of}
use Rattle.link_run_feed.specs.declared.reason.Reason.{Reason}
use Rattle.link_run_feed.specs.declared.reason.Reason.TheVariants as reason
use Rattle.link_run_feed.specs.declared.status.Status.TheVariants.{Done}
use Rattle.link_run_feed.specs.Feed.{At, start, in_lines, ended, is_bad, Step, Read, LineForm, FeedForm, bad, by_header, by_line, by_end, line_step, read_more, read_items, step_at, answer_at, answer_of, read_on, answer_on, begun, settled, feed_answer}
use Rattle.link_run_feed.specs.Leads.{LeadTo, EndsGood, IsSettledBy, IsDone, ended_text}
use Rattle.link_run_feed.proofs.Folds.{items_bad}

-- what a line of the form does, by what it is
data LineIs {S : Type 0} (form : LineForm S) (s : S) (line : List ℕ) (step : Step S) : Type 0 where
  line_good : (next : S) (settled : List ℕ) → form.line s line ≡ Ok (next, settled) → step ≡ record { at = in_lines next; settled = settled } → LineIs form s line step
  line_last : line ≡ codes "end" → form.may_end s ≡ true → bytes_eq line (codes "end") && form.may_end s ≡ true → step ≡ record { at = ended (form.ending s).0; settled = (form.ending s).1 } → LineIs form s line step
  line_none : (why : Reason) → EndsGood form s (line ∷ []) → bytes_eq line (codes "end") && form.may_end s ≡ false → step ≡ bad why → LineIs form s line step

-- the last line that may come is what it settles, and another line nothing
ends_with : {S : Type 0} (form : LineForm S) (s : S) (line : List ℕ) (lines : List (List ℕ)) (text : List ℕ) (last : Bool) → bytes_eq line (codes "end") && form.may_end s ≡ last
    → (if last then (form.ending s).1 else []) ≡ text → ended_text form s (line ∷ lines) ≡ text
ends_with form s line lines text last is same = ap (λ b. if b then (form.ending s).1 else []) is ∙ same

module _ {S : Type 0} (form : LineForm S) (s : S) (line : List ℕ) where
  no_end : bytes_eq line (codes "end") ≡ false → bytes_eq line (codes "end") && form.may_end s ≡ false
  no_end is = ap (λ b. b && form.may_end s) is

  no_long_end : 4096 < length line → (test : Bool) → bytes_eq line (codes "end") ≡ test → bytes_eq line (codes "end") && form.may_end s ≡ false
  no_long_end long true is = absurd (omega (arith, long, ap length ((bytes_eq-Decides line (codes "end")).0 is)))
  no_long_end long false is = no_end is

  by_result : (result : Result (S × List ℕ) Reason) → bytes_eq line (codes "end") ≡ false → form.line s line ≡ result → LineIs form s line (by_line result)
  by_result (Ok given) other is = line_good given.0 given.1 is refl
  by_result (Err why) other is = line_none why (inr (inr (why, is))) (no_end other) refl

  by_may : (may : Bool) → bytes_eq line (codes "end") ≡ true → form.may_end s ≡ may → LineIs form s line (by_end may (form.ending s))
  by_may true same is = line_last ((bytes_eq-Decides line (codes "end")).0 same) is (ap (λ b. b && form.may_end s) same ∙ is) refl
  by_may false same is = line_none reason.Count (inr (inl ((bytes_eq-Decides line (codes "end")).0 same))) (ap (λ b. b && form.may_end s) same ∙ is) refl

  by_test : (test : Bool) → bytes_eq line (codes "end") ≡ test → LineIs form s line (if test then by_end (form.may_end s) (form.ending s) else by_line (form.line s line))
  by_test true is = by_may (form.may_end s) is refl
  by_test false is = by_result (form.line s line) is refl

  by_length : (long : Bool) → nat_lt 4096 (length line) ≡ long → LineIs form s line (if long then bad reason.Long else line_step form s line)
  by_length true is = line_none reason.Long (inl (ltb-true 4096 (length line) is)) (no_long_end (ltb-true 4096 (length line) is) (bytes_eq line (codes "end")) refl) refl
  by_length false is = by_test (bytes_eq line (codes "end")) refl

-- where lines lead
abbrev IsTail : {S : Type 0} → LineForm S → At S → List (List ℕ) → S → Type 0
IsTail form start following last = ⊥
IsTail form (in_lines s) following last = following ≡ []
IsTail form (ended s) following last = (s ≡ (form.ending last).0) × (following ≡ codes "end" ∷ []) × (form.may_end last ≡ true)
IsTail form (is_bad why) following last = Unit {0}

record Leads {S : Type 0} (form : LineForm S) (s : S) (lines : List (List ℕ)) (text : List ℕ) (r : Read S) : Type 0 where
  pub good_lines : List (List ℕ)
  pub following : List (List ℕ)
  pub final : S
  pub settled_text : List ℕ
  pub split : lines ≡ good_lines ++ following
  pub leads : LeadTo form s good_lines final settled_text
  pub ends : EndsGood form final following
  pub all : r.text ≡ (text ++ settled_text) ++ ended_text form final following
  pub tail : IsTail form r.at following final

module _ {S : Type 0} (form : FeedForm S) where
  -- no good line, and then what is settled by the lines that follow
  with_ended : (s : S) (text more : List ℕ) (following : List (List ℕ)) → ended_text form.lines s following ≡ more → text ++ more ≡ (text ++ []) ++ ended_text form.lines s following
  with_ended s text more following is = ap (λ t. t ++ more) (sym (append-nil text)) ∙ ap (λ t. (text ++ []) ++ t) (sym is)

  after_end : (s : S) (number : ℕ) (text line : List ℕ) (lines : List (List ℕ)) → line ≡ codes "end" → form.lines.may_end s ≡ true → bytes_eq line (codes "end") && form.lines.may_end s ≡ true
      → Leads form.lines s (line ∷ lines) text (read_items (step_at form) (record { at = ended (form.lines.ending s).0; number = number; text = text ++ (form.lines.ending s).1 }) lines)
  after_end s number text line [] same may last =
      record {
        good_lines = [];
        following = line ∷ [];
        final = s;
        settled_text = [];
        split = refl;
        leads = (refl, refl);
        ends = inr (inl same);
        all = with_ended s text (form.lines.ending s).1 (line ∷ []) (ends_with form.lines s line [] (form.lines.ending s).1 true last refl);
        tail = (refl, ap (λ (one : List ℕ). one ∷ []) same, may);
      }
  after_end s number text line (next ∷ lines) same may last =
      let settled = (form.lines.ending s).1 in
      subst (Leads form.lines s (line ∷ next ∷ lines) text) (sym (items_bad form reason.After (number + 1) ((text ++ settled) ++ []) lines))
      (record {
        good_lines = [];
        following = line ∷ next ∷ lines;
        final = s;
        settled_text = [];
        split = refl;
        leads = (refl, refl);
        ends = inr (inl same);
        all = append-nil (text ++ settled) ∙ with_ended s text settled (line ∷ next ∷ lines) (ends_with form.lines s line (next ∷ lines) settled true last refl);
        tail = tt;
      })

  leads_by : (lines : List (List ℕ)) (s : S) (number : ℕ) (text : List ℕ) → Leads form.lines s lines text (read_items (step_at form) (record { at = in_lines s; number = number; text = text }) lines)
  leads_by [] s number text = record { good_lines = []; following = []; final = s; settled_text = []; split = refl; leads = (refl, refl); ends = tt; all = sym (append-nil text) ∙ with_ended s text [] [] refl; tail = refl }
  leads_by (line ∷ lines) s number text = by_case (λ next settled. leads_by lines next (number + 1) (text ++ settled)) (by_length form.lines s line (nat_lt 4096 (length line)) refl)
    where
      more : Step S → Read S
      more step = read_items (step_at form) (read_more (in_lines s) number text step) lines

      by_case : ((next : S) (text' : List ℕ) → Leads form.lines next lines (text ++ text') (read_items (step_at form) (record { at = in_lines next; number = number + 1; text = text ++ text' }) lines))
          → LineIs form.lines s line (step_at form (in_lines s) line) → Leads form.lines s (line ∷ lines) text (more (step_at form (in_lines s) line))
      by_case later (line_good next text' is step) =
          let rest = later next text' in
          subst (Leads form.lines s (line ∷ lines) text) (sym (ap more step))
          (record {
            good_lines = line ∷ rest.good_lines;
            following = rest.following;
            final = rest.final;
            settled_text = text' ++ rest.settled_text;
            split = ap (λ xs. line ∷ xs) rest.split;
            leads = (next, text', rest.settled_text, is, rest.leads, refl);
            ends = rest.ends;
            all = rest.all ∙ ap (λ t. t ++ ended_text form.lines rest.final rest.following) (append_assoc text text' rest.settled_text);
            tail = rest.tail;
          })
      by_case later (line_last same may last step) = subst (Leads form.lines s (line ∷ lines) text) (sym (ap more step)) (after_end s (number + 1) text line lines same may last)
      by_case later (line_none why not_good no_end step) =
          subst (Leads form.lines s (line ∷ lines) text) (sym (ap more step ∙ items_bad form why (number + 1) (text ++ []) lines))
          (record { good_lines = []; following = line ∷ lines; final = s; settled_text = []; split = refl; leads = (refl, refl); ends = not_good; all = with_ended s text [] (line ∷ lines) (ends_with form.lines s line lines [] false no_end refl); tail = tt })

-- what a header does, by what it is
data HeaderIs {S : Type 0} (form : FeedForm S) (line : List ℕ) (step : Step S) : Type 0 where
  header_opens : (first : S) (front : List ℕ) → form.header line ≡ Some (first, front) → step ≡ record { at = in_lines first; settled = front } → HeaderIs form line step
  header_none : (why : Reason) → step ≡ bad why → HeaderIs form line step

module _ {S : Type 0} (form : FeedForm S) (line : List ℕ) where
  by_given : (given : Option (S × List ℕ)) → form.header line ≡ given → HeaderIs form line (by_header given)
  by_given None is = header_none reason.Header refl
  by_given (Some given) is = header_opens given.0 given.1 is refl

  by_first : (long : Bool) → HeaderIs form line (if long then bad reason.Long else by_header (form.header line))
  by_first true = header_none reason.Long refl
  by_first false = by_given (form.header line) refl

-- a feed that is read so far
data IsBegunBy {S : Type 0} (form : FeedForm S) (lines : List (List ℕ)) (r : Read S) : Type 0 where
  by_none : r.text ≡ [] → ((s : S) → r.at ≢ ended s) → IsBegunBy form lines r
  by_lines : (header : List ℕ) (later : List (List ℕ)) (first : S) (front : List ℕ) → lines ≡ header ∷ later → form.header header ≡ Some (first, front) → Leads form.lines first later front r → IsBegunBy form lines r

module _ {S : Type 0} (form : FeedForm S) where
  begun_by : (lines : List (List ℕ)) → IsBegunBy form lines (read_items (step_at form) begun lines)
  begun_by [] = by_none refl (λ s is. absurd (cc))
  begun_by (line ∷ lines) = by_case (by_first form line (nat_lt 4096 (length line)))
    where
      more : Step S → Read S
      more step = read_items (step_at form) (read_more start 0 [] step) lines

      by_case : HeaderIs form line (step_at form start line) → IsBegunBy form (line ∷ lines) (more (step_at form start line))
      by_case (header_opens first front is step) =
          subst (IsBegunBy form (line ∷ lines)) (sym (ap more step)) (by_lines line lines first front refl is (leads_by form lines first 1 front))
      by_case (header_none why step) =
          subst (IsBegunBy form (line ∷ lines)) (sym (ap more step ∙ items_bad form why 1 [] lines)) (by_none refl (λ s is. absurd (cc)))

  -- what is settled of a feed is what its good lines settle
  pub settled_leads : (octets : List ℕ) → IsSettledBy form octets (settled form octets)
  unfolding read_on
  settled_leads octets = by_case (begun_by (lines_of octets))
    where
      by_case : IsBegunBy form (lines_of octets) (read_items (step_at form) begun (lines_of octets)) → IsSettledBy form octets (read_items (step_at form) begun (lines_of octets)).text
      by_case (by_none nothing not_ended) = inl nothing
      by_case (by_lines header later first front lines opens leads) =
          inr (record {
            header = header;
            first = first;
            front = front;
            good = leads.good_lines;
            following = leads.following;
            last = leads.final;
            settled = leads.settled_text;
            lines = lines ∙ ap (λ xs. header ∷ xs) leads.split;
            opens = opens;
            leads = leads.leads;
            ends = leads.ends;
            whole = leads.all;
          })

  -- an answer Done comes of what is read to the last line
  done_at : (at : At S) (number : ℕ) (text rest : List ℕ) → (answer_at form.lines at number text rest).status ≡ Done
      → (s : S) × (at ≡ ended s) × (rest ≡ []) × ((answer_at form.lines at number text rest).text ≡ text ++ form.lines.closing s)
  done_at start number text rest is = absurd (cc)
  done_at (in_lines s) number text rest is = absurd (cc)
  done_at (ended s) number text [] is = (s, refl, refl, refl)
  done_at (ended s) number text (c ∷ rest) is = absurd (cc)
  done_at (is_bad why) number text rest is = absurd (cc)

  last_text : (s : S) (following : List (List ℕ)) → following ≡ codes "end" ∷ [] → form.lines.may_end s ≡ true → ended_text form.lines s following ≡ (form.lines.ending s).1
  last_text s following is may =
      ap (ended_text form.lines s) is
      ∙ ends_with form.lines s (codes "end") [] (form.lines.ending s).1 true (ap (λ b. b && form.lines.may_end s) ((bytes_eq-Decides (codes "end") (codes "end")).1 refl) ∙ may) refl

  -- a feed that is answered Done is a header, good lines and the last line
  pub done_leads : (octets : List ℕ) → (feed_answer form octets).status ≡ Done → IsDone form octets (feed_answer form octets).text
  unfolding answer_on read_on
  done_leads octets is =
      let r = read_items (step_at form) begun (lines_of octets) in
      by_case (begun_by (lines_of octets)) (done_at r.at r.number r.text (rest_of octets) is)
    where
      by_case : let r = read_items (step_at form) begun (lines_of octets) in
          let text = (answer_of form r (rest_of octets)).text in
          IsBegunBy form (lines_of octets) r → (s : S) × (r.at ≡ ended s) × (rest_of octets ≡ []) × (text ≡ r.text ++ form.lines.closing s) → IsDone form octets text
      by_case (by_none nothing not_ended) (s, at, no_rest, text) = absurd (not_ended s at)
      by_case (by_lines header later first front lines opens leads) (s, at, no_rest, text) =
          let tail = subst (λ at. IsTail form.lines at leads.following leads.final) at leads.tail in
          record {
            header = header;
            first = first;
            front = front;
            good = leads.good_lines;
            last = leads.final;
            settled = leads.settled_text;
            lines = lines ∙ ap (λ xs. header ∷ xs) (leads.split ∙ ap (λ xs. leads.good_lines ++ xs) tail.1);
            nothing_after = no_rest;
            opens = opens;
            leads = leads.leads;
            may_end = tail.2;
            whole =
                text ∙ ap (λ t. t ++ form.lines.closing s) (leads.all ∙ ap (λ t. (front ++ leads.settled_text) ++ t) (last_text leads.final leads.following tail.1 tail.2))
                ∙ ap (λ e. ((front ++ leads.settled_text) ++ (form.lines.ending leads.final).1) ++ form.lines.closing e) tail.0;
          }

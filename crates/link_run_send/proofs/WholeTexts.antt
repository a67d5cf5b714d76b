-- What is written as the lines of a file come is the text of the stream of all of them.
use Rattle.std.proofs.Common.{◌≡◌, ◌≢◌, ℕ, ◌+◌, ◌≤◌, List, [], ◌∷◌, ◌++◌, length, Bool, true, false, Option, Some, None, refl, sym, ap, ◌∙◌, subst, inl, inr, append-nil}
use Rattle.std.specs.Prelude.{decimal, codes, bytes_eq, ◌&&◌, ◌||◌, is_none, if◌then◌else◌}
use Rattle.std.proofs.lemmas.Bool.{le-ltb}
use Rattle.carrier_plan.specs.declared.plan.Plan.{Plan}
use Rattle.link_run_capture.specs.Capture.{run_header}
use Rattle.link_run_capture.specs.declared.header.Header.{Header}
use Rattle.link_run_capture.specs.declared.header.RunFile.TheVariants.{Samples}
use Rattle.link_run_capture.specs.declared.header.Version.{Version}
use Rattle.link_run_capture.specs.declared.header.Version.TheVariants.{One, Two}
use Rattle.link_run_feed.specs.Feed.{Read as Reading, bad, begun as read_begun, by_header, feed_answer, in_lines, read_items, read_more, read_on, settled, start, step_at}
use Rattle.link_run_feed.specs.Leads.{EndsGood, IsDone, IsLedBy, LeadTo, ended_text}
use Rattle.link_run_feed.specs.declared.status.Status.TheVariants.{Done}
use Rattle.link_run_feed.proofs.Folds.{in_front, items_in_front}
use Rattle.link_run_feed.specs.declared.reason.Reason.TheVariants.{Long}
use Rattle.link_run_feed.proofs.Leading.{done_leads, settled_leads}
use Rattle.link_run_capture.specs.Written.{header_text}
use Rattle.link_text.specs.Lines.{lines_of}
use Rattle.plan_checker.specs.Rules.{IsGood}
use Rattle.plan_checker.specs.Run.{longest_block}
use Rattle.plan_checker.specs.WordSize.{word_size}
use Rattle.link_run_send.specs.Lacking.{complete_ticks, lacking_tick}
use Rattle.link_run_send.specs.SampleFile.{stream_of}
use Rattle.link_run_send.specs.Sent.{Sent, begun, begun_if, first_settled, has_samples, sent_closing, sent_form, sent_lines, text_below, unsent}
use Rattle.link_run_send.specs.SentText.{first_line, text_between}
use Rattle.link_run_send.specs.WholeText.{HasNoHeader, IsSettled, IsSettledText, IsWholeText, TextIsWhole, is_over, settled_ticks, text_to}
use Rattle.link_run_send.specs.declared.run_output.Output.{Output}
use Rattle.link_run_send.specs.declared.run_output.Output.TheVariants.{Packets, Symbols}
use Rattle.link_run_send.proofs.CompleteTicks.{complete_whole}
use Rattle.link_run_send.proofs.GoodLines.{AreGood, closing_text, first_state, first_text, none_good, run_text, state, state_after, tick_after, went, whole_stream, written_by}

-- what a header opens
opened : (output : Output) (p : Plan) (found : Option Header) (first : Sent × List ℕ) → begun_if output p found ≡ Some first → (header : Header) × (found ≡ Some header) × (first ≡ begun output p header)
opened output p None first is = absurd (cc)
opened output p (Some header) first is = (header, refl, sym (cc))

module _ (output : Output) (p : Plan) (octets : List ℕ) (good : IsGood p) where
  record Read (header_line : List ℕ) (first : Sent) (front : List ℕ) (lines : List (List ℕ)) (last : Sent) (text : List ℕ) : Type 0 where
    pub header : Header
    pub says : run_header Samples (word_size p.option) header_line ≡ Some header
    pub good_lines : AreGood output p header good lines
    pub last_is : last ≡ state_after output p header good lines
    pub written : front ++ text ≡ written_by output p header good lines

  read : (header_line : List ℕ) (first : Sent) (front : List ℕ) (lines : List (List ℕ)) (last : Sent) (text : List ℕ) → (sent_form output p).header header_line ≡ Some (first, front)
      → LeadTo sent_lines first lines last text → Read header_line first front lines last text
  read header_line first front lines last text opens lead =
      let all = opened output p (run_header Samples (word_size p.option) header_line) (first, front) opens in
      let header = all.0 in
      let first_is : first ≡ state_after output p header good [] = ap (λ (x : Sent × List ℕ). x.0) all.2 ∙ first_state output p header good in
      let front_is : front ≡ written_by output p header good [] = ap (λ (x : Sent × List ℕ). x.1) all.2 ∙ first_text output p header good in
      let there = went output p header good lines [] last text (none_good output p header good) (subst (λ s. LeadTo sent_lines s lines last text) first_is lead) in record {
        header = header;
        says = all.1;
        good_lines = there.good_lines;
        last_is = there.last_is;
        written = ap (λ front. front ++ text) front_is ∙ there.written;
      }

  -- ---- a file that is good to its end

  done : (feed_answer (sent_form output p) octets).status ≡ Done → IsWholeText output p octets (feed_answer (sent_form output p) octets).text
  done is = by (done_leads (sent_form output p) octets is)
    where
      by : IsDone (sent_form output p) octets (feed_answer (sent_form output p) octets).text → IsWholeText output p octets (feed_answer (sent_form output p) octets).text
      by all =
          let it = read all.header all.first all.front all.good all.last all.settled all.opens all.leads in
          let header = it.header in
          let over : is_none (lacking_tick p header.run_ticks (stream_of p header all.good)) ≡ true = subst (λ (s : Sent). is_none (lacking_tick s.plan s.header.run_ticks s.stream) ≡ true) it.last_is all.may_end in
          record {
            header = header;
            lines = all.good;
            file = record {
              begins = record { first = all.header; whole = all.lines; says = it.says; are_lines = it.good_lines.are_lines };
              after = all.nothing_after;
            };
            is_stream = whole_stream output p header good all.header all.good it.says it.good_lines over;
            written = all.whole
                ∙ ap (λ (s : Sent). ((all.front ++ all.settled) ++ text_below s s.header.run_ticks) ++ sent_closing (record { plan = s.plan; output = s.output; header = s.header; stream = s.stream; settled = s.header.run_ticks })) it.last_is
                ∙ ap (λ text. (text ++ text_between output p header.run_ticks (stream_of p header all.good) (tick_after output p header good all.good) header.run_ticks) ++ sent_closing (state output p header good (stream_of p header all.good) header.run_ticks)) it.written
                ∙ ap (λ text. text ++ sent_closing (state output p header good (stream_of p header all.good) header.run_ticks)) (run_text output p header good all.good)
                ∙ closing_text output p header good all.good;
          }

  -- ---- a file that begins with good lines

  module _ (header : Header) (lines : List (List ℕ)) where
    abbrev over_text : Bool → List ℕ
    over_text over = if over then text_between output p header.run_ticks (stream_of p header lines) (tick_after output p header good lines) header.run_ticks else []

    by_over : (over : Bool) → (over ≡ true → is_none (lacking_tick p header.run_ticks (stream_of p header lines)) ≡ true)
        → written_by output p header good lines ++ over_text over ≡ text_to output p header (stream_of p header lines) (settled_ticks header.version p header.run_ticks (stream_of p header lines) over)
    by_over false complete = append-nil (written_by output p header good lines)
    by_over true complete =
        run_text output p header good lines
        ∙ ap (text_to output p header (stream_of p header lines)) (sym (complete_whole p header.run_ticks (stream_of p header lines) (complete refl)) ∙ sym (settled_over header.version (has_samples (stream_of p header lines)) refl))
      where
        settled_over : (version : Version) (some : Bool) → has_samples (stream_of p header lines) ≡ some → settled_ticks version p header.run_ticks (stream_of p header lines) true ≡ complete_ticks p header.run_ticks (stream_of p header lines)
        settled_over One some is = refl
        settled_over Two true is = ap (λ b. if b || true then complete_ticks p header.run_ticks (stream_of p header lines) else 0) is
        settled_over Two false is = ap (λ b. if b || true then complete_ticks p header.run_ticks (stream_of p header lines) else 0) is

    second_of : (a b : Bool) → a && b ≡ true → b ≡ true
    second_of true b is = is
    second_of false b is = absurd (cc)

    by_following : (following : List (List ℕ)) → written_by output p header good lines ++ ended_text sent_lines (state_after output p header good lines) following
        ≡ text_to output p header (stream_of p header lines) (settled_ticks header.version p header.run_ticks (stream_of p header lines) (is_over p header.run_ticks (stream_of p header lines) following))
    by_following [] = by_over false (λ is. absurd (cc))
    by_following (line ∷ following) =
        by_over (bytes_eq line (codes "end") && is_none (lacking_tick p header.run_ticks (stream_of p header lines)))
        (second_of (bytes_eq line (codes "end")) (is_none (lacking_tick p header.run_ticks (stream_of p header lines))))

  led : (text : List ℕ) → IsLedBy (sent_form output p) octets text → IsSettledText output p octets text
  led text all =
      let it = read all.header all.first all.front all.good all.last all.settled all.opens all.leads in record {
        header = it.header;
        lines = all.good;
        following = all.following;
        begins = record { first = all.header; whole = all.lines; says = it.says; are_lines = it.good_lines.are_lines };
        ends = subst (λ s. EndsGood sent_lines s all.following) it.last_is all.ends;
        written = all.whole ∙ ap (λ text. text ++ ended_text sent_lines all.last all.following) it.written
            ∙ ap (λ s. written_by output p it.header good all.good ++ ended_text sent_lines s all.following) it.last_is
            ∙ by_following it.header all.good all.following;
      }

  -- the first line stands once the header was read
  header_stands : (first : List ℕ) (rest : List (List ℕ)) (header : Header) → lines_of octets ≡ first ∷ rest → length first ≤ 4096 → run_header Samples (word_size p.option) first ≡ Some header
      → settled (sent_form output p) octets ≢ []
  unfolding read_on
  header_stands first rest header lines short says nothing =
      let form = sent_form output p in
      let state = (begun output p header).0 in
      let front = (begun output p header).1 in
      let opens : step_at form start first ≡ record { at = in_lines state; settled = front } =
      ap (λ long. if long then bad Long else by_header (form.header first)) (le-ltb 4096 (length first) short) ∙ ap (λ found. by_header (begun_if output p found)) says in
      let more : read_items (step_at form) (record { at = in_lines state; number = 0 + 1; text = front ++ [] }) rest ≡ in_front front (read_items (step_at form) (record { at = in_lines state; number = 0 + 1; text = [] }) rest) =
      items_in_front (step_at form) front (record { at = in_lines state; number = 0 + 1; text = [] }) rest in
      let all : (read_items (step_at form) read_begun (lines_of octets)).text ≡ front ++ (read_items (step_at form) (record { at = in_lines state; number = 0 + 1; text = [] }) rest).text =
      ap (λ all. (read_items (step_at form) read_begun all).text) lines
      ∙ ap (λ step. (read_items (step_at form) (read_more start 0 [] step) rest).text) opens
      ∙ ap (λ text. (read_items (step_at form) (record { at = in_lines state; number = 0 + 1; text = text }) rest).text) (sym (append-nil front))
      ∙ ap (λ (r : Reading Sent). r.text) more in
      some_text output header (text_below (unsent output p header) (first_settled header.version (unsent output p header))) (read_items (step_at form) (record { at = in_lines state; number = 0 + 1; text = [] }) rest).text (sym all ∙ nothing)
    where
      line_ends : (line a b : List ℕ) → ((line ++ 10 ∷ []) ++ a) ++ b ≢ []
      line_ends [] a b is = cc
      line_ends (c ∷ line) a b is = cc

      some_text : (o : Output) (header : Header) (a b : List ℕ) → (first_line o p header ++ a) ++ b ≢ []
      some_text Packets header a b = line_ends (header_text header) a b
      some_text Symbols header a b = line_ends (codes "line " ++ decimal p.option ++ codes " " ++ decimal (header.run_ticks + longest_block p)) a b

  no_header : settled (sent_form output p) octets ≡ [] → HasNoHeader p octets
  no_header nothing first rest lines short = by (run_header Samples (word_size p.option) first) refl
    where
      by : (found : Option Header) → run_header Samples (word_size p.option) first ≡ found → found ≡ None
      by None is = refl
      by (Some header) is = absurd (header_stands first rest header lines short is nothing)

  settles : IsSettled output p octets (settled (sent_form output p) octets)
  settles = elim (settled_leads (sent_form output p) octets) [
    | inl nothing ↦ inl (no_header nothing, nothing)
    | inr all ↦ inr (led (settled (sent_form output p) octets) all)
  ]

pub TextIsWhole-holds : TextIsWhole
TextIsWhole-holds = record {
  settles = λ output p octets good. settles output p octets good;
  done = λ output p octets good is. done output p octets good is;
}

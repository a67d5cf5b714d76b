-- A capture that is written is replayed as its header and records.
use Rattle.std.proofs.Common.{codes, ◌≡◌, ℕ, ◌+◌, ◌<◌, ◌≤◌, false, List, [], ◌∷◌, ◌++◌, length, map, All, cond, Result, Ok, Err, refl, sym, ap, ◌∙◌, arith, append_assoc, length-append}
use Rattle.std.specs.Prelude.{bytes_eq, nat_le, nat_lt}
use Rattle.std.specs.List.{flat_map}
use Rattle.std.proofs.lemmas.Bool.{cond-false, false_from_ne_true, le-ltb, lt-leb}
use Rattle.std.proofs.lemmas.List.{append_cancel_right}
use Rattle.std.proofs.lemmas.List.Elements.{All-cons, All-head, All-map, All-nil, All-push, All-tail, All-weaker}
use Rattle.std.proofs.lemmas.Option.{same_Some}
use Rattle.std.proofs.lemmas.Slice.Eq.{bytes_eq-Decides}
use Rattle.carrier_plan.specs.declared.plan.Plan.{Plan}
use Rattle.link_base.specs.Record.{Record}
use Rattle.link_run_capture.specs.Capture.{header_of, most_records, record_of}
use Rattle.link_run_capture.specs.Written.{header_text, record_text}
use Rattle.link_run_capture.specs.declared.header.Header.{Header}
use Rattle.link_run_feed.specs.Answer.{Answer}
use Rattle.link_run_feed.specs.Feed.{At, FeedForm, Read, Step, answer_at, answer_of, answer_on, bad, begun, by_header, by_line, ended, feed_answer, in_lines, line_step, read_items, read_more, read_on, start, step_at}
use Rattle.link_run_feed.specs.declared.reason.Reason.{Reason}
use Rattle.link_run_feed.specs.declared.reason.Reason.TheVariants.{Long, Many, Number, Order}
use Rattle.link_run_feed.specs.declared.status.Status.{Status}
use Rattle.link_run_feed.specs.declared.status.Status.TheVariants.{Done}
use Rattle.link_run_replay.specs.Replayed.{Replayed, begun as begun_replay, begun_if, replay_by, replay_form, text_below, with_record}
use Rattle.link_run_replay.specs.WholeText.{TextIsWhole, replay_text}
use Rattle.link_text.proofs.LinesOf.{lines_of-line, lines_of-rest, rest_of-line, rest_of-rest}
use Rattle.link_text.specs.Lines.{HasNoFeed, lines_of, rest_of}
use Rattle.link_text.specs.Printed as printed
use Rattle.plan_checker.specs.Rules.{IsGood}
use Rattle.plan_checker.specs.WordSize.{word_size}
use Rattle.link_run_laws.proofs.ReadHeaders.{IsReadBack}
use Rattle.link_run_laws.proofs.ReadLines.{IsWritten, none_by_test, record_back, record_no_feed, record_short}

-- records in the order of their ticks, none of them below this one
abbrev pub IsOrdered : ℕ → List Record → Type 0
IsOrdered tick [] = Unit {0}
IsOrdered tick (r ∷ records) = (tick ≤ r.tick) × IsOrdered r.tick records

abbrev pub line_of : Record → List ℕ
line_of r = record_text r.tick r.octets

-- ---- lines that are written are the lines of their text

pub lines_back : (lines : List (List ℕ)) → All HasNoFeed lines → lines_of (flat_map printed.ended lines) ≡ lines
lines_back [] all = lines_of-rest [] (All-nil _)
lines_back (line ∷ lines) all =
    let more = flat_map printed.ended lines in
    ap lines_of (append_assoc line (10 ∷ []) more) ∙ lines_of-line line more (All-head HasNoFeed line lines all)
    ∙ ap (λ xs. line ∷ xs) (lines_back lines (All-tail HasNoFeed line lines all))

pub nothing_after : (lines : List (List ℕ)) → All HasNoFeed lines → rest_of (flat_map printed.ended lines) ≡ []
nothing_after [] all = rest_of-rest [] (All-nil _)
nothing_after (line ∷ lines) all =
    let more = flat_map printed.ended lines in
    ap rest_of (append_assoc line (10 ∷ []) more) ∙ rest_of-line line more (All-head HasNoFeed line lines all)
    ∙ nothing_after lines (All-tail HasNoFeed line lines all)

-- ---- a line after another

no_record : record_of (codes "end") ≡ Err Number
unfolding record_of
no_record = refl

not_last : (r : Record) → IsWritten r → bytes_eq (line_of r) (codes "end") ≡ false
not_last r is =
    false_from_ne_true (bytes_eq (line_of r) (codes "end"))
    (λ same.
    let both : Ok r ≡ Err Number = sym (record_back r is) ∙ ap record_of ((bytes_eq-Decides (line_of r) (codes "end")).0 same) ∙ no_record in
    cc)

module _ (p : Plan) where
  abbrev form : FeedForm Replayed
  form = replay_form p

  -- the steps of a record that may come
  record_step : (s : Replayed) (r : Record) → IsWritten r → s.tick ≤ r.tick → length s.records < most_records s.header.version
      → step_at form (in_lines s) (line_of r) ≡ record { at = in_lines (with_record s r); settled = text_below s r.tick }
  record_step s r is ordered few =
      let line = line_of r in
      let good : Result (Replayed × List ℕ) Reason = Ok (with_record s r, text_below s r.tick) in
      cond-false (nat_lt 4096 (length line)) (bad Long) (line_step form.lines s line) (le-ltb 4096 (length line) (record_short r is))
      ∙ cond-false (bytes_eq line (codes "end")) _ (by_line (replay_by s (record_of line))) (not_last r is)
      ∙ ap (λ read. by_line (replay_by s read)) (record_back r is)
      ∙ ap by_line (cond-false (nat_lt r.tick s.tick) (Err Order) (cond (nat_le (most_records s.header.version) (length s.records)) (Err Many) good) (le-ltb r.tick s.tick ordered)
      ∙ cond-false (nat_le (most_records s.header.version) (length s.records)) (Err Many) good (lt-leb (most_records s.header.version) (length s.records) few))

  abbrev reads : At Replayed → ℕ → List ℕ → List (List ℕ) → At Replayed
  reads at number text lines = (read_items (step_at form) (record { at = at; number = number; text = text }) lines).at

  -- the records are read to the last line
  records_read : (records : List Record) (s : Replayed) (number : ℕ) (text : List ℕ) → All IsWritten records → IsOrdered s.tick records
      → length s.records + length records ≤ most_records s.header.version
      → (last : Replayed) × (reads (in_lines s) number text (map line_of records ++ codes "end" ∷ []) ≡ ended last)
  records_read [] s number text all ordered few = (s, refl)
  records_read (r ∷ records) s number text all ordered few =
      let step = record_step s r (All-head IsWritten r records all) ordered.0 (omega (arith, few)) in
      let next = with_record s r in
      let one : length next.records ≡ length s.records + 1 = length-append s.records (r ∷ []) in
      let rest = records_read records next (number + 1) (text ++ text_below s r.tick) (All-tail IsWritten r records all) ordered.1 (omega (arith, few, one)) in
      (rest.0, ap (λ (step : Step Replayed). (read_items (step_at form) (read_more (in_lines s) number text step) (map line_of records ++ codes "end" ∷ [])).at) step ∙ rest.1)

-- ---- a whole capture

map_injective : (xs ys : List Record) → ◌≡◌ {A = List (Result Record Reason)} (map Ok xs) (map Ok ys) → xs ≡ ys
map_injective [] [] same = refl
map_injective [] (y ∷ ys) same = absurd (cc)
map_injective (x ∷ xs) [] same = absurd (cc)
map_injective (x ∷ xs) (y ∷ ys) same =
    let first : x ≡ y = cc in
    let rest : ◌≡◌ {A = List (Result Record Reason)} (map Ok xs) (map Ok ys) = cc in
    ap (λ z. z ∷ xs) first ∙ ap (λ zs. y ∷ zs) (map_injective xs ys rest)

records_back : (records : List Record) → All IsWritten records → map record_of (map line_of records) ≡ map Ok records
records_back [] all = refl
records_back (r ∷ records) all =
    ap (λ x. x ∷ map record_of (map line_of records)) (record_back r (All-head IsWritten r records all))
    ∙ ap (λ xs. Ok r ∷ xs) (records_back records (All-tail IsWritten r records all))

module _ (p : Plan) (header : Header) (records : List Record) (back : IsReadBack (word_size p.option) header) (all : All IsWritten records) (ordered : IsOrdered 0 records)
    (few : length records ≤ most_records header.version) where
  abbrev lines : List (List ℕ)
  lines = map line_of records ++ codes "end" ∷ []

  -- the text of the capture
  abbrev pub written : List ℕ
  written = flat_map printed.ended (header_text header ∷ lines)

  no_feeds : All HasNoFeed (header_text header ∷ lines)
  no_feeds =
      All-cons HasNoFeed (header_text header) lines back.no_feed
      (All-push HasNoFeed (map line_of records) (codes "end")
      (All-map HasNoFeed line_of records (All-weaker IsWritten (λ r. HasNoFeed (line_of r)) record_no_feed records all))
      (none_by_test 10 (codes "end") refl))

  its_lines : lines_of written ≡ header_text header ∷ lines
  its_lines = lines_back (header_text header ∷ lines) no_feeds

  header_step : step_at (replay_form p) start (header_text header) ≡ record { at = in_lines (begun_replay p header); settled = [] }
  header_step =
      let text = header_text header in
      cond-false (nat_lt 4096 (length text)) (bad Long) (by_header (begun_if p (header_of (word_size p.option) text))) (le-ltb 4096 (length text) back.short)
      ∙ ap (λ found. by_header (begun_if p found)) back.says

  abbrev read : Read Replayed
  read = read_items (step_at (replay_form p)) begun (lines_of written)

  read_to_end : (last : Replayed) × (read.at ≡ ended last)
  read_to_end =
      let all_few : 0 + length records ≤ most_records header.version = omega arith in
      let rest = records_read p records (begun_replay p header) 1 [] all ordered all_few in (
        rest.0,
        ap (λ lines. (read_items (step_at (replay_form p)) begun lines).at) its_lines
            ∙ ap (λ (step : Step Replayed). (read_items (step_at (replay_form p)) (read_more start 0 [] step) lines).at) header_step ∙ rest.1,
      )

  is_done : (feed_answer (replay_form p) written).status ≡ Done
  unfolding answer_on read_on
  is_done =
      ap (λ rest. (answer_of (replay_form p) read rest).status) (nothing_after (header_text header ∷ lines) no_feeds)
      ∙ ap (λ at. (answer_at (replay_form p).lines at read.number read.text []).status) read_to_end.1

  -- it is answered as what all its records give
  pub is_replayed : TextIsWhole → IsGood p → feed_answer (replay_form p) written ≡ record { status = Done; text = replay_text p header records }
  is_replayed law good =
      let answer = feed_answer (replay_form p) written in
      let whole = law.done p written good is_done in
      let capture = whole.capture in
      let both : capture.first ∷ (capture.lines ++ codes "end" ∷ []) ≡ header_text header ∷ lines = sym capture.whole ∙ its_lines in
      let first : capture.first ≡ header_text header = cc in
      let rest : capture.lines ++ codes "end" ∷ [] ≡ lines = cc in
      let same_lines : capture.lines ≡ map line_of records = append_cancel_right capture.lines (map line_of records) (codes "end" ∷ []) rest in
      let same_header : whole.header ≡ header = same_Some whole.header header (sym capture.says ∙ ap (header_of (word_size p.option)) first ∙ back.says) in
      let same_records : whole.records ≡ records = map_injective whole.records records (sym capture.reads ∙ ap (map record_of) same_lines ∙ records_back records all) in
      let text : answer.text ≡ replay_text p header records = whole.printed ∙ ap (λ h. replay_text p h whole.records) same_header ∙ ap (replay_text p header) same_records in
      let made : Status → List ℕ → Answer = λ status text. record { status = status; text = text } in
      ap (λ status. made status answer.text) is_done ∙ ap (made Done) text

-- Lines that are all good: the stream that they give, what they settle, and how a file goes on from them.
use Rattle.std.proofs.Common.{◌≡◌, ◌≢◌, ℕ, ◌<◌, ◌≤◌, List, [], ◌∷◌, ◌++◌, map, get_or, length, length-append, All, true, false, Some, None, refl, sym, ap, ◌∙◌, subst, inl, inr, arith, append_assoc, append-nil}
use Rattle.std.specs.Prelude.{codes, is_none, nat_lt}
use Rattle.std.specs.List.{filter_map, list_any}
use Rattle.std.proofs.lemmas.Bool.{cases_eq}
use Rattle.std.proofs.lemmas.List.Elements.{All-nil, All-push}
use Rattle.std.proofs.lemmas.Option.{slice_get_within}
use Rattle.carrier_plan.specs.declared.plan.Carrier.{Carrier}
use Rattle.carrier_plan.specs.declared.plan.Plan.{Plan}
use Rattle.control_words.specs.Announcement.{IsWithinTable}
use Rattle.control_words.specs.declared.announce.Announce.{Announce}
use Rattle.ethernet_channel.specs.FastStream as fast
use Rattle.hdlc_channel.specs.SlowStream as slow
use Rattle.link_run_capture.specs.Capture.{run_header}
use Rattle.link_run_capture.specs.declared.header.Header.{Header}
use Rattle.link_run_capture.specs.declared.header.RunFile.TheVariants.{Samples}
use Rattle.link_run_capture.specs.declared.header.Version.{Version}
use Rattle.link_run_capture.specs.declared.header.Version.TheVariants.{One, Two}
use Rattle.link_run_feed.specs.Leads.{LeadTo}
use Rattle.link_sender.specs.HandedIn.{nothing_yet, with_fast, with_samples, with_slow}
use Rattle.link_sender.specs.Stream.{IsStream, Stream, samples_of}
use Rattle.link_text.specs.Printed.{ended}
use Rattle.plan_checker.specs.Rules.{IsGood}
use Rattle.plan_checker.specs.Run.{samples_before}
use Rattle.plan_checker.specs.WordSize.{word_size}
use Rattle.plan_checker.proofs.Places.{number_at}
use Rattle.sample_bits.specs.Samples.{IsWithin}
use Rattle.sample_bits.specs.declared.iq.RawIq.{RawIq}
use Rattle.link_run_send.specs.Lacking.{complete_ticks, lacking_tick, next_carrier}
use Rattle.link_run_send.specs.SampleFile.{AreLines, IsFrameLine, IsSampleLine, carriers_in_order, fast_frame, slow_frame, stream_of}
use Rattle.link_run_send.specs.SampleLine.{is_within, sample_of}
use Rattle.link_run_send.specs.Sent.{Sent, begun, complete_of, first_settled, has_samples, sent_closing, sent_lines, settling, unsent, width_of, with_sample, with_stream}
use Rattle.link_run_send.specs.SentText.{first_line, last_tick, text_between}
use Rattle.link_run_send.specs.WholeText.{sent_after, settled_ticks, text_to, whole_text}
use Rattle.link_run_send.specs.declared.run_output.Output.{Output}
use Rattle.link_run_send.specs.declared.run_output.Output.TheVariants.{Packets, Symbols}
use Rattle.link_run_send.proofs.CompleteTicks.{complete_grows, complete_whole, complete_within, has_enough}
use Rattle.link_run_send.proofs.HandedStreams.{has_none, has_with, samples_beside, samples_with}
use Rattle.link_run_send.proofs.HeaderParts.{header_announces}
use Rattle.link_run_send.proofs.LineKinds.{LineIs, fast_came, line_is, sample_came, slow_came}
use Rattle.link_run_send.proofs.LongerStreams.{TextIsSettled-holds, settled_at_most, settled_sampled, settled_unsampled}
use Rattle.link_run_send.proofs.NextSamples.{within_from}
use Rattle.link_run_send.proofs.FrameLines.{fast_is_no_sample, fast_is_not_slow, sample_is_not_fast, sample_is_not_slow, slow_is_no_sample, slow_is_not_fast}
use Rattle.link_run_send.proofs.SampleOrder.{count, count-append, count_all, inside_order, next_in_order, none_in_order}
use Rattle.link_run_send.proofs.SampleStreams.{added, announced, counted, fast_of, gives_none, gives_one, length-stream, none_each, samples-longer, slow_of, stream-fast, stream-none, stream-sample, stream-slow}
use Rattle.link_run_send.proofs.SettledTexts.{text_none, text_split}

module _ (output : Output) (p : Plan) (header : Header) (good : IsGood p) where
  abbrev pub h : ℕ
  h = header.run_ticks

  abbrev pub stream : List (List ℕ) → Stream
  stream lines = stream_of p header lines

  abbrev pub tick_after : List (List ℕ) → ℕ
  tick_after lines = settled_ticks header.version p header.run_ticks (stream_of p header lines) false

  -- the text that is settled by these lines
  abbrev pub written_by : List (List ℕ) → List ℕ
  written_by lines = text_to output p header (stream lines) (settled_ticks header.version p h (stream lines) false)

  -- the state after these lines
  abbrev pub state_after : List (List ℕ) → Sent
  state_after lines = sent_after output p header lines

  abbrev pub state : Stream → ℕ → Sent
  state σ tick = record { plan = p; output = output; header = header; stream = σ; settled = tick }

  state_same : (σ τ : Stream) (a b : ℕ) → σ ≡ τ → a ≡ b → state σ a ≡ state τ b
  state_same σ τ a b first second = ap (λ x. state x a) first ∙ ap (state τ) second

  -- The frames of the management channels may be queued, and there are none where their channel is not announced.
  pub record AreQueued (lines : List (List ℕ)) : Type 0 where
    pub slow_frames : All slow.IsFrame (filter_map slow_frame lines)
    pub fast_frames : All fast.IsFrame (filter_map fast_frame lines)
    pub no_slow : header.announce.hdlc ≡ 0 → filter_map slow_frame lines ≡ []
    pub no_fast : header.announce.pointer ≡ 0 → filter_map fast_frame lines ≡ []

  -- What is known of lines that were all good.
  pub record AreGood (lines : List (List ℕ)) : Type 0 where
    pub are_lines : AreLines header.version lines
    pub unsampled : has_samples (stream lines) ≡ false → are_lines.samples ≡ []
    pub before : List ℕ
    pub after : List ℕ
    pub order : carriers_in_order p h ≡ before ++ after
    pub as_many : length before ≡ length (filter_map sample_of lines)
    pub widths : (c : ℕ) → c < length p.carriers → All (IsWithin (width_of p c)) (samples_of (stream lines) c)
    pub queued : AreQueued lines

  pub none_good : AreGood []
  none_good = record {
    are_lines = record { frames = []; samples = []; all = refl; are_frames = All-nil IsFrameLine; are_samples = All-nil IsSampleLine; none_before = λ first. refl };
    unsampled = λ none. refl;
    before = [];
    after = carriers_in_order p h;
    order = refl;
    as_many = refl;
    widths = λ c inside. subst (λ (σ : Stream). All (IsWithin (width_of p c)) (samples_of σ c)) (sym (stream-none p header)) (empty p.carriers c);
    queued = record { slow_frames = All-nil slow.IsFrame; fast_frames = All-nil fast.IsFrame; no_slow = λ none. refl; no_fast = λ none. refl };
  }
    where
      empty : {A : Type 0} (xs : List A) (c : ℕ) → All (IsWithin (width_of p c)) (get_or (map (λ (x : A). let none : List RawIq = [] in none) xs) c [])
      empty xs c = subst (All (IsWithin (width_of p c))) (sym (none_each xs c)) (All-nil (IsWithin (width_of p c)))

  -- ---- one line more

  record GoesOnTo (lines : List (List ℕ)) (line : List ℕ) (after : Sent × List ℕ) : Type 0 where
    pub good_lines : AreGood (lines ++ line ∷ [])
    pub next : after.0 ≡ state_after (lines ++ line ∷ [])
    pub text : written_by lines ++ after.1 ≡ written_by (lines ++ line ∷ [])

  module _ (lines : List (List ℕ)) (line : List ℕ) (are : AreGood lines) where
    lengths : (c : ℕ) → c < length p.carriers → length (samples_of (stream lines) c) ≡ count c are.before
    lengths c inside = counted p header lines line are.before are.after c inside are.order are.as_many

    -- the places of the samples begin with that of the sample that comes next
    next_place : (c : ℕ) → next_carrier p h (stream lines) ≡ Some c → (rest : List ℕ) × (carriers_in_order p h ≡ are.before ++ c ∷ rest)
    next_place c next = by are.after refl
      where
        by : (after : List ℕ) → are.after ≡ after → (rest : List ℕ) × (carriers_in_order p h ≡ are.before ++ c ∷ rest)
        by [] is =
            let none = none_in_order p h (stream lines) are.before lengths (are.order ∙ ap (λ xs. are.before ++ xs) is ∙ append-nil are.before) in
            absurd (let no = sym next ∙ none in cc)
        by (d ∷ rest) is =
            let order = are.order ∙ ap (λ xs. are.before ++ xs) is in
            let there = next_in_order p h (stream lines) are.before lengths d rest order in
            let same : d ≡ c = let both = sym there ∙ next in cc in
            (rest, order ∙ ap (λ e. are.before ++ e ∷ rest) same)

    sample_goes_on : (c : ℕ) (v : RawIq) → next_carrier p h (stream lines) ≡ Some c → sample_of line ≡ Some v → is_within (width_of p c) v ≡ true → (after : Sent × List ℕ)
        → after ≡ settling (with_sample (state_after lines) c v) (complete_of (with_sample (state_after lines) c v)) → GoesOnTo lines line after
    sample_goes_on c v next gives within after is =
        let place = next_place c next in
        let inside = inside_order p h c are.before place.0 place.1 in
        let on : stream (lines ++ line ∷ []) ≡ with_samples (stream lines) c (v ∷ []) = stream-sample p header lines line v gives are.before c place.0 place.1 are.as_many inside in
        let some : has_samples (stream (lines ++ line ∷ [])) ≡ true =
        ap has_samples on ∙ has_with (stream lines) c (v ∷ []) (omega (arith, inside, length-stream p header lines)) (omega arith) in
        let complete = settled_sampled p h (stream (lines ++ line ∷ [])) header.version false some in
        let lines_on : AreLines header.version (lines ++ line ∷ []) = record {
          frames = are.are_lines.frames;
          samples = are.are_lines.samples ++ line ∷ [];
          all = ap (λ xs. xs ++ line ∷ []) are.are_lines.all ∙ append_assoc are.are_lines.frames are.are_lines.samples (line ∷ []);
          are_frames = are.are_lines.are_frames;
          are_samples = All-push IsSampleLine are.are_lines.samples line are.are_lines.are_samples (v, gives);
          none_before = are.are_lines.none_before;
        } in
        record {
          good_lines = record {
            are_lines = lines_on;
            unsampled = λ none. absurd (cc);
            before = are.before ++ c ∷ [];
            after = place.0;
            order = place.1 ∙ sym (append_assoc are.before (c ∷ []) place.0);
            as_many = omega (arith, are.as_many, length-append are.before (c ∷ []), ap length (gives_one sample_of lines line v gives), length-append (filter_map sample_of lines) (v ∷ []));
            widths = λ d there. widths_on d there c v inside within on;
            queued = record {
              slow_frames = subst (All slow.IsFrame) (sym (gives_none slow_frame lines line (sample_is_not_slow line v gives))) are.queued.slow_frames;
              fast_frames = subst (All fast.IsFrame) (sym (gives_none fast_frame lines line (sample_is_not_fast line v gives))) are.queued.fast_frames;
              no_slow = λ none. gives_none slow_frame lines line (sample_is_not_slow line v gives) ∙ are.queued.no_slow none;
              no_fast = λ none. gives_none fast_frame lines line (sample_is_not_fast line v gives) ∙ are.queued.no_fast none;
            };
          };
          next = ap (λ (x : Sent × List ℕ). x.0) is
              ∙ state_same (with_samples (stream lines) c (v ∷ [])) (stream (lines ++ line ∷ [])) (complete_ticks p h (with_samples (stream lines) c (v ∷ [])))
              (settled_ticks header.version p h (stream (lines ++ line ∷ [])) false) (sym on)
              (ap (complete_ticks p h) (sym on) ∙ sym complete);
          text = ap (λ (x : Sent × List ℕ). written_by lines ++ x.1) is
              ∙ ap (λ σ. written_by lines ++ text_between output p h σ (tick_after lines) (complete_ticks p h σ)) (sym on)
              ∙ ap (λ tick. written_by lines ++ text_between output p h (stream (lines ++ line ∷ [])) (tick_after lines) tick) (sym complete)
              ∙ text_on lines_on complete;
        }
      where
        widths_on : (d : ℕ) → d < length p.carriers → (c : ℕ) (v : RawIq) → c < length p.carriers → is_within (width_of p c) v ≡ true
            → stream (lines ++ line ∷ []) ≡ with_samples (stream lines) c (v ∷ []) → All (IsWithin (width_of p d)) (samples_of (stream (lines ++ line ∷ [])) d)
        widths_on d there c v inside within on =
            subst (λ (σ : Stream). All (IsWithin (width_of p d)) (samples_of σ d)) (sym on)
            (elim (cases_eq d c) [
              | inl here ↦
                  subst (λ e. All (IsWithin (width_of p e)) (samples_of (with_samples (stream lines) c (v ∷ [])) e)) (sym here)
                  (subst (All (IsWithin (width_of p c))) (sym (samples_with (stream lines) c (omega (arith, inside, length-stream p header lines)) (v ∷ [])))
                  (All-push (IsWithin (width_of p c)) (samples_of (stream lines) c) v (are.widths c inside) (within_from (width_of p c) v within)))
              | inr other ↦ subst (All (IsWithin (width_of p d))) (sym (samples_beside (stream lines) c (v ∷ []) d other)) (are.widths d there)
            ])

        text_on : AreLines header.version (lines ++ line ∷ []) → tick_after (lines ++ line ∷ []) ≡ complete_ticks p h (stream (lines ++ line ∷ []))
            → written_by lines ++ text_between output p h (stream (lines ++ line ∷ [])) (tick_after lines) (tick_after (lines ++ line ∷ [])) ≡ written_by (lines ++ line ∷ [])
        text_on lines_on complete =
            let σ = stream (lines ++ line ∷ []) in
            let start = first_line output p header in
            let grows : complete_ticks p h (stream lines) ≤ complete_ticks p h (stream (lines ++ line ∷ [])) =
            complete_grows p h (stream lines) (stream (lines ++ line ∷ []))
            (λ c inside. omega (arith, ap length (samples-longer p header lines (line ∷ []) c inside), length-append (samples_of (stream lines) c) (added p h (filter_map sample_of lines) (filter_map sample_of (line ∷ [])) c))) in
            let order : tick_after lines ≤ tick_after (lines ++ line ∷ []) =
            omega (arith, settled_at_most p h (stream lines) header.version false, grows, complete) in
            append_assoc start (text_between output p h (stream lines) 0 (tick_after lines)) (text_between output p h σ (tick_after lines) (tick_after (lines ++ line ∷ [])))
            ∙ ap (λ early. start ++ (early ++ text_between output p h σ (tick_after lines) (tick_after (lines ++ line ∷ [])))) (sym (TextIsSettled-holds output p header lines (line ∷ []) good lines_on))
            ∙ ap (λ all. start ++ all) (sym (text_split output p h σ 0 (tick_after lines) (tick_after (lines ++ line ∷ [])) (omega arith) order))

    -- a frame of a management channel settles nothing
    text_stays : header.version ≡ Two → has_samples (stream lines) ≡ false → has_samples (stream (lines ++ line ∷ [])) ≡ false → written_by lines ++ [] ≡ written_by (lines ++ line ∷ [])
    text_stays second none still_none =
        let none_before = settled_unsampled p h (stream lines) header.version second none in
        let none_after = settled_unsampled p h (stream (lines ++ line ∷ [])) header.version second still_none in
        append-nil (written_by lines)
        ∙ ap (λ text. first_line output p header ++ text)
        (text_none output p h (stream lines) 0 (tick_after lines) (omega (arith, none_before))
        ∙ sym (text_none output p h (stream (lines ++ line ∷ [])) 0 (tick_after (lines ++ line ∷ [])) (omega (arith, none_after))))

    ticks_stay : header.version ≡ Two → has_samples (stream lines) ≡ false → has_samples (stream (lines ++ line ∷ [])) ≡ false → tick_after lines ≡ tick_after (lines ++ line ∷ [])
    ticks_stay second none still_none =
        settled_unsampled p h (stream lines) header.version second none
        ∙ sym (settled_unsampled p h (stream (lines ++ line ∷ [])) header.version second still_none)

    frames_on : header.version ≡ Two → has_samples (stream lines) ≡ false → IsFrameLine line → (on : AreLines header.version (lines ++ line ∷ [])) × (on.samples ≡ [])
    frames_on second none frame = (
      record {
        frames = are.are_lines.frames ++ line ∷ [];
        samples = [];
        all = ap (λ xs. xs ++ line ∷ []) (are.are_lines.all ∙ ap (λ samples. are.are_lines.frames ++ samples) (are.unsampled none) ∙ append-nil are.are_lines.frames)
            ∙ sym (append-nil (are.are_lines.frames ++ line ∷ []));
        are_frames = All-push IsFrameLine are.are_lines.frames line are.are_lines.are_frames frame;
        are_samples = All-nil IsSampleLine;
        none_before = λ first. absurd (let both = sym second ∙ first in cc);
      },
      refl,
    )

    -- a frame more, in a stream with the same samples
    frame_goes_on : (σ : Stream) → stream (lines ++ line ∷ []) ≡ σ → σ.samples ≡ (stream lines).samples → header.version ≡ Two → has_samples (stream lines) ≡ false → IsFrameLine line → sample_of line ≡ None
        → AreQueued (lines ++ line ∷ []) → (after : Sent × List ℕ) → after ≡ (with_stream (state_after lines) σ, []) → GoesOnTo lines line after
    frame_goes_on σ on same second none frame no_sample queued after is =
        let samples : (stream (lines ++ line ∷ [])).samples ≡ (stream lines).samples = ap (λ (τ : Stream). τ.samples) on ∙ same in
        let still_none : has_samples (stream (lines ++ line ∷ [])) ≡ false = ap (list_any (λ (samples : List RawIq). nat_lt 0 (length samples))) samples ∙ none in
        record {
          good_lines = record {
            are_lines = (frames_on second none frame).0;
            unsampled = λ still. (frames_on second none frame).1;
            before = are.before;
            after = are.after;
            order = are.order;
            as_many = are.as_many ∙ sym (ap length (gives_none sample_of lines line no_sample));
            widths = λ c inside. subst (λ (all : List (List RawIq)). All (IsWithin (width_of p c)) (get_or all c [])) (sym samples) (are.widths c inside);
            queued = queued;
          };
          next = ap (λ (x : Sent × List ℕ). x.0) is ∙ state_same σ (stream (lines ++ line ∷ [])) (tick_after lines) (tick_after (lines ++ line ∷ [])) (sym on) (ticks_stay second none still_none);
          text = ap (λ (x : Sent × List ℕ). written_by lines ++ x.1) is ∙ text_stays second none still_none;
        }

    slow_queued : (frame : List ℕ) → header.announce.hdlc ≢ 0 → slow_frame line ≡ Some frame → slow.IsFrame frame → AreQueued (lines ++ line ∷ [])
    slow_queued frame announced gives may = record {
      slow_frames = subst (All slow.IsFrame) (sym (gives_one slow_frame lines line frame gives)) (All-push slow.IsFrame (filter_map slow_frame lines) frame are.queued.slow_frames may);
      fast_frames = subst (All fast.IsFrame) (sym (gives_none fast_frame lines line (slow_is_not_fast line frame gives))) are.queued.fast_frames;
      no_slow = λ none. absurd (announced none);
      no_fast = λ none. gives_none fast_frame lines line (slow_is_not_fast line frame gives) ∙ are.queued.no_fast none;
    }

    fast_queued : (frame : List ℕ) → header.announce.pointer ≢ 0 → fast_frame line ≡ Some frame → fast.IsFrame frame → AreQueued (lines ++ line ∷ [])
    fast_queued frame announced gives may = record {
      slow_frames = subst (All slow.IsFrame) (sym (gives_none slow_frame lines line (fast_is_not_slow line frame gives))) are.queued.slow_frames;
      fast_frames = subst (All fast.IsFrame) (sym (gives_one fast_frame lines line frame gives)) (All-push fast.IsFrame (filter_map fast_frame lines) frame are.queued.fast_frames may);
      no_slow = λ none. gives_none slow_frame lines line (fast_is_not_slow line frame gives) ∙ are.queued.no_slow none;
      no_fast = λ none. absurd (announced none);
    }

    goes_on : (after : Sent × List ℕ) → LineIs (state_after lines) line after → GoesOnTo lines line after
    goes_on after (sample_came c v next gives within is) = sample_goes_on c v next gives within after is
    goes_on after (slow_came frame second none announced gives may is) =
        frame_goes_on (with_slow (stream lines) frame) (stream-slow p header lines line frame gives) refl second none (frame, inl gives) (slow_is_no_sample line frame gives)
        (slow_queued frame announced gives may) after is
    goes_on after (fast_came frame second none announced gives may is) =
        frame_goes_on (with_fast (stream lines) frame) (stream-fast p header lines line frame gives) refl second none (frame, inr gives) (fast_is_no_sample line frame gives)
        (fast_queued frame announced gives may) after is

  -- ---- all lines

  pub record Went (lines more : List (List ℕ)) (last : Sent) (text : List ℕ) : Type 0 where
    pub good_lines : AreGood (lines ++ more)
    pub last_is : last ≡ state_after (lines ++ more)
    pub written : written_by lines ++ text ≡ written_by (lines ++ more)

  pub went : (more lines : List (List ℕ)) (last : Sent) (text : List ℕ) → AreGood lines → LeadTo sent_lines (state_after lines) more last text → Went lines more last text
  went [] lines last text are lead =
      let same : lines ≡ lines ++ [] = sym (append-nil lines) in record {
        good_lines = subst AreGood same are;
        last_is = lead.0 ∙ ap state_after same;
        written = ap (λ text. written_by lines ++ text) lead.1 ∙ append-nil (written_by lines) ∙ ap written_by same;
      }
  went (line ∷ more) lines last text are lead =
      let one = goes_on lines line are (lead.0, lead.1) (line_is (state_after lines) line (lead.0, lead.1) lead.3) in
      let rest = went more (lines ++ line ∷ []) last lead.2 one.good_lines (subst (λ s. LeadTo sent_lines s more last lead.2) one.next lead.4) in
      let same : (lines ++ line ∷ []) ++ more ≡ lines ++ line ∷ more = append_assoc lines (line ∷ []) more in record {
        good_lines = subst AreGood same rest.good_lines;
        last_is = rest.last_is ∙ ap state_after same;
        written = ap (λ text. written_by lines ++ text) lead.5 ∙ sym (append_assoc (written_by lines) lead.1 lead.2) ∙ ap (λ text. text ++ lead.2) one.text ∙ rest.written ∙ ap written_by same;
      }

  -- ---- the beginning and the end

  first_tick : first_settled header.version (unsent output p header) ≡ tick_after []
  first_tick = by header.version refl
    where
      by : (version : Version) → header.version ≡ version → first_settled version (unsent output p header) ≡ settled_ticks version p h (stream []) false
      by One is = ap (complete_ticks p h) (sym (stream-none p header))
      by Two is = sym (settled_unsampled p h (stream []) Two refl (ap has_samples (stream-none p header) ∙ has_none p.carriers))

  pub first_state : (begun output p header).0 ≡ state_after []
  first_state = state_same (nothing_yet p header.announce) (stream []) (first_settled header.version (unsent output p header)) (tick_after []) (sym (stream-none p header)) first_tick

  pub first_text : (begun output p header).1 ≡ written_by []
  first_text =
      ap (λ σ. text_to output p header σ (first_settled header.version (unsent output p header))) (sym (stream-none p header))
      ∙ ap (text_to output p header (stream [])) first_tick

  -- the text of the ticks from those that are settled to the end of the run
  pub run_text : (lines : List (List ℕ)) → written_by lines ++ text_between output p h (stream lines) (tick_after lines) h ≡ text_to output p header (stream lines) h
  run_text lines =
      let early = settled_at_most p h (stream lines) header.version false in
      let within = complete_within p h (stream lines) in
      append_assoc (first_line output p header) (text_between output p h (stream lines) 0 (tick_after lines))
      (text_between output p h (stream lines) (tick_after lines) h)
      ∙ ap (λ text. first_line output p header ++ text) (sym (text_split output p h (stream lines) 0 (tick_after lines) h (omega arith) (omega (arith, early, within))))

  late_enough : (o : Output) → h ≤ last_tick o p h
  late_enough Packets = omega arith
  late_enough Symbols = omega arith

  pub closing_text : (lines : List (List ℕ))
      → text_to output p header (stream lines) h ++ sent_closing (state (stream lines) h) ≡ whole_text output p header (stream lines)
  closing_text lines =
      let σ = stream lines in
      let start = first_line output p header in
      let run = text_between output p h σ 0 h in
      let rest = text_between output p h σ h (last_tick output p h) in
      sym (append_assoc (start ++ run) rest (ended (codes "end")))
      ∙ ap (λ text. text ++ ended (codes "end"))
      (append_assoc start run rest ∙ ap (λ text. start ++ text) (sym (text_split output p h σ 0 h (last_tick output p h) (omega arith) (late_enough output))))

  -- ---- all samples have come

  pub whole_stream : (first : List ℕ) (lines : List (List ℕ)) → run_header Samples (word_size p.option) first ≡ Some header → AreGood lines
      → is_none (lacking_tick p h (stream lines)) ≡ true → IsStream p h (stream lines)
  whole_stream first lines says are over =
      let announces = header_announces (word_size p.option) first header says in record {
        carriers = length-stream p header lines;
        samples = λ c carrier read. exact c (slice_get_within p.carriers c carrier read);
        widths = λ c carrier read.
            subst (λ m. All (IsWithin m) (samples_of (stream lines) c)) (number_at (λ (x : Carrier). x.m) p.carriers c carrier read) (are.widths c (slice_get_within p.carriers c carrier read));
        announced = subst (IsWithinTable (word_size p.option)) (sym (announced p header lines)) announces.within;
        no_state = ap (λ (a : Announce). a.l1) (announced p header lines) ∙ announces.no_state;
        slow_frames = subst (All slow.IsFrame) (sym (slow_of p header lines)) are.queued.slow_frames;
        fast_frames = subst (All fast.IsFrame) (sym (fast_of p header lines)) are.queued.fast_frames;
        no_slow = λ none. slow_of p header lines ∙ are.queued.no_slow (sym (ap (λ (a : Announce). a.hdlc) (announced p header lines)) ∙ none);
        no_fast = λ none. fast_of p header lines ∙ are.queued.no_fast (sym (ap (λ (a : Announce). a.pointer) (announced p header lines)) ∙ none);
      }
    where
      exact : (c : ℕ) → c < length p.carriers → length (samples_of (stream lines) c) ≡ samples_before p c h
      exact c inside =
          let complete = complete_whole p h (stream lines) over in
          let enough = has_enough p h (stream lines) h c (omega (arith, complete)) inside in
          let come = lengths lines [] are c inside in
          let all = count_all p h c inside in
          omega (arith, enough, come, all, ap (count c) are.order, count-append c are.before are.after)

-- The states that lines of samples of one carrier lead through, where one of its samples is still missing.
use Rattle.std.proofs.Common.{◌≡◌, ℕ, ◌+◌, ◌<◌, ◌≤◌, List, [], ◌∷◌, ◌++◌, length, length-append, length-take, All, Bool, true, false, Option, Some, None, Ok, refl, sym, ap, ap₂, ◌∙◌, subst, arith, append_assoc, append-nil}
use Rattle.std.specs.Prelude.{bytes_eq, codes, if◌then◌else◌}
use Rattle.std.proofs.lemmas.List.Elements.{All-nil, All-cons}
use Rattle.std.proofs.lemmas.Slice.Eq.{bytes_eq-Decides}
use Rattle.link_run_capture.specs.declared.header.Version.{Version}
use Rattle.link_run_capture.specs.declared.header.Version.TheVariants.{One, Two}
use Rattle.link_run_feed.specs.FeedCalls.{LeadTo}
use Rattle.link_sender.specs.HandedIn.{with_samples}
use Rattle.link_sender.specs.Stream.{Stream}
use Rattle.link_text.specs.Decimals.{signed_value}
use Rattle.link_text.specs.Fields.{at_first_space}
use Rattle.plan_checker.specs.Run.{samples_due}
use Rattle.sample_bits.specs.Samples.{IsWithin}
use Rattle.sample_bits.specs.declared.iq.RawIq.{RawIq}
use Rattle.link_run_send.specs.Ahead.{AreSamples}
use Rattle.link_run_send.specs.Lacking.{complete_ticks, next_carrier}
use Rattle.link_run_send.specs.SampleLine.{of_32_bits, sample_by, sample_in, sample_of}
use Rattle.link_run_send.specs.Sends.{BetweenLines, come_of, made_to}
use Rattle.link_run_send.specs.Sent.{Sent, by_version, by_word, complete_of, fast_line, has_samples, sample_line, sent_lines, settling, slow_line, width_of, with_sample, word_and_rest}
use Rattle.link_run_send.specs.declared.sample_run.SampleRun.{SampleRun}
use Rattle.link_run_send.proofs.HandedStreams.{has_with, with_twice}
use Rattle.link_run_send.proofs.Kept.{as_many, by_run, counted}
use Rattle.link_run_send.proofs.LackingPlaces.{LengthsAt, lengths_with, missing_complete, missing_next}
use Rattle.link_run_send.proofs.NextSamples.{line_reads}
use Rattle.link_run_send.proofs.SettledTexts.{text_none}
use Rattle.link_run_send.proofs.TakenSamples.{made_true}

-- ---- the line of a sample is neither the last one nor that of a frame

end_is_none : sample_of (codes "end") ≡ None
unfolding sample_of
end_is_none = refl

pub is_not_end : (line : List ℕ) (v : RawIq) → sample_of line ≡ Some v → bytes_eq line (codes "end") ≡ false
is_not_end line v gives = by (bytes_eq line (codes "end")) refl
  where
    by : (b : Bool) → bytes_eq line (codes "end") ≡ b → b ≡ false
    by false is = refl
    by true is = absurd (let no = sym gives ∙ ap sample_of ((bytes_eq-Decides line (codes "end")).0 is) ∙ end_is_none in cc)

other_word : (word first second : List ℕ) (v : RawIq) → signed_value word ≡ None → sample_in (Some (first, second)) ≡ Some v → bytes_eq first word ≡ false
other_word word first second v none gives = by (bytes_eq first word) refl
  where
    by : (b : Bool) → bytes_eq first word ≡ b → b ≡ false
    by false is = refl
    by true is =
        let there = (bytes_eq-Decides first word).0 is in
        let no = ap (λ i. sample_by (of_32_bits i) (of_32_bits (signed_value second))) (ap signed_value there ∙ none) in
        absurd (let both = sym gives ∙ no in cc)

by_fields : (s : Sent) (line : List ℕ) (v : RawIq) (fields : Option (List ℕ × List ℕ)) → sample_in fields ≡ Some v → by_word s line (word_and_rest line fields) ≡ sample_line s line
by_fields s line v None gives = absurd (cc)
by_fields s line v (Some (first, second)) gives =
    let no_slow = other_word (codes "slow") first second v refl gives in
    let no_fast = other_word (codes "fast") first second v refl gives in
    ap (λ b. if b then slow_line s second else (if bytes_eq first (codes "fast") then fast_line s second else sample_line s line)) no_slow
    ∙ ap (λ b. if b then fast_line s second else sample_line s line) no_fast

pub by_each_version : (version : Version) (s : Sent) (line : List ℕ) (v : RawIq) → sample_of line ≡ Some v → by_version version s line ≡ sample_line s line
unfolding sample_of
by_each_version One s line v gives = refl
by_each_version Two s line v gives = by_fields s line v (at_first_space line) gives

-- ---- samples of the carrier that comes next

module _ (w : SampleRun) (s : Sent) (between : BetweenLines w s) (sampled : w.sampled ≡ true) (missing : w.due.tick < w.header.run_ticks) where
  abbrev handed : Stream
  handed = between.keeps.handed

  abbrev c : ℕ
  c = w.due.carrier

  -- the state where these samples of the carrier have come
  abbrev pub state_with : List RawIq → Sent
  state_with part = record { plan = s.plan; output = s.output; header = s.header; stream = with_samples between.keeps.handed w.due.carrier part; settled = w.due.tick }

  inside : c < length handed.samples
  inside = omega (arith, w.next.carrier missing, as_many w s between.keeps)

  lengths : (part : List RawIq) → LengthsAt w.checked (with_samples handed c part) w.due.tick c (length part)
  lengths part = lengths_with w.checked handed w.output.sender.handed w.due.tick c part w.handed (counted w s between.keeps) (as_many w s between.keeps)

  module _ (part : List RawIq) (less : length part < w.due.count) where
    due : length part < samples_due w.checked c w.due.tick
    due = omega (arith, less, w.next.count missing)

    next_is : next_carrier s.plan s.header.run_ticks (with_samples handed c part) ≡ Some c
    next_is =
        by_run w s between.keeps (λ q n. next_carrier q n (with_samples handed c part))
        ∙ missing_next w.checked w.header.run_ticks (with_samples handed c part) w.due.tick c (length part) (lengths part) missing (w.next.carrier missing) due

    complete_is : complete_ticks s.plan s.header.run_ticks (with_samples handed c part) ≡ w.due.tick
    complete_is =
        by_run w s between.keeps (λ q n. complete_ticks q n (with_samples handed c part))
        ∙ missing_complete w.checked w.header.run_ticks (with_samples handed c part) w.due.tick c (length part) (lengths part) missing (w.next.carrier missing) due

  one : (part : List RawIq) (v : RawIq) (line : List ℕ) → length part + 1 < w.due.count → sample_of line ≡ Some v → IsWithin (width_of s.plan c) v
      → sent_lines.line (state_with part) line ≡ Ok (state_with (part ++ v ∷ []), [])
  one part v line less gives within =
      let x = with_sample (state_with part) c v in
      let on = with_twice handed c inside part (v ∷ []) in
      let complete : complete_of x ≡ w.due.tick =
      ap (complete_ticks s.plan s.header.run_ticks) on ∙ complete_is (part ++ v ∷ []) (omega (arith, less, length-append part (v ∷ []))) in
      by_each_version s.header.version (state_with part) line v gives
      ∙ line_reads (state_with part) line c (next_is part (omega (arith, less))) v gives within
      ∙ ap (λ tick. Ok (settling x tick)) complete
      ∙ ap₂ (λ (σ : Stream) (text : List ℕ). Ok (record { plan = s.plan; output = s.output; header = s.header; stream = σ; settled = w.due.tick }, text)) on
      (text_none s.output s.plan s.header.run_ticks x.stream w.due.tick w.due.tick (omega arith))

  lead : (lines : List (List ℕ)) (samples part : List RawIq) → AreSamples (width_of s.plan c) lines samples → length part + length samples < w.due.count
      → LeadTo sent_lines (state_with part) lines (state_with (part ++ samples))
  lead [] [] part are less = ap state_with (sym (append-nil part))
  lead (line ∷ lines) (v ∷ samples) part are less = (
    are.0,
    is_not_end line v are.1,
    (
      state_with (part ++ v ∷ []),
      one part v line (omega (arith, less)) are.1 are.2,
      subst (λ all. LeadTo sent_lines (state_with (part ++ v ∷ [])) lines (state_with all)) (append_assoc part (v ∷ []) samples)
          (lead lines samples (part ++ v ∷ []) are.3 (omega (arith, less, length-append part (v ∷ [])))),
    ),
  )
  lead [] (v ∷ samples) part are less = absurd are
  lead (line ∷ lines) [] part are less = absurd are

  here : s ≡ state_with (come_of w.due)
  here =
      let made = between.keeps.settled ∙ between.made ∙ ap (λ b. made_to w.header.version b w.due.tick) sampled ∙ made_true w.header.version w.due.tick in
      ap₂ (λ (σ : Stream) (tick : ℕ). record { plan = s.plan; output = s.output; header = s.header; stream = σ; settled = tick }) between.keeps.stream made

  -- from the state between two lines
  pub leads : (lines : List (List ℕ)) (samples : List RawIq) → w.due.come ≤ length w.due.samples → AreSamples (width_of s.plan w.due.carrier) lines samples → w.due.come + length samples < w.due.count
      → LeadTo sent_lines s lines (state_with (come_of w.due ++ samples))
  leads lines samples room are less =
      let long : length (come_of w.due) ≡ w.due.come = omega (arith, length-take w.due.come w.due.samples, room) in
      subst (λ (t : Sent). LeadTo sent_lines t lines (state_with (come_of w.due ++ samples))) (sym here)
      (lead lines samples (come_of w.due) are (omega (arith, less, long)))

pub all_within : (m : ℕ) (lines : List (List ℕ)) (samples : List RawIq) → AreSamples m lines samples → All (IsWithin m) samples
all_within m [] [] are = All-nil (IsWithin m)
all_within m (line ∷ lines) (v ∷ samples) are = All-cons (IsWithin m) v samples are.2 (all_within m lines samples are.3)
all_within m [] (v ∷ samples) are = absurd are
all_within m (line ∷ lines) [] are = absurd are

-- a sample has come where one had, and where one more has
pub still_sampled : (σ : Stream) (c : ℕ) (come more : List RawIq) → c < length σ.samples → has_samples (with_samples σ c come) ≡ true → has_samples (with_samples σ c (come ++ more)) ≡ true
still_sampled σ c come [] inside has = ap (λ part. has_samples (with_samples σ c part)) (append-nil come) ∙ has
still_sampled σ c come (v ∷ more) inside has = has_with σ c (come ++ v ∷ more) inside (omega (arith, length-append come (v ∷ more)))

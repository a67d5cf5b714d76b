-- The management channels of a run, one frame after another.
use Rattle.std.proofs.Common.{◌≡◌, ◌∙◌, ◌+◌, ◌-◌, ◌≤◌, ◌<◌, ◌++◌, ◌∷◌, [], ℕ, zero, suc, List, All, length, map, Option, Some, None, inl, inr, refl, sym, ap, subst, arith}
use Rattle.std.specs.Prelude.{nat_le, if◌then◌else◌}
use Rattle.std.specs.List.{range_with_len}
use Rattle.std.proofs.lemmas.Bool.{cases_lt, cond-true, cond-false, le-leb, lt-leb}
use Rattle.std.proofs.lemmas.List.FromFn.{map-range_with_len_more}
use Rattle.carrier_plan.specs.declared.plan.Plan.{Plan}
use Rattle.control_words.specs.declared.announce.Announce.{Announce}
use Rattle.link_base.specs.Record.{Record}
use Rattle.link_receiver.specs.Containers.{control_of_frame}
use Rattle.link_receiver.specs.Output.{entries_at}
use Rattle.link_receiver.specs.Sessions.{SessionView, StandsFor as SessionStandsFor}
use Rattle.link_receiver.proofs.Settled.{control_of_frame-later, entries_at-later}
use Rattle.link_run_management.specs.Management.{frame_lines}
use Rattle.link_run_management.specs.Reads.{ReaderView, StandsFor}
use Rattle.link_run_management.proofs.Silence.{silent}
use Rattle.plan_checker.specs.Rules.{IsGood}
use Rattle.plan_checker.specs.WordSize.{word_size}
use Rattle.link_run_replay.specs.CaptureRun.{IsBegunReader, KeepsReader, KeepsChannels, PlaysRun}
use Rattle.link_run_replay.specs.EntryLines.{entry_lines}
use Rattle.link_run_replay.specs.RunText.{words_below, lines_of_frame, management_lines, tick_text}

pub words_none : (p : Plan) (h : ℕ) (records : List Record) → words_below p h records 0 ≡ []
unfolding words_below
words_none p h records = refl

pub words_more : (p : Plan) (h : ℕ) (records : List Record) (n : ℕ) → words_below p h records (n + 1) ≡ words_below p h records n ++ control_of_frame p h records n ∷ []
unfolding words_below
words_more p h records n = map-range_with_len_more (control_of_frame p h records) 0 n n (omega arith)

pub before_playout : (p : Plan) (h : ℕ) (a : Announce) (records : List Record) (t : ℕ) → t < p.playout → management_lines p h a records t ≡ []
unfolding management_lines
before_playout p h a records t early = cond-false (nat_le p.playout t) _ _ (lt-leb p.playout t early)

pub from_playout : (p : Plan) (h : ℕ) (a : Announce) (records : List Record) (t : ℕ) → p.playout ≤ t
    → management_lines p h a records t ≡ frame_lines (word_size p.option) a t (words_below p h records (t - p.playout)) (control_of_frame p h records (t - p.playout))
unfolding management_lines lines_of_frame
from_playout p h a records t late = cond-true (nat_le p.playout t) _ _ (le-leb p.playout t late)

pub none_announced : (p : Plan) (h : ℕ) (a : Announce) (records : List Record) (t : ℕ) → a.hdlc ≡ 0 → a.pointer ≡ 0 → management_lines p h a records t ≡ []
none_announced p h a records t slow fast = elim (cases_lt t p.playout) [
  | inl early ↦ before_playout p h a records t early
  | inr late ↦
      from_playout p h a records t late
      ∙ silent (word_size p.option) a t (words_below p h records (t - p.playout)) (control_of_frame p h records (t - p.playout)) slow fast
]

-- ---- later records

map-ranges : {X : Type 0} (f g : ℕ → X) (from n : ℕ) → ((k : ℕ) → k < from + n → f k ≡ g k) → map f (range_with_len from n) ≡ map g (range_with_len from n)
map-ranges f g from zero same = refl
map-ranges f g from (suc n) same =
    let here : from < from + suc n = omega arith in
    ap (λ x. x ∷ map f (range_with_len (from + 1) n)) (same from here)
    ∙ ap (λ xs. g from ∷ xs) (map-ranges f g (from + 1) n (λ k within. let below : k < from + suc n = omega (arith, within) in same k below))

module _ (p : Plan) (h : ℕ) (records later : List Record) (good : IsGood p) where
  words_below-later : (n t : ℕ) → n ≤ t - p.playout → All (λ (r : Record). t ≤ r.tick) later → words_below p h (records ++ later) n ≡ words_below p h records n
  unfolding words_below
  words_below-later n t few late =
      map-ranges (control_of_frame p h (records ++ later)) (control_of_frame p h records) 0 n
      (λ k within.
      let before : k + p.playout ≤ k + p.playout = omega arith in
      control_of_frame-later p h records later good k (k + p.playout) before (λ i d inside. let past = late i d inside in omega (arith, past, within, few)))

  management_lines-later : (a : Announce) (t : ℕ) → All (λ (r : Record). t < r.tick) later → management_lines p h a (records ++ later) t ≡ management_lines p h a records t
  management_lines-later a t late = elim (cases_lt t p.playout) [
    | inl early ↦ before_playout p h a (records ++ later) t early ∙ sym (before_playout p h a records t early)
    | inr on ↦
        let n = t - p.playout in
        let few : n ≤ t - p.playout = omega arith in
        let here : n + p.playout ≤ t = omega (arith, on) in
        from_playout p h a (records ++ later) t on
        ∙ ap (λ words. frame_lines (word_size p.option) a t words (control_of_frame p h (records ++ later) n))
        (words_below-later n t few (λ i d inside. let past = late i d inside in omega (arith, past)))
        ∙ ap (frame_lines (word_size p.option) a t (words_below p h records n)) (control_of_frame-later p h records later good n t here late)
        ∙ sym (from_playout p h a records t on)
  ]

  pub tick_text-later : (a : Announce) (t : ℕ) → All (λ (r : Record). t < r.tick) later → tick_text p h a (records ++ later) t ≡ tick_text p h a records t
  unfolding tick_text
  tick_text-later a t late =
      ap (λ es. entry_lines es ++ management_lines p h a (records ++ later) t) (entries_at-later p h records later good t late)
      ∙ ap (λ text. entry_lines (entries_at p h records t) ++ text) (management_lines-later a t late)

  -- what is kept stands for the same records and some that came later
  pub channels-later : (a : Announce) (t n : ℕ) (reader : Option ReaderView) → n ≤ t - p.playout → All (λ (r : Record). t ≤ r.tick) later
      → KeepsChannels p h a records n reader → KeepsChannels p h a (records ++ later) n reader
  channels-later a t n None few late keeps = keeps
  channels-later a t n (Some reader) few late keeps = record {
    width = keeps.width;
    announce = keeps.announce;
    stands = subst (λ words. StandsFor reader words) (sym (words_below-later n t few late)) keeps.stands;
  }

-- ---- before the first frame

pub channels_begun : (p : Plan) (h : ℕ) (a : Announce) (n width : ℕ) (reader : Option ReaderView) → n ≡ 0 → width ≡ word_size p.option → IsBegunReader width a reader
    → KeepsChannels p h a [] n reader
channels_begun p h a n width None none is begun = begun
channels_begun p h a n width (Some reader) none is begun = record {
  width = begun.width_is ∙ is;
  announce = begun.announce;
  stands = subst (λ words. StandsFor reader words) (sym (ap (words_below p h []) none ∙ words_none p h [])) begun.stands;
}

-- ---- the frame that is played at a tick

module _ (p : Plan) (h : ℕ) (a : Announce) (records : List Record) (now tick : ℕ) (word : Option (List ℕ)) (late : p.playout ≤ tick) (next : now ≡ tick + 1)
    (is : word ≡ control_of_frame p h records (now - 1 - p.playout)) where
  word_is : word ≡ control_of_frame p h records (tick - p.playout)
  word_is = is ∙ ap (control_of_frame p h records) (omega arith)

  words_next : words_below p h records (tick - p.playout) ++ word ∷ [] ≡ words_below p h records (tick + 1 - p.playout)
  words_next =
      let one : tick - p.playout + 1 ≡ tick + 1 - p.playout = omega arith in
      ap (λ w. words_below p h records (tick - p.playout) ++ w ∷ []) word_is ∙ sym (words_more p h records (tick - p.playout)) ∙ ap (words_below p h records) one

  pub keeps_next : (reader after : ReaderView) → KeepsReader p h a records (tick - p.playout) reader → after.width ≡ reader.width → after.announce ≡ reader.announce
      → StandsFor after (words_below p h records (tick - p.playout) ++ word ∷ []) → KeepsReader p h a records (tick + 1 - p.playout) after
  keeps_next reader after keeps width announce stands = record {
    width = width ∙ keeps.width;
    announce = announce ∙ keeps.announce;
    stands = subst (λ words. StandsFor after words) words_next stands;
  }

  pub lines_next : (reader : ReaderView) → KeepsReader p h a records (tick - p.playout) reader
      → frame_lines reader.width reader.announce tick (words_below p h records (tick - p.playout)) word ≡ management_lines p h a records tick
  lines_next reader keeps =
      let words = words_below p h records (tick - p.playout) in
      ap (λ width. frame_lines width reader.announce tick words word) keeps.width
      ∙ ap (λ a. frame_lines (word_size p.option) a tick words word) keeps.announce
      ∙ ap (frame_lines (word_size p.option) a tick words) word_is
      ∙ sym (from_playout p h a records tick late)

-- ---- a session one tick later

pub tick_printed : (s s' : SessionView) (a : Announce) (records : List Record) (tick : ℕ) → s'.plan ≡ s.plan → s'.frames ≡ s.frames → tick ≡ s.tick
    → entry_lines (entries_at s'.plan s'.frames records tick) ++ management_lines s'.plan s'.frames a records tick ≡ tick_text s.plan s.frames a records s.tick
unfolding tick_text
tick_printed s s' a records tick plan frames now =
    ap (λ p. entry_lines (entries_at p s'.frames records tick) ++ management_lines p s'.frames a records tick) plan
    ∙ ap (λ h. entry_lines (entries_at s.plan h records tick) ++ management_lines s.plan h a records tick) frames
    ∙ ap (λ t. entry_lines (entries_at s.plan s.frames records t) ++ management_lines s.plan s.frames a records t) now

pub channels_same : (s s' : SessionView) (a : Announce) (records : List Record) (tick : ℕ) (management : Option ReaderView) → s'.plan ≡ s.plan → s'.frames ≡ s.frames → tick ≡ s.tick
    → KeepsChannels s.plan s.frames a records (s.tick - s.plan.playout) management → KeepsChannels s'.plan s'.frames a records (tick - s'.plan.playout) management
channels_same s s' a records tick management plan frames now keeps =
    subst (λ (p : Plan). KeepsChannels p s'.frames a records (tick - p.playout) management) (sym plan)
    (subst (λ h. KeepsChannels s.plan h a records (tick - s.plan.playout) management) (sym frames)
    (subst (λ t. KeepsChannels s.plan s.frames a records (t - s.plan.playout) management) (sym now) keeps))

pub plays_next : (s' new : SessionView) (a : Announce) (records : List Record) (tick : ℕ) (management : Option ReaderView) → new ≡ s' → s'.tick ≡ tick + 1 → SessionStandsFor s' records
    → KeepsChannels s'.plan s'.frames a records (tick + 1 - s'.plan.playout) management → PlaysRun new management a records
plays_next s' new a records tick management same next stands keeps =
    subst (λ (s : SessionView). PlaysRun s management a records) (sym same)
    (record { samples = stands; channels = subst (λ t. KeepsChannels s'.plan s'.frames a records (t - s'.plan.playout) management) (sym next) keeps })

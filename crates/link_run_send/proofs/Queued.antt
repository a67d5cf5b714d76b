-- Frames of the management channels as they are queued.
use Rattle.std.proofs.Common.{◌≡◌, ◌≢◌, ℕ, ◌+◌, ◌-◌, ◌<◌, ◌≤◌, List, [], ◌∷◌, ◌++◌, length, Bool, true, false, Some, None, Ok, Err, refl, sym, ap, ◌∙◌, arith, inl, inr}
use Rattle.std.specs.Prelude.{◌||◌, ◌==◌, nat_lt, sum_by, if◌then◌else◌}
use Rattle.std.proofs.lemmas.Bool.{eq-eqb, le-ltb, lt-ltb}
use Rattle.std.proofs.lemmas.Bool.Decides.{eqb_tells}
use Rattle.std.proofs.lemmas.List.Sums.{sum_by-append}
use Rattle.carrier_plan.specs.declared.plan.Plan.{Plan}
use Rattle.ethernet_channel.specs.FastStream as fast
use Rattle.hdlc_channel.specs.SlowStream as slow
use Rattle.line_code.specs.declared.characters.Rd.{Rd}
use Rattle.link_run_capture.specs.declared.header.Header.{Header}
use Rattle.link_run_capture.specs.declared.header.Version.TheVariants.{Two}
use Rattle.link_run_feed.specs.declared.reason.Reason.TheVariants.{Hex, Many, Word}
use Rattle.link_sender.specs.HandedIn.{with_fast, with_slow}
use Rattle.link_sender.specs.Stream.{Stream}
use Rattle.link_sender.specs.Whole.{disparity_before}
use Rattle.link_sender.proofs.WholeLine.{disparity_before-first}
use Rattle.link_text.specs.Hexadecimal.{spelled_octets}
use Rattle.link_run_send.specs.Sends.{BetweenLines, KeepsSent, made_to, room_for}
use Rattle.link_run_send.specs.Sent.{Sent, by_fast, by_slow, fast_line, has_samples, slow_line, with_stream}
use Rattle.link_run_send.specs.declared.sample_run.SampleRun.{SampleRun}

pub or_first : (a b : Bool) → a ≡ true → a || b ≡ true
or_first a b is = ap (λ c. c || b) is

pub or_second : (a b : Bool) → b ≡ true → a || b ≡ true
or_second true b is = refl
or_second false b is = is

pub or_none : (a b : Bool) → a ≡ false → b ≡ false → a || b ≡ false
or_none a b first second = ap (λ c. c || b) first ∙ second

pub is_zero : (n : ℕ) → n ≡ 0 → n == 0 ≡ true
is_zero n is = eq-eqb n 0 is

pub is_some_number : (n : ℕ) → n ≢ 0 → n == 0 ≡ false
is_some_number n other = elim (eqb_tells n 0) [
  | inl same ↦ absurd (other same.1)
  | inr apart ↦ apart.0
]

-- in version 2 the first frame is made where the first sample came
pub sampled_at : (w : SampleRun) (s : Sent) → BetweenLines w s → w.header.version ≡ Two → 0 < w.output.sender.tick → w.sampled ≡ true
sampled_at w s between second made = by w.sampled refl
  where
    by : (b : Bool) → w.sampled ≡ b → w.sampled ≡ true
    by true is = is
    by false is = absurd (omega (arith, made, between.made ∙ ap (λ v. made_to v w.sampled w.due.tick) second ∙ ap (λ b. made_to Two b w.due.tick) is))

-- before frame 0 no disparity was changed
pub at_start : (rd : Rd) (p q : Plan) (σ τ : Stream) (t u : ℕ) → t ≡ 0 → u ≡ 0 → rd ≡ disparity_before p σ t → rd ≡ disparity_before q τ u
at_start rd p q σ τ t u first second is =
    is ∙ ap (disparity_before p σ) first ∙ disparity_before-first p σ ∙ sym (disparity_before-first q τ) ∙ sym (ap (disparity_before q τ) second)

grown_room : (n : ℕ) (queue : List (List ℕ)) (frame : List ℕ) → n ≡ length frame + 2
    → 8192 - sum_by (λ (f : List ℕ). length f + 2) (queue ++ frame ∷ []) ≡ (8192 - sum_by (λ (f : List ℕ). length f + 2) queue) - n
grown_room n queue frame is =
    let more = sum_by-append (λ (f : List ℕ). length f + 2) queue (frame ∷ []) in
    omega (arith, is, more)

module _ (s : Sent) (digits : List ℕ) where
  pub slow_refused : has_samples s.stream || s.header.announce.hdlc == 0 ≡ true → slow_line s digits ≡ Err Word
  unfolding slow_line
  slow_refused is = ap (λ b. if b then Err Word else by_slow s (spelled_octets digits)) is

  slow_by : has_samples s.stream ≡ false → s.header.announce.hdlc ≢ 0 → slow_line s digits ≡ by_slow s (spelled_octets digits)
  unfolding slow_line
  slow_by none announced =
      ap (λ b. if b then Err Word else by_slow s (spelled_octets digits)) (or_none (has_samples s.stream) _ none (is_some_number s.header.announce.hdlc announced))

  module _ (none : has_samples s.stream ≡ false) (announced : s.header.announce.hdlc ≢ 0) where
    pub slow_no_octets : spelled_octets digits ≡ None → slow_line s digits ≡ Err Hex
    slow_no_octets is = slow_by none announced ∙ ap (by_slow s) is

    module _ (frame : List ℕ) (is : spelled_octets digits ≡ Some frame) where
      slow_frame : (b : Bool) → nat_lt 1500 (length frame) || nat_lt (slow.room_of s.stream.slow) (length frame + 2) ≡ b
          → slow_line s digits ≡ (if b then Err Many else Ok (with_stream s (with_slow s.stream frame), []))
      slow_frame b test = slow_by none announced ∙ ap (by_slow s) is ∙ ap (λ c. if c then Err Many else Ok (with_stream s (with_slow s.stream frame), [])) test

      pub slow_too_long : 1500 < length frame → slow_line s digits ≡ Err Many
      slow_too_long long = slow_frame true (or_first _ _ (lt-ltb 1500 (length frame) long))

      pub slow_too_many : slow.room_of s.stream.slow < length frame + 2 → slow_line s digits ≡ Err Many
      slow_too_many full = slow_frame true (or_second (nat_lt 1500 (length frame)) _ (lt-ltb (slow.room_of s.stream.slow) (length frame + 2) full))

      pub slow_queued : length frame ≤ 1500 → length frame + 2 ≤ slow.room_of s.stream.slow → slow_line s digits ≡ Ok (with_stream s (with_slow s.stream frame), [])
      slow_queued short room =
          slow_frame false (or_none _ _ (le-ltb 1500 (length frame) short) (le-ltb (slow.room_of s.stream.slow) (length frame + 2) room))

-- the room that is left with one more frame
pub slow_room : (σ : Stream) (frame : List ℕ) → length frame + 2 ≤ slow.room_of σ.slow → room_for (with_slow σ frame) ≡ room_for σ - (length frame + 2)
slow_room σ frame room =
    let grown = grown_room (length frame + 2) σ.slow frame refl in
    omega (arith, grown, room)

module _ (w : SampleRun) (s : Sent) (keeps : KeepsSent w s) where
  pub slow_stream : s.stream.slow ≡ keeps.handed.slow
  slow_stream = ap (λ (σ : Stream). σ.slow) keeps.stream

  pub slow_unsampled : w.sampled ≡ false → has_samples s.stream ≡ false
  slow_unsampled is = sym keeps.sampled ∙ is

  pub slow_announced : w.header.announce.hdlc ≢ 0 → s.header.announce.hdlc ≢ 0
  slow_announced announced none = announced (sym (ap (λ (h : Header). h.announce.hdlc) keeps.header) ∙ none)

module _ (s : Sent) (digits : List ℕ) where
  pub fast_refused : has_samples s.stream || s.header.announce.pointer == 0 ≡ true → fast_line s digits ≡ Err Word
  unfolding fast_line
  fast_refused is = ap (λ b. if b then Err Word else by_fast s (spelled_octets digits)) is

  fast_by : has_samples s.stream ≡ false → s.header.announce.pointer ≢ 0 → fast_line s digits ≡ by_fast s (spelled_octets digits)
  unfolding fast_line
  fast_by none announced =
      ap (λ b. if b then Err Word else by_fast s (spelled_octets digits)) (or_none (has_samples s.stream) _ none (is_some_number s.header.announce.pointer announced))

  module _ (none : has_samples s.stream ≡ false) (announced : s.header.announce.pointer ≢ 0) where
    pub fast_no_octets : spelled_octets digits ≡ None → fast_line s digits ≡ Err Hex
    fast_no_octets is = fast_by none announced ∙ ap (by_fast s) is

    module _ (frame : List ℕ) (is : spelled_octets digits ≡ Some frame) where
      fast_frame : (b : Bool) → nat_lt 1522 (length frame) || nat_lt (fast.room_of s.stream.fast) (length frame + 2) ≡ b
          → fast_line s digits ≡ (if b then Err Many else Ok (with_stream s (with_fast s.stream frame), []))
      fast_frame b test = fast_by none announced ∙ ap (by_fast s) is ∙ ap (λ c. if c then Err Many else Ok (with_stream s (with_fast s.stream frame), [])) test

      pub fast_too_long : 1522 < length frame → fast_line s digits ≡ Err Many
      fast_too_long long = fast_frame true (or_first _ _ (lt-ltb 1522 (length frame) long))

      pub fast_too_many : fast.room_of s.stream.fast < length frame + 2 → fast_line s digits ≡ Err Many
      fast_too_many full = fast_frame true (or_second (nat_lt 1522 (length frame)) _ (lt-ltb (fast.room_of s.stream.fast) (length frame + 2) full))

      pub fast_queued : length frame ≤ 1522 → length frame + 2 ≤ fast.room_of s.stream.fast → fast_line s digits ≡ Ok (with_stream s (with_fast s.stream frame), [])
      fast_queued short room =
          fast_frame false (or_none _ _ (le-ltb 1522 (length frame) short) (le-ltb (fast.room_of s.stream.fast) (length frame + 2) room))

-- the room that is left with one more frame
pub fast_room : (σ : Stream) (frame : List ℕ) → length frame + 2 ≤ fast.room_of σ.fast → room_for (with_fast σ frame) ≡ room_for σ - (length frame + 2)
fast_room σ frame room =
    let grown = grown_room (length frame + 2) σ.fast frame refl in
    omega (arith, grown, room)

module _ (w : SampleRun) (s : Sent) (keeps : KeepsSent w s) where
  pub fast_stream : s.stream.fast ≡ keeps.handed.fast
  fast_stream = ap (λ (σ : Stream). σ.fast) keeps.stream

  pub fast_unsampled : w.sampled ≡ false → has_samples s.stream ≡ false
  fast_unsampled is = sym keeps.sampled ∙ is

  pub fast_announced : w.header.announce.pointer ≢ 0 → s.header.announce.pointer ≢ 0
  fast_announced announced none = announced (sym (ap (λ (h : Header). h.announce.pointer) keeps.header) ∙ none)

-- A good line of a file of samples is the sample that comes next, or a frame of a management channel before the first sample.
use Rattle.std.proofs.Common.{◌≡◌, ◌≢◌, ℕ, ◌+◌, ◌≤◌, List, [], Bool, true, false, Option, Some, None, Result, Ok, Err, length, refl, sym, ap, ◌∙◌}
use Rattle.std.specs.Prelude.{bytes_eq, codes, nat_lt, ◌==◌, ◌||◌, if◌then◌else◌}
use Rattle.std.proofs.lemmas.Bool.{eq-eqb, ltb-false}
use Rattle.ethernet_channel.specs.FastStream as fast
use Rattle.hdlc_channel.specs.SlowStream as slow
use Rattle.link_run_capture.specs.declared.header.Version.{Version}
use Rattle.link_run_capture.specs.declared.header.Version.TheVariants.{One, Two}
use Rattle.link_run_feed.specs.declared.reason.Reason.{Reason}
use Rattle.link_run_feed.specs.declared.reason.Reason.TheVariants.{Many, Range, Word}
use Rattle.link_sender.specs.HandedIn.{with_fast, with_slow}
use Rattle.link_text.specs.Fields.{at_first_space}
use Rattle.link_text.specs.Hexadecimal.{spelled_octets}
use Rattle.sample_bits.specs.declared.iq.RawIq.{RawIq}
use Rattle.link_run_send.specs.Lacking.{next_carrier}
use Rattle.link_run_send.specs.SampleFile.{fast_frame, octets_after, slow_frame}
use Rattle.link_run_send.specs.SampleLine.{is_within, sample_of}
use Rattle.link_run_send.specs.Sent.{Sent, by_fast, by_sample, by_slow, by_version, by_word, complete_of, fast_line, has_samples, sample_line, settling, slow_line, width_of, with_sample, with_stream, word_and_rest}
use Rattle.link_run_send.proofs.FrameLines.{fast_frame-may, slow_frame-may}

pub data LineIs (s : Sent) (line : List ℕ) (after : Sent × List ℕ) : Type 0 where
  sample_came : (c : ℕ) (v : RawIq) → next_carrier s.plan s.header.run_ticks s.stream ≡ Some c → sample_of line ≡ Some v → is_within (width_of s.plan c) v ≡ true
      → after ≡ settling (with_sample s c v) (complete_of (with_sample s c v)) → LineIs s line after
  slow_came : (frame : List ℕ) → s.header.version ≡ Two → has_samples s.stream ≡ false → s.header.announce.hdlc ≢ 0 → slow_frame line ≡ Some frame → slow.IsFrame frame
      → after ≡ (with_stream s (with_slow s.stream frame), []) → LineIs s line after
  fast_came : (frame : List ℕ) → s.header.version ≡ Two → has_samples s.stream ≡ false → s.header.announce.pointer ≢ 0 → fast_frame line ≡ Some frame → fast.IsFrame frame
      → after ≡ (with_stream s (with_fast s.stream frame), []) → LineIs s line after

-- a test that does not refuse
not_refused : {X : Type 0} (b : Bool) (reason : Reason) (read : Result X Reason) (x : X) → (if b then Err reason else read) ≡ Ok x → (b ≡ false) × (read ≡ Ok x)
not_refused true reason read x is = absurd (cc)
not_refused false reason read x is = (refl, is)

neither : (a b : Bool) → a || b ≡ false → (a ≡ false) × (b ≡ false)
neither true b is = absurd (cc)
neither false b is = (refl, is)

some_number : (n : ℕ) → n == 0 ≡ false → n ≢ 0
some_number n is zero_is = let e = eq-eqb n 0 zero_is in cc

-- a frame of a channel that is announced, before the first sample
is_announced : {X : Type 0} (some : Bool) (code : ℕ) (read : Result X Reason) (x : X) → (if some || code == 0 then Err Word else read) ≡ Ok x → (some ≡ false) × (code ≢ 0) × (read ≡ Ok x)
is_announced some code read x is =
    let may = not_refused (some || code == 0) Word read x is in
    let tests = neither some (code == 0) may.0 in
    (tests.0, some_number code tests.1, may.1)

-- a frame that is not too long, in a queue that has room for it
is_queued : {X : Type 0} (most room size : ℕ) (x y : X) → (if nat_lt most size || nat_lt room (size + 2) then Err Many else Ok y) ≡ Ok x → (size ≤ most) × (x ≡ y)
is_queued most room size x y is =
    let may = not_refused (nat_lt most size || nat_lt room (size + 2)) Many (Ok y) x is in
    (ltb-false most size (neither (nat_lt most size) (nat_lt room (size + 2)) may.0).0, let ok = may.1 in cc)

module _ (s : Sent) (line : List ℕ) (after : Sent × List ℕ) where
  sample_is : (c : Option ℕ) (v : Option RawIq) → next_carrier s.plan s.header.run_ticks s.stream ≡ c → sample_of line ≡ v → by_sample s c v ≡ Ok after → LineIs s line after
  sample_is None v next gives is = absurd (cc)
  sample_is (Some c) None next gives is = absurd (cc)
  sample_is (Some c) (Some v) next gives is = by (is_within (width_of s.plan c) v) refl is
    where
      by : (b : Bool) → is_within (width_of s.plan c) v ≡ b → (if b then Ok (settling (with_sample s c v) (complete_of (with_sample s c v))) else Err Range) ≡ Ok after → LineIs s line after
      by true within is = sample_came c v next gives within (sym (cc))
      by false within is = absurd (cc)

  sample_line_is : sample_line s line ≡ Ok after → LineIs s line after
  unfolding sample_line
  sample_line_is is = sample_is (next_carrier s.plan s.header.run_ticks s.stream) (sample_of line) refl refl is

  module _ (second : s.header.version ≡ Two) (digits : List ℕ) where
    slow_is : (found : Option (List ℕ)) → spelled_octets digits ≡ found → slow_frame line ≡ spelled_octets digits → has_samples s.stream ≡ false → s.header.announce.hdlc ≢ 0 → by_slow s found ≡ Ok after → LineIs s line after
    slow_is None found gives none announced is = absurd (cc)
    slow_is (Some frame) found gives none announced is =
        let queued = is_queued 1500 (slow.room_of s.stream.slow) (length frame) after (with_stream s (with_slow s.stream frame), []) is in
        slow_came frame second none announced (gives ∙ found) (slow_frame-may digits frame found queued.0) queued.1

    slow_line_is : slow_frame line ≡ spelled_octets digits → slow_line s digits ≡ Ok after → LineIs s line after
    unfolding slow_line
    slow_line_is gives is =
        let may = is_announced (has_samples s.stream) s.header.announce.hdlc (by_slow s (spelled_octets digits)) after is in
        slow_is (spelled_octets digits) refl gives may.0 may.1 may.2

    fast_is : (found : Option (List ℕ)) → spelled_octets digits ≡ found → fast_frame line ≡ spelled_octets digits → has_samples s.stream ≡ false → s.header.announce.pointer ≢ 0 → by_fast s found ≡ Ok after → LineIs s line after
    fast_is None found gives none announced is = absurd (cc)
    fast_is (Some frame) found gives none announced is =
        let queued = is_queued 1522 (fast.room_of s.stream.fast) (length frame) after (with_stream s (with_fast s.stream frame), []) is in
        fast_came frame second none announced (gives ∙ found) (fast_frame-may digits frame found queued.0) queued.1

    fast_line_is : fast_frame line ≡ spelled_octets digits → fast_line s digits ≡ Ok after → LineIs s line after
    unfolding fast_line
    fast_line_is gives is =
        let may = is_announced (has_samples s.stream) s.header.announce.pointer (by_fast s (spelled_octets digits)) after is in
        fast_is (spelled_octets digits) refl gives may.0 may.1 may.2

  -- by the first word of the line, where it has a space
  module _ (second : s.header.version ≡ Two) (fields : List ℕ × List ℕ) (are : at_first_space line ≡ Some fields) where
    slow_word : bytes_eq fields.0 (codes "slow") ≡ true → slow_frame line ≡ spelled_octets fields.1
    unfolding slow_frame
    slow_word is = ap (octets_after (codes "slow")) are ∙ ap (λ b. if b then spelled_octets fields.1 else None) is

    fast_word : bytes_eq fields.0 (codes "fast") ≡ true → fast_frame line ≡ spelled_octets fields.1
    unfolding fast_frame
    fast_word is = ap (octets_after (codes "fast")) are ∙ ap (λ b. if b then spelled_octets fields.1 else None) is

    words_are : (is_slow is_fast : Bool) → bytes_eq fields.0 (codes "slow") ≡ is_slow → bytes_eq fields.0 (codes "fast") ≡ is_fast
        → (if is_slow then slow_line s fields.1 else (if is_fast then fast_line s fields.1 else sample_line s line)) ≡ Ok after → LineIs s line after
    words_are true is_fast first other is = slow_line_is second fields.1 (slow_word first) is
    words_are false true first other is = fast_line_is second fields.1 (fast_word other) is
    words_are false false first other is = sample_line_is is

  -- a line without a space is no frame
  no_fields_are : (is_slow is_fast : Bool) → (if is_slow then slow_line s [] else (if is_fast then fast_line s [] else sample_line s line)) ≡ Ok after → LineIs s line after
  unfolding slow_line fast_line
  no_fields_are true is_fast is = absurd (let may = is_announced (has_samples s.stream) s.header.announce.hdlc (by_slow s None) after is in let no = may.2 in cc)
  no_fields_are false true is = absurd (let may = is_announced (has_samples s.stream) s.header.announce.pointer (by_fast s None) after is in let no = may.2 in cc)
  no_fields_are false false is = sample_line_is is

  fields_are : s.header.version ≡ Two → (found : Option (List ℕ × List ℕ)) → at_first_space line ≡ found → by_word s line (word_and_rest line found) ≡ Ok after → LineIs s line after
  fields_are second None are is = no_fields_are (bytes_eq line (codes "slow")) (bytes_eq line (codes "fast")) is
  fields_are second (Some fields) are is = words_are second fields are (bytes_eq fields.0 (codes "slow")) (bytes_eq fields.0 (codes "fast")) refl refl is

  version_is : (version : Version) → s.header.version ≡ version → by_version version s line ≡ Ok after → LineIs s line after
  version_is One first is = sample_line_is is
  version_is Two second is = fields_are second (at_first_space line) refl is

  pub line_is : by_version s.header.version s line ≡ Ok after → LineIs s line after
  line_is is = version_is s.header.version refl is

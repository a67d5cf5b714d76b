-- What a line of a file of samples gives: a sample, or a frame of one of the management channels, and never two of them.
use Rattle.std.proofs.Common.{◌≡◌, ℕ, ◌<◌, ◌≤◌, List, [], ◌∷◌, length, All, Bool, true, false, Option, Some, None, Result, Ok, Err, refl, ap, ◌∙◌, subst, arith}
use Rattle.std.specs.Prelude.{bytes_eq, codes, if◌then◌else◌}
use Rattle.std.specs.Result.{result_ok}
use Rattle.std.proofs.lemmas.List.Elements.{All-from_get_or}
use Rattle.std.proofs.lemmas.Slice.Eq.{bytes_eq-Decides}
use Rattle.ethernet_channel.specs.FastStream as fast
use Rattle.hdlc_channel.specs.SlowStream as slow
use Rattle.hex.specs.Hex.{decode_of}
use Rattle.hex.specs.declared.error.FromHexError.{FromHexError}
use Rattle.hex.proofs.HexLemmas.{decode_of-ok}
use Rattle.link_text.specs.Decimals.{signed_value}
use Rattle.link_text.specs.Fields.{at_first_space}
use Rattle.link_text.specs.Hexadecimal.{spelled_octets}
use Rattle.sample_bits.specs.declared.iq.RawIq.{RawIq}
use Rattle.link_run_send.specs.SampleFile.{fast_frame, octets_after, slow_frame}
use Rattle.link_run_send.specs.SampleLine.{of_32_bits, sample_by, sample_in, sample_of}

-- the word that a line begins with, where it gives a frame after it
word_is : (word : List ℕ) (fields : List ℕ × List ℕ) (frame : List ℕ) (b : Bool) → bytes_eq fields.0 word ≡ b → (if b then spelled_octets fields.1 else None) ≡ Some frame → fields.0 ≡ word
word_is word fields frame true is gives = (bytes_eq-Decides fields.0 word).0 is
word_is word fields frame false is gives = absurd (cc)

-- A line that gives a frame after a word gives none after another.
no_other : (word other : List ℕ) (fields : Option (List ℕ × List ℕ)) (frame : List ℕ) → bytes_eq word other ≡ false → octets_after word fields ≡ Some frame → octets_after other fields ≡ None
no_other word other None frame apart gives = refl
no_other word other (Some fields) frame apart gives =
    let word_there = word_is word fields frame (bytes_eq fields.0 word) refl gives in
    ap (λ b. if b then spelled_octets fields.1 else None) (ap (λ (first : List ℕ). bytes_eq first other) word_there ∙ apart)

-- It is no sample, where the word is no number.
no_sample : (word : List ℕ) (fields : Option (List ℕ × List ℕ)) (frame : List ℕ) → signed_value word ≡ None → octets_after word fields ≡ Some frame → sample_in fields ≡ None
no_sample word None frame none gives = refl
no_sample word (Some fields) frame none gives =
    let word_there = word_is word fields frame (bytes_eq fields.0 word) refl gives in
    ap (λ i. sample_by (of_32_bits i) (of_32_bits (signed_value fields.1))) (ap signed_value word_there ∙ none)

no_frame : (word : List ℕ) (fields : Option (List ℕ × List ℕ)) (v : RawIq) → signed_value word ≡ None → sample_in fields ≡ Some v → octets_after word fields ≡ None
no_frame word fields v none gives = by (octets_after word fields) refl
  where
    by : (o : Option (List ℕ)) → octets_after word fields ≡ o → o ≡ None
    by None is = refl
    by (Some frame) is = absurd (let e = no_sample word fields frame none is in cc)

module _ (line : List ℕ) where
  pub sample_is_not_slow : (v : RawIq) → sample_of line ≡ Some v → slow_frame line ≡ None
  unfolding sample_of slow_frame
  sample_is_not_slow v gives = no_frame (codes "slow") (at_first_space line) v refl gives

  pub sample_is_not_fast : (v : RawIq) → sample_of line ≡ Some v → fast_frame line ≡ None
  unfolding sample_of fast_frame
  sample_is_not_fast v gives = no_frame (codes "fast") (at_first_space line) v refl gives

  pub slow_is_no_sample : (frame : List ℕ) → slow_frame line ≡ Some frame → sample_of line ≡ None
  unfolding sample_of slow_frame
  slow_is_no_sample frame gives = no_sample (codes "slow") (at_first_space line) frame refl gives

  pub fast_is_no_sample : (frame : List ℕ) → fast_frame line ≡ Some frame → sample_of line ≡ None
  unfolding sample_of fast_frame
  fast_is_no_sample frame gives = no_sample (codes "fast") (at_first_space line) frame refl gives

  pub slow_is_not_fast : (frame : List ℕ) → slow_frame line ≡ Some frame → fast_frame line ≡ None
  unfolding fast_frame slow_frame
  slow_is_not_fast frame gives = no_other (codes "slow") (codes "fast") (at_first_space line) frame refl gives

  pub fast_is_not_slow : (frame : List ℕ) → fast_frame line ≡ Some frame → slow_frame line ≡ None
  unfolding fast_frame slow_frame
  fast_is_not_slow frame gives = no_other (codes "fast") (codes "slow") (at_first_space line) frame refl gives

-- ---- the octets of a frame

pub record AreOctets (frame : List ℕ) : Type 0 where
  pub some : 1 ≤ length frame
  pub octets : All (λ x. x < 256) frame

decoded : (text : List ℕ) (frame : List ℕ) (read : Result (List ℕ) FromHexError) → 0 < length text → decode_of text ≡ read → result_ok read ≡ Some frame → AreOctets frame
decoded text frame (Err e) some is gives = absurd (cc)
decoded text frame (Ok octets) some is gives =
    let all = decode_of-ok text octets is in
    let same : octets ≡ frame = cc in
    subst AreOctets same
    (record {
      some = omega (arith, all.2, some);
      octets = All-from_get_or (λ x. x < 256) octets 0 (λ k inside. all.3 k);
    })

pub spelled_octets-are : (digits frame : List ℕ) → spelled_octets digits ≡ Some frame → AreOctets frame
spelled_octets-are [] frame gives = absurd (cc)
spelled_octets-are (c ∷ digits) frame gives = decoded (c ∷ digits) frame (decode_of (c ∷ digits)) (omega arith) refl gives

pub slow_frame-may : (digits frame : List ℕ) → spelled_octets digits ≡ Some frame → length frame ≤ 1500 → slow.IsFrame frame
slow_frame-may digits frame gives short =
    let are = spelled_octets-are digits frame gives in
    record { some = are.some; few = short; octets = are.octets }

pub fast_frame-may : (digits frame : List ℕ) → spelled_octets digits ≡ Some frame → length frame ≤ 1522 → fast.IsFrame frame
fast_frame-may digits frame gives short =
    let are = spelled_octets-are digits frame gives in
    record { some = are.some; few = short; octets = are.octets }

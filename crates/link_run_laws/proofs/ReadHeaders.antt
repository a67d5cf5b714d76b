-- The header of a capture that is written is read back, where a file of samples can begin with its numbers.
use Rattle.std.proofs.Common.{codes, ◌≡◌, ◌≢◌, ◌&&◌, ℕ, ◌+◌, ◌^◌, ◌<◌, ◌≤◌, Bool, true, false, List, ◌∷◌, ◌++◌, length, Option, Some, None, refl, ap, ◌∙◌, subst, arith, append_assoc, length-append}
use Rattle.std.specs.Prelude.{bytes_eq, decimal, nat_le, if◌then◌else◌}
use Rattle.std.proofs.lemmas.Bool.{cond-true, leb-true}
use Rattle.std.proofs.lemmas.Fmt.{length-decimal-le}
use Rattle.std.proofs.lemmas.List.Elements.{All-append}
use Rattle.std.proofs.lemmas.Option.{cond_some, none-some, same_Some}
use Rattle.control_words.specs.Announcement.{allows_hdlc, allows_pointer}
use Rattle.control_words.specs.declared.announce.Announce.{Announce}
use Rattle.link_run_capture.proofs.CaptureLines.{at_most_some}
use Rattle.link_run_capture.specs.Capture.{at_most, first_version, header_of, header_word, no_channels, run_header, second_version, with_channels, with_fields, with_run, with_word}
use Rattle.link_run_capture.specs.Written.{header_text}
use Rattle.link_run_capture.specs.declared.header.Header.{Header}
use Rattle.link_run_capture.specs.declared.header.RunFile.TheVariants.{Capture, Samples}
use Rattle.link_run_capture.specs.declared.header.Version.TheVariants.{One, Two}
use Rattle.link_text.proofs.DecimalLemmas.{decimal_value-decimal}
use Rattle.link_text.specs.Decimals.{decimal_value}
use Rattle.link_text.specs.Fields.{at_first_space}
use Rattle.link_text.specs.Lines.{HasNoFeed}
use Rattle.link_run_laws.specs.SentAreReplayed.{BeginsSamples}
use Rattle.link_run_laws.proofs.ReadLines.{HasNo-decimal, cut_at_space, none_by_test}

-- ---- what the header of a file of samples says

abbrev channels : (hdlc pointer : ℕ) → Announce
channels hdlc pointer = record { version = 1; hdlc = hdlc; pointer = pointer; l1 = 0 }

pub data IsRun (width : ℕ) (header : Header) : Type 0 where
  run_one : (n : ℕ) → n ≤ 4096 → record { version = One; run_ticks = n; announce = no_channels } ≡ header → IsRun width header
  run_two : (n hdlc pointer : ℕ) → n ≤ 1_048_576 → hdlc ≤ 255 → pointer ≤ 255 → allows_hdlc width hdlc && allows_pointer pointer ≡ true
      → record { version = Two; run_ticks = n; announce = channels hdlc pointer } ≡ header → IsRun width header

few : (most : ℕ) (given : Option ℕ) (n : ℕ) → at_most most given ≡ Some n → n ≤ most
few most None n is = absurd (none-some n is)
few most (Some k) n is =
    let parts = cond_some (nat_le k most) k n is in
    subst (λ x. x ≤ most) parts.1 (leb-true k most parts.0)

module _ (width : ℕ) (header : Header) where
  by_one : (run given : Option ℕ) → at_most 4096 given ≡ run → first_version run ≡ Some header → IsRun width header
  by_one None given read is = absurd (none-some header is)
  by_one (Some n) given read is = run_one n (few 4096 given n read) (same_Some _ header is)

  by_table : (n hdlc pointer : ℕ) → n ≤ 1_048_576 → hdlc ≤ 255 → pointer ≤ 255 → (allowed : Bool) → allows_hdlc width hdlc && allows_pointer pointer ≡ allowed
      → second_version n (if allowed then Some (channels hdlc pointer) else None) ≡ Some header → IsRun width header
  by_table n hdlc pointer run_few hdlc_few pointer_few true allowed is = run_two n hdlc pointer run_few hdlc_few pointer_few allowed (same_Some _ header is)
  by_table n hdlc pointer run_few hdlc_few pointer_few false allowed is = absurd (none-some header is)

  by_channels : (run hdlc pointer a b c : Option ℕ) → at_most 1_048_576 a ≡ run → at_most 255 b ≡ hdlc → at_most 255 c ≡ pointer → with_channels width run hdlc pointer ≡ Some header → IsRun width header
  by_channels None hdlc pointer a b c is_run is_hdlc is_pointer is = absurd (none-some header is)
  by_channels (Some n) None pointer a b c is_run is_hdlc is_pointer is = absurd (none-some header is)
  by_channels (Some n) (Some hdlc) None a b c is_run is_hdlc is_pointer is = absurd (none-some header is)
  by_channels (Some n) (Some hdlc) (Some pointer) a b c is_run is_hdlc is_pointer is =
      by_table n hdlc pointer (few 1_048_576 a n is_run) (few 255 b hdlc is_hdlc) (few 255 c pointer is_pointer) (allows_hdlc width hdlc && allows_pointer pointer) refl is

  by_fields : (run : List ℕ) (found : Option (List ℕ × List ℕ)) → with_fields Samples width run found ≡ Some header → IsRun width header
  by_fields run None is = absurd (none-some header is)
  by_fields run (Some fields) is = by_channels _ _ _ (decimal_value run) (decimal_value fields.0) (decimal_value fields.1) refl refl refl is

  by_run : (found : Option (List ℕ × List ℕ)) → with_run Samples width found ≡ Some header → IsRun width header
  by_run None is = absurd (none-some header is)
  by_run (Some fields) is = by_fields fields.0 (at_first_space fields.1) is

  by_tests : (one two : Bool) (given : Option ℕ) (found : Option (List ℕ × List ℕ))
      → (if one then first_version (at_most 4096 given) else (if two then with_run Samples width found else None)) ≡ Some header → IsRun width header
  by_tests true two given found is = by_one (at_most 4096 given) given refl is
  by_tests false true given found is = by_run found is
  by_tests false false given found is = absurd (none-some header is)

  by_word : (found : Option (List ℕ × List ℕ)) → with_word Samples width found ≡ Some header → IsRun width header
  by_word None is = absurd (none-some header is)
  by_word (Some fields) is = by_tests (bytes_eq fields.0 (header_word Samples One)) (bytes_eq fields.0 (header_word Samples Two)) (decimal_value fields.1) (at_first_space fields.1) is

  pub is_run : BeginsSamples width header → IsRun width header
  unfolding run_header
  is_run begins = by_word (at_first_space begins.0) begins.1

-- ---- the text of a header

-- a header that is read back, and is a line that is not too long
pub record IsReadBack (width : ℕ) (header : Header) : Type 0 where
  pub says : header_of width (header_text header) ≡ Some header
  pub no_feed : HasNoFeed (header_text header)
  pub short : length (header_text header) ≤ 4096

abbrev F : ℕ → Type 0
F c = c ≢ 10

number_fits : (most n : ℕ) → n ≤ most → most < 2 ^ 64 → at_most most (decimal_value (decimal n)) ≡ Some n
number_fits most n low fits = at_most_some most n (decimal_value (decimal n)) (decimal_value-decimal n (omega arith)) low

back_one : (width n : ℕ) → n ≤ 4096 → IsReadBack width (record { version = One; run_ticks = n; announce = no_channels })
unfolding header_text run_header
back_one width n low =
    let text = decimal n in
    let small = length-decimal-le 20 n (omega arith) (omega arith) (omega arith) in
    let fields = cut_at_space (codes "capture") text (none_by_test 32 (codes "capture") refl) in
    record {
      says = ap (with_word Capture width) fields ∙ ap first_version (number_fits 4096 n low (omega arith));
      no_feed = All-append F (codes "capture ") text (none_by_test 10 (codes "capture ") refl) (HasNo-decimal 10 n refl (omega arith));
      short = omega (arith, small, length-append (codes "capture ") text);
    }

back_two : (width n hdlc pointer : ℕ) → n ≤ 1_048_576 → hdlc ≤ 255 → pointer ≤ 255 → allows_hdlc width hdlc && allows_pointer pointer ≡ true
    → IsReadBack width (record { version = Two; run_ticks = n; announce = channels hdlc pointer })
unfolding header_text run_header
back_two width n hdlc pointer low hdlc_low pointer_low allowed =
    let first = codes "capture2 " ++ decimal n in
    let second = first ++ codes " " ++ decimal hdlc in
    let whole = second ++ codes " " ++ decimal pointer in
    let last = decimal hdlc ++ 32 ∷ decimal pointer in
    let split : whole ≡ codes "capture2" ++ 32 ∷ (decimal n ++ 32 ∷ last) = simp append_assoc in
    let word = ap at_first_space split ∙ cut_at_space (codes "capture2") (decimal n ++ 32 ∷ last) (none_by_test 32 (codes "capture2") refl) in
    let run = cut_at_space (decimal n) last (HasNo-decimal 32 n refl (omega arith)) in
    let both = cut_at_space (decimal hdlc) (decimal pointer) (HasNo-decimal 32 hdlc refl (omega arith)) in
    let small = λ (k : ℕ) (fits : k ≤ 1_048_576). length-decimal-le 20 k (omega arith) (omega arith) (omega arith) in
    let space = none_by_test 10 (codes " ") refl in
    record {
      says =
          ap (with_word Capture width) word ∙ ap (with_run Capture width) run ∙ ap (with_fields Capture width (decimal n)) both
          ∙ ap (λ run. with_channels width run (at_most 255 (decimal_value (decimal hdlc))) (at_most 255 (decimal_value (decimal pointer)))) (number_fits (2 ^ 40) n (omega arith) (omega arith))
          ∙ ap (λ code. with_channels width (Some n) code (at_most 255 (decimal_value (decimal pointer)))) (number_fits 255 hdlc hdlc_low (omega arith))
          ∙ ap (with_channels width (Some n) (Some hdlc)) (number_fits 255 pointer pointer_low (omega arith))
          ∙ ap (second_version n) (cond-true (allows_hdlc width hdlc && allows_pointer pointer) (Some (channels hdlc pointer)) None allowed);
      no_feed =
          All-append F (second ++ codes " ") (decimal pointer)
          (All-append F second (codes " ")
          (All-append F (first ++ codes " ") (decimal hdlc)
          (All-append F first (codes " ") (All-append F (codes "capture2 ") (decimal n) (none_by_test 10 (codes "capture2 ") refl) (HasNo-decimal 10 n refl (omega arith))) space)
          (HasNo-decimal 10 hdlc refl (omega arith))) space)
          (HasNo-decimal 10 pointer refl (omega arith));
      short =
          omega (
            arith,
            small n low,
            small hdlc (omega arith),
            small pointer (omega arith),
            length-append (codes "capture2 ") (decimal n),
            length-append first (codes " "),
            length-append (first ++ codes " ") (decimal hdlc),
            length-append second (codes " "),
            length-append (second ++ codes " ") (decimal pointer),
          );
    }

by_run_kind : (width : ℕ) (header : Header) → IsRun width header → IsReadBack width header
by_run_kind width header (run_one n low is) = subst (IsReadBack width) is (back_one width n low)
by_run_kind width header (run_two n hdlc pointer low hdlc_low pointer_low allowed is) = subst (IsReadBack width) is (back_two width n hdlc pointer low hdlc_low pointer_low allowed)

pub header_back : (width : ℕ) (header : Header) → BeginsSamples width header → IsReadBack width header
header_back width header begins = by_run_kind width header (is_run width header begins)

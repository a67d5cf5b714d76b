-- What the header of a file of samples announces.
use Rattle.std.proofs.Common.{◌≡◌, ℕ, List, Bool, true, false, Option, Some, None, refl, subst, arith}
use Rattle.std.specs.Prelude.{bytes_eq, ◌&&◌, if◌then◌else◌, IsTrue}
use Rattle.control_words.specs.Announcement.{IsWithinTable, allows_hdlc, allows_pointer, announcement_of}
use Rattle.control_words.specs.declared.announce.Announce.{Announce}
use Rattle.link_run_capture.specs.Capture.{at_most, first_version, header_word, longest_run, run_header, second_version, with_channels, with_fields, with_run, with_word}
use Rattle.link_run_capture.specs.declared.header.Header.{Header}
use Rattle.link_run_capture.specs.declared.header.RunFile.TheVariants.{Samples}
use Rattle.link_run_capture.specs.declared.header.Version.TheVariants.{One, Two}
use Rattle.link_text.specs.Decimals.{decimal_value}
use Rattle.link_text.specs.Fields.{at_first_space}

-- in words of so many octets, with no bit of the L1 inband protocol
pub record Announces (width : ℕ) (a : Announce) : Type 0 where
  pub within : IsWithinTable width a
  pub no_state : a.l1 ≡ 0

abbrev pub HeaderAnnounces : ℕ → Header → Type 0
HeaderAnnounces width header = Announces width header.announce

by_first : (width : ℕ) (run : Option ℕ) (header : Header) → first_version run ≡ Some header → HeaderAnnounces width header
by_first width None header is = absurd (cc)
by_first width (Some run) header is =
    let same : record { version = One; run_ticks = run; announce = record { version = 1; hdlc = 0; pointer = 0; l1 = 0 } } ≡ header = cc in
    subst (HeaderAnnounces width) same
    (record {
      within = record { version = refl; hdlc = refl; pointer = refl; l1 = omega arith };
      no_state = refl;
    })

first_true : (a b : Bool) → a && b ≡ true → IsTrue a
first_true true b is = refl
first_true false b is = absurd (cc)

second_true : (a b : Bool) → a && b ≡ true → IsTrue b
second_true true true is = refl
second_true true false is = absurd (cc)
second_true false b is = absurd (cc)

by_announcement : (width hdlc pointer : ℕ) (allowed : Bool) (a : Announce) → allows_hdlc width hdlc && allows_pointer pointer ≡ allowed
    → (if allowed then Some (record { version = 1; hdlc = hdlc; pointer = pointer; l1 = 0 }) else None) ≡ Some a → Announces width a
by_announcement width hdlc pointer false a allowed is = absurd (cc)
by_announcement width hdlc pointer true a allowed is =
    let same : record { version = 1; hdlc = hdlc; pointer = pointer; l1 = 0 } ≡ a = cc in
    subst (Announces width) same
    (record {
      within = record { version = refl; hdlc = first_true _ _ allowed; pointer = second_true _ _ allowed; l1 = omega arith };
      no_state = refl;
    })

by_second : (width run : ℕ) (o : Option Announce) (header : Header) → ((a : Announce) → o ≡ Some a → Announces width a) → second_version run o ≡ Some header → HeaderAnnounces width header
by_second width run None header all is = absurd (cc)
by_second width run (Some a) header all is =
    let same : record { version = Two; run_ticks = run; announce = a } ≡ header = cc in
    subst (HeaderAnnounces width) same (all a refl)

by_channels : (width : ℕ) (run hdlc pointer : Option ℕ) (header : Header) → with_channels width run hdlc pointer ≡ Some header → HeaderAnnounces width header
by_channels width None hdlc pointer header is = absurd (cc)
by_channels width (Some run) None pointer header is = absurd (cc)
by_channels width (Some run) (Some hdlc) None header is = absurd (cc)
by_channels width (Some run) (Some hdlc) (Some pointer) header is =
    by_second width run (announcement_of width hdlc pointer) header (λ a read. by_announcement width hdlc pointer (allows_hdlc width hdlc && allows_pointer pointer) a refl read) is

by_fields : (width : ℕ) (run : List ℕ) (channels : Option (List ℕ × List ℕ)) (header : Header) → with_fields Samples width run channels ≡ Some header → HeaderAnnounces width header
by_fields width run None header is = absurd (cc)
by_fields width run (Some channels) header is =
    by_channels width (at_most (longest_run Samples Two) (decimal_value run)) (at_most 255 (decimal_value channels.0)) (at_most 255 (decimal_value channels.1)) header is

by_run : (width : ℕ) (fields : Option (List ℕ × List ℕ)) (header : Header) → with_run Samples width fields ≡ Some header → HeaderAnnounces width header
by_run width None header is = absurd (cc)
by_run width (Some fields) header is = by_fields width fields.0 (at_first_space fields.1) header is

by_words : (width : ℕ) (fields : List ℕ × List ℕ) (header : Header) (one two : Bool)
    → (if one then first_version (at_most (longest_run Samples One) (decimal_value fields.1)) else (if two then with_run Samples width (at_first_space fields.1) else None)) ≡ Some header
    → HeaderAnnounces width header
by_words width fields header true two is = by_first width (at_most (longest_run Samples One) (decimal_value fields.1)) header is
by_words width fields header false true is = by_run width (at_first_space fields.1) header is
by_words width fields header false false is = absurd (cc)

by_word : (width : ℕ) (fields : Option (List ℕ × List ℕ)) (header : Header) → with_word Samples width fields ≡ Some header → HeaderAnnounces width header
by_word width None header is = absurd (cc)
by_word width (Some fields) header is = by_words width fields header (bytes_eq fields.0 (header_word Samples One)) (bytes_eq fields.0 (header_word Samples Two)) is

pub header_announces : (width : ℕ) (line : List ℕ) (header : Header) → run_header Samples width line ≡ Some header → HeaderAnnounces width header
unfolding run_header
header_announces width line header is = by_word width (at_first_space line) header is

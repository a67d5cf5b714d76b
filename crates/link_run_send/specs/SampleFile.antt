-- A file of samples as a whole: the stream that all its lines give together. Its form is this project's own.
use Rattle.std.specs.Prelude.{codes, bytes_eq, ◌≡◌, ◌⊎◌, ℕ, ◌==◌, if◌then◌else◌, All, List, [], ◌∷◌, ◌++◌, filter, length, map, replicate, Option, Some, None}
use Rattle.std.specs.List.{filter_map, flat_map, range_with_len, zip}
use Rattle.carrier_plan.specs.declared.plan.Plan.{Plan}
use Rattle.link_run_capture.specs.Capture.{run_header}
use Rattle.link_run_capture.specs.declared.header.Header.{Header}
use Rattle.link_run_capture.specs.declared.header.RunFile.TheVariants.{Samples}
use Rattle.link_run_capture.specs.declared.header.Version.{Version}
use Rattle.link_run_capture.specs.declared.header.Version.TheVariants.{One}
use Rattle.link_sender.specs.Stream.{Stream}
use Rattle.link_text.specs.Fields.{at_first_space}
use Rattle.link_text.specs.Hexadecimal.{spelled_octets}
use Rattle.link_text.specs.Lines.{lines_of, rest_of}
use Rattle.plan_checker.specs.Run.{samples_due}
use Rattle.plan_checker.specs.WordSize.{word_size}
use Rattle.sample_bits.specs.declared.iq.RawIq.{RawIq}
use Rattle.link_run_send.specs.SampleLine.{sample_of}

-- ---- the order of the samples: by tick, then carrier, then number

-- the carrier of each sample that is due at tick n
abbrev pub carriers_at : Plan → ℕ → List ℕ
carriers_at p n = flat_map (λ c. replicate (samples_due p c n) c) (range_with_len 0 (length p.carriers))

-- the carrier of each sample of a run of h ticks
unfoldable pub carriers_in_order : Plan → ℕ → List ℕ
carriers_in_order p h = flat_map (carriers_at p) (range_with_len 0 h)

-- of the samples of a run, which stand in that order, those of carrier c
unfoldable pub samples_of_carrier : Plan → ℕ → List RawIq → ℕ → List RawIq
samples_of_carrier p h samples c = map (λ (sample : ℕ × RawIq). sample.1) (filter (λ (sample : ℕ × RawIq). sample.0 == c) (zip (carriers_in_order p h) samples))

-- ---- the frames of the management channels

-- the octets after this word and a space
abbrev pub octets_after : List ℕ → Option (List ℕ × List ℕ) → Option (List ℕ)
octets_after word None = None
octets_after word (Some fields) = if bytes_eq fields.0 word then spelled_octets fields.1 else None

-- the frame of the slow channel that a line gives, if it does, and that of the fast channel
unfoldable pub slow_frame : List ℕ → Option (List ℕ)
slow_frame line = octets_after (codes "slow") (at_first_space line)

unfoldable pub fast_frame : List ℕ → Option (List ℕ)
fast_frame line = octets_after (codes "fast") (at_first_space line)

-- ---- the lines of a file

-- the stream that these lines give after a header
unfoldable pub stream_of : Plan → Header → List (List ℕ) → Stream
stream_of p header lines = record {
  samples = map (samples_of_carrier p header.run_ticks (filter_map sample_of lines)) (range_with_len 0 (length p.carriers));
  announcement = header.announce;
  slow = filter_map slow_frame lines;
  fast = filter_map fast_frame lines;
}

abbrev pub IsSampleLine : List ℕ → Type 0
IsSampleLine line = (sample : RawIq) × (sample_of line ≡ Some sample)

abbrev pub IsFrameLine : List ℕ → Type 0
IsFrameLine line = (frame : List ℕ) × ((slow_frame line ≡ Some frame) ⊎ (fast_frame line ≡ Some frame))

-- Lines that may follow a header: in version 2 frames of the management channels, and then samples.
pub record AreLines (version : Version) (lines : List (List ℕ)) : Type 0 where
  pub frames : List (List ℕ)
  pub samples : List (List ℕ)
  pub all : lines ≡ frames ++ samples
  pub are_frames : All IsFrameLine frames
  pub are_samples : All IsSampleLine samples
  pub none_before : version ≡ One → frames ≡ []

-- The octets begin as a file of samples by this plan: a header, these lines, and those that follow them.
pub record BeginsSampleFile (p : Plan) (octets : List ℕ) (header : Header) (lines following : List (List ℕ)) : Type 0 where
  pub first : List ℕ
  pub whole : lines_of octets ≡ first ∷ (lines ++ following)
  pub says : run_header Samples (word_size p.option) first ≡ Some header
  pub are_lines : AreLines header.version lines

-- The octets are a file of samples by this plan: a header, these lines, and the last line.
pub record IsSampleFile (p : Plan) (octets : List ℕ) (header : Header) (lines : List (List ℕ)) : Type 0 where
  pub begins : BeginsSampleFile p octets header lines (codes "end" ∷ [])
  pub after : rest_of octets ≡ []

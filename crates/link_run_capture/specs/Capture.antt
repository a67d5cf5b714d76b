-- The feed of a capture: the length of a run, the channels that its control words announce, and the octets that arrived at its
-- ticks; and the header of a file of samples, which says the same of a run. Their forms are this project's own.
use Rattle.std.specs.Prelude.{codes, bytes_eq, ℕ, ◌^◌, nat_le, List, Option, Some, None, Result, Ok, Err, if◌then◌else◌}
use Rattle.control_words.specs.Announcement.{announcement_of}
use Rattle.control_words.specs.declared.announce.Announce.{Announce}
use Rattle.link_text.specs.Decimals.{decimal_value}
use Rattle.link_text.specs.Hexadecimal.{spelled_octets}
use Rattle.link_base.specs.Record.{Record}
use Rattle.link_run_capture.specs.declared.header.Header.{Header}
use Rattle.link_run_capture.specs.declared.header.RunFile.{RunFile}
use Rattle.link_run_capture.specs.declared.header.RunFile.TheVariants.{Capture, Samples}
use Rattle.link_run_capture.specs.declared.header.Version.{Version}
use Rattle.link_run_capture.specs.declared.header.Version.TheVariants.{One, Two}
use Rattle.link_run_feed.specs.declared.reason.Reason.{Reason}
use Rattle.link_run_feed.specs.declared.reason.Reason.TheVariants.{Number, Hex}
use Rattle.link_text.specs.Fields.{at_first_space}

-- the word of a header, by the kind of the file and its version
abbrev pub header_word : RunFile → Version → List ℕ
header_word Capture One = codes "capture"
header_word Capture Two = codes "capture2"
header_word Samples One = codes "samples"
header_word Samples Two = codes "samples2"

-- the greatest length of a run, in ticks
abbrev pub longest_run : RunFile → Version → ℕ
longest_run Capture One = 4096
longest_run Capture Two = 2 ^ 40
longest_run Samples One = 4096
longest_run Samples Two = 1_048_576

-- the greatest tick of a record
abbrev pub latest_tick : ℕ
latest_tick = 2 ^ 40

-- the greatest number of records
abbrev pub most_records : Version → ℕ
most_records One = 65_536
most_records Two = 2 ^ 40

-- a number, if it is at most this one
abbrev pub at_most : ℕ → Option ℕ → Option ℕ
at_most most None = None
at_most most (Some n) = if nat_le n most then Some n else None

-- what control words announce that carry no management channel
abbrev pub no_channels : Announce
no_channels = record { version = 1; hdlc = 0; pointer = 0; l1 = 0 }

-- by the length of the run
abbrev pub first_version : Option ℕ → Option Header
first_version None = None
first_version (Some run_ticks) = Some (record { version = One; run_ticks = run_ticks; announce = no_channels })

-- by the length of the run and what is announced
abbrev pub second_version : ℕ → Option Announce → Option Header
second_version run_ticks None = None
second_version run_ticks (Some a) = Some (record { version = Two; run_ticks = run_ticks; announce = a })

-- by the length of the run, the HDLC rate code and the pointer, in words of so many octets
abbrev pub with_channels : ℕ → Option ℕ → Option ℕ → Option ℕ → Option Header
with_channels width None hdlc pointer = None
with_channels width (Some run_ticks) None pointer = None
with_channels width (Some run_ticks) (Some hdlc) None = None
with_channels width (Some run_ticks) (Some hdlc) (Some pointer) = second_version run_ticks (announcement_of width hdlc pointer)

abbrev pub with_fields : RunFile → ℕ → List ℕ → Option (List ℕ × List ℕ) → Option Header
with_fields file width run None = None
with_fields file width run (Some channels) =
    with_channels width (at_most (longest_run file Two) (decimal_value run)) (at_most 255 (decimal_value channels.0)) (at_most 255 (decimal_value channels.1))

abbrev pub with_run : RunFile → ℕ → Option (List ℕ × List ℕ) → Option Header
with_run file width None = None
with_run file width (Some fields) = with_fields file width fields.0 (at_first_space fields.1)

abbrev pub with_word : RunFile → ℕ → Option (List ℕ × List ℕ) → Option Header
with_word file width None = None
with_word file width (Some fields) =
    if bytes_eq fields.0 (header_word file One) then first_version (at_most (longest_run file One) (decimal_value fields.1)) else
    (if bytes_eq fields.0 (header_word file Two) then with_run file width (at_first_space fields.1) else None)

-- what the header of a file says, if the line is one: its first word and H, or its other word and H HDLC POINTER, in words of
-- so many octets
unfoldable pub run_header : RunFile → ℕ → List ℕ → Option Header
run_header file width line = with_word file width (at_first_space line)

-- the header of a capture
abbrev pub header_of : ℕ → List ℕ → Option Header
header_of width line = run_header Capture width line

abbrev pub record_by : Option ℕ → Option (List ℕ) → Result Record Reason
record_by None octets = Err Number
record_by (Some tick) None = Err Hex
record_by (Some tick) (Some octets) = Ok (record { tick = tick; octets = octets })

abbrev pub record_in : List ℕ → Option (List ℕ × List ℕ) → Result Record Reason
record_in line None = record_by (at_most latest_tick (decimal_value line)) None
record_in line (Some fields) = record_by (at_most latest_tick (decimal_value fields.0)) (spelled_octets fields.1)

-- the record of a line, `TICK HEX`, or why it is none
unfoldable pub record_of : List ℕ → Result Record Reason
record_of line = record_in line (at_first_space line)

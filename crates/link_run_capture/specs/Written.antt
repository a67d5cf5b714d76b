-- A capture as it is written: the first line, and a line for each packet. Its form is this project's own.
use Rattle.std.specs.Prelude.{codes, decimal, ℕ, List, ◌++◌}
use Rattle.hex.specs.Hex.{encode_lower}
use Rattle.link_text.specs.Printed.{ended}
use Rattle.link_run_capture.specs.declared.header.Header.{Header}
use Rattle.link_run_capture.specs.declared.header.Version.{Version}
use Rattle.link_run_capture.specs.declared.header.Version.TheVariants.{One, Two}

abbrev pub header_text_by : Version → Header → List ℕ
header_text_by One header = codes "capture " ++ decimal header.run_ticks
header_text_by Two header = codes "capture2 " ++ decimal header.run_ticks ++ codes " " ++ decimal header.announce.hdlc ++ codes " " ++ decimal header.announce.pointer

-- the first line without its line feed
unfoldable pub header_text : Header → List ℕ
header_text header = header_text_by header.version header

-- the line of a packet that arrives at a tick, without its line feed
unfoldable pub record_text : ℕ → List ℕ → List ℕ
record_text tick octets = decimal tick ++ codes " " ++ encode_lower octets

-- the same lines as they are printed
abbrev pub header_line : Header → List ℕ
header_line header = ended (header_text header)

abbrev pub record_line : ℕ → List ℕ → List ℕ
record_line tick octets = ended (record_text tick octets)

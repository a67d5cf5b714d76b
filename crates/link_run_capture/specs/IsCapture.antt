-- A whole capture. Its form is this project's own.
use Rattle.std.specs.Prelude.{codes, ◌≡◌, ℕ, List, [], ◌∷◌, ◌++◌, map, Some, Ok}
use Rattle.link_base.specs.Record.{Record}
use Rattle.link_text.specs.Lines.{lines_of, rest_of}
use Rattle.link_run_capture.specs.Capture.{header_of, record_of}
use Rattle.link_run_capture.specs.declared.header.Header.{Header}

-- The octets are a capture with this header and these records, in words of so many octets: a header, a line for each record, and
-- the last line.
pub record IsCapture (width : ℕ) (octets : List ℕ) (header : Header) (records : List Record) : Type 0 where
  pub first : List ℕ
  pub lines : List (List ℕ)
  pub whole : lines_of octets ≡ first ∷ (lines ++ codes "end" ∷ [])
  pub after : rest_of octets ≡ []
  pub says : header_of width first ≡ Some header
  pub reads : map record_of lines ≡ map Ok records

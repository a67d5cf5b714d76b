-- The feed of a line: the symbols of its basic frames, and the text that says what they show. Its form is this project's own.
use Rattle.std.specs.Prelude.{codes, decimal, bytes_eq, ℕ, ◌-◌, ◌*◌, ◌==◌, ◌&&◌, nat_le, List, [], ◌∷◌, ◌++◌, length, slice_index, Option, Some, None, Result, Ok, Err, if◌then◌else◌}
use Rattle.hyperframe.specs.Loss.{violations_in as violations_of}
use Rattle.link_text.specs.Decimals.{decimal_value}
use Rattle.link_text.specs.Fields.{at_first_space}
use Rattle.link_text.specs.Hexadecimal.{spelled_octets}
use Rattle.link_text.specs.Printed.{ended}
use Rattle.link_run_feed.specs.declared.reason.Reason.{Reason}
use Rattle.link_run_feed.specs.declared.reason.Reason.TheVariants.{Hex, Count}
use Rattle.link_run_feed.specs.Feed.{LineForm, FeedForm}
use Rattle.line_code.specs.Packed.{symbols_in}
use Rattle.link_run_inspect.specs.Frames.{control_words, counted}
use Rattle.link_run_inspect.specs.Changes.{changes_of, changes_text}
use Rattle.link_run_inspect.specs.Managed.{managed}
use Rattle.link_run_inspect.specs.Events.{followed_text}

-- the octets of a word, the frames that the header announces, and the symbols of each frame that was read
pub record Inspected : Type 0 where
  pub width : ℕ
  pub due : ℕ
  pub frames : List (List ℕ)

-- the octets of a word at the options 1 to 7 (CPRI Specification V7.0, section 4.2.7.1)
abbrev pub word_sizes : List ℕ
word_sizes = 1 ∷ 2 ∷ 4 ∷ 5 ∷ 8 ∷ 10 ∷ 16 ∷ []

abbrev pub word_size : ℕ → ℕ
word_size option = slice_index word_sizes (option - 1)

-- a line of this option and of so many frames, of which none is read
abbrev pub opened : Option ℕ → Option ℕ → Option (Inspected × List ℕ)
opened (Some option) (Some due) =
    if nat_le 1 option && nat_le option 7 && nat_le due 2097152 then Some (record { width = word_size option; due = due; frames = [] }, []) else None
opened (Some option) None = None
opened None due = None

abbrev pub with_fields : Option (List ℕ × List ℕ) → Option (Inspected × List ℕ)
with_fields None = None
with_fields (Some fields) = opened (decimal_value fields.0) (decimal_value fields.1)

abbrev pub with_word : Option (List ℕ × List ℕ) → Option (Inspected × List ℕ)
with_word None = None
with_word (Some fields) = if bytes_eq fields.0 (codes "line") then with_fields (at_first_space fields.1) else None

-- `line OPTION N`
abbrev pub opened_by : List ℕ → Option (Inspected × List ℕ)
opened_by line = with_word (at_first_space line)

-- the octets of the symbols of a frame: two digits each
abbrev pub frame_octets : ℕ → List ℕ → Option (List ℕ)
frame_octets width line = if length line == 40 * width then spelled_octets line else None

-- the lines about one more frame
unfoldable pub frame_text : ℕ → List (List ℕ) → List ℕ → List ℕ
frame_text width frames frame =
    let changes = changes_of width frames frame in
    changes_text changes
    ++ followed_text (length frames) width (control_words width 256 (frames ++ frame ∷ [])) changes.hyperframe (managed width frames)

abbrev pub with_frame : Inspected → List ℕ → Inspected
with_frame s frame = record s { frames = s.frames ++ frame ∷ [] }

abbrev pub with_octets : Inspected → Option (List ℕ) → Result (Inspected × List ℕ) Reason
with_octets s None = Err Hex
with_octets s (Some octets) = Ok (with_frame s (symbols_in octets), frame_text s.width s.frames (symbols_in octets))

abbrev pub frame_line : Inspected → List ℕ → Result (Inspected × List ℕ) Reason
frame_line s line = if length s.frames == s.due then Err Count else with_octets s (frame_octets s.width line)

-- the frames and the violations of the whole line
abbrev pub totals : Inspected → List ℕ
totals s = ended (codes "end " ++ decimal (length s.frames) ++ codes " " ++ decimal (violations_of (counted s.frames)))

abbrev pub frame_lines : LineForm Inspected
frame_lines = record { line = frame_line; may_end = λ s. length s.frames == s.due; ending = λ s. (s, []); closing = totals }

abbrev pub inspect_form : FeedForm Inspected
inspect_form = record { header = opened_by; lines = frame_lines }

-- What a shelf in memory keeps. This is the project's own.
use Rattle.std.specs.Prelude.{◌↔◌, ◌+◌, ◌≡◌, ◌≢◌, ◌<◌, ◌≤◌, ℕ, zero, suc, List, [], ◌∷◌, map, length, take, drop, ◌++◌, true, Option, Some, None, Contains, string_bytes, unwrap_or, slice_get, refl}
use Rattle.std.specs.Option.{option_map}
use Rattle.std.specs.FinMap.{from_entries, code}
use Rattle.std.specs.Coded.{Coded, code_by, coded×, coded_ℕ, coded_list, coded_option}
use Rattle.link_base.specs.Shelf.{Files, Shown}
use Rattle.link_base.specs.declared.mem_shelf.File.{File}
use Rattle.link_base.specs.declared.mem_shelf.Stop.{Stop}

pub record ShelfMemory : Type 0 where
  pub held : Files
  -- the names and the offsets at which reads fail
  pub stops : List (List ℕ × ℕ)
  -- how many octets are read in one call at most
  pub piece : ℕ
  pub chosen : Option (List ℕ)
  -- how many octets of the selected file were read
  pub position : ℕ
  pub left : List ℕ
  pub failed : Option (List ℕ)
  pub faults : ℕ

abbrev pub shelf_shown : ShelfMemory → Shown
shelf_shown shelf = record { tells = true; held = shelf.held; left = shelf.left; chosen = shelf.chosen; failed = shelf.failed; faults = shelf.faults }

-- a read of this file fails where it would begin at this offset
abbrev pub HasStop : ShelfMemory → List ℕ → ℕ → Type 0
HasStop shelf name offset = Contains shelf.stops (name, offset)

-- how the files and the stops of the code stand for these facts
abbrev pub entry_of : File → List ℕ × List ℕ
entry_of file = (string_bytes file.name, file.octets.items)

abbrev pub held_of : List File → Files
held_of files = from_entries (map entry_of files)

abbrev pub stop_of : Stop → List ℕ × ℕ
stop_of stop = (string_bytes stop.name, stop.offset)

-- the file at a place of the list, as its name and its octets
abbrev pub entry_at : List File → Option ℕ → Option (List ℕ × List ℕ)
entry_at files None = None
entry_at files (Some i) = option_map entry_of (slice_get files i)

abbrev pub name_at : List File → Option ℕ → Option (List ℕ)
name_at files place = option_map (λ entry. entry.0) (entry_at files place)

abbrev pub octets_at : List File → Option ℕ → List ℕ
octets_at files place = unwrap_or (option_map (λ entry. entry.1) (entry_at files place)) []

abbrev pub left_at : List File → Option ℕ → ℕ → List ℕ
left_at files place position = drop position (octets_at files place)

-- none, or a place in the list
abbrev pub IsPlace : List File → Option ℕ → Type 0
IsPlace files None = Unit {0}
IsPlace files (Some i) = i < length files

-- what holds of the places and of the position that the code keeps
abbrev pub AreInFiles : List File → Option ℕ → Option ℕ → ℕ → Type 0
AreInFiles files chosen failed position = IsPlace files chosen × IsPlace files failed × (position ≤ length (octets_at files chosen))

-- The names at all places stay.
pub record KeepsNames (old new : List File) : Type 0 where
  pub longer : length old ≤ length new
  pub names : (place : Option ℕ) → IsPlace old place → name_at new place ≡ name_at old place

-- the facts as nested pairs
abbrev Pairs : Type 0
Pairs = (Files × List (List ℕ × ℕ)) × ((ℕ × Option (List ℕ)) × ((ℕ × List ℕ) × (Option (List ℕ) × ℕ)))

-- by which a proof tells them apart
abbrev pub shelf_code : Coded ShelfMemory
shelf_code =
    code_by Pairs
    (coded× (coded× (code (coded_list coded_ℕ) (coded_list coded_ℕ)) (coded_list (coded× (coded_list coded_ℕ) coded_ℕ)))
    (coded× (coded× coded_ℕ (coded_option (coded_list coded_ℕ))) (coded× (coded× coded_ℕ (coded_list coded_ℕ)) (coded× (coded_option (coded_list coded_ℕ)) coded_ℕ))))
    (λ s. ((s.held, s.stops), ((s.piece, s.chosen), ((s.position, s.left), (s.failed, s.faults)))))
    (λ p. record { held = p.0.0; stops = p.0.1; piece = p.1.0.0; chosen = p.1.0.1; position = p.1.1.0.0; left = p.1.1.0.1; failed = p.1.1.1.0; faults = p.1.1.1.1 })
    (λ _. refl)

-- the first file of this name stands at this place
abbrev pub IsFirstNamed : List ℕ → List File → ℕ → Type 0
IsFirstNamed name [] i = ⊥
IsFirstNamed name (file ∷ files) zero = string_bytes file.name ≡ name
IsFirstNamed name (file ∷ files) (suc i) = (string_bytes file.name ≢ name) × IsFirstNamed name files i

-- So many octets can be read from the position on: none at a stop, and no further than the next stop.
pub record IsFreeRun (stops : List (List ℕ × ℕ)) (name : List ℕ) (position free : ℕ) : Type 0 where
  pub stopped : (free ≡ 0) ↔ Contains stops (name, position)
  pub passes_none : (offset : ℕ) → position < offset → Contains stops (name, offset) → position + free ≤ offset

-- The first k of these octets, and at most so many, stand at the front of the buffer; none where there is none or no room.
pub record ReadsFront (k most : ℕ) (octets before after : List ℕ) : Type 0 where
  pub within : k ≤ length octets
  pub fits : k ≤ length before
  pub at_most : k ≤ most
  pub some : 0 < length before → k ≡ 0 → octets ≡ []
  pub buffer : after ≡ take k octets ++ drop k before

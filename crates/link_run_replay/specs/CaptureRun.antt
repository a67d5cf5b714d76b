-- What is kept of a run and of the records that arrived in it. This is the project's own.
use Rattle.std.specs.Prelude.{◌≡◌, ℕ, ◌+◌, ◌-◌, ◌<◌, ◌≤◌, min, All, List, [], ◌++◌, length, Option, Some, None, Ok}
use Rattle.plan_checker.specs.Rules.{IsGood}
use Rattle.link_base.specs.Record.{Record}
use Rattle.link_receiver.specs.Sessions.{SessionView, StandsFor}
use Rattle.control_words.specs.declared.announce.Announce.{Announce}
use Rattle.plan_checker.specs.WordSize.{word_size}
use Rattle.carrier_plan.specs.declared.plan.Plan.{Plan}
use Rattle.link_run_capture.specs.Capture.{most_records, record_of}
use Rattle.link_run_management.specs.Reads.{ReaderView, StandsFor as ReaderStandsFor}
use Rattle.link_run_replay.specs.RunText.{words_below}
use Rattle.link_run_replay.specs.Replayed.{Replayed, last_tick}

-- The reader of the management channels was handed the control words of the frames below n.
pub record KeepsReader (p : Plan) (h : ℕ) (a : Announce) (records : List Record) (n : ℕ) (reader : ReaderView) : Type 0 where
  pub width : reader.width ≡ word_size p.option
  pub announce : reader.announce ≡ a
  pub stands : ReaderStandsFor reader (words_below p h records n)

-- the same, where there is a reader: without one nothing is announced
abbrev pub KeepsChannels : Plan → ℕ → Announce → List Record → ℕ → Option ReaderView → Type 0
KeepsChannels p h a records n None = (a.hdlc ≡ 0) × (a.pointer ≡ 0)
KeepsChannels p h a records n (Some reader) = KeepsReader p h a records n reader

-- a reader in words of so many octets before frame 0, where anything is announced
pub record IsBegun (width : ℕ) (a : Announce) (reader : ReaderView) : Type 0 where
  pub width_is : reader.width ≡ width
  pub announce : reader.announce ≡ a
  pub stands : ReaderStandsFor reader []

abbrev pub IsBegunReader : ℕ → Announce → Option ReaderView → Type 0
IsBegunReader width a None = (a.hdlc ≡ 0) × (a.pointer ≡ 0)
IsBegunReader width a (Some reader) = IsBegun width a reader

-- The session and the reader of its management channels were handed these records, and were played as far as the session's tick.
pub record PlaysRun (session : SessionView) (management : Option ReaderView) (a : Announce) (records : List Record) : Type 0 where
  pub samples : StandsFor session records
  pub channels : KeepsChannels session.plan session.frames a records (session.tick - session.plan.playout) management

-- The session was handed the records at ticks of the run, which are the first ones, and was played as far as below this
-- tick.
pub record IsPlayedTo (session : SessionView) (management : Option ReaderView) (tick : ℕ) (s : Replayed) : Type 0 where
  pub plan : session.plan ≡ s.plan
  pub run : session.frames ≡ s.header.run_ticks
  pub good : IsGood s.plan
  pub now : session.tick ≡ min tick (last_tick s)
  pub early : List Record
  pub late : List Record
  pub records : s.records ≡ early ++ late
  pub plays : PlaysRun session management s.header.announce early
  pub after_run : All (λ r. last_tick s ≤ r.tick) late
  pub none_late : s.tick < last_tick s → late ≡ []

-- The session, the tick of the last record and the number of records that may still come are those of this run.
pub record KeepsRun (session : SessionView) (management : Option ReaderView) (latest lines_left : ℕ) (s : Replayed) : Type 0 where
  pub played : IsPlayedTo session management s.tick s
  pub last : latest ≡ s.tick
  pub left : lines_left + length s.records ≡ most_records s.header.version

-- The line is a record of this tick and these octets, and may come after the last one.
pub record IsNext (latest lines_left : ℕ) (line : List ℕ) (tick : ℕ) (octets : List ℕ) : Type 0 where
  pub reads : record_of line ≡ Ok (record { tick = tick; octets = octets })
  pub ordered : latest ≤ tick
  pub some_left : 0 < lines_left

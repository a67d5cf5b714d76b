-- What a drill gives: a run of 256 ticks that is made from a number, and what its session plays. This is the project's own.
use Rattle.std.specs.Prelude.{ℕ, ◌≡◌, ◌+◌, ◌*◌, ◌%◌, ◌<◌, ◌^◌, ◌&&◌, Bool, false, List, length, count_by, Option, Some, None}
use Rattle.std.specs.Option.{is_none}
use Rattle.std.specs.Ordering.{int_eq}
use Rattle.carrier_plan.specs.declared.plan.Plan.{Plan}
use Rattle.link_base.specs.Record.{Record}
use Rattle.link_receiver.specs.Output.{all_entries}
use Rattle.link_receiver.specs.declared.entry.Entry.{Entry}
use Rattle.link_sender.specs.Stream.{Stream, sample_at}
use Rattle.plan_checker.specs.Run.{ticks_of_run}
use Rattle.plan_checker.specs.WordSize.{word_size}
use Rattle.sample_bits.specs.declared.iq.RawIq.{RawIq}
use Rattle.link_drill.specs.declared.summary.Summary.{Summary}
use Rattle.link_drill.specs.declared.fates.Fate.{Fate}
use Rattle.link_drill.specs.Arrivals.{arrivals_below}
use Rattle.link_drill.specs.Draws.{draw, drawn_samples}
use Rattle.link_drill.specs.DrillPlan.{drill_flow, drill_plan}
use Rattle.link_drill.specs.DrillStream.{drill_stream}
use Rattle.link_drill.specs.Fates.{fates_of, is_lost, is_repeated}
use Rattle.link_drill.specs.Sent.{packets_of}

-- the line bit rate option, by the first draw
abbrev pub option_of : ℕ → ℕ
option_of number = 1 + draw number 0 % 7

-- the records of the packets of a run of 256 ticks, of which there are 65
abbrev pub records_by : Plan → (Y : ℕ) → List RawIq → List Fate → List Record
records_by p Y drawn fates = arrivals_below (packets_of p (drill_stream Y 256 drawn) (drill_flow Y) 65) fates (ticks_of_run p 256)

-- the entries of that run
abbrev pub entries_by : Plan → (Y : ℕ) → List RawIq → List Fate → List Entry
entries_by p Y drawn fates = all_entries p 256 (records_by p Y drawn fates)

-- whether I and Q are the same
abbrev pub is_same : RawIq → RawIq → Bool
is_same a b = int_eq a.i b.i && int_eq a.q b.q

-- whether the entry has the sample's value
abbrev pub is_value : Option RawIq → RawIq → Bool
is_value None sample = false
is_value (Some value) sample = is_same value sample

abbrev pub is_equal : Stream → Entry → Bool
is_equal σ e = is_value e.value (sample_at σ e.carrier e.number)

abbrev pub is_marked : Entry → Bool
is_marked e = is_none e.value

-- how many of the entries of a run have their samples' values
abbrev pub equal_in : Stream → List Entry → ℕ
equal_in σ entries = count_by (is_equal σ) entries

abbrev pub marked_in : List Entry → ℕ
marked_in entries = count_by is_marked entries

-- what a run of 256 ticks gives, by its option and its parts
unfoldable pub summary_by : (option Y : ℕ) → List RawIq → List Fate → List Entry → Summary
summary_by option Y drawn fates entries = record {
  option = option;
  samples = length entries;
  equal = equal_in (drill_stream Y 256 drawn) entries;
  marked = marked_in entries;
  lost = count_by is_lost fates;
  repeated = count_by is_repeated fates;
}

-- What the run gives that is made from a number: the option is drawn first, then the samples, and then the fates.
abbrev pub summary_in : (number option Y : ℕ) → Summary
summary_in number option Y =
    let drawn = drawn_samples number (4 * (256 * Y)) in
    let fates = fates_of number (1 + 2 * (4 * (256 * Y))) 65 in
    summary_by option Y drawn fates (entries_by (drill_plan option) Y drawn fates)

unfoldable pub summary_of : ℕ → Summary
summary_of number = summary_in number (option_of number) (word_size (option_of number))

-- Each sample is counted as equal or as marked.
abbrev pub CountsAll : Type 0
CountsAll = (number : ℕ) → number < 2 ^ 31 → (summary_of number).equal + (summary_of number).marked ≡ (summary_of number).samples

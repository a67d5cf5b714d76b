-- Laws over what is received. This is the project's own.
use Rattle.std.specs.Prelude.{◌≡◌, ℕ, ◌<◌, ◌≤◌, ◌++◌, List, All, Contains}
use Rattle.carrier_plan.specs.declared.plan.Flow.{Flow}
use Rattle.carrier_plan.specs.declared.plan.Plan.{Plan}
use Rattle.link_base.specs.Record.{Record}
use Rattle.plan_checker.specs.Rules.{IsGood}
use Rattle.plan_checker.specs.Run.{ticks_of_run}
use Rattle.playout_buffer.specs.Candidate.{IsCandidate}
use Rattle.link_receiver.specs.Output.{entries_at}
use Rattle.link_receiver.specs.Received.{taken}
use Rattle.link_receiver.specs.Records.{window_of}

-- At each tick a sequence number has one candidate at most, in each flow of each plan that meets the rules.
abbrev pub CandidatesAreUnique : Type 0
CandidatesAreUnique =
    (p : Plan) (f : Flow) (h t seq i j : ℕ) → IsGood p → Contains p.flows f
    → IsCandidate (window_of p f h) t seq i → IsCandidate (window_of p f h) t seq j → i ≡ j

-- No record of a later tick changes the entries of a tick.
abbrev pub EntriesAreSettled : Type 0
EntriesAreSettled =
    (p : Plan) (h t : ℕ) (records later : List Record) → IsGood p → All (λ r. t < r.tick) later
    → entries_at p h (records ++ later) t ≡ entries_at p h records t

-- No record of a tick after the run is received.
abbrev pub TakenIsSettled : Type 0
TakenIsSettled =
    (p : Plan) (f : Flow) (h : ℕ) (records later : List Record) → IsGood p → Contains p.flows f
    → All (λ r. ticks_of_run p h ≤ r.tick) later → taken p f h (records ++ later) ≡ taken p f h records

-- The samples that come next in a file of samples, which stand by tick, then carrier, then number. This is the project's own.
use Rattle.std.specs.Prelude.{◌≡◌, ℕ, ◌+◌, ◌<◌, ◌≤◌, List, length, slice_index}
use Rattle.carrier_plan.specs.declared.plan.Plan.{Plan}
use Rattle.link_sender.specs.Stream.{Stream, samples_of}
use Rattle.plan_checker.specs.Run.{samples_before, samples_due}
use Rattle.link_run_send.specs.declared.due.Due.{Due}

-- All samples that come before those of this carrier at this tick were handed in, and no others.
pub record HandedTo (p : Plan) (handed : List ℕ) (tick carrier : ℕ) : Type 0 where
  pub as_many : length handed ≡ length p.carriers
  pub before : (c : ℕ) → c < carrier → c < length p.carriers → slice_index handed c ≡ samples_before p c (tick + 1)
  pub from : (c : ℕ) → carrier ≤ c → c < length p.carriers → slice_index handed c ≡ samples_before p c tick

-- So many samples of each carrier are in the stream.
pub record IsCounted (p : Plan) (σ : Stream) (counts : List ℕ) : Type 0 where
  pub carriers : length σ.samples ≡ length p.carriers
  pub each : (c : ℕ) → c < length p.carriers → length (samples_of σ c) ≡ slice_index counts c

-- carrier c is the first one, from this one on, of which samples are due at the tick, and so many
pub record IsFirstDue (p : Plan) (tick first c count : ℕ) : Type 0 where
  pub from : first ≤ c
  pub carrier : c < length p.carriers
  pub count_is : count ≡ samples_due p c tick
  pub some : 0 < count
  pub few : count ≤ 32
  pub none_before : (b : ℕ) → first ≤ b → b < c → samples_due p b tick ≡ 0

-- These samples come next in a run of h ticks: some are due of this carrier at this tick and not all of them have come, or the run
-- has all its samples.
pub record ComesNext (p : Plan) (h : ℕ) (due : Due) : Type 0 where
  pub within : due.tick ≤ h
  pub few : due.count ≤ 32
  pub carrier : due.tick < h → due.carrier < length p.carriers
  pub count : due.tick < h → due.count ≡ samples_due p due.carrier due.tick
  pub missing : due.tick < h → due.come < due.count
  pub none : due.tick ≡ h → (due.carrier ≡ 0) × (due.come ≡ 0)

-- These samples come later than those of another place in the file, none of which is left to come.
pub record ComesLater (p : Plan) (h : ℕ) (handed : List ℕ) (old new : Due) : Type 0 where
  pub next : ComesNext p h new
  pub none_come : new.come ≡ 0
  pub later : old.tick ≤ new.tick
  pub carrier : new.tick ≡ old.tick → old.carrier < new.carrier
  pub handed_to : HandedTo p handed new.tick new.carrier

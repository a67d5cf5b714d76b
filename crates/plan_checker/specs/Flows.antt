-- What the flows of a plan carry, and how long their packets are. This project's own.
use Rattle.std.specs.Prelude.{ℕ, ◌≡◌, ◌≢◌, ◌==◌, ◌+◌, ◌*◌, ◌<◌, ◌≤◌, Bool, IsTrue, List, length, map, sum_by, count_by, All, AllPairs, slice_index, if◌then◌else◌}
use Rattle.std.specs.List.{list_any, range_with_len}
use Rattle.std.specs.List.Sorted.{IsStrictlyIncreasing}
use Rattle.std.specs.Int.{div_ceil}
use Rattle.carrier_plan.specs.declared.plan.Flow.{Flow}
use Rattle.carrier_plan.specs.declared.plan.Mode.{Mode}
use Rattle.carrier_plan.specs.declared.plan.Mode.TheVariants.{Tunnel, Bytes, Aware}
use Rattle.carrier_plan.specs.declared.plan.Plan.{Plan}
use Rattle.plan_checker.specs.Container.{container_size}
use Rattle.plan_checker.specs.WordSize.{word_size}

-- there is one flow: it has control, and it lists all n carriers in their order
pub record IsOneWholeFlow (flows : List Flow) (n : ℕ) : Type 0 where
  pub one : length flows ≡ 1
  pub control : All (λ f. IsTrue f.control) flows
  pub whole : All (λ f. f.carriers ≡ range_with_len 0 n) flows

-- in the modes that carry whole basic frames, one flow carries them
abbrev pub CarriesWholeFrames : Mode → List Flow → ℕ → Type 0
CarriesWholeFrames Tunnel flows n = IsOneWholeFlow flows n
CarriesWholeFrames Bytes flows n = IsOneWholeFlow flows n
CarriesWholeFrames Aware flows n = Unit {0}

-- whether the flow lists carrier c
abbrev pub lists : ℕ → Flow → Bool
lists c f = list_any (λ number. number == c) f.carriers

-- the flows share out n carriers and the control words, and ids tell them apart
pub record SharesOutCarriers (flows : List Flow) (n : ℕ) : Type 0 where
  pub small_ids : All (λ f. f.id ≤ 255) flows
  pub distinct_ids : AllPairs (λ f g. f.id ≢ g.id) flows
  pub ascending : All (λ f. IsStrictlyIncreasing f.carriers) flows
  pub known : All (λ f. All (λ c. c < n) f.carriers) flows
  pub one_flow : (c : ℕ) → c < n → count_by (lists c) flows ≡ 1
  pub one_control : count_by (λ f. f.control) flows ≡ 1

-- the IQ bits of the container of each carrier
abbrev pub container_sizes : Plan → List ℕ
container_sizes p = map container_size p.carriers

-- the IQ bits of the containers of the listed carriers
abbrev pub bits_of_carriers : Plan → List ℕ → ℕ
bits_of_carriers p numbers = sum_by (slice_index (container_sizes p)) numbers

-- the octets of the control word in a flow
abbrev pub control_octets : Plan → Flow → ℕ
control_octets p f = if f.control then word_size p.option else 0

-- the octets of one basic frame in a flow: 16 words of symbols of ten bits, 16 words of octets, or the control word
-- and the containers alone
abbrev pub octets_by : Mode → Plan → Flow → ℕ
octets_by Tunnel p f = 20 * word_size p.option
octets_by Bytes p f = 16 * word_size p.option
octets_by Aware p f = control_octets p f + div_ceil (bits_of_carriers p f.carriers) 8

abbrev pub octets_of_frame : Plan → Flow → ℕ
octets_of_frame p f = octets_by p.mode p f

-- a packet has 1 to 64 basic frames, and 1 to 1,492 octets of payload
pub record HasPayload (p : Plan) (f : Flow) : Type 0 where
  pub some_frames : 1 ≤ f.frames
  pub few_frames : f.frames ≤ 64
  pub some_octets : 1 ≤ f.frames * octets_of_frame p f
  pub few_octets : f.frames * octets_of_frame p f ≤ 1_492

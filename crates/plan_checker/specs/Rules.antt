-- The rules that a plan has to meet. The rules, their numbers and their order are this project's own.
use Rattle.std.specs.Prelude.{ℕ, ◌≡◌, ◌<◌, ◌≤◌, length}
use Rattle.std.specs.List.{HoldsAt}
use Rattle.carrier_plan.specs.declared.plan.Plan.{Plan}
use Rattle.plan_checker.specs.WordSize.{IsLineOption, iq_bits}
use Rattle.plan_checker.specs.SampleRate.{HasSampleRate, HasSampleWidth}
use Rattle.plan_checker.specs.Container.{HasPrescribedSize, LiesWithin, HasSeparateBits}
use Rattle.plan_checker.specs.Flows.{CarriesWholeFrames, SharesOutCarriers, HasPayload}
use Rattle.plan_checker.specs.Timing.{HasWindow, IsPlayedInTime, HasSequenceNumbers, HasRoom}

pub data Rule : Type 0 where
  -- the line bit rate option is known
  LineOption : Rule
  -- there are carriers and flows, and not too many
  Counts : Rule
  -- one flow carries whole basic frames, in the modes that do
  WholeFrames : Rule
  -- a carrier's samples come at a rate that can be mapped
  SampleRate : Rule
  -- its samples are neither too narrow nor too wide
  SampleWidth : Rule
  -- its container has 1 to 4 pieces and is as long as its mapping method prescribes
  ContainerSize : Rule
  -- the pieces of its container end within the IQ bits of a basic frame
  ContainerEnd : Rule
  -- no piece shares a bit with an earlier one of the carrier, or with one of an earlier carrier
  SeparateBits : Rule
  -- the flows share out the carriers and the control words
  SharedOut : Rule
  -- a flow's packets have frames and octets, and not too many
  PayloadSize : Rule
  -- its packets have a window in which they may arrive
  ArrivalWindow : Rule
  -- its packets are played when they have arrived
  PlayedInTime : Rule
  -- its sequence numbers tell apart the packets that may arrive
  SequenceNumbers : Rule
  -- its buffer holds the packets that have to be held
  BufferRoom : Rule

-- the rules are tried in the order of their numbers
abbrev pub number_of : Rule → ℕ
number_of LineOption = 1
number_of Counts = 2
number_of WholeFrames = 3
number_of SampleRate = 4
number_of SampleWidth = 5
number_of ContainerSize = 6
number_of ContainerEnd = 7
number_of SeparateBits = 8
number_of SharedOut = 9
number_of PayloadSize = 10
number_of ArrivalWindow = 11
number_of PlayedInTime = 12
number_of SequenceNumbers = 13
number_of BufferRoom = 14

-- how many items a rule speaks of: the plan as a whole is item 0, and a carrier or a flow is the item of its place
abbrev pub item_count : Plan → Rule → ℕ
item_count p LineOption = 1
item_count p Counts = 1
item_count p WholeFrames = 1
item_count p SampleRate = length p.carriers
item_count p SampleWidth = length p.carriers
item_count p ContainerSize = length p.carriers
item_count p ContainerEnd = length p.carriers
item_count p SeparateBits = length p.carriers
item_count p SharedOut = 1
item_count p PayloadSize = length p.flows
item_count p ArrivalWindow = length p.flows
item_count p PlayedInTime = length p.flows
item_count p SequenceNumbers = length p.flows
item_count p BufferRoom = length p.flows

-- there are 1 to 64 carriers and 1 to 8 flows
pub record HasCounts (p : Plan) : Type 0 where
  pub some_carriers : 1 ≤ length p.carriers
  pub few_carriers : length p.carriers ≤ 64
  pub some_flows : 1 ≤ length p.flows
  pub few_flows : length p.flows ≤ 8

-- what a rule says of its item i
abbrev pub Holds : Plan → Rule → ℕ → Type 0
Holds p LineOption i = IsLineOption p.option
Holds p Counts i = HasCounts p
Holds p WholeFrames i = CarriesWholeFrames p.mode p.flows (length p.carriers)
Holds p SampleRate i = HoldsAt HasSampleRate p.carriers i
Holds p SampleWidth i = HoldsAt HasSampleWidth p.carriers i
Holds p ContainerSize i = HoldsAt HasPrescribedSize p.carriers i
Holds p ContainerEnd i = HoldsAt (LiesWithin (iq_bits p.option)) p.carriers i
Holds p SeparateBits i = HoldsAt (HasSeparateBits p.carriers i) p.carriers i
Holds p SharedOut i = SharesOutCarriers p.flows (length p.carriers)
Holds p PayloadSize i = HoldsAt (HasPayload p) p.flows i
Holds p ArrivalWindow i = HoldsAt HasWindow p.flows i
Holds p PlayedInTime i = HoldsAt (IsPlayedInTime p.playout) p.flows i
Holds p SequenceNumbers i = HoldsAt HasSequenceNumbers p.flows i
Holds p BufferRoom i = HoldsAt (HasRoom p.playout) p.flows i

-- the rule holds of each of its items
abbrev pub IsMet : Plan → Rule → Type 0
IsMet p r = (i : ℕ) → i < item_count p r → Holds p r i

-- every rule with a number below n holds
abbrev pub IsMetBelow : Plan → ℕ → Type 0
IsMetBelow p n = (r : Rule) → number_of r < n → IsMet p r

-- the plan meets every rule
abbrev pub IsGood : Plan → Type 0
IsGood p = (r : Rule) → IsMet p r

-- the rule fails at its item i, and at no item before
pub record FailsFirstAt (p : Plan) (r : Rule) (i : ℕ) : Type 0 where
  pub in_range : i < item_count p r
  pub fails : ¬ Holds p r i
  pub before : (j : ℕ) → j < i → Holds p r j

-- the first failure of a plan, by the number of the rule and then by the item
pub record IsFirstFailure (p : Plan) (number item : ℕ) : Type 0 where
  pub rule : Rule
  pub numbered : number_of rule ≡ number
  pub fails : FailsFirstAt p rule item
  pub before : IsMetBelow p number

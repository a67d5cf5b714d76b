-- How a session plays a frame: from the packets that are held to the samples of each carrier. This is the project's own.
use Rattle.std.specs.Prelude.{◌≡◌, ℕ, ◌+◌, ◌<◌, ◌≤◌, List, [], ◌∷◌, ◌++◌, length, take, find, get_or, Option, Some, None, slice_get}
use Rattle.std.specs.List.{HoldsAt}
use Rattle.std.specs.Option.{option_map}
use Rattle.carrier_plan.specs.declared.plan.Carrier.{Carrier}
use Rattle.carrier_plan.specs.declared.plan.Flow.{Flow}
use Rattle.carrier_plan.specs.declared.plan.Plan.{Plan}
use Rattle.link_receiver_blocks.specs.Containers.{container_played, in_hand_after}
use Rattle.playout_buffer.specs.Held.{part_in}
use Rattle.link_receiver.specs.declared.carrier_in_hand.CarrierInHand.{CarrierInHand}
use Rattle.link_receiver.specs.declared.flow_in_hand.FlowInHand.{FlowInHand}
use Rattle.link_receiver.specs.Containers.{octets_if_good}
use Rattle.link_receiver.specs.Runs.{KeepsLeaving}
use Rattle.link_receiver.specs.Sessions.{KeepsCarrier, KeepsFlow}

-- the part of frame n, where it is held
abbrev pub part_of_kept : Option FlowInHand → ℕ → Option (List ℕ)
part_of_kept None n = None
part_of_kept (Some kept) n = part_in kept.playout.window kept.playout.held n

-- the octets that the part of frame n in the flow at a place has or spells, unless the frame is missed
abbrev pub octets_in_hand : Plan → List FlowInHand → (place n : ℕ) → Option (List ℕ)
octets_in_hand p flows place n = octets_if_good p n (part_of_kept (slice_get flows place) n)

-- what is kept of each flow at tick t of a run of h ticks
pub record KeepFlows (p : Plan) (h t : ℕ) (flows : List FlowInHand) : Type 0 where
  pub as_many : length flows ≡ length p.flows
  pub each : (i : ℕ) (f : Flow) → slice_get p.flows i ≡ Some f → HoldsAt (KeepsFlow p h t f) flows i

-- what is kept of each carrier
pub record KeepCarriers (p : Plan) (h t : ℕ) (carriers : List CarrierInHand) : Type 0 where
  pub as_many : length carriers ≡ length p.carriers
  pub each : (c : ℕ) (carrier : Carrier) → slice_get p.carriers c ≡ Some carrier → HoldsAt (KeepsCarrier p h t c carrier) carriers c

-- what becomes of a carrier that plays frame n of a run of h ticks
pub record Plays (kept kept' : CarrierInHand) (octets : Option (List ℕ)) (n h : ℕ) : Type 0 where
  pub flow : kept'.flow ≡ kept.flow
  pub block_frames : kept'.block_frames ≡ kept.block_frames
  pub route : kept'.route ≡ kept.route
  pub room : length kept'.samples.items ≡ 32
  pub block : kept'.block ≡ record { mapping = kept.block.mapping; containers = in_hand_after kept.block.mapping.k (kept.block.containers ++ container_played octets kept.route ∷ []) }
  pub number : kept'.number ≡ kept.number + kept.count
  pub leaves : kept.block_frames ≤ n → n < kept.block_frames + h → KeepsLeaving kept.block.mapping (kept.block.containers ++ container_played octets kept.route ∷ []) kept'
  pub early : n < kept.block_frames → kept'.count ≡ 0
  pub late : kept.block_frames + h ≤ n → kept'.count ≡ 0

-- each carrier has played frame n
pub record HavePlayed (p : Plan) (flows : List FlowInHand) (n h : ℕ) (old new : List CarrierInHand) : Type 0 where
  pub as_many : length new ≡ length old
  pub each : (c : ℕ) (d : CarrierInHand) → c < length old → Plays (get_or old c d) (get_or new c d) (octets_in_hand p flows (get_or old c d).flow n) n h

-- the control word of frame n, by the flow at a place, unless the frame is missed
abbrev pub control_in_hand : Plan → List FlowInHand → (word place n : ℕ) → Option (List ℕ)
control_in_hand p flows word place n = option_map (take word) (octets_in_hand p flows place n)

-- this is the control word of frame n, by the flow that has control, unless the frame is missed
pub record IsControlInHand (p : Plan) (flows : List FlowInHand) (word n : ℕ) (control : Option (List ℕ)) : Type 0 where
  pub place : ℕ
  pub inside : place < length p.flows
  pub has_control : HoldsAt (λ f. find (λ (g : Flow). g.control) p.flows ≡ Some f) p.flows place
  pub is : control ≡ control_in_hand p flows word place n

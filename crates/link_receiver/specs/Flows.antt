-- What is kept of all flows from one tick to the next. This is the project's own.
use Rattle.std.specs.Prelude.{◌≡◌, ℕ, ◌+◌, ◌<◌, ◌^◌, List, length, All, slice_get, Some}
use Rattle.std.specs.FinMap.{empty, retain_keys}
use Rattle.std.specs.List.{HoldsAt}
use Rattle.carrier_plan.specs.declared.plan.Flow.{Flow}
use Rattle.carrier_plan.specs.declared.plan.Plan.{Plan}
use Rattle.playout_buffer.specs.Held.{is_awaited}
use Rattle.playout_buffer.specs.View.{PlayoutView}
use Rattle.link_receiver.specs.Records.{window_of}
use Rattle.link_receiver.specs.declared.flow_in_hand.FlowInHand.{FlowInHand}

-- a buffer one tick later
abbrev pub advanced : PlayoutView → PlayoutView
advanced v = record { window = v.window; tick = v.tick + 1; held = retain_keys v.held (is_awaited v.window (v.tick + 1)) }

abbrev pub advanced_flow : FlowInHand → FlowInHand
advanced_flow kept = record { playout = advanced kept.playout; taken = kept.taken }

-- no buffer stands at the last tick that there may be
abbrev pub AreInTime : List FlowInHand → Type 0
AreInTime flows = All (λ kept. kept.playout.tick < 2 ^ 41) flows

-- a flow before the first tick of a run of h ticks
pub record IsBegunFlow (p : Plan) (h : ℕ) (f : Flow) (kept : FlowInHand) : Type 0 where
  pub playout : kept.playout ≡ record { window = window_of p f h; tick = 0; held = empty }
  pub taken : kept.taken ≡ 0

-- the flows of a plan before that tick
pub record HaveBegun (p : Plan) (h : ℕ) (flows : List FlowInHand) : Type 0 where
  pub as_many : length flows ≡ length p.flows
  pub each : (i : ℕ) (f : Flow) → slice_get p.flows i ≡ Some f → HoldsAt (IsBegunFlow p h f) flows i

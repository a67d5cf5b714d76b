-- What is said of octets that arrive. This is the project's own.
use Rattle.std.specs.Prelude.{◌≡◌, ◌≢◌, ℕ, ◌*◌, ◌==◌, List, length, position, Option, Some, None, Result, Ok, Err, slice_get, if◌then◌else◌}
use Rattle.carrier_plan.specs.declared.plan.Flow.{Flow}
use Rattle.carrier_plan.specs.declared.plan.Plan.{Plan}
use Rattle.link_base.specs.Record.{Record}
use Rattle.plan_checker.specs.Flows.{octets_of_frame}
use Rattle.plan_checker.specs.Packets.{subtype_of}
use Rattle.playout_buffer.specs.Candidate.{candidate_of}
use Rattle.playout_buffer.specs.Received.{arrival_answer}
use Rattle.playout_buffer.specs.declared.put.Put.{Put}
use Rattle.playout_buffer.specs.declared.put.Put.TheVariants as put
use Rattle.roe_header.specs.Layout.{Fields, parsed}
use Rattle.roe_header.specs.declared.packet.NotRoe.{NotRoe}
use Rattle.link_receiver.specs.declared.arrive.Arrive.{Arrive}
use Rattle.link_receiver.specs.declared.arrive.Arrive.TheVariants.{Taken, Repeat, Outside, Size, Foreign}
use Rattle.link_receiver.specs.declared.arrive.Foreign.TheVariants as cause
use Rattle.link_receiver.specs.Records.{window_of, arrivals_of, arrival_by}

-- by what the buffer of the flow at this place says of the payload under a sequence number
abbrev pub answer_by : (place seq : ℕ) → Put → Arrive
answer_by place seq (put.Taken i) = Taken place i
answer_by place seq (put.Repeat i) = Repeat place i
answer_by place seq put.Outside = Outside place seq

-- of a packet of the flow at this place
abbrev pub on_flow : Plan → Option Flow → ℕ → List Record → ℕ → ℕ → Fields → Arrive
on_flow p None h records t place packet = Foreign (cause.Flow packet.flow)
on_flow p (Some f) h records t place packet =
    if length packet.payload == f.frames * octets_of_frame p f
    then answer_by place packet.seq (arrival_answer (window_of p f h) (arrivals_of p f records) (candidate_of (window_of p f h) t packet.seq))
    else Size place (length packet.payload)

-- of a packet with the subtype of the mode
abbrev pub on_flow_id : Plan → ℕ → List Record → ℕ → Fields → Option ℕ → Arrive
on_flow_id p h records t packet None = Foreign (cause.Flow packet.flow)
on_flow_id p h records t packet (Some place) = on_flow p (slice_get p.flows place) h records t place packet

abbrev pub on_octets : Plan → ℕ → List Record → ℕ → Result Fields NotRoe → Arrive
on_octets p h records t (Err reason) = Foreign (cause.NotRoe reason)
on_octets p h records t (Ok packet) =
    if packet.sub == subtype_of p.mode
    then on_flow_id p h records t packet (position (λ (f : Flow). f.id == packet.flow) p.flows)
    else Foreign (cause.Sub packet.sub)

-- of octets that arrive at tick t, after these records
unfoldable pub arrives : Plan → ℕ → List Record → ℕ → List ℕ → Arrive
arrives p h records t octets = on_octets p h records t (parsed octets)

-- what was read brings this payload for the flow at this place, and for no other
pub record IsOf (p : Plan) (read : Result Fields NotRoe) (place seq : ℕ) (payload : List ℕ) : Type 0 where
  pub flow : Flow
  pub at : slice_get p.flows place ≡ Some flow
  pub length_is : length payload ≡ flow.frames * octets_of_frame p flow
  pub brings : (t : ℕ) → arrival_by p flow t read ≡ Some (record { tick = t; seq = seq; payload = payload })
  pub only : (i t : ℕ) (f : Flow) → slice_get p.flows i ≡ Some f → i ≢ place → arrival_by p f t read ≡ None
  pub answered : (h t : ℕ) (records : List Record) → on_octets p h records t read
      ≡ answer_by place seq (arrival_answer (window_of p flow h) (arrivals_of p flow records) (candidate_of (window_of p flow h) t seq))

-- it brings no payload for any flow, and this is the answer
pub record IsOfNone (p : Plan) (read : Result Fields NotRoe) (answer : Arrive) : Type 0 where
  pub none : (i t : ℕ) (f : Flow) → slice_get p.flows i ≡ Some f → arrival_by p f t read ≡ None
  pub answered : (h t : ℕ) (records : List Record) → on_octets p h records t read ≡ answer

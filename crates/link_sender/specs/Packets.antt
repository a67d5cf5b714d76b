-- The packets that carry the frames of a stream. How frames are put into payloads is this project's own.
use Rattle.std.specs.Prelude.{◌≡◌, ℕ, ◌+◌, ◌*◌, ◌<◌, List, length, take, drop}
use Rattle.std.specs.List.{HoldsAt}
use Rattle.carrier_plan.specs.declared.plan.Flow.{Flow}
use Rattle.carrier_plan.specs.declared.plan.Plan.{Plan}
use Rattle.line_code.specs.Line.{characters_from, disparity_after_all}
use Rattle.line_code.specs.declared.characters.Rd.TheVariants.{Minus}
use Rattle.plan_checker.specs.Flows.{octets_of_frame}
use Rattle.plan_checker.specs.Packets.{subtype_of, sequence_of}
use Rattle.roe_header.specs.Layout.{Fields, packet_octets}
use Rattle.roe_mappers.specs.Parts.{IsPart}
use Rattle.link_sender.specs.Stream.{Stream}
use Rattle.link_sender.specs.Frames.{IsFrame}

-- These octets carry frame n of the stream in a packet of the flow. In mode `tunnel` they are its symbols on the line of all
-- frames of the run, which begins at negative disparity at frame 0.
pub record CarriesFrame (p : Plan) (σ : Stream) (f : Flow) (n : ℕ) (octets : List ℕ) : Type 0 where
  pub before : List (List ℕ)
  pub count : length before ≡ n
  pub are_frames : (i : ℕ) → i < n → HoldsAt (IsFrame p σ i) before i
  pub frame : List ℕ
  pub is_frame : IsFrame p σ n frame
  pub is_part : IsPart p f n (disparity_after_all Minus (characters_from 0 before)) frame octets

-- The payload of packet i is the parts of its frames, one after another.
pub record IsPayload (p : Plan) (σ : Stream) (f : Flow) (i : ℕ) (payload : List ℕ) : Type 0 where
  pub size : length payload ≡ f.frames * octets_of_frame p f
  pub parts : (k : ℕ) → k < f.frames
      → CarriesFrame p σ f (i * f.frames + k) (take (octets_of_frame p f) (drop (k * octets_of_frame p f) payload))

abbrev pub packet_fields : Plan → Flow → ℕ → List ℕ → Fields
packet_fields p f i payload = record {
  dst = f.dst;
  src = f.src;
  sub = subtype_of p.mode;
  flow = f.id;
  seq = sequence_of f i;
  payload = payload;
}

-- These are the octets of packet i of the flow.
pub record IsPacket (p : Plan) (σ : Stream) (f : Flow) (i : ℕ) (octets : List ℕ) : Type 0 where
  pub payload : List ℕ
  pub carries : IsPayload p σ f i payload
  pub written : octets ≡ packet_octets (packet_fields p f i payload)

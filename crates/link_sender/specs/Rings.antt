-- The packets of a flow in slots of one size, from their first frame to the tick at which they are ready. This is the project's
-- own.
use Rattle.std.specs.Prelude.{ℕ, ◌≡◌, ◌≢◌, ◌==◌, ◌+◌, ◌*◌, ◌/◌, ◌%◌, ◌<◌, ◌≤◌, List, length, take, drop, replicate, get_or, slice_get, Some, if◌then◌else◌}
use Rattle.std.specs.List.{HoldsAt}
use Rattle.carrier_plan.specs.declared.plan.Flow.{Flow}
use Rattle.carrier_plan.specs.declared.plan.Plan.{Plan}
use Rattle.line_code.specs.declared.characters.Rd.{Rd}
use Rattle.plan_checker.specs.Flows.{octets_of_frame}
use Rattle.plan_checker.specs.Packets.{sequence_of, subtype_of}
use Rattle.roe_header.specs.Layout.{Fields, four_octets, packet_octets}
use Rattle.roe_mappers.specs.Parts.{IsPart}
use Rattle.link_sender.specs.declared.packet_ring.PacketRing.{PacketRing}

-- the octets of the payload of a packet
abbrev pub payload_octets : Plan → Flow → ℕ
payload_octets p f = f.frames * octets_of_frame p f

abbrev pub blank_fields : Plan → Flow → Fields
blank_fields p f = record { dst = f.dst; src = f.src; sub = subtype_of p.mode; flow = f.id; seq = 0; payload = replicate (payload_octets p f) 0 }

-- a packet whose ordering information and payload are 0
abbrev pub blank_packet : Plan → Flow → List ℕ
blank_packet p f = packet_octets (blank_fields p f)

abbrev pub packet_size : Plan → Flow → ℕ
packet_size p f = length (blank_packet p f)

-- such a packet, of a flow whose addresses have six octets each
pub record IsBlank (p : Plan) (f : Flow) (octets : List ℕ) : Type 0 where
  pub is : octets ≡ blank_packet p f
  pub dst : length f.dst ≡ 6
  pub src : length f.src ≡ 6

-- a slot, and that of packet i
unfoldable pub slot_at : PacketRing → ℕ → List ℕ
slot_at ring j = take ring.size (drop (j * ring.size) ring.octets.items)

abbrev pub slot_of : PacketRing → ℕ → List ℕ
slot_of ring i = slot_at ring (i % ring.count)

-- the parts of a packet: what is before the ordering information, this, that of frame k, and what is behind the payload
unfoldable pub front_of : List ℕ → List ℕ
front_of packet = take 18 packet

unfoldable pub order_of : List ℕ → List ℕ
order_of packet = take 4 (drop 18 packet)

unfoldable pub part_of : Plan → Flow → ℕ → List ℕ → List ℕ
part_of p f k packet = take (octets_of_frame p f) (drop (22 + k * octets_of_frame p f) packet)

unfoldable pub end_of : Plan → Flow → List ℕ → List ℕ
end_of p f packet = drop (22 + payload_octets p f) packet

-- what is the same in all packets of the flow stands in these octets
pub record IsBegun (p : Plan) (f : Flow) (packet : List ℕ) : Type 0 where
  pub size : length packet ≡ packet_size p f
  pub front : front_of packet ≡ front_of (blank_packet p f)
  pub end : end_of p f packet ≡ end_of p f (blank_packet p f)

-- the slots of a flow: enough that a packet stands in its slot until it is ready
pub record IsRing (p : Plan) (f : Flow) (ring : PacketRing) : Type 0 where
  pub dst : length f.dst ≡ 6
  pub src : length f.src ≡ 6
  pub some : 1 ≤ ring.count
  pub few : ring.count ≤ 100_001
  pub enough : f.lmin + f.frames ≤ ring.count * f.frames
  pub size : ring.size ≡ packet_size p f
  pub whole : length ring.octets.items ≡ ring.count * ring.size
  pub begun : (j : ℕ) → j < ring.count → IsBegun p f (slot_at ring j)

-- The part of frame n is written into its packet, and before the packet's first frame its ordering information.
pub record WritesPart (p : Plan) (f : Flow) (n : ℕ) (rd : Rd) (frame old new : List ℕ) : Type 0 where
  pub same_length : length new ≡ length old
  pub front : front_of new ≡ front_of old
  pub end : end_of p f new ≡ end_of p f old
  pub order : order_of new ≡ (if n % f.frames == 0 then four_octets (sequence_of f (n / f.frames)) else order_of old)
  pub part : IsPart p f n rd frame (part_of p f (n % f.frames) new)
  pub others : (k : ℕ) → k < f.frames → k ≢ n % f.frames → part_of p f k new ≡ part_of p f k old

-- The same in the slot of the packet. All other slots stay.
pub record PutsPart (p : Plan) (f : Flow) (n : ℕ) (rd : Rd) (frame : List ℕ) (old new : PacketRing) : Type 0 where
  pub size : new.size ≡ old.size
  pub count : new.count ≡ old.count
  pub slot : WritesPart p f n rd frame (slot_of old (n / f.frames)) (slot_of new (n / f.frames))
  pub others : (j : ℕ) → j < old.count → j ≢ n / f.frames % old.count → slot_at new j ≡ slot_at old j

-- the slots of each flow of a plan
pub record AreRings (p : Plan) (rings : List PacketRing) : Type 0 where
  pub as_many : length rings ≡ length p.flows
  pub each : (i : ℕ) (f : Flow) → slice_get p.flows i ≡ Some f → HoldsAt (IsRing p f) rings i

-- the part of frame n is written for each flow
pub record PutsParts (p : Plan) (n : ℕ) (rd : Rd) (frame : List ℕ) (old new : List PacketRing) : Type 0 where
  pub as_many : length new ≡ length old
  pub each : (i : ℕ) (f : Flow) (d : PacketRing) → slice_get p.flows i ≡ Some f → PutsPart p f n rd frame (get_or old i d) (get_or new i d)

-- The octets of a Radio-over-Ethernet packet: the addresses and the EtherType of an Ethernet frame without its FCS
-- (IEEE 802.3, clause 3), then the RoE common header (IEEE 1914.3-2018), then the payload, then zeros up to the least
-- length of an Ethernet frame. That the length counts the payload alone, and which subtypes are read, are this
-- project's own choice.
use Rattle.std.specs.Prelude.{ℕ, ◌+◌, ◌-◌, ◌*◌, ◌/◌, ◌%◌, ◌<◌, ◌≤◌, ◌≡◌, List, [], ◌∷◌, ◌++◌, length, take, drop, replicate, slice_index, Bool, ◌==◌, ◌||◌, nat_lt, IsTrue, ◌^◌, if◌then◌else◌, Result, Ok, Err}
use Rattle.roe_header.specs.declared.packet.Packet.{Packet}
use Rattle.roe_header.specs.declared.packet.NotRoe.{NotRoe}
use Rattle.roe_header.specs.declared.packet.NotRoe.TheVariants.{Short, EtherType, SubType, Length}

-- a packet without where its payload lies in memory
pub record Fields : Type 0 where
  pub dst : List ℕ
  pub src : List ℕ
  pub sub : ℕ
  pub flow : ℕ
  pub seq : ℕ
  pub payload : List ℕ

abbrev pub fields : Packet → Fields
fields p = record { dst = p.dst; src = p.src; sub = p.sub; flow = p.flow; seq = p.seq; payload = p.payload.now }

-- a number in two octets and in four, the high octet first
abbrev pub two_octets : ℕ → List ℕ
two_octets n = n / 256 ∷ n % 256 ∷ []

abbrev pub four_octets : ℕ → List ℕ
four_octets n = n / 16777216 ∷ n / 65536 % 256 ∷ n / 256 % 256 ∷ n % 256 ∷ []

-- the 22 octets before the payload
abbrev pub header : Fields → List ℕ
header f =
    f.dst ++ f.src ++ two_octets 64573 ++ f.sub ∷ f.flow ∷ [] ++ two_octets (length f.payload)
    ++ four_octets f.seq

-- all octets of the packet
unfoldable pub packet_octets : Fields → List ℕ
packet_octets f =
    let written = header f ++ f.payload in
    written ++ replicate (60 - length written) 0

-- whether a subtype is one of those that are read: structure-agnostic, structure-aware and slow C&M
abbrev pub is_subtype : ℕ → Bool
is_subtype sub = sub == 2 || sub == 3 || sub == 4

-- what has octets
pub record IsWritable (f : Fields) : Type 0 where
  pub dst : length f.dst ≡ 6
  pub src : length f.src ≡ 6
  pub sub : IsTrue (is_subtype f.sub)
  pub seq : f.seq < 2 ^ 32
  pub payload : length f.payload ≤ 1492

-- the number in the two octets from place i, and in the four
abbrev pub two_at : List ℕ → ℕ → ℕ
two_at octets i = 256 * slice_index octets i + slice_index octets (i + 1)

abbrev pub four_at : List ℕ → ℕ → ℕ
four_at octets i = 65536 * two_at octets i + two_at octets (i + 2)

-- the fields of the packet at the front of the octets
abbrev pub fields_at : List ℕ → Fields
fields_at octets = record {
  dst = take 6 octets;
  src = take 6 (drop 6 octets);
  sub = slice_index octets 14;
  flow = slice_index octets 15;
  seq = four_at octets 18;
  payload = take (two_at octets 16) (drop 22 octets);
}

-- that packet, or the first reason why there is none
unfoldable pub parsed : List ℕ → Result Fields NotRoe
parsed octets =
    let there = length octets - 22 in
    if nat_lt (length octets) 22 then Err (Short (length octets)) else (
    if two_at octets 12 == 64573 then (
    if is_subtype (slice_index octets 14) then (
    if nat_lt there (two_at octets 16) then Err (Length (two_at octets 16) there)
    else Ok (fields_at octets))
    else Err (SubType (slice_index octets 14)))
    else Err (EtherType (two_at octets 12)))

-- what a call answered
abbrev pub answered : Result Packet NotRoe → Result Fields NotRoe
answered (Ok p) = Ok (fields p)
answered (Err e) = Err e

-- the octets begin with the header of a packet and its payload
abbrev pub BeginsWith : Fields → List ℕ → Type 0
BeginsWith f octets = (rest : List ℕ) × (octets ≡ (header f ++ f.payload) ++ rest)

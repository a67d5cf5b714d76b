-- The plan that the octets of a file are, or the first fault in them. This project's own format, over the
-- table that TOML gives for a text.
use Rattle.std.specs.Prelude.{◌≡◌, ℕ, suc, Bool, true, false, not, ◌&&◌, is_some, nat_lt, bytes_eq, List, [], ◌∷◌, length, Option, Some, None, Result, Ok, Err, if◌then◌else◌}
use Rattle.std.specs.List.{list_any}
use Rattle.std.specs.Str.{is_utf8}
use Rattle.toml.specs.Data.{Data, as_integer, array, table, Items, no_items, item, Members, no_members, member, get_member}
use Rattle.toml.specs.Parse.{parse_document}
use Rattle.carrier_plan.specs.declared.version.Version.{Version}
use Rattle.carrier_plan.specs.declared.version.Version.TheVariants.{One, Two}
use Rattle.carrier_plan.specs.declared.plan.Method.{Method}
use Rattle.carrier_plan.specs.declared.plan.Piece.{Piece}
use Rattle.carrier_plan.specs.declared.plan.Mode.{Mode}
use Rattle.carrier_plan.specs.declared.plan.Carrier.{Carrier}
use Rattle.carrier_plan.specs.declared.plan.Flow.{Flow}
use Rattle.carrier_plan.specs.declared.plan.Plan.{Plan}
use Rattle.carrier_plan.specs.declared.fault.Field.{Field}
use Rattle.carrier_plan.specs.declared.fault.Field.TheVariants as field
use Rattle.carrier_plan.specs.declared.fault.Part.TheVariants as part
use Rattle.carrier_plan.specs.declared.fault.Spot.{Spot}
use Rattle.carrier_plan.specs.declared.fault.PlanText.{PlanText}
use Rattle.carrier_plan.specs.declared.fault.PlanText.TheVariants.{Long, Utf8, Toml, Missing, Kind, Extra}
use Rattle.carrier_plan.specs.declared.fault.ReadError.{ReadError}
use Rattle.carrier_plan.specs.declared.fault.ReadError.TheVariants as error
use Rattle.carrier_plan.specs.Keys.{key_of, top_fields, carrier_fields, flow_fields, number_of, version_numbered, method_numbered, mode_of, address_of, truth_of}

infixl 10 ◌>>=◌
abbrev pub ◌>>=◌ : {A B : Type 0} → Result A PlanText → (A → Result B PlanText) → Result B PlanText
(Ok x) >>= f = f x
(Err e) >>= f = Err e

-- the value of a required key
abbrev pub required : Spot → Option Data → Result Data PlanText
required spot None = Err (Missing spot)
required spot (Some d) = Ok d

abbrev pub value_at : Members → Spot → Result Data PlanText
value_at keys spot = required spot (get_member (key_of spot.field) keys)

-- a required key, by what its value has to be
abbrev pub number_at : Members → Spot → Result ℕ PlanText
number_at keys spot = value_at keys spot >>= number_of spot

abbrev pub version_at : Members → Spot → Result Version PlanText
version_at keys spot = number_at keys spot >>= version_numbered spot

abbrev pub method_at : Members → Spot → Result Method PlanText
method_at keys spot = number_at keys spot >>= method_numbered spot

abbrev pub mode_at : Members → Spot → Result Mode PlanText
mode_at keys spot = value_at keys spot >>= mode_of spot

abbrev pub address_at : Members → Spot → Result (List ℕ) PlanText
address_at keys spot = value_at keys spot >>= address_of spot

abbrev pub truth_at : Members → Spot → Result Bool PlanText
truth_at keys spot = value_at keys spot >>= truth_of spot

-- the elements from place i on, each judged in its turn
abbrev pub all_from : {A : Type 0} → (ℕ → Data → Result A PlanText) → ℕ → Items → Result (List A) PlanText
all_from judge i no_items = Ok []
all_from judge i (item d rest) = do
  first ← judge i d
  others ← all_from judge (suc i) rest
  Ok (first ∷ others)

-- every element is a whole number, in range or not
abbrev pub are_integers : Items → Bool
are_integers no_items = true
are_integers (item d rest) = is_some (as_integer d) && are_integers rest

abbrev pub numbers_in : Spot → Items → Result (List ℕ) PlanText
numbers_in spot elements = all_from (λ _. number_of spot) 0 elements

-- an array of whole numbers, whose kinds are all tried before their ranges
abbrev pub numbers_of : Spot → Data → Result (List ℕ) PlanText
numbers_of spot (array elements) = if are_integers elements then numbers_in spot elements else Err (Kind spot)
numbers_of spot _ = Err (Kind spot)

abbrev pub numbers_at : Members → Spot → Result (List ℕ) PlanText
numbers_at keys spot = value_at keys spot >>= numbers_of spot

-- a piece: an array of two whole numbers, the first IQ bit and how many
abbrev pub is_pair : Data → Bool
is_pair (array (item start (item size no_items))) = is_some (as_integer start) && is_some (as_integer size)
is_pair _ = false

abbrev pub piece_of : Spot → Data → Result Piece PlanText
piece_of spot (array (item first (item second no_items))) = do
  start ← number_of spot first
  size ← number_of spot second
  Ok (record { start = start; size = size })
piece_of spot _ = Err (Kind spot)

-- every element is a pair of whole numbers, in range or not
abbrev pub are_pairs : Items → Bool
are_pairs no_items = true
are_pairs (item d rest) = is_pair d && are_pairs rest

abbrev pub pieces_in : Spot → Items → Result (List Piece) PlanText
pieces_in spot elements = all_from (λ _. piece_of spot) 0 elements

-- an array of pieces, whose kinds are all tried before their ranges
abbrev pub pieces_of : Spot → Data → Result (List Piece) PlanText
pieces_of spot (array elements) = if are_pairs elements then pieces_in spot elements else Err (Kind spot)
pieces_of spot _ = Err (Kind spot)

abbrev pub pieces_at : Members → Spot → Result (List Piece) PlanText
pieces_at keys spot = value_at keys spot >>= pieces_of spot

-- the keys of a table, in its order
abbrev pub keys_in : Members → List (List ℕ)
keys_in no_members = []
keys_in (member key d rest) = key ∷ keys_in rest

-- the key is that of one of these fields
abbrev pub is_known : List Field → List ℕ → Bool
is_known fields key = list_any (λ f. bytes_eq (key_of f) key) fields

-- the table has a key of none of these fields
abbrev pub has_extra : List Field → Members → Bool
has_extra fields keys = list_any (λ key. not (is_known fields key)) (keys_in keys)

-- a key of the whole document, one of the carrier at a place, and one of the flow at a place
abbrev pub top : Field → Spot
top f = record { part = part.Top; field = f }

abbrev pub of_carrier : ℕ → Field → Spot
of_carrier i f = record { part = part.Carrier i; field = f }

abbrev pub of_flow : ℕ → Field → Spot
of_flow i f = record { part = part.Flow i; field = f }

-- the rate of a carrier: S samples in K basic frames, of I and Q in M bits
unfoldable pub rate_in : ℕ → Members → Result (ℕ × ℕ × ℕ) PlanText
rate_in i keys = do
  s ← number_at keys (of_carrier i field.S)
  k ← number_at keys (of_carrier i field.K)
  m ← number_at keys (of_carrier i field.M)
  Ok (s, k, m)

-- its container: by its first IQ bit and how many, which are its one piece, or by its pieces
abbrev pub piece_from : ℕ → Members → Result (List Piece) PlanText
piece_from i keys = do
  start ← number_at keys (of_carrier i field.Start)
  size ← number_at keys (of_carrier i field.Size)
  Ok (record { start = start; size = size } ∷ [])

unfoldable pub container_in : Version → ℕ → Members → Result (List Piece) PlanText
container_in One i keys = piece_from i keys
container_in Two i keys = pieces_at keys (of_carrier i field.Pieces)

-- a carrier: its keys in their order, and no others
unfoldable pub carrier_in : Version → ℕ → Members → Result Carrier PlanText
carrier_in version i keys = do
  method ← method_at keys (of_carrier i field.Method)
  rate ← rate_in i keys
  pieces ← container_in version i keys
  if has_extra (carrier_fields version) keys then Err (Extra (part.Carrier i))
      else Ok (record { method = method; s = rate.0; k = rate.1; m = rate.2; pieces = pieces })

-- an element of the array `carrier`, which has to be a table
abbrev pub carrier_of : Version → ℕ → Data → Result Carrier PlanText
carrier_of version i (table keys) = carrier_in version i keys
carrier_of version i _ = Err (Kind (of_carrier i field.Carrier))

-- the carriers, none where the key is absent
abbrev pub carriers_of : Version → Option Data → Result (List Carrier) PlanText
carriers_of version None = Ok []
carriers_of version (Some (array elements)) = all_from (carrier_of version) 0 elements
carriers_of version (Some _) = Err (Kind (top field.Carrier))

-- where a flow goes: its id, its destination and its source
unfoldable pub ends_in : ℕ → Members → Result (ℕ × List ℕ × List ℕ) PlanText
ends_in i keys = do
  id ← number_at keys (of_flow i field.Id)
  dst ← address_at keys (of_flow i field.Dst)
  src ← address_at keys (of_flow i field.Src)
  Ok (id, dst, src)

-- what it carries: whether the control words, and which carriers
unfoldable pub load_in : ℕ → Members → Result (Bool × List ℕ) PlanText
load_in i keys = do
  control ← truth_at keys (of_flow i field.Control)
  carriers ← numbers_at keys (of_flow i field.Carriers)
  Ok (control, carriers)

-- the frames of a packet, and its least and greatest latency
unfoldable pub window_in : ℕ → Members → Result (ℕ × ℕ × ℕ) PlanText
window_in i keys = do
  frames ← number_at keys (of_flow i field.Frames)
  lmin ← number_at keys (of_flow i field.Lmin)
  lmax ← number_at keys (of_flow i field.Lmax)
  Ok (frames, lmin, lmax)

-- the packets that are held at once, and how packets are numbered
unfoldable pub numbering_in : ℕ → Members → Result (ℕ × ℕ × ℕ) PlanText
numbering_in i keys = do
  cap ← number_at keys (of_flow i field.Cap)
  p ← number_at keys (of_flow i field.P)
  q ← number_at keys (of_flow i field.Q)
  Ok (cap, p, q)

-- both, which tell when a packet may come
unfoldable pub timing_in : ℕ → Members → Result ((ℕ × ℕ × ℕ) × (ℕ × ℕ × ℕ)) PlanText
timing_in i keys = do
  window ← window_in i keys
  numbering ← numbering_in i keys
  Ok (window, numbering)

abbrev pub flow_from : ℕ × List ℕ × List ℕ → Bool × List ℕ → (ℕ × ℕ × ℕ) × (ℕ × ℕ × ℕ) → Flow
flow_from ends load timing = record {
  id = ends.0;
  dst = ends.1;
  src = ends.2;
  control = load.0;
  carriers = load.1;
  frames = timing.0.0;
  lmin = timing.0.1;
  lmax = timing.0.2;
  cap = timing.1.0;
  p = timing.1.1;
  q = timing.1.2;
}

-- a flow: its keys in their order, and no others
unfoldable pub flow_in : ℕ → Members → Result Flow PlanText
flow_in i keys = do
  ends ← ends_in i keys
  load ← load_in i keys
  timing ← timing_in i keys
  if has_extra flow_fields keys then Err (Extra (part.Flow i)) else Ok (flow_from ends load timing)

-- an element of the array `flow`, which has to be a table
abbrev pub flow_of : ℕ → Data → Result Flow PlanText
flow_of i (table keys) = flow_in i keys
flow_of i _ = Err (Kind (of_flow i field.Flow))

-- the flows, none where the key is absent
abbrev pub flows_of : Option Data → Result (List Flow) PlanText
flows_of None = Ok []
flows_of (Some (array elements)) = all_from flow_of 0 elements
flows_of (Some _) = Err (Kind (top field.Flow))

-- the four keys of the whole document that are no arrays
unfoldable pub line_in : Members → Result (Version × ℕ × Mode × ℕ) PlanText
line_in keys = do
  version ← version_at keys (top field.Version)
  option ← number_at keys (top field.LineOption)
  mode ← mode_at keys (top field.Mode)
  playout ← number_at keys (top field.Playout)
  Ok (version, option, mode, playout)

-- the whole document: its keys in their order, no others, then the carriers, and then the flows
unfoldable pub plan_in : Members → Result Plan PlanText
plan_in keys = do
  line ← line_in keys
  carriers ← if has_extra top_fields keys then Err (Extra part.Top) else carriers_of line.0 (get_member (key_of field.Carrier) keys)
  flows ← flows_of (get_member (key_of field.Flow) keys)
  Ok (record { option = line.1; mode = line.2; playout = line.3; carriers = carriers; flows = flows })

-- what TOML gives for the text, or nothing where it refuses the text
abbrev pub plan_of_document : Option Members → Result Plan PlanText
plan_of_document None = Err Toml
plan_of_document (Some keys) = plan_in keys

-- at most 65,536 octets of UTF-8 that are TOML
unfoldable pub plan_of : List ℕ → Result Plan PlanText
plan_of octets =
    if nat_lt 65536 (length octets) then Err Long
    else (if is_utf8 octets then plan_of_document (parse_document octets) else Err Utf8)

-- a refusal that stands where reading meets this fault; want of memory may stand anywhere
abbrev pub IsFaultOf : {A : Type 0} → Result A PlanText → ReadError → Type 0
IsFaultOf read (error.Text fault) = read ≡ Err fault
IsFaultOf read error.NoMemory = Unit {0}

-- what a call answered is what reading gives, unless memory ran out
abbrev pub Gives : {A : Type 0} → Result A ReadError → Result A PlanText → Type 0
Gives (Ok x) read = read ≡ Ok x
Gives (Err e) read = IsFaultOf read e

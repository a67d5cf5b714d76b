-- The keys of a plan file, each with what its value stands for. This project's own format.
use Rattle.std.specs.Prelude.{codes, ℕ, Bool, ◌^◌, ◌==◌, ℤ, pos, negsuc, nat_lt, bytes_eq, List, [], ◌∷◌, Result, Ok, Err, if◌then◌else◌}
use Rattle.hex.specs.Hex.{decode_sized}
use Rattle.hex.specs.declared.error.FromHexError.{FromHexError}
use Rattle.toml.specs.Data.{Data, string, integer, boolean}
use Rattle.carrier_plan.specs.declared.version.Version.{Version}
use Rattle.carrier_plan.specs.declared.version.Version.TheVariants.{One, Two}
use Rattle.carrier_plan.specs.declared.plan.Mode.{Mode}
use Rattle.carrier_plan.specs.declared.plan.Mode.TheVariants.{Tunnel, Bytes, Aware}
use Rattle.carrier_plan.specs.declared.plan.Method.{Method}
use Rattle.carrier_plan.specs.declared.plan.Method.TheVariants.{Sample, Compatible}
use Rattle.carrier_plan.specs.declared.fault.Field.{Field}
use Rattle.carrier_plan.specs.declared.fault.Field.TheVariants as field
use Rattle.carrier_plan.specs.declared.fault.Spot.{Spot}
use Rattle.carrier_plan.specs.declared.fault.PlanText.{PlanText}
use Rattle.carrier_plan.specs.declared.fault.PlanText.TheVariants.{Kind, Value}

-- a key as it stands in the file
abbrev pub key_of : Field → List ℕ
key_of field.Version = codes "version"
key_of field.LineOption = codes "option"
key_of field.Mode = codes "mode"
key_of field.Playout = codes "playout"
key_of field.Carrier = codes "carrier"
key_of field.Flow = codes "flow"
key_of field.Method = codes "method"
key_of field.S = codes "s"
key_of field.K = codes "k"
key_of field.M = codes "m"
key_of field.Start = codes "start"
key_of field.Size = codes "size"
key_of field.Pieces = codes "pieces"
key_of field.Id = codes "id"
key_of field.Dst = codes "dst"
key_of field.Src = codes "src"
key_of field.Control = codes "control"
key_of field.Carriers = codes "carriers"
key_of field.Frames = codes "frames"
key_of field.Lmin = codes "lmin"
key_of field.Lmax = codes "lmax"
key_of field.Cap = codes "cap"
key_of field.P = codes "p"
key_of field.Q = codes "q"

-- the keys of the whole document, those of one carrier by the version of the text, and those of one flow
abbrev pub top_fields : List Field
top_fields = field.Version ∷ field.LineOption ∷ field.Mode ∷ field.Playout ∷ field.Carrier ∷ field.Flow ∷ []

abbrev pub carrier_fields : Version → List Field
carrier_fields One = field.Method ∷ field.S ∷ field.K ∷ field.M ∷ field.Start ∷ field.Size ∷ []
carrier_fields Two = field.Method ∷ field.S ∷ field.K ∷ field.M ∷ field.Pieces ∷ []

abbrev pub flow_fields : List Field
flow_fields =
    field.Id ∷ field.Dst ∷ field.Src ∷ field.Control ∷ field.Carriers ∷ field.Frames ∷ field.Lmin ∷ field.Lmax
    ∷ field.Cap ∷ field.P ∷ field.Q ∷ []

-- a whole number from 0 to 4,294,967,295
abbrev pub in_range : Spot → ℤ → Result ℕ PlanText
in_range spot (pos n) = if nat_lt n (2 ^ 32) then Ok n else Err (Value spot)
in_range spot (negsuc n) = Err (Value spot)

abbrev pub number_of : Spot → Data → Result ℕ PlanText
number_of spot (integer z) = in_range spot z
number_of spot _ = Err (Kind spot)

-- the versions are 1 and 2
abbrev pub number_of_version : Version → ℕ
number_of_version One = 1
number_of_version Two = 2

abbrev pub version_numbered : Spot → ℕ → Result Version PlanText
version_numbered spot n = if n == 1 then Ok One else (if n == 2 then Ok Two else Err (Value spot))

-- the method, by its number
abbrev pub method_numbered : Spot → ℕ → Result Method PlanText
method_numbered spot n =
    if n == 1 then Ok Sample else (if n == 3 then Ok Compatible else Err (Value spot))

-- the mode, by its name
abbrev pub mode_named : Spot → List ℕ → Result Mode PlanText
mode_named spot name =
    if bytes_eq name (codes "tunnel") then Ok Tunnel
    else (if bytes_eq name (codes "bytes") then Ok Bytes
    else (if bytes_eq name (codes "aware") then Ok Aware else Err (Value spot)))

abbrev pub mode_of : Spot → Data → Result Mode PlanText
mode_of spot (string name) = mode_named spot name
mode_of spot _ = Err (Kind spot)

-- an address: six octets, as 12 hexadecimal digits of either case
abbrev pub address_spelled : Spot → Result (List ℕ) FromHexError → Result (List ℕ) PlanText
address_spelled spot (Ok octets) = Ok octets
address_spelled spot (Err _) = Err (Value spot)

abbrev pub address_of : Spot → Data → Result (List ℕ) PlanText
address_of spot (string text) = address_spelled spot (decode_sized text 6)
address_of spot _ = Err (Kind spot)

-- true or false
abbrev pub truth_of : Spot → Data → Result Bool PlanText
truth_of spot (boolean b) = Ok b
truth_of spot _ = Err (Kind spot)

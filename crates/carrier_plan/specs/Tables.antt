-- Tables that are built key by key, and the version of the text that a plan is written in. This project's own format.
use Rattle.std.specs.Prelude.{codes, ℕ, ◌≡◌, ◌==◌, List, length, pos, Option, Some, None, if◌then◌else◌}
use Rattle.std.specs.List.{list_all}
use Rattle.std.specs.Ordering.{nat_cmp, match_ordering}
use Rattle.std.specs.Cmp.Lexicographic.{slice_cmp}
use Rattle.toml.specs.Data.{Data, integer, Members, no_members, member, get_member}
use Rattle.toml.specs.Parse.{parse_document}
use Rattle.carrier_plan.specs.declared.version.Version.{Version}
use Rattle.carrier_plan.specs.declared.version.Version.TheVariants.{One, Two}
use Rattle.carrier_plan.specs.declared.fault.Field.TheVariants as field
use Rattle.carrier_plan.specs.declared.plan.Carrier.{Carrier}
use Rattle.carrier_plan.specs.declared.plan.Mode.{Mode}
use Rattle.carrier_plan.specs.declared.plan.Mode.TheVariants.{Tunnel, Bytes, Aware}
use Rattle.carrier_plan.specs.declared.plan.Method.{Method}
use Rattle.carrier_plan.specs.declared.plan.Method.TheVariants.{Sample, Compatible}
use Rattle.carrier_plan.specs.Keys.{key_of, number_of_version}

-- the members with a value at a key, which takes the place of an equal key's
abbrev pub with_key : List ℕ → Data → Members → Members
with_key k d no_members = member k d no_members
with_key k d (member l e rest) = match_ordering (slice_cmp nat_cmp k l) (member k d (member l e rest)) (member l d rest) (member l e (with_key k d rest))

-- the number of a method
abbrev pub method_number : Method → ℕ
method_number Sample = 1
method_number Compatible = 3

-- the name of a mode
abbrev pub mode_name : Mode → List ℕ
mode_name Tunnel = codes "tunnel"
mode_name Bytes = codes "bytes"
mode_name Aware = codes "aware"

-- the keys of a carrier that both versions have
abbrev pub rate_members : Carrier → Members
rate_members c =
    with_key (key_of field.M) (integer (pos c.m)) (with_key (key_of field.K) (integer (pos c.k)) (with_key (key_of field.S) (integer (pos c.s)) (with_key (key_of field.Method) (integer (pos (method_number c.method))) no_members)))

-- version 1 has carriers of one piece alone
abbrev pub CanWrite : Version → Carrier → Type 0
CanWrite One c = length c.pieces ≡ 1
CanWrite Two c = Unit {0}

-- the version that carriers are written in: 1 where each has one piece
abbrev pub version_of : List Carrier → Version
version_of carriers = if list_all (λ c. length c.pieces == 1) carriers then One else Two

abbrev pub written_version : Option Members → Option Data
written_version None = None
written_version (Some keys) = get_member (key_of field.Version) keys

-- the text is a document that has the number of the version at its key
abbrev pub IsWrittenIn : Version → List ℕ → Type 0
IsWrittenIn version octets = written_version (parse_document octets) ≡ Some (integer (pos (number_of_version version)))

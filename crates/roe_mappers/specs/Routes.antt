-- Where the container of a carrier stands in the octets that a packet's part has or spells. This is the project's own.
use Rattle.std.specs.Prelude.{ℕ, ◌≡◌, ◌+◌, ◌*◌, ◌<◌, ◌≤◌, List, length, All}
use Rattle.carrier_plan.specs.declared.plan.Carrier.{Carrier}
use Rattle.carrier_plan.specs.declared.plan.Flow.{Flow}
use Rattle.carrier_plan.specs.declared.plan.Piece.{Piece}
use Rattle.carrier_plan.specs.declared.plan.Plan.{Plan}
use Rattle.plan_checker.specs.Container.{container_size, pieces_size}
use Rattle.plan_checker.specs.Place.{iq_bit}
use Rattle.roe_mappers.specs.Parts.{place_in_part, spelled_octets}

-- These pieces of the octets are the container of the carrier, in the order of its bits.
pub record IsRoute (p : Plan) (f : Flow) (c : Carrier) (route : List Piece) : Type 0 where
  pub some : 1 ≤ length route
  pub few : length route ≤ 4
  pub size : pieces_size route ≡ container_size c
  pub within : All (λ r. r.start + r.size ≤ 8 * spelled_octets p.mode p f) route
  pub places : (b : ℕ) → b < container_size c → iq_bit route b ≡ place_in_part p f (iq_bit c.pieces b)

-- a piece so many bits on
abbrev pub moved_by : ℕ → Piece → Piece
moved_by n r = record { start = n + r.start; size = r.size }

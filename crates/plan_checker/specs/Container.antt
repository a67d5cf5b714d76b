-- The container of an antenna carrier in the IQ data block (CPRI V7.0, section 4.2.7.2). That a container may stand in
-- pieces is this project's own.
use Rattle.std.specs.Prelude.{ℕ, ◌≡◌, ◌+◌, ◌<◌, ◌≤◌, List, length, sum_by, All, Any, AllPairs}
use Rattle.std.specs.List.{AllWithin}
use Rattle.carrier_plan.specs.declared.plan.Carrier.{Carrier}
use Rattle.carrier_plan.specs.declared.plan.Method.{Method}
use Rattle.carrier_plan.specs.declared.plan.Method.TheVariants.{Sample, Compatible}
use Rattle.carrier_plan.specs.declared.plan.Piece.{Piece}
use Rattle.axc_sample_map.specs.Container as sample_map
use Rattle.axc_compatible_map.specs.Container as compatible_map

-- the bits of a container by the mapping method, for s samples of I and Q in m bits each in k basic frames
abbrev pub size_by : Method → ℕ → ℕ → ℕ → ℕ
size_by Sample m s k = sample_map.prescribed_size m s k
size_by Compatible m s k = compatible_map.prescribed_size m s k

abbrev pub prescribed_size : Carrier → ℕ
prescribed_size c = size_by c.method c.m c.s c.k

-- the bits of the container that stands in these pieces
abbrev pub pieces_size : List Piece → ℕ
pieces_size pieces = sum_by (λ (p : Piece). p.size) pieces

abbrev pub container_size : Carrier → ℕ
container_size c = pieces_size c.pieces

-- the container stands in 1 to 4 pieces, none of which is empty, and has as many bits as its mapping method prescribes
pub record HasPrescribedSize (c : Carrier) : Type 0 where
  pub some_pieces : 1 ≤ length c.pieces
  pub few_pieces : length c.pieces ≤ 4
  pub no_empty_piece : All (λ p. 1 ≤ p.size) c.pieces
  pub prescribed : container_size c ≡ prescribed_size c

-- each piece lies in the first n IQ bits of the frame
abbrev pub LiesWithin : ℕ → Carrier → Type 0
LiesWithin n c = All (λ p. p.start + p.size ≤ n) c.pieces

-- IQ bit x of the frame belongs to the piece
abbrev pub IsInPiece : ℕ → Piece → Type 0
IsInPiece x p = (p.start ≤ x) × (x < p.start + p.size)

-- IQ bit x of the frame belongs to the container
abbrev pub HoldsBit : Carrier → ℕ → Type 0
HoldsBit c x = Any (IsInPiece x) c.pieces

-- no IQ bit of the frame belongs to both pieces
pub record SharesNoBit (a b : Piece) : Type 0 where
  pub apart : (x : ℕ) → IsInPiece x a → ¬ IsInPiece x b

-- no piece of the one shares a bit with a piece of the other
pub record SharesNoPiece (earlier pieces : List Piece) : Type 0 where
  pub apart : All (λ a. All (SharesNoBit a) pieces) earlier

-- no piece of the carrier shares a bit with an earlier piece of it, or with a piece of one of the first i carriers
pub record HasSeparateBits (carriers : List Carrier) (i : ℕ) (c : Carrier) : Type 0 where
  pub own : AllPairs SharesNoBit c.pieces
  pub others : AllWithin (λ earlier. SharesNoPiece earlier.pieces c.pieces) carriers 0 i

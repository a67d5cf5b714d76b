-- Laws over the rules and over the places of bits. This project's own.
use Rattle.std.specs.Prelude.{ℕ, ◌≡◌, ◌↔◌, ◌+◌, ◌-◌, ◌*◌, ◌<◌, ◌≤◌, List, length, take, slice_get, Some}
use Rattle.std.specs.List.{HoldsAt}
use Rattle.carrier_plan.specs.declared.plan.Carrier.{Carrier}
use Rattle.carrier_plan.specs.declared.plan.Piece.{Piece}
use Rattle.carrier_plan.specs.declared.plan.Plan.{Plan}
use Rattle.plan_checker.specs.Container.{HoldsBit, pieces_size}
use Rattle.plan_checker.specs.Place.{BitPlace, iq_bit, place_of}
use Rattle.plan_checker.specs.Rules.{IsGood, IsFirstFailure}
use Rattle.plan_checker.specs.Verdict.{verdict_of}
use Rattle.plan_checker.specs.Verdict.Verdict.{Good, Fails}

-- a good plan has no first failure, and no plan has two
pub record FailureIsUnique : Type 0 where
  pub none : (p : Plan) (number item : ℕ) → IsFirstFailure p number item → ¬ IsGood p
  pub one : (p : Plan) (number item other place : ℕ) → IsFirstFailure p number item → IsFirstFailure p other place → (number ≡ other) × (item ≡ place)

-- the program computes what the rules say, and nothing else
pub record VerdictIsComputed : Type 0 where
  pub good : (p : Plan) → (verdict_of p ≡ Good) ↔ IsGood p
  pub fails : (p : Plan) (number item : ℕ) → (verdict_of p ≡ Fails number item) ↔ IsFirstFailure p number item

-- no IQ bit of a good plan belongs to two carriers
abbrev pub EachBitHasOneCarrier : Type 0
EachBitHasOneCarrier =
    (p : Plan) (x i j : ℕ) → IsGood p → i < length p.carriers → j < length p.carriers → HoldsAt (λ c. HoldsBit c x) p.carriers i → HoldsAt (λ c. HoldsBit c x) p.carriers j → i ≡ j

-- bit b of a container stands in the piece before which there are at most b bits of the pieces, and up to which more
-- than b, as many bits after the piece's start as b is above those before
pub record StandsInPiece (pieces : List Piece) (b x : ℕ) : Type 0 where
  pub place : ℕ
  pub piece : Piece
  pub there : slice_get pieces place ≡ Some piece
  pub after : pieces_size (take place pieces) ≤ b
  pub before : b < pieces_size (take place pieces) + piece.size
  pub is : x ≡ piece.start + (b - pieces_size (take place pieces))

abbrev pub BitsStandInPieces : Type 0
BitsStandInPieces = (pieces : List Piece) (b : ℕ) → b < pieces_size pieces → StandsInPiece pieces b (iq_bit pieces b)

-- an IQ bit of a basic frame of a good plan belongs to one carrier, one sample of it and one bit of that sample at most
abbrev pub EachBitHasOneSample : Type 0
EachBitHasOneSample =
    (p : Plan) (i other j l b d : ℕ) (x y : Carrier) → IsGood p → slice_get p.carriers i ≡ Some x → slice_get p.carriers other ≡ Some y
    → b < 2 * x.m → d < 2 * y.m → place_of x j b ≡ place_of y l d → (i ≡ other) × (j ≡ l) × (b ≡ d)

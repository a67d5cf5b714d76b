-- The containers of a good plan.
use Rattle.std.proofs.Common.{◌≡◌, ℕ, ◌<◌, List, [], ◌∷◌, length, get_or, arith, inl, inr, subst, sym}
use Rattle.std.specs.List.{AllPairs, AllWithin, HoldsAt}
use Rattle.std.proofs.lemmas.Bool.{cases_order}
use Rattle.std.proofs.lemmas.List.{get_or_default}
use Rattle.carrier_plan.specs.declared.plan.Carrier.{Carrier}
use Rattle.carrier_plan.specs.declared.plan.Piece.{Piece}
use Rattle.carrier_plan.specs.declared.plan.Plan.{Plan}
use Rattle.plan_checker.specs.Container.{HasSeparateBits, HoldsBit, SharesNoBit, SharesNoPiece}
use Rattle.plan_checker.specs.Rules.{IsGood}
use Rattle.plan_checker.specs.Rules.Rule.{SeparateBits}
use Rattle.plan_checker.specs.Laws.{EachBitHasOneCarrier}
use Rattle.plan_checker.proofs.IqBits.{pieces_apart}

-- the carrier in a place, by its pieces
module _ (cs : List Carrier) (i : ℕ) (d : Carrier) (ps : List Piece) (same : ps ≡ (get_or cs i d).pieces) where
  pub separate_at : i < length cs → AllPairs SharesNoBit ps → AllWithin (λ a. SharesNoPiece a.pieces ps) cs 0 i → HoldsAt (HasSeparateBits cs i) cs i
  separate_at lt own others z =
      subst (HasSeparateBits cs i) (get_or_default cs i d z lt) (record {
        own = subst (AllPairs SharesNoBit) same own;
        others = subst (λ qs. AllWithin (λ a. SharesNoPiece a.pieces qs) cs 0 i) same others;
      })

  pub own_of : HoldsAt (HasSeparateBits cs i) cs i → AllPairs SharesNoBit ps
  own_of h = subst (AllPairs SharesNoBit) (sym same) (h d).own

  pub others_of : HoldsAt (HasSeparateBits cs i) cs i → AllWithin (λ a. SharesNoPiece a.pieces ps) cs 0 i
  others_of h = subst (λ qs. AllWithin (λ a. SharesNoPiece a.pieces qs) cs 0 i) (sym same) (h d).others

some_carrier : (cs : List Carrier) (i : ℕ) → i < length cs → Carrier
some_carrier [] i lt = absurd (omega arith)
some_carrier (c ∷ cs) i lt = c

earlier_apart : (p : Plan) (x i j : ℕ) → IsGood p → i < j → j < length p.carriers → HoldsAt (λ c. HoldsBit c x) p.carriers i → ¬ HoldsAt (λ c. HoldsBit c x) p.carriers j
earlier_apart p x i j good less lt in_i in_j =
    let d = some_carrier p.carriers j lt in
    pieces_apart _ _ x ((good SeparateBits j lt d).others i d (omega arith) less) (in_i d) (in_j d)

pub EachBitHasOneCarrier-holds : EachBitHasOneCarrier
EachBitHasOneCarrier-holds p x i j good in_range_i in_range_j in_i in_j =
    elim (cases_order i j) [
      | inl same ↦ same
      | inr apart ↦ elim apart [
        | inl less ↦ absurd (earlier_apart p x i j good less in_range_j in_i in_j)
        | inr more ↦ absurd (earlier_apart p x j i good more in_range_i in_j in_i)
      ]
    ]

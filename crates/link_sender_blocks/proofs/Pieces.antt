-- The bits of a container in its pieces.
use Rattle.std.proofs.Common.{◌≡◌, ℕ, zero, suc, ◌+◌, ◌-◌, ◌<◌, ◌≤◌, cond, ltb, List, [], ◌∷◌, length, get_or, take, refl, sym, ap, ◌∙◌, ⊎_elim, arith}
use Rattle.std.specs.List.{AllPairs}
use Rattle.std.proofs.lemmas.Bool.{cases_lt, lt-ltb, le-ltb}
use Rattle.std.proofs.lemmas.List.{take_all}
use Rattle.std.proofs.lemmas.List.Sums.{sum_by-cons, sum_by_more, sum_by_more_le}
use Rattle.carrier_plan.specs.declared.plan.Piece.{Piece}
use Rattle.plan_checker.specs.Container.{SharesNoBit, pieces_size}
use Rattle.plan_checker.proofs.IqBits.{distinct_bits}
use Rattle.plan_checker.specs.Place.{iq_bit}

-- the bits of a piece follow those of the pieces before it
pub iq_bit-piece : (route : List Piece) (i b : ℕ) (d : Piece) → i < length route → b < (get_or route i d).size → iq_bit route (pieces_size (take i route) + b) ≡ (get_or route i d).start + b
iq_bit-piece [] i b d within small = absurd (omega arith)
iq_bit-piece (p ∷ ps) zero b d within small =
    ap (λ n. cond (ltb n p.size) (p.start + n) (iq_bit ps (n - p.size))) (let e : 0 + b ≡ b = omega arith in e)
    ∙ ap (λ c. cond c (p.start + b) (iq_bit ps (b - p.size))) (lt-ltb b p.size small)
iq_bit-piece (p ∷ ps) (suc i) b d within small =
    let before = pieces_size (take i ps) in
    let n : ℕ = p.size + before + b in
    let whole : pieces_size (p ∷ take i ps) + b ≡ n = ap (λ v. v + b) (sum_by-cons (λ (q : Piece). q.size) p (take i ps)) in
    let rest : n - p.size ≡ before + b = omega arith in
    ap (iq_bit (p ∷ ps)) whole
    ∙ ap (λ c. cond c (p.start + n) (iq_bit ps (n - p.size))) (le-ltb n p.size (omega arith))
    ∙ ap (iq_bit ps) rest
    ∙ iq_bit-piece ps i b d (omega arith) small

pub pieces_size-more : (route : List Piece) (i : ℕ) (d : Piece) → i < length route → pieces_size (take (i + 1) route) ≡ pieces_size (take i route) + (get_or route i d).size
pieces_size-more route i d within = sum_by_more (λ (p : Piece). p.size) route i d within

pub pieces_size-within : (route : List Piece) (i : ℕ) (d : Piece) → i < length route → pieces_size (take i route) + (get_or route i d).size ≤ pieces_size route
pieces_size-within route i d within = sum_by_more_le (λ (p : Piece). p.size) route i d within

-- a container in one piece
pub one_piece : (route : List Piece) (d : Piece) → length route ≡ 1 → get_or route 0 d ∷ [] ≡ route
one_piece [] d one = absurd (omega arith)
one_piece (p ∷ []) d one = refl
one_piece (p ∷ q ∷ ps) d one = absurd (omega arith)

-- a bit of the octets is before a piece, behind it or in it
pub data IsBeside (at size k : ℕ) : Type 0 where
  is_before : k < at → IsBeside at size k
  is_behind : at + size ≤ k → IsBeside at size k
  is_inside : (j : ℕ) → j < size → k ≡ at + j → IsBeside at size k

pub beside : (at size k : ℕ) → IsBeside at size k
beside at size k =
    ⊎_elim (λ before. is_before before)
    (λ from. ⊎_elim (λ low. is_inside (k - at) (omega arith) (omega arith)) (λ behind. is_behind behind) (cases_lt k (at + size)))
    (cases_lt k at)

-- Where the pieces share no bit, no bit of the pieces before is in this one.
pub earlier_apart : (route : List Piece) (i b j : ℕ) (d : Piece) → AllPairs SharesNoBit route → i < length route → b < pieces_size (take i route) → j < (get_or route i d).size
    → ¬ (iq_bit route b ≡ (get_or route i d).start + j)
earlier_apart route i b j d apart within early small e =
    let all = pieces_size-within route i d within in
    let same = distinct_bits route b (pieces_size (take i route) + j) apart (omega arith) (omega arith) (e ∙ sym (iq_bit-piece route i j d within small)) in
    omega arith

pub pieces_size-whole : (route : List Piece) (i : ℕ) → length route ≤ i → pieces_size (take i route) ≡ pieces_size route
pieces_size-whole route i past = ap pieces_size (take_all i route past)

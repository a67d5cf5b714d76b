-- The containers of a block, frame by frame.
use Rattle.std.proofs.Common.{◌≡◌, ℕ, ◌+◌, ◌-◌, ◌*◌, ◌/◌, ◌%◌, ◌<◌, ◌≤◌, cond, eqb, List, [], ◌∷◌, ◌++◌, map, length, sym, ap, ◌∙◌, arith, inl, inr}
use Rattle.std.specs.List.{range_with_len}
use Rattle.std.proofs.lemmas.Bool.{cases_eq, eq-eqb, ne_eqb}
use Rattle.std.proofs.lemmas.List.FromFn.{length-map-range_with_len, map-range_with_len_more}
use Rattle.std.proofs.lemmas.Nat.{div-add-mod', div-mul-add, mod_below}
use Rattle.carrier_plan.specs.declared.plan.Carrier.{Carrier}
use Rattle.carrier_plan.specs.declared.plan.Flow.{Flow}
use Rattle.carrier_plan.specs.declared.plan.Plan.{Plan}
use Rattle.link_base.specs.Record.{Record}
use Rattle.link_receiver_blocks.specs.Containers.{Container, in_hand_after}
use Rattle.link_receiver.specs.Containers.{block_start, container_of_frame, containers_in_hand}

-- ---- the frames of a block of k

pub block_start-before : (k n : ℕ) → n ≡ block_start k n + n % k
block_start-before k n = omega (arith, div-add-mod' n k)

-- of frame φ of block b
pub block_start-at : (k b φ : ℕ) → φ < k → block_start k (b * k + φ) ≡ b * k
block_start-at k b φ low = ap (λ q. q * k) (div-mul-add b k φ low)

-- a frame that is not the last of its block
block_start-inside : (k n : ℕ) → n % k + 1 < k → block_start k (n + 1) ≡ block_start k n
block_start-inside k n inside =
    let split : n + 1 ≡ n / k * k + (n % k + 1) = omega (arith, div-add-mod' n k) in
    ap (block_start k) split ∙ block_start-at k (n / k) (n % k + 1) inside

-- and one that is
block_start-last : (k n : ℕ) → 1 ≤ k → n % k + 1 ≡ k → block_start k (n + 1) ≡ n + 1
block_start-last k n some last =
    let split : n + 1 ≡ (n / k + 1) * k + 0 = omega (arith, div-add-mod' n k) in
    ap (block_start k) split ∙ block_start-at k (n / k + 1) 0 some ∙ omega (arith, split)

-- ---- the containers in hand

-- the containers of the first frames of the block of frame n, up to it
abbrev pub containers_with : Plan → Flow → ℕ → List Record → Carrier → ℕ → List Container
containers_with p f h records carrier n = containers_in_hand p f h records carrier n ++ container_of_frame p f h records carrier n ∷ []

module _ (p : Plan) (f : Flow) (h : ℕ) (records : List Record) (carrier : Carrier) (n : ℕ) where
  abbrev of_frame : ℕ → Container
  of_frame = container_of_frame p f h records carrier

  -- they are those of the frames from the first of the block on
  pub containers_with-range : containers_with p f h records carrier n ≡ map of_frame (range_with_len (block_start carrier.k n) (n % carrier.k + 1))
  containers_with-range =
      let start = block_start-before carrier.k n in
      let gap : n - block_start carrier.k n ≡ n % carrier.k = omega arith in
      ap (λ count. map of_frame (range_with_len (block_start carrier.k n) count) ++ of_frame n ∷ []) gap
      ∙ sym (map-range_with_len_more of_frame (block_start carrier.k n) (n % carrier.k) n (sym start))

  pub length-containers_with : length (containers_with p f h records carrier n) ≡ n % carrier.k + 1
  length-containers_with = ap length containers_with-range ∙ length-map-range_with_len of_frame (block_start carrier.k n) (n % carrier.k + 1)

  -- the next frame is of the same block
  in_hand-inside : n % carrier.k + 1 < carrier.k → containers_with p f h records carrier n ≡ containers_in_hand p f h records carrier (n + 1)
  in_hand-inside inside =
      let start = block_start-before carrier.k n in
      let same = block_start-inside carrier.k n inside in
      let gap : n % carrier.k + 1 ≡ n + 1 - block_start carrier.k (n + 1) = omega arith in
      containers_with-range
      ∙ ap (λ from. map of_frame (range_with_len from (n % carrier.k + 1))) (sym same)
      ∙ ap (λ count. map of_frame (range_with_len (block_start carrier.k (n + 1)) count)) gap

  -- or the first of the next
  in_hand-last : 1 ≤ carrier.k → n % carrier.k + 1 ≡ carrier.k → [] ≡ containers_in_hand p f h records carrier (n + 1)
  in_hand-last some last =
      let start = block_start-last carrier.k n some last in
      let none : 0 ≡ n + 1 - block_start carrier.k (n + 1) = omega arith in
      ap (λ count. map of_frame (range_with_len (block_start carrier.k (n + 1)) count)) none

  abbrev hand_by : List Container → ℕ → List Container
  hand_by containers count = cond (eqb count carrier.k) [] containers

  pub in_hand_after-next : 1 ≤ carrier.k → in_hand_after carrier.k (containers_with p f h records carrier n) ≡ containers_in_hand p f h records carrier (n + 1)
  in_hand_after-next some =
      let containers = containers_with p f h records carrier n in
      let low = mod_below n carrier.k some in
      ap (hand_by containers) length-containers_with
      ∙ elim (cases_eq (n % carrier.k + 1) carrier.k) [
        | inl last ↦ ap (λ b. cond b [] containers) (eq-eqb (n % carrier.k + 1) carrier.k last) ∙ in_hand-last some last
        | inr inside ↦
            let less : n % carrier.k + 1 < carrier.k = omega arith in
            ap (λ b. cond b [] containers) (ne_eqb (n % carrier.k + 1) carrier.k inside) ∙ in_hand-inside less
      ]

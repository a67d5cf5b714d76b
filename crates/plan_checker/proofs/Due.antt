-- The samples that are handed in at a tick.
use Rattle.std.proofs.Common.{◌≡◌, slice_get, slice_index, Some, ap, ◌∙◌, sym, subst, ℕ, ◌+◌, ◌-◌, ◌*◌, ◌/◌, ◌^◌, ◌≤◌, arith}
use Rattle.std.proofs.lemmas.Nat.{div-add-mod', mod_below, div_below, le-div, mul-le}
use Rattle.carrier_plan.specs.declared.plan.Carrier.{Carrier}
use Rattle.carrier_plan.specs.declared.plan.Plan.{Plan}
use Rattle.link_base.specs.Count.{HasCount}
use Rattle.plan_checker.specs.Run.{IsDue, block_lengths, block_samples, samples_before, samples_due}
use Rattle.plan_checker.proofs.Counting.{HasCount-range}
use Rattle.plan_checker.proofs.Places.{carrier_number}

pub quotient_grows : (n s k : ℕ) → 1 ≤ k → n * s / k ≤ (n + 1) * s / k
quotient_grows n s k some =
    let q = n * s / k in
    let split = div-add-mod' (n * s) k in
    le-div q ((n + 1) * s) k some (omega (arith, split))

pub quotient_grows_little : (n s k : ℕ) → 1 ≤ k → (n + 1) * s / k ≤ n * s / k + s
quotient_grows_little n s k some =
    let q = n * s / k in
    let split = div-add-mod' (n * s) k in
    let rest = mod_below (n * s) k some in
    let product : s * 1 ≤ s * k = mul-le s 1 s k (omega arith) some in
    let less = div_below ((n + 1) * s) k (q + s + 1) some (omega (arith, split, rest, product)) in
    omega arith

pub product_small : (n s : ℕ) → n ≤ 2 ^ 40 → s ≤ 3_072 → (n + 1) * s ≤ (2 ^ 40 + 1) * 3_072
product_small n s few small = mul-le (n + 1) s (2 ^ 40 + 1) 3_072 (omega arith) small

pub samples_due-counts : (p : Plan) (c n : ℕ) → samples_before p c n ≤ samples_before p c (n + 1) → HasCount (IsDue p c n) (samples_due p c n)
samples_due-counts p c n order =
    HasCount-range (IsDue p c n) (samples_before p c n) (samples_due p c n) (λ i h. (h.0, omega (arith, h.1))) (λ i low high. (low, omega arith))

-- the samples of a carrier with s samples in k basic frames that are handed in at tick n
abbrev due_by : ℕ → ℕ → ℕ → ℕ
due_by s k n = (n + 1) * s / k - n * s / k

module _ (p q : Plan) (same : p ≡ q) (c n s k : ℕ) (x : Carrier) (read : slice_get p.carriers c ≡ Some x) (is_s : s ≡ x.s) (is_k : k ≡ x.k) where
  pub due_number : (n + 1) * s / k - n * s / k ≡ samples_due q c n
  due_number =
      let samples : s ≡ slice_index (block_samples q) c = is_s ∙ carrier_number p q same (λ (a : Carrier). a.s) c x read in
      let frames : k ≡ slice_index (block_lengths q) c = is_k ∙ carrier_number p q same (λ (a : Carrier). a.k) c x read in
      ap (λ a. due_by a k n) samples ∙ ap (λ b. due_by (slice_index (block_samples q) c) b n) frames

  pub due_count : 1 ≤ k → HasCount (IsDue q c n) ((n + 1) * s / k - n * s / k)
  due_count some =
      let frames : k ≡ slice_index (block_lengths q) c = is_k ∙ carrier_number p q same (λ (a : Carrier). a.k) c x read in
      let more : 1 ≤ slice_index (block_lengths q) c = subst (λ b. 1 ≤ b) frames some in
      let order : samples_before q c n ≤ samples_before q c (n + 1) = quotient_grows n (slice_index (block_samples q) c) (slice_index (block_lengths q) c) more in
      subst (HasCount (IsDue q c n)) (sym due_number) (samples_due-counts q c n order)

-- Quotients and remainders of one number more.
use Rattle.std.proofs.Common.{◌≡◌, ℕ, ◌+◌, ◌-◌, ◌*◌, ◌/◌, ◌%◌, ◌<◌, ◌≤◌, ap, subst, ◌∙◌, arith}
use Rattle.playout_buffer.specs.PlayedFrame.{IsPlayedFrame}
use Rattle.playout_buffer.specs.declared.played_frame.PlayedFrame.{PlayedFrame}
use Rattle.playout_buffer.specs.declared.window.Window.{Window}
use Rattle.std.proofs.lemmas.Nat.{mod_below, div-add-mod', mod-mul-add, div-mul-add}

module _ (n k : ℕ) (some : 0 < k) where
  -- within the same quotient
  within-is : n % k + 1 < k → n + 1 ≡ n / k * k + (n % k + 1)
  within-is less = let all = div-add-mod' n k in omega (arith, all)

  pub within-div : n % k + 1 < k → (n + 1) / k ≡ n / k
  within-div less = ap (λ x. x / k) (within-is less) ∙ div-mul-add (n / k) k (n % k + 1) less

  pub within-mod : n % k + 1 < k → (n + 1) % k ≡ n % k + 1
  within-mod less = ap (λ x. x % k) (within-is less) ∙ mod-mul-add (n / k) k (n % k + 1) less

  -- at the next quotient
  next-is : k ≤ n % k + 1 → n + 1 ≡ (n / k + 1) * k + 0
  next-is last =
      let all = div-add-mod' n k in
      let below = mod_below n k some in
      let more : (n / k + 1) * k ≡ n / k * k + k = grind arith in
      omega (arith, all, below, last, more)

  pub next-div : k ≤ n % k + 1 → (n + 1) / k ≡ n / k + 1
  next-div last = ap (λ x. x / k) (next-is last) ∙ div-mul-add (n / k + 1) k 0 some

  pub next-mod : k ≤ n % k + 1 → (n + 1) % k ≡ 0
  next-mod last = ap (λ x. x % k) (next-is last) ∙ mod-mul-add (n / k + 1) k 0 some

-- the frame that is played at a tick is at hand
pub frame_at : (w : Window) (tick n : ℕ) (f : PlayedFrame) → n + w.playout ≡ tick → IsPlayedFrame w.frames w.cap (tick - w.playout) f → IsPlayedFrame w.frames w.cap n f
frame_at w tick n f played is =
    let same : tick - w.playout ≡ n = omega (arith, played) in
    subst (λ k. IsPlayedFrame w.frames w.cap k f) same is

-- How the bits of a number stand while they are spread out to every other place.
use Rattle.std.specs.Prelude.{◌≡◌, ℕ, Bool, ◌+◌, ◌*◌, ◌%◌, ◌<◌, ◌≤◌, ◌==◌, nat_lt, if◌then◌else◌}
use Rattle.std.specs.List.{list_all, range_with_len}
use Rattle.std.specs.Int.{bit_at}

-- x has the given bits in runs of w, each followed by w zeros.
pub record IsSpread (w x : ℕ) (bits : ℕ → ℕ) : Type 0 where
  pub runs : (a r : ℕ) → r < w → bit_at x (a * (2 * w) + r) ≡ bits (a * w + r)
  pub gaps : (a r : ℕ) → r < w → bit_at x (a * (2 * w) + w + r) ≡ 0

-- There are at most 32 bits that are not 0.
abbrev pub EndBelow32 : (ℕ → ℕ) → Type 0
EndBelow32 bits = (j : ℕ) → 32 ≤ j → bits j ≡ 0

-- The mask has w ones, then w zeros and so on, over 64 bits.
abbrev pub is_mask : ℕ → ℕ → Bool
is_mask w mask = list_all (λ i. bit_at mask i == (if nat_lt (i % (2 * w)) w then 1 else 0)) (range_with_len 0 64)

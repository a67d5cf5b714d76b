-- The numbers that a drill draws: those of the linear congruential generator that the C standard shows (ISO/IEC 9899:2018, section
-- 7.22.2.2), with a seed of 31 bits. The samples that are made of them are this project's own.
use Rattle.std.specs.Prelude.{ℕ, zero, suc, ◌≡◌, ◌+◌, ◌*◌, ◌/◌, ◌%◌, List, map, pos, ◌-ℤ◌}
use Rattle.std.specs.List.{range_with_len}
use Rattle.sample_bits.specs.declared.iq.RawIq.{RawIq}
use Rattle.link_drill.specs.declared.draws.Generator.{Generator}

abbrev pub next_seed : ℕ → ℕ
next_seed x = (1_103_515_245 * x + 12_345) % 2_147_483_648

-- the seed after so many draws, where it is a number at first
unfoldable pub seed_after : ℕ → ℕ → ℕ
seed_after number zero = number
seed_after number (suc k) = next_seed (seed_after number k)

-- draw k of a number, from 0
abbrev pub draw : ℕ → ℕ → ℕ
draw number k = seed_after number (k + 1) / 65_536

-- the next draw is draw k of the number
abbrev pub IsAt : Generator → ℕ → ℕ → Type 0
IsAt generator number k = generator.seed ≡ seed_after number k

-- Sample m, from 0: I and then Q, after the draw of the option.
abbrev pub drawn_sample : ℕ → ℕ → RawIq
drawn_sample number m = record {
  i = pos (draw number (1 + 2 * m)) -ℤ pos 16_384;
  q = pos (draw number (2 + 2 * m)) -ℤ pos 16_384;
}

-- the first samples
unfoldable pub drawn_samples : ℕ → ℕ → List RawIq
drawn_samples number count = map (drawn_sample number) (range_with_len 0 count)

-- Which sample comes next in a file of samples: they stand by tick, then carrier, then number. The order is this project's own.
use Rattle.std.specs.Prelude.{ℕ, ◌+◌, Bool, nat_lt, is_some, length, Option, Some, None}
use Rattle.std.specs.List.{find, range_with_len}
use Rattle.carrier_plan.specs.declared.plan.Plan.{Plan}
use Rattle.plan_checker.specs.Run.{samples_before}
use Rattle.link_sender.specs.Stream.{Stream, samples_of}

-- whether carrier c lacks a sample that is due at tick n, or before it
abbrev pub lacks : Plan → Stream → (n c : ℕ) → Bool
lacks p σ n c = nat_lt (length (samples_of σ c)) (samples_before p c (n + 1))

-- the first carrier that does
unfoldable pub lacking_carrier : Plan → Stream → ℕ → Option ℕ
lacking_carrier p σ n = find (lacks p σ n) (range_with_len 0 (length p.carriers))

-- the first tick of a run of h ticks at which one does
unfoldable pub lacking_tick : Plan → ℕ → Stream → Option ℕ
lacking_tick p h σ = find (λ n. is_some (lacking_carrier p σ n)) (range_with_len 0 h)

abbrev pub or_all : ℕ → Option ℕ → ℕ
or_all h None = h
or_all h (Some n) = n

-- how many ticks have their samples, and all those before them
abbrev pub complete_ticks : Plan → ℕ → Stream → ℕ
complete_ticks p h σ = or_all h (lacking_tick p h σ)

abbrev pub carrier_at : Plan → Stream → Option ℕ → Option ℕ
carrier_at p σ None = None
carrier_at p σ (Some n) = lacking_carrier p σ n

-- the carrier whose sample comes next, if one is missing
abbrev pub next_carrier : Plan → ℕ → Stream → Option ℕ
next_carrier p h σ = carrier_at p σ (lacking_tick p h σ)

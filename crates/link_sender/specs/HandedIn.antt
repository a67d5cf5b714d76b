-- A stream as it is handed in, part by part. This is the project's own.
use Rattle.std.specs.Prelude.{ℕ, List, [], ◌∷◌, ◌++◌, map, slice_set}
use Rattle.carrier_plan.specs.declared.plan.Carrier.{Carrier}
use Rattle.carrier_plan.specs.declared.plan.Plan.{Plan}
use Rattle.control_words.specs.declared.announce.Announce.{Announce}
use Rattle.sample_bits.specs.declared.iq.RawIq.{RawIq}
use Rattle.link_sender.specs.Stream.{Stream, samples_of}

-- before anything is handed in
abbrev pub nothing_yet : Plan → Announce → Stream
nothing_yet p a = record { samples = map (λ (c : Carrier). []) p.carriers; announcement = a; slow = []; fast = [] }

-- with more samples of carrier c
abbrev pub with_samples : Stream → ℕ → List RawIq → Stream
with_samples σ c more = record { samples = slice_set σ.samples c (samples_of σ c ++ more); announcement = σ.announcement; slow = σ.slow; fast = σ.fast }

-- with one more frame of the slow channel, and of the fast one
abbrev pub with_slow : Stream → List ℕ → Stream
with_slow σ frame = record { samples = σ.samples; announcement = σ.announcement; slow = σ.slow ++ frame ∷ []; fast = σ.fast }

abbrev pub with_fast : Stream → List ℕ → Stream
with_fast σ frame = record { samples = σ.samples; announcement = σ.announcement; slow = σ.slow; fast = σ.fast ++ frame ∷ [] }

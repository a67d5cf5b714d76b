-- A reader that has seen nothing but 1s, and sees more of them.
use Rattle.std.proofs.Common.{◌≡◌, ℕ, zero, suc, ◌+◌, ◌*◌, ◌%◌, Bool, true, List, [], ◌∷◌, ◌++◌, replicate, None, refl, ◌∙◌, ap, arith}
use Rattle.std.specs.Option.{option_to_list}
use Rattle.ethernet_channel.specs.declared.events.FastEvent.{FastEvent}
use Rattle.ethernet_channel.specs.declared.reader.Step.{Step}
use Rattle.ethernet_channel.specs.declared.reader.Step.TheVariants.{Hunting}
use Rattle.ethernet_channel.specs.Bits.{low_bits, octet_bits}
use Rattle.ethernet_channel.specs.Codes.{start}
use Rattle.ethernet_channel.specs.Keeps.{Kept}
use Rattle.ethernet_channel.specs.Steps.{Taken, goes_on, hunts, with_bit, takes_in, takes, run, run_events}

hunts_on : (k : Kept) (r : ℕ) → r ≡ 1023 → hunts (record k { recent = r }) ≡ goes_on (record k { recent = r })
unfolding start
hunts_on k r e = ap (λ (n : ℕ). let j : Kept = record k { recent = n } in hunts j) e ∙ ap (λ (n : ℕ). let j : Kept = record k { recent = n } in goes_on j) (omega (arith, e))

same_ones : (k : Kept) → k.recent ≡ 1023 → with_bit k true ≡ k
same_ones k e = ap (λ (n : ℕ). let j : Kept = record k { recent = n } in j) (omega (arith, e))

one_more : (k : Kept) → k.step ≡ Hunting → k.recent ≡ 1023 → takes k true ≡ goes_on k
unfolding takes
one_more k h e =
    ap (λ s. takes_in s (with_bit k true)) h ∙ hunts_on k ((2 * k.recent + 1) % 1024) (omega (arith, e)) ∙ ap goes_on (same_ones k e)

pub ones_run : (n : ℕ) (k : Kept) → k.step ≡ Hunting → k.recent ≡ 1023 → run k (replicate n true) ≡ k
ones_run zero k h e = refl
ones_run (suc n) k h e = ap (λ (t : Taken). run t.kept (replicate n true)) (one_more k h e) ∙ ones_run n k h e

pub ones_events : (n : ℕ) (k : Kept) → k.step ≡ Hunting → k.recent ≡ 1023 → run_events k (replicate n true) ≡ []
ones_events zero k h e = refl
ones_events (suc n) k h e = ap (λ (t : Taken). option_to_list t.event ++ run_events t.kept (replicate n true)) (one_more k h e) ∙ ones_events n k h e

pub idle_bits : (octet : ℕ) → octet ≡ 255 → octet_bits octet ≡ replicate 8 true
unfolding low_bits
idle_bits octet e = ap octet_bits e

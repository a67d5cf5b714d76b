-- The table of octets is held against the code at each octet, by computing.
use Rattle.std.proofs.Common.{◌≡◌, ℕ, ◌<◌, Bool, true, false, ◌&&◌, ltb, List, [], ◌∷◌, ◌++◌, get_or, refl, ap}
use Rattle.std.specs.Bool.{⊤}
use Rattle.std.proofs.lemmas.Bool.{and_parts, agree_below, agree_below_at, ltb-true}
use Rattle.ethernet_channel.specs.Bits.{low_bits}
use Rattle.ethernet_channel.specs.Codes.{nibble_texts, start, idle}
use Rattle.ethernet_channel.specs.FastStream.{nibble_bits, coded, ending}
use Rattle.ethernet_channel.specs.declared.encoding.TheConstants.{ENCODED, START, IDLE, ENDING}

-- what a proof unfolds to compute the code on literals
unfoldable pub code_on_literals : ⊤
unfolding low_bits nibble_texts start idle nibble_bits coded ending
code_on_literals = tt

-- whether two lists of bits are the same
abbrev same_bits : List Bool → List Bool → Bool
same_bits [] [] = true
same_bits [] (b ∷ ys) = false
same_bits (a ∷ xs) [] = false
same_bits (true ∷ xs) (true ∷ ys) = same_bits xs ys
same_bits (true ∷ xs) (false ∷ ys) = false
same_bits (false ∷ xs) (true ∷ ys) = false
same_bits (false ∷ xs) (false ∷ ys) = same_bits xs ys

same_bits-true : (xs ys : List Bool) → same_bits xs ys ≡ true → xs ≡ ys
same_bits-true [] [] h = refl
same_bits-true [] (b ∷ ys) h = absurd (cc)
same_bits-true (a ∷ xs) [] h = absurd (cc)
same_bits-true (true ∷ xs) (true ∷ ys) h = ap (λ zs. true ∷ zs) (same_bits-true xs ys h)
same_bits-true (true ∷ xs) (false ∷ ys) h = absurd (cc)
same_bits-true (false ∷ xs) (true ∷ ys) h = absurd (cc)
same_bits-true (false ∷ xs) (false ∷ ys) h = ap (λ zs. false ∷ zs) (same_bits-true xs ys h)

abbrev is_entry : ℕ → Bool
is_entry octet = same_bits (low_bits 10 (get_or ENCODED octet 0)) (coded octet) && ltb (get_or ENCODED octet 0) 1024

table_passes : agree_below is_entry (λ octet. true) 256 ≡ true
unfolding code_on_literals
table_passes = refl

pub entry : (octet : ℕ) → octet < 256 → (low_bits 10 (get_or ENCODED octet 0) ≡ coded octet) × (get_or ENCODED octet 0 < 1024)
entry octet h =
    let parts = and_parts (same_bits (low_bits 10 (get_or ENCODED octet 0)) (coded octet)) _ (agree_below_at is_entry (λ k. true) 256 octet table_passes h) in
    (same_bits-true _ _ parts.0, ltb-true _ _ parts.1)

pub start_bits : low_bits 10 START ≡ start
unfolding code_on_literals
start_bits = refl

pub idle_bits : low_bits 5 IDLE ≡ idle
unfolding code_on_literals
idle_bits = refl

pub ending_bits : low_bits 15 ENDING ≡ ending ++ idle
unfolding code_on_literals
ending_bits = refl

-- The table of stuffed octets is held against the definition at each entry, by computing.
use Rattle.std.proofs.Common.{◌≡◌, ℕ, zero, suc, ◌+◌, ◌*◌, ◌/◌, ◌%◌, ◌<◌, ◌≤◌, ◌&&◌, ◌==◌, Bool, true, List, [], ◌∷◌, length, get_or, refl, ap, ◌∙◌, arith}
use Rattle.std.proofs.lemmas.Bool.{and_parts, eqb-true}
use Rattle.hdlc_channel.specs.Bits.{low_bits, number_of}
use Rattle.hdlc_channel.specs.SlowStream.{stuffed}
use Rattle.hdlc_channel.specs.Outgoing.{stuffed_entry, ones_after}
use Rattle.hdlc_channel.specs.declared.stuffing.TheConstants.{STUFFED}

-- whether a list holds the values of a function from k on
unfoldable pub agrees : (ℕ → ℕ) → ℕ → List ℕ → Bool
agrees f k [] = true
agrees f k (x ∷ xs) = (x == f k) && agrees f (k + 1) xs

pub agrees_at : (f : ℕ → ℕ) (k : ℕ) (xs : List ℕ) (i : ℕ) → agrees f k xs ≡ true → i < length xs → get_or xs i 0 ≡ f (k + i)
unfolding agrees
agrees_at f k [] i h within = absurd (omega arith)
agrees_at f k (x ∷ xs) zero h within =
    let e : k ≡ k + 0 = omega arith in
    eqb-true x (f k) (and_parts (x == f k) (agrees f (k + 1) xs) h).0 ∙ ap f e
agrees_at f k (x ∷ xs) (suc i) h within =
    let e : k + 1 + i ≡ k + suc i = omega arith in
    agrees_at f (k + 1) xs i (and_parts (x == f k) (agrees f (k + 1) xs) h).1 (omega arith) ∙ ap f e

entry_of : ℕ → ℕ
entry_of n = stuffed_entry (n / 256) (n % 256)

entries_are : agrees entry_of 0 STUFFED ≡ true
unfolding agrees entry_of stuffed_entry stuffed ones_after number_of low_bits
entries_are = refl

pub entry_at : (ones octet : ℕ) → ones ≤ 4 → octet < 256 → get_or STUFFED (ones * 256 + octet) 0 ≡ stuffed_entry ones octet
unfolding entry_of
entry_at ones octet few small =
    let n = ones * 256 + octet in
    let e : 0 + n ≡ n = omega arith in
    let high : n / 256 ≡ ones = omega arith in
    let low : n % 256 ≡ octet = omega arith in
    let size : length STUFFED ≡ 1280 = refl in
    agrees_at entry_of 0 STUFFED n entries_are (omega (arith, size))
    ∙ ap entry_of e ∙ ap (λ a. stuffed_entry a (n % 256)) high ∙ ap (stuffed_entry ones) low

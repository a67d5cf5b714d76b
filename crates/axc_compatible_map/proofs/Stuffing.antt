-- Which containers of a block are stuffing, and which sample each of the others carries.
use Rattle.std.proofs.Common.{◌⊎◌, inl, inr, leb, zero-add, eq-eqb, ◌≡◌, ℕ, zero, suc, ◌+◌, ◌-◌, ◌*◌, ◌/◌, ◌%◌, ◌<◌, ◌≤◌, Bool, true, false, not, [], ◌∷◌, ◌++◌, filter, map, get_or, All, eqb, cond, sym, ap, subst, ◌∙◌, arith, ⊎_elim, append-nil}
use Rattle.std.specs.Int.{div_ceil}
use Rattle.std.specs.List.{range_with_len}
use Rattle.std.proofs.lemmas.Bool.{cases_lt, eqb-true, false_from_ne_true, le-leb, lt-leb}
use Rattle.std.proofs.lemmas.List.{map-id}
use Rattle.std.proofs.lemmas.List.Folds.{list_any_none, list_any_at}
use Rattle.std.proofs.lemmas.List.FromFn.{length-range_with_len, get_or-range_with_len, get_or-map-range_with_len, map-range_with_len_more, filter_of_map_range_with_len_more}
use Rattle.std.proofs.lemmas.Nat.{mul-le, div-mul-add, mod-mul-add}
use Rattle.sample_bits.proofs.RateLemmas.{div_ceil-enough, div_ceil-least, div_ceil-le, lt-div_ceil, div_ceil-between, lt-cancel}
use Rattle.axc_compatible_map.specs.Container.{bit_of_container, frame_containers, stuffing_containers, is_stuffing, sample_containers}

-- ---- over a number of containers t, of which s carry a sample and v are stuffing

-- the container of sample r
abbrev pub carrier_of : ℕ → ℕ → ℕ → ℕ
carrier_of s t r = div_ceil ((r + 1) * t) s - 1

-- stuffing container i is container u only where the samples up to u are not one more than those before it
not_carried : (s t v u i : ℕ) → s + v ≡ t → i < v → i * t / v ≡ u → u * s % t + s < t
not_carried s t v u i parts within e =
    let some : 0 < v = omega arith in
    let low : u * v ≤ i * t = omega (arith, ap (λ n. n * v) e) in
    let high : i * t < u * v + v = omega (arith, ap (λ n. n * v) e) in
    let share : (u + 1) * v ≤ (u + 1) * t = mul-le (u + 1) v (u + 1) t (omega arith) (omega arith) in
    let before : i < u + 1 = lt-cancel i (u + 1) t (omega arith) in
    let j : ℕ = u - i in
    let whole : u * t ≡ i * t + j * t = omega (arith, ap (λ n. n * t) (let w : u ≡ i + j = omega arith in w)) in
    let split : u * t ≡ u * s + u * v = omega (arith, ap (λ n. u * n) parts) in
    let rest : ℕ = u * s - j * t in
    let form : j * t + rest ≡ u * s = omega arith in
    let small : rest < v = omega arith in
    let left : u * s % t ≡ rest = ap (λ n. n % t) (sym form) ∙ mod-mul-add j t rest (omega arith) in
    omega arith

-- and there is one where they are not
stuffing_number : (s t v u : ℕ) → s + v ≡ t → u < t → u * s % t + s < t → (i : ℕ) × (i < v) × (i * t / v ≡ u)
stuffing_number s t v u parts within none =
    let some : 0 < v = omega arith in
    let q : ℕ = u * s / t in
    let rest : ℕ = u * s % t in
    let form : q * t + rest ≡ u * s = omega arith in
    let few : u * s ≤ u * t = mul-le u s u t (omega arith) (omega arith) in
    let before : q < u + 1 = lt-cancel q (u + 1) t (omega arith) in
    let i : ℕ = u - q in
    let whole : u * t ≡ i * t + q * t = omega (arith, ap (λ n. n * t) (let w : u ≡ i + q = omega arith in w)) in
    let split : u * t ≡ u * s + u * v = omega (arith, ap (λ n. u * n) parts) in
    let place : i * t ≡ u * v + rest = omega arith in
    let below : (u + 1) * v ≤ t * v = mul-le (u + 1) v t v (omega arith) (omega arith) in
    let early : i < v = lt-cancel i v t (omega arith) in
    (i, early, ap (λ n. n / v) place ∙ div-mul-add u v rest (omega arith))

-- a container that carries a sample carries the next one
carrier_of-next : (s t u : ℕ) → 1 ≤ s → 0 < t → t ≤ u * s % t + s → carrier_of s t (u * s / t) ≡ u
carrier_of-next s t u some any more =
    let q : ℕ = u * s / t in
    let form : q * t + u * s % t ≡ u * s = omega arith in
    let up = div_ceil-between ((q + 1) * t) s u some (omega arith) (omega arith) in
    omega arith

count_stays : (s t u : ℕ) → 0 < t → u * s % t + s < t → (u + 1) * s / t ≡ u * s / t
count_stays s t u any none =
    let q : ℕ = u * s / t in
    let form : (u + 1) * s ≡ q * t + (u * s % t + s) = omega arith in
    ap (λ n. n / t) form ∙ div-mul-add q t (u * s % t + s) none

count_rises : (s t u : ℕ) → 0 < t → s ≤ t → t ≤ u * s % t + s → (u + 1) * s / t ≡ u * s / t + 1
count_rises s t u any few more =
    let q : ℕ = u * s / t in
    let rest : ℕ = u * s % t + s - t in
    let form : (u + 1) * s ≡ (q + 1) * t + rest = omega arith in
    ap (λ n. n / t) form ∙ div-mul-add (q + 1) t rest (omega arith)

-- the container of sample r comes after those of the samples before it, and carries it
pub carrier_of-below : (s t r : ℕ) → 1 ≤ s → 0 < t → r < s → carrier_of s t r < t
carrier_of-below s t r some any within =
    let all = mul-le (r + 1) t s t (omega arith) (omega arith) in
    let most = div_ceil-le ((r + 1) * t) s t some (omega arith) in
    omega arith

pub carrier_of-some : (s t r : ℕ) → 1 ≤ s → 0 < t → carrier_of s t r + 1 ≡ div_ceil ((r + 1) * t) s
carrier_of-some s t r some any =
    let positive = mul-le 1 1 (r + 1) t (omega arith) any in
    let least = lt-div_ceil ((r + 1) * t) s 0 some (omega arith) in
    omega arith

-- what is known of the container of sample r
carried : (s t r : ℕ) → 1 ≤ s → 0 < t → s ≤ t → (r * t ≤ carrier_of s t r * s) × (carrier_of s t r * s < (r + 1) * t) × ((r + 1) * t ≤ (carrier_of s t r + 1) * s)
carried s t r some any few =
    let u = carrier_of s t r in
    let up = ap (λ n. n * s) (carrier_of-some s t r some any) in
    let enough = div_ceil-enough ((r + 1) * t) s some in
    let least = div_ceil-least ((r + 1) * t) s some in
    (omega arith, omega arith, omega arith)

pub sample_of-carrier : (s t r : ℕ) → 1 ≤ s → 0 < t → s ≤ t → carrier_of s t r * s / t ≡ r
sample_of-carrier s t r some any few =
    let u = carrier_of s t r in
    let known = carried s t r some any few in
    let rest : ℕ = u * s - r * t in
    let form : u * s ≡ r * t + rest = omega (arith, known.0) in
    ap (λ n. n / t) form ∙ div-mul-add r t rest (omega (arith, known.1))

carries : (s t r : ℕ) → 1 ≤ s → 0 < t → s ≤ t → t ≤ carrier_of s t r * s % t + s
carries s t r some any few =
    let u = carrier_of s t r in
    let known = carried s t r some any few in
    let rest : ℕ = u * s - r * t in
    let form : u * s ≡ r * t + rest = omega (arith, known.0) in
    let left : u * s % t ≡ rest = ap (λ n. n % t) form ∙ mod-mul-add r t rest (omega (arith, known.1)) in
    omega (arith, known.2)

-- ---- the test of a container, and the list of those that carry samples

All-range : (P : ℕ → Type 0) (n : ℕ) → ((i : ℕ) → i < n → P i) → All P (range_with_len 0 n)
All-range P n each k d h =
    let within : k < n = omega (arith, h, length-range_with_len 0 n) in
    subst P (sym (get_or-range_with_len 0 n k d within ∙ zero-add k)) (each k within)

-- how many containers a block has
abbrev pub block_containers : ℕ → ℕ → ℕ
block_containers s k = frame_containers s k * k

pub some_containers : (s k : ℕ) → 1 ≤ s → 1 ≤ k → s ≤ block_containers s k
some_containers s k samples frames = div_ceil-enough s k frames

stuffing_sum : (s k : ℕ) → 1 ≤ k → s + stuffing_containers s k ≡ block_containers s k
stuffing_sum s k frames = let enough = div_ceil-enough s k frames in omega arith

pub is_stuffing-true : (u s k : ℕ) → 1 ≤ k → u < block_containers s k → u * s % block_containers s k + s < block_containers s k → is_stuffing u s k ≡ true
is_stuffing-true u s k frames within none =
    let t = block_containers s k in
    let v = stuffing_containers s k in
    let found = stuffing_number s t v u (stuffing_sum s k frames) within none in
    let i = found.0 in
    let p : ℕ → Bool = λ j. eqb (j * k * frame_containers s k / v) u in
    let product : i * k * frame_containers s k ≡ i * t = omega arith in
    let place : i * k * frame_containers s k / v ≡ u = ap (λ n. n / v) product ∙ found.2 in
    list_any_at p (range_with_len 0 v) i 0 (omega (arith, length-range_with_len 0 v, found.1))
    (ap p (get_or-range_with_len 0 v i 0 found.1 ∙ zero-add i) ∙ eq-eqb (i * k * frame_containers s k / v) u place)

pub is_stuffing-false : (u s k : ℕ) → 1 ≤ k → block_containers s k ≤ u * s % block_containers s k + s → is_stuffing u s k ≡ false
is_stuffing-false u s k frames more =
    let t = block_containers s k in
    let v = stuffing_containers s k in
    let p : ℕ → Bool = λ j. eqb (j * k * frame_containers s k / v) u in
    let none : (i : ℕ) → i < v → p i ≡ false =
    λ i h. false_from_ne_true (p i) (λ e.
    let product : i * t ≡ i * k * frame_containers s k = omega arith in
    let place : i * t / v ≡ u = ap (λ n. n / v) product ∙ eqb-true (i * k * frame_containers s k / v) u e in
    let below = not_carried s t v u i (stuffing_sum s k frames) (omega arith) place in
    omega arith) in
    list_any_none p (range_with_len 0 v) (All-range (λ i. p i ≡ false) v none)

-- a container past the block's last is none
pub is_stuffing-past : (u s k : ℕ) → 1 ≤ k → block_containers s k ≤ u → is_stuffing u s k ≡ false
is_stuffing-past u s k frames past =
    let t = block_containers s k in
    let v = stuffing_containers s k in
    let p : ℕ → Bool = λ j. eqb (j * k * frame_containers s k / v) u in
    let none : (i : ℕ) → i < v → p i ≡ false =
    λ i h. false_from_ne_true (p i) (λ e.
    let product : i * k * frame_containers s k ≡ i * t = omega arith in
    let place = ap (λ n. n * v) (eqb-true (i * k * frame_containers s k / v) u e) in
    let low : u * v ≤ i * t = omega arith in
    let least : t * v ≤ u * v = mul-le t v u v past (omega arith) in
    let less : i * t < v * t = omega (arith, mul-le (i + 1) t v t (omega arith) (omega arith)) in
    omega arith) in
    list_any_none p (range_with_len 0 v) (All-range (λ i. p i ≡ false) v none)

-- the first n containers
carry_samples : (s k n : ℕ) → 1 ≤ s → 1 ≤ k → n ≤ block_containers s k
    → filter (λ u. not (is_stuffing u s k)) (map (λ (u : ℕ). u) (range_with_len 0 n)) ≡ map (carrier_of s (block_containers s k)) (range_with_len 0 (n * s / block_containers s k))
carry_samples s k zero samples frames within =
    let t = block_containers s k in
    let none : 0 * s / t ≡ 0 = omega arith in
    ap (λ c. map (carrier_of s t) (range_with_len 0 c)) (sym none)
carry_samples s k (suc n) samples frames within =
    let t = block_containers s k in
    let f = carrier_of s t in
    let p : ℕ → Bool = λ u. not (is_stuffing u s k) in
    let few = some_containers s k samples frames in
    let before = carry_samples s k n samples frames (omega arith) in
    let more = filter_of_map_range_with_len_more p (λ (u : ℕ). u) 0 n n (zero-add n) in
    let q : ℕ = n * s / t in
    let P : ℕ → Type 0 = λ c. filter p (map (λ (u : ℕ). u) (range_with_len 0 c)) ≡ map f (range_with_len 0 (c * s / t)) in
    let e : n + 1 ≡ suc n = omega arith in
    subst P e (more ∙ ap (λ xs. xs ++ cond (p n) (n ∷ []) []) before
    ∙ ⊎_elim
    (λ none.
    let last = is_stuffing-true n s k frames (omega arith) none in
    ap (λ b. map f (range_with_len 0 q) ++ cond (not b) (n ∷ []) []) last
    ∙ append-nil (map f (range_with_len 0 q))
    ∙ ap (λ c. map f (range_with_len 0 c)) (sym (count_stays s t n (omega arith) none)))
    (λ one.
    let last = is_stuffing-false n s k frames one in
    let here = carrier_of-next s t n samples (omega arith) one in
    ap (λ b. map f (range_with_len 0 q) ++ cond (not b) (n ∷ []) []) last
    ∙ ap (λ u. map f (range_with_len 0 q) ++ u ∷ []) (sym here)
    ∙ sym (map-range_with_len_more f 0 q q (zero-add q))
    ∙ ap (λ c. map f (range_with_len 0 c)) (sym (count_rises s t n (omega arith) few one)))
    (cases_lt (n * s % t + s) t))

-- the container of each sample
pub sample_containers-at : (s k r : ℕ) → 1 ≤ s → 1 ≤ k → r < s → get_or (sample_containers s k) r 0 ≡ carrier_of s (block_containers s k) r
sample_containers-at s k r samples frames within =
    let t = block_containers s k in
    let f = carrier_of s t in
    let few = some_containers s k samples frames in
    let p : ℕ → Bool = λ u. not (is_stuffing u s k) in
    let all : t * s / t ≡ s = ap (λ n. n / t) (let e : t * s ≡ s * t + 0 = omega arith in e) ∙ div-mul-add s t 0 (omega arith) in
    let whole : sample_containers s k ≡ map f (range_with_len 0 s) =
    ap (filter p) (sym (map-id (range_with_len 0 t))) ∙ carry_samples s k t samples frames (omega arith) ∙ ap (λ c. map f (range_with_len 0 c)) all in
    ap (λ xs. get_or xs r 0) whole ∙ get_or-map-range_with_len f 0 s r r 0 within (zero-add r)

-- ---- containers in turn: so many times s by t is the sample, and what is left the part of the next one that is due

sample_of-parts : (s t u sample due : ℕ) → u * s ≡ sample * t + due → due < t → u * s / t ≡ sample
sample_of-parts s t u sample due share part = ap (λ n. n / t) share ∙ div-mul-add sample t due part

due_of-parts : (s t u sample due : ℕ) → u * s ≡ sample * t + due → due < t → u * s % t ≡ due
due_of-parts s t u sample due share part = ap (λ n. n % t) share ∙ mod-mul-add sample t due part

-- a sample that a container of the block carries is a sample of the block
pub sample-within : (s t u sample due : ℕ) → u < t → u * s ≡ sample * t + due → t ≤ due + s → sample < s
sample-within s t u sample due within share more =
    let most = mul-le (u + 1) s t s (omega arith) (omega arith) in
    lt-cancel sample s t (omega arith)

-- what the container holds
pub bit_of_container-parts : (s k : ℕ) (bits : ℕ → ℕ → ℕ) (u b sample due : ℕ) → 1 ≤ k → u < block_containers s k → u * s ≡ sample * block_containers s k + due → due < block_containers s k
    → cond (leb (block_containers s k) (due + s)) (bits sample b) 0 ≡ bit_of_container s k bits u b
bit_of_container-parts s k bits u b sample due frames within share part =
    let t = block_containers s k in
    let left = due_of-parts s t u sample due share part in
    let here = sample_of-parts s t u sample due share part in
    ⊎_elim
    (λ none.
    ap (λ v. cond v (bits sample b) 0) (lt-leb t (due + s) none)
    ∙ sym (ap (λ v. cond v 0 (bits (u * s / t) b)) (is_stuffing-true u s k frames within (omega (arith, left)))))
    (λ more.
    ap (λ v. cond v (bits sample b) 0) (le-leb t (due + s) more)
    ∙ ap (λ n. bits n b) (sym here)
    ∙ sym (ap (λ v. cond v 0 (bits (u * s / t) b)) (is_stuffing-false u s k frames (omega (arith, left)))))
    (cases_lt (due + s) t)

-- the container of a sample from where the samples up to it are due
pub carrier_of-share : (s t r u spare : ℕ) → 1 ≤ s → (u + 1) * s ≡ (r + 1) * t + spare → spare < s → carrier_of s t r ≡ u
carrier_of-share s t r u spare some share part =
    let up = div_ceil-between ((r + 1) * t) s u some (omega arith) (omega arith) in
    omega arith

-- a container that carries no sample is stuffing
pub carried-or_stuffing : (s k u : ℕ) → 1 ≤ s → 1 ≤ k → u < block_containers s k
    → (is_stuffing u s k ≡ true) ⊎ ((is_stuffing u s k ≡ false) × (u * s / block_containers s k < s) × (carrier_of s (block_containers s k) (u * s / block_containers s k) ≡ u))
carried-or_stuffing s k u samples frames within =
    let t = block_containers s k in
    let form : u * s ≡ u * s / t * t + u * s % t = omega arith in
    ⊎_elim
    (λ none. inl (is_stuffing-true u s k frames within none))
    (λ more. inr (is_stuffing-false u s k frames more, sample-within s t u (u * s / t) (u * s % t) within form more, carrier_of-next s t u samples (omega arith) more))
    (cases_lt (u * s % t + s) t)

pub is_stuffing-carrier : (s k r : ℕ) → 1 ≤ s → 1 ≤ k → is_stuffing (carrier_of s (block_containers s k) r) s k ≡ false
is_stuffing-carrier s k r samples frames =
    let few = some_containers s k samples frames in
    is_stuffing-false (carrier_of s (block_containers s k) r) s k frames (carries s (block_containers s k) r samples (omega arith) few)

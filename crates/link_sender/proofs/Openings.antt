-- The packet whose window opens at a tick.
use Rattle.std.proofs.Common.{◌≡◌, ℕ, ◌+◌, ◌-◌, ◌*◌, ◌/◌, ◌%◌, ◌≤◌, ap, ◌∙◌, arith}
use Rattle.std.proofs.lemmas.Nat.{div-add-mod', mod-mul-add, mul-le}
use Rattle.link_base.specs.Window.{last_frame}

-- so many whole packets of frames were made, at the tick that is lmin behind
pub opens : (frames lmin tick : ℕ) → 1 ≤ frames → lmin ≤ tick → frames ≤ tick - lmin → (tick - lmin) % frames ≡ 0
    → last_frame frames ((tick - lmin) / frames - 1) + lmin + 1 ≡ tick
opens frames lmin tick some late enough whole =
    let q : ℕ = (tick - lmin) / frames in
    let split = div-add-mod' (tick - lmin) frames in
    let none : q ≡ 0 → ⊥ = λ e. (let product : q * frames ≡ 0 * frames = ap (λ n. n * frames) e in omega (arith, split, product)) in
    let one : q - 1 + 1 ≡ q = omega (arith, none) in
    let product : (q - 1 + 1) * frames ≡ q * frames = ap (λ n. n * frames) one in
    omega (arith, split, product)

-- a window that opens then is that of a packet whose frames are whole
pub opened : (frames lmin tick i : ℕ) → 1 ≤ frames → last_frame frames i + lmin + 1 ≡ tick → (lmin ≤ tick) × (frames ≤ tick - lmin) × ((tick - lmin) % frames ≡ 0)
opened frames lmin tick i some is =
    let least = mul-le 1 frames (i + 1) frames (omega arith) (omega arith) in
    let whole : tick - lmin ≡ (i + 1) * frames + 0 = omega (arith, least) in
    (omega arith, omega (arith, least), ap (λ n. n % frames) whole ∙ mod-mul-add (i + 1) frames 0 (omega arith))

-- and no other packet's
pub opened_once : (frames lmin tick i j : ℕ) → 1 ≤ frames → last_frame frames i + lmin + 1 ≡ tick → last_frame frames j + lmin + 1 ≡ tick → (i + 1) * frames ≡ (j + 1) * frames
opened_once frames lmin tick i j some first second =
    let one = mul-le 1 frames (i + 1) frames (omega arith) (omega arith) in
    let other = mul-le 1 frames (j + 1) frames (omega arith) (omega arith) in
    omega (arith, one, other)

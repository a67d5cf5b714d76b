-- The places of the bits of a block, over plain numbers.
use Rattle.std.proofs.Common.{◌≡◌, ℕ, ◌+◌, ◌*◌, ◌/◌, ◌%◌, ◌<◌, ◌≤◌, List, length, cond, sym, ap, ◌∙◌, arith, ⊎_elim}
use Rattle.std.specs.Int.{div_ceil}
use Rattle.std.proofs.lemmas.Nat.{mul-le, div_below, div-mul-add, mod-mul-add}
use Rattle.link_base.specs.Bits.{bit_of}
use Rattle.sample_bits.specs.BlockPlace.{bit_in_block}
use Rattle.sample_bits.specs.Blocks.{IsSpan, IsStuffed, PutsContainer}
use Rattle.sample_bits.specs.SampleRate.{IsSampleRate}
use Rattle.sample_bits.proofs.RateLemmas.{some_frames, div_ceil-enough, div_ceil-least, div_ceil-le, lt-div_ceil}
use Rattle.axc_compatible_map.specs.Container.{bit_of_container, frame_containers, prescribed_size}
use Rattle.axc_compatible_map.specs.Place.{place_in_block}
use Rattle.axc_compatible_map.specs.Laws.{PlacesAreWithin, PlacesAreDistinct, PlacesAreInTime}
use Rattle.axc_compatible_map.proofs.Stuffing.{block_containers, carrier_of, carrier_of-below, carrier_of-share, carrier_of-some, sample_of-carrier, some_containers, sample_containers-at, carried-or_stuffing, is_stuffing-carrier, is_stuffing-false}

-- ---- numbers of containers

pub some_in_frame : (s k : ℕ) → 1 ≤ s → 1 ≤ k → 1 ≤ frame_containers s k
some_in_frame s k samples frames = lt-div_ceil s k 0 frames (omega arith)

pub few_in_frame : (s k : ℕ) → IsSampleRate s k → frame_containers s k ≤ 32
few_in_frame s k rate = div_ceil-le s k 32 (some_frames s k rate) rate.slow

pub few_in_block : (s k : ℕ) → IsSampleRate s k → block_containers s k ≤ 3_072
few_in_block s k rate =
    let most = mul-le (frame_containers s k) k 32 96 (few_in_frame s k rate) rate.short in
    omega arith

-- ---- the place of a bit, by the container of its sample

abbrev container_at : (s k r : ℕ) → ℕ
container_at s k r = carrier_of s (block_containers s k) r

place-phase : (m s k r b : ℕ) → 1 ≤ s → 1 ≤ k → r < s → (place_in_block m s k r b).phase ≡ container_at s k r / frame_containers s k
unfolding place_in_block
place-phase m s k r b samples frames within = ap (λ u. u / frame_containers s k) (sample_containers-at s k r samples frames within)

place-bit : (m s k r b : ℕ) → 1 ≤ s → 1 ≤ k → r < s → (place_in_block m s k r b).bit ≡ container_at s k r % frame_containers s k * (2 * m) + b
unfolding place_in_block
place-bit m s k r b samples frames within = ap (λ u. u % frame_containers s k * (2 * m) + b) (sample_containers-at s k r samples frames within)

pub container-below : (s k r : ℕ) → 1 ≤ s → 1 ≤ k → r < s → container_at s k r < block_containers s k
container-below s k r samples frames within =
    let few = some_containers s k samples frames in
    carrier_of-below s (block_containers s k) r samples (omega arith) within

sample_of-container : (s k r : ℕ) → 1 ≤ s → 1 ≤ k → container_at s k r * s / block_containers s k ≡ r
sample_of-container s k r samples frames =
    let few = some_containers s k samples frames in
    sample_of-carrier s (block_containers s k) r samples (omega arith) few

-- ---- a block of one frame, each of whose containers carries a sample

pub containers_of_one : (s k : ℕ) → k ≡ 1 → frame_containers s k ≡ s
containers_of_one s k one =
    let enough = div_ceil-enough s k (omega arith) in
    let least = div_ceil-least s k (omega arith) in
    let scaled = ap (λ n. frame_containers s k * n) one in
    omega arith

block_of_one : (s k : ℕ) → k ≡ 1 → block_containers s k ≡ s
block_of_one s k one =
    let count = containers_of_one s k one in
    let scaled = ap (λ n. frame_containers s k * n) one in
    omega arith

pub container_of_one : (s k r : ℕ) → 1 ≤ s → k ≡ 1 → container_at s k r ≡ r
container_of_one s k r samples one =
    let scaled = ap (λ n. (r + 1) * n) (block_of_one s k one) in
    carrier_of-share s (block_containers s k) r r 0 samples (omega arith) (omega arith)

pub bit_of_container-one : (s k : ℕ) (bits : ℕ → ℕ → ℕ) (phase j b : ℕ) → 1 ≤ s → k ≡ 1 → phase < k → bit_of_container s k bits (phase * frame_containers s k + j) b ≡ bits j b
bit_of_container-one s k bits phase j b samples one frame =
    let n = frame_containers s k in
    let t = block_containers s k in
    let u : ℕ = phase * n + j in
    let nothing : phase ≡ 0 = omega arith in
    let none_before = ap (λ p. p * n) nothing in
    let here : u ≡ j = omega arith in
    let all = block_of_one s k one in
    let product : u * s ≡ j * s + 0 = ap (λ v. v * s) here ∙ omega arith in
    let quotient : u * s / t ≡ j = ap (λ d. u * s / d) all ∙ ap (λ v. v / s) product ∙ div-mul-add j s 0 samples in
    ap (λ v. cond v 0 (bits (u * s / t) b)) (is_stuffing-false u s k (omega arith) (omega arith)) ∙ ap (λ v. bits v b) quotient

whole_place : (w n u : ℕ) → 0 < n → u / n * (w * n) + u % n * w ≡ w * u
whole_place w n u some =
    let e : n * (u / n) + u % n ≡ u = omega arith in
    let product = ap (λ v. w * v) e in
    omega arith

pub bit_in_block-place : (m s k r b : ℕ) → 1 ≤ s → 1 ≤ k → r < s → bit_in_block (prescribed_size m s k) (place_in_block m s k r b) ≡ 2 * m * container_at s k r + b
bit_in_block-place m s k r b samples frames within =
    let n = frame_containers s k in
    let some = some_in_frame s k samples frames in
    let u = container_at s k r in
    let phases = ap (λ p. p * (2 * m * n)) (place-phase m s k r b samples frames within) in
    let bits = place-bit m s k r b samples frames within in
    let whole = whole_place (2 * m) n u some in
    omega (arith, phases, bits, whole)

pub PlacesAreWithin-holds : PlacesAreWithin
PlacesAreWithin-holds m s k r b width rate within small =
    let frames = some_frames s k rate in
    let n = frame_containers s k in
    let some = some_in_frame s k (omega arith) frames in
    let u = container_at s k r in
    let below : u < k * n = omega (arith, container-below s k r (omega arith) frames within) in
    let phase = place-phase m s k r b (omega arith) frames within in
    let bit = place-bit m s k r b (omega arith) frames within in
    let inside = mul-le (u % n + 1) (2 * m) n (2 * m) (omega arith) (omega arith) in
    let early = div_below u n k some below in
    (omega arith, omega arith)

same_bit : (w j b other c : ℕ) → b < w → c < w → j * w + b ≡ other * w + c → (j ≡ other) × (b ≡ c)
same_bit w j b other c small also same =
    let numbers : j ≡ other = sym (div-mul-add j w b small) ∙ ap (λ n. n / w) same ∙ div-mul-add other w c also in
    let products = ap (λ n. n * w) numbers in
    (numbers, omega arith)

pub PlacesAreDistinct-holds : PlacesAreDistinct
PlacesAreDistinct-holds m s k r b other c width rate within small also_within also_small phases bits =
    let frames = some_frames s k rate in
    let n = frame_containers s k in
    let t = block_containers s k in
    let some = some_in_frame s k (omega arith) frames in
    let u = container_at s k r in
    let v = container_at s k other in
    let bits_alike = same_bit (2 * m) (u % n) b (v % n) c small also_small (sym (place-bit m s k r b (omega arith) frames within) ∙ bits ∙ place-bit m s k other c (omega arith) frames also_within) in
    let frames_alike = ap (λ p. p * n) (sym (place-phase m s k r b (omega arith) frames within) ∙ phases ∙ place-phase m s k other c (omega arith) frames also_within) in
    let containers_alike : u ≡ v = omega (arith, bits_alike.0) in
    (sym (sample_of-container s k r (omega arith) frames) ∙ ap (λ w. w * s / t) containers_alike ∙ sample_of-container s k other (omega arith) frames, bits_alike.1)

pub PlacesAreInTime-holds : PlacesAreInTime
PlacesAreInTime-holds m s k r b width rate within small =
    let frames = some_frames s k rate in
    let n = frame_containers s k in
    let some = some_in_frame s k (omega arith) frames in
    let u = container_at s k r in
    let last = div_ceil ((r + 1) * k) s in
    let enough = div_ceil-enough ((r + 1) * k) s (omega arith) in
    let scaled = mul-le ((r + 1) * k) n (last * s) n enough (omega arith) in
    let few = some_containers s k (omega arith) frames in
    let up = carrier_of-some s (block_containers s k) r (omega arith) (omega arith) in
    let most = div_ceil-le ((r + 1) * (n * k)) s (last * n) (omega arith) (omega arith) in
    let before = div_below u n last some (omega arith) in
    let phase = place-phase m s k r b (omega arith) frames within in
    omega arith

-- ---- the frame that a sample stands in

pub IsSpan-place : (m s k r u : ℕ) → 1 ≤ m → 1 ≤ s → 1 ≤ k → r < s → u ≡ carrier_of s (block_containers s k) r → IsSpan m (place_in_block m s k r) (u / frame_containers s k) (u / frame_containers s k)
IsSpan-place m s k r u width samples frames within here =
    let there : (b : ℕ) → (place_in_block m s k r b).phase ≡ u / frame_containers s k =
    λ b. place-phase m s k r b samples frames within ∙ ap (λ v. v / frame_containers s k) (sym here) in
    record {
      from_first = λ b h. let e = there b in omega arith;
      to_last = λ b h. let e = there b in omega arith;
      first_holds = (0, omega arith, there 0);
      last_holds = (0, omega arith, there 0);
    }

-- ---- containers one after another

-- the container at a place of a frame
frame_container : (n phase j : ℕ) → j < n → ((phase * n + j) / n ≡ phase) × ((phase * n + j) % n ≡ j)
frame_container n phase j within = (div-mul-add phase n j within, mod-mul-add phase n j within)

container_from_phase : (s k r phase : ℕ) → 1 ≤ frame_containers s k → container_at s k r / frame_containers s k ≡ phase → phase * frame_containers s k + container_at s k r % frame_containers s k ≡ container_at s k r
container_from_phase s k r phase some there =
    let n = frame_containers s k in
    let u = container_at s k r in
    let whole : u / n * n + u % n ≡ u = omega arith in
    ap (λ p. p * n + u % n) (sym there) ∙ whole

module _ (m s k phase : ℕ) (bits : ℕ → ℕ → ℕ) (sub : List ℕ) (low : ℕ) (width : 1 ≤ m) (samples : 1 ≤ s) (frames : 1 ≤ k) (frame : phase < k)
    (put : (j b : ℕ) → j < frame_containers s k → b < 2 * m → bit_of sub (low + j * (2 * m) + b) ≡ bit_of_container s k bits (phase * frame_containers s k + j) b) where
  containers-samples : (r b : ℕ) → r < s → b < 2 * m → (place_in_block m s k r b).phase ≡ phase → bit_of sub (low + (place_in_block m s k r b).bit) ≡ bits r b
  containers-samples r b within small there =
      let n = frame_containers s k in
      let t = block_containers s k in
      let some = some_in_frame s k samples frames in
      let u = container_at s k r in
      let bit = place-bit m s k r b samples frames within in
      let at_phase = sym (place-phase m s k r b samples frames within) ∙ there in
      let same = container_from_phase s k r phase some at_phase in
      let place : low + (place_in_block m s k r b).bit ≡ low + u % n * (2 * m) + b = omega (arith, bit) in
      ap (bit_of sub) place
      ∙ put (u % n) b (omega arith) small
      ∙ ap (λ v. bit_of_container s k bits v b) same
      ∙ ap (λ v. cond v 0 (bits (u * s / t) b)) (is_stuffing-carrier s k r samples frames)
      ∙ ap (λ v. bits v b) (sample_of-container s k r samples frames)

  containers-stuffing : (x : ℕ) → x < prescribed_size m s k → IsStuffed m s (place_in_block m s k) phase x → bit_of sub (low + x) ≡ 0
  containers-stuffing x h none =
      let n = frame_containers s k in
      let t = block_containers s k in
      let w : ℕ = 2 * m in
      let j : ℕ = x / w in
      let b : ℕ = x % w in
      let whole : j * w + b ≡ x = omega arith in
      let within : j < n = div_below x w n (omega arith) (omega arith) in
      let u : ℕ = phase * n + j in
      let most = mul-le (phase + 1) n k n (omega arith) (omega arith) in
      let below : u < t = omega arith in
      let place : low + x ≡ low + j * w + b = omega arith in
      let at_frame = frame_container n phase j within in
      ap (bit_of sub) place
      ∙ put j b within (omega arith)
      ∙ ⊎_elim
      (λ stuffed. ap (λ v. cond v 0 (bits (u * s / t) b)) stuffed)
      (λ (carried, known, here).
      let r : ℕ = u * s / t in
      absurd (none r b known (omega arith)
      (place-phase m s k r b samples frames known ∙ ap (λ v. v / n) here ∙ at_frame.0)
      (place-bit m s k r b samples frames known ∙ ap (λ v. v % n * w + b) here ∙ ap (λ v. v * w + b) at_frame.1 ∙ whole)))
      (carried-or_stuffing s k u samples frames below)

pub PutsContainer-containers : (m s k phase : ℕ) (bits : ℕ → ℕ → ℕ) (old sub : List ℕ) (low : ℕ) → 1 ≤ m → 1 ≤ s → 1 ≤ k → phase < k → length sub ≡ length old
    → ((j b : ℕ) → j < frame_containers s k → b < 2 * m → bit_of sub (low + j * (2 * m) + b) ≡ bit_of_container s k bits (phase * frame_containers s k + j) b)
    → ((x : ℕ) → x < low → bit_of sub x ≡ bit_of old x) → ((x : ℕ) → low + prescribed_size m s k ≤ x → bit_of sub x ≡ bit_of old x)
    → PutsContainer m s (prescribed_size m s k) (place_in_block m s k) phase bits old sub low
PutsContainer-containers m s k phase bits old sub low width samples frames frame same put before after = record {
  same_length = same;
  samples = containers-samples m s k phase bits sub low width samples frames frame put;
  stuffing = containers-stuffing m s k phase bits sub low width samples frames frame put;
  before = before;
  after = after;
}

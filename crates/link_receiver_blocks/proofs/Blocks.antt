-- The samples of a block that stand in its first containers.
use Rattle.std.proofs.Common.{◌≡◌, ℕ, ◌+◌, ◌*◌, ◌<◌, ◌≤◌, List, length, map, get_or, ap, ◌∙◌, arith}
use Rattle.std.specs.Int.{div_ceil}
use Rattle.std.specs.List.{range_with_len}
use Rattle.std.proofs.lemmas.List.FromFn.{get_or-map-range_with_len, length-map-range_with_len}
use Rattle.std.proofs.lemmas.Nat.{mul-le, div_below, le-div}
use Rattle.carrier_plan.specs.declared.plan.Method.{Method}
use Rattle.carrier_plan.specs.declared.plan.Method.TheVariants.{Sample, Compatible}
use Rattle.plan_checker.specs.Container.{size_by}
use Rattle.plan_checker.specs.Place.{place_in_block}
use Rattle.sample_bits.specs.SampleRate.{IsSampleRate, IsSampleWidth}
use Rattle.sample_bits.proofs.RateLemmas.{some_frames, div_ceil-le}
use Rattle.axc_sample_map.proofs.Places as sample_map
use Rattle.axc_compatible_map.proofs.Places as compatible_map
use Rattle.link_receiver_blocks.specs.declared.mapping.Mapping.{Mapping}
use Rattle.link_receiver_blocks.specs.Containers.{container_bits, place_of_bit, samples_left}

-- ---- by either method

within_by : (method : Method) (m s k r b : ℕ) → IsSampleWidth m → IsSampleRate s k → r < s → b < 2 * m
    → ((place_in_block method m s k r b).phase < k) × ((place_in_block method m s k r b).bit < size_by method m s k)
within_by Sample m s k r b = sample_map.PlacesAreWithin-holds m s k r b
within_by Compatible m s k r b = compatible_map.PlacesAreWithin-holds m s k r b

in_time_by : (method : Method) (m s k r b : ℕ) → IsSampleWidth m → IsSampleRate s k → r < s → b < 2 * m
    → (place_in_block method m s k r b).phase + 1 ≤ div_ceil ((r + 1) * k) s
in_time_by Sample m s k r b = sample_map.PlacesAreInTime-holds m s k r b
in_time_by Compatible m s k r b = compatible_map.PlacesAreInTime-holds m s k r b

few_bits_by : (method : Method) (m s k : ℕ) → IsSampleWidth m → IsSampleRate s k → size_by method m s k ≤ 1_280
few_bits_by Sample m s k width rate =
    let product = mul-le m s 20 (32 * k) width.1 rate.slow in
    let few = div_ceil-le (m * s) k 640 (some_frames s k rate) (omega arith) in
    omega arith
few_bits_by Compatible m s k width rate =
    let product = mul-le (2 * m) (div_ceil s k) 40 32 (omega arith) (div_ceil-le s k 32 (some_frames s k rate) rate.slow) in
    omega arith

-- ---- of a mapping

pub few_bits : (w : Mapping) → IsSampleWidth w.m → IsSampleRate w.s w.k → container_bits w ≤ 1_280
few_bits w width rate = few_bits_by w.method w.m w.s w.k width rate

-- no more samples leave than a block has
pub left_below : (w : Mapping) (n : ℕ) → 1 ≤ w.k → n ≤ w.k → samples_left w n ≤ w.s
left_below w n some within =
    let product = mul-le n w.s w.k w.s within (omega arith) in
    let below = div_below (n * w.s) w.k (w.s + 1) some (omega arith) in
    omega arith

-- a bit of a sample that leaves with the first n containers stands in one of these
pub in_time : (w : Mapping) (n r b : ℕ) → IsSampleWidth w.m → IsSampleRate w.s w.k → n ≤ w.k → r < samples_left w n → b < 2 * w.m → (place_of_bit w r b).phase < n
in_time w n r b width rate within early small =
    let some = some_frames w.s w.k rate in
    let all = left_below w n some within in
    let product = mul-le (r + 1) w.k (samples_left w n) w.k (omega arith) (omega arith) in
    let last = div_ceil-le ((r + 1) * w.k) w.s n rate.some_samples (omega arith) in
    let time = in_time_by w.method w.m w.s w.k r b width rate (omega arith) small in
    omega arith

pub frame_within : (w : Mapping) (r b : ℕ) → IsSampleWidth w.m → IsSampleRate w.s w.k → r < w.s → b < 2 * w.m → (place_of_bit w r b).phase < w.k
frame_within w r b width rate within small = (within_by w.method w.m w.s w.k r b width rate within small).0

pub inside : (w : Mapping) (r b : ℕ) → IsSampleWidth w.m → IsSampleRate w.s w.k → r < w.s → b < 2 * w.m → (place_of_bit w r b).bit < container_bits w
inside w r b width rate within small = (within_by w.method w.m w.s w.k r b width rate within small).1

-- the samples that leave with one more container are no more than 32
pub few_more : (w : Mapping) (n : ℕ) → IsSampleRate w.s w.k → (samples_left w n ≤ samples_left w (n + 1)) × (samples_left w (n + 1) ≤ samples_left w n + 32)
few_more w n rate =
    let some = some_frames w.s w.k rate in
    let slow = rate.slow in
    let below = div_below ((n + 1) * w.s) w.k (samples_left w n + 33) some (omega arith) in
    (le-div (samples_left w n) ((n + 1) * w.s) w.k some (omega arith), omega arith)

-- ---- the table of how many samples leave

pub table_length : (w : Mapping) (left : List ℕ) → left ≡ map (samples_left w) (range_with_len 0 (w.k + 1)) → length left ≡ w.k + 1
table_length w left is = ap length is ∙ length-map-range_with_len (samples_left w) 0 (w.k + 1)

pub table_at : (w : Mapping) (left : List ℕ) (n x : ℕ) → left ≡ map (samples_left w) (range_with_len 0 (w.k + 1)) → n ≤ w.k → x ≡ get_or left n x → x ≡ samples_left w n
table_at w left n x is within read =
    read ∙ ap (λ l. get_or l n x) is ∙ get_or-map-range_with_len (samples_left w) 0 (w.k + 1) n n x (omega arith) (omega arith)

-- the samples that leave with one more container, by the table
pub record LeaveBetween (w : Mapping) (n first end : ℕ) : Type 0 where
  pub first_is : first ≡ samples_left w n
  pub end_is : end ≡ samples_left w (n + 1)
  pub order : first ≤ end
  pub few : end ≤ first + 32

pub leave_between : (w : Mapping) (left : List ℕ) (n first end : ℕ) → IsSampleRate w.s w.k → left ≡ map (samples_left w) (range_with_len 0 (w.k + 1)) → n < w.k
    → first ≡ get_or left n first → end ≡ get_or left (n + 1) end → LeaveBetween w n first end
leave_between w left n first end rate is within read_first read_end =
    let first_is = table_at w left n first is (omega arith) read_first in
    let end_is = table_at w left (n + 1) end is (omega arith) read_end in
    let more = few_more w n rate in
    record { first_is = first_is; end_is = end_is; order = omega arith; few = omega arith }

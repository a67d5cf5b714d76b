use Rattle.std.proofs.Common.{◌≡◌, ℕ, ◌+◌, ◌-◌, ◌*◌, ◌/◌, ◌%◌, ◌<◌, ◌∙◌, length, take, drop, ap, sym, arith}
use Rattle.std.proofs.lemmas.Nat.{div_below}
use Rattle.link_base.specs.Bits.{bit_of}
use Rattle.sample_bits.specs.Blocks.{bit_of_item}
use Rattle.sample_bits.proofs.BlockLemmas.{bit_of_item-past, PutsContainer-rest}
use Rattle.sample_bits.proofs.RateLemmas.{some_frames}
use Rattle.axc_sample_map.specs.Container.{bit_in_run, prescribed_size}
use Rattle.axc_sample_map.specs.Place.{place_in_block}
use Rattle.axc_sample_map.proofs.Places.{PlacesAreWithin-holds, PutsContainer-run, bit_in_run-at, size_of_one, some_bits}
use Rattle.axc_sample_map.proofs.packing.pack.Goals as goal

pub returns-then-k-eq1 : goal.returns-then-k-eq1
returns-then-k-eq1 g c =
    let m = c.args.m in
    let s = c.args.s in
    let k = c.args.k in
    let at = c.args.at in
    let size = prescribed_size m s k in
    let new = c.write_run.new.octets in
    let block = c.args.block.now in
    let bits = bit_of_item g.T.SampleWord.sample block in
    let some = some_bits m s k (omega arith) (omega arith) (some_frames s k c.requires.rate) in
    let whole = size_of_one m s k c.if-k-eq1.true in
    let all = ap (λ n. 2 * m * n) c.requires.whole in
    let nothing : c.args.phase ≡ 0 = omega arith in
    let none_before = ap (λ n. n * size) nothing in
    let inside : (r b : ℕ) → r < s → b < 2 * m → (place_in_block m s k r b).bit < size = λ r b within small. (PlacesAreWithin-holds m s k r b c.requires.width c.requires.rate within small).1 in
    let put : (x : ℕ) → x < size → bit_of new (at + x) ≡ bit_in_run (2 * m) bits (c.args.phase * size + x) =
    λ x h.
    let r : ℕ = x / (2 * m) in
    let b : ℕ = x % (2 * m) in
    let parts : 2 * m * r + b ≡ x = omega arith in
    let within : r < s = div_below x (2 * m) s (omega arith) (omega arith) in
    let here : at + x ≡ at + 2 * m * r + b = omega arith in
    ap (bit_of new) here ∙ c.write_run.ensures.put r b (omega arith) (omega arith)
    ∙ sym (bit_in_run-at (2 * m) bits r b (c.args.phase * size + x) (omega arith) (omega arith)) in
    PutsContainer-run m s k c.args.phase bits c.args.out.now new at (omega arith) some c.write_run.auto.octets inside
    (λ r b past. bit_of_item-past g.T.SampleWord.sample block r b (omega arith)) put
    c.write_run.ensures.before (λ x h. c.write_run.ensures.after x (omega arith))

pub returns : goal.returns
returns g c =
    let m = c.args.m in
    let s = c.args.s in
    let k = c.args.k in
    let size = prescribed_size m s k in
    let old = c.args.out.now in
    let o : ℕ = c.args.at / 8 in
    let low : ℕ = c.args.at % 8 in
    let rest = take (length old - o) (drop o old) in
    let sub = c.put_run.new.out in
    let block = c.args.block.now in
    let bits = bit_of_item g.T.SampleWord.sample block in
    let some = some_bits m s k (omega arith) (omega arith) (some_frames s k c.requires.rate) in
    let inside : (r b : ℕ) → r < s → b < 2 * m → (place_in_block m s k r b).bit < size = λ r b within small. (PlacesAreWithin-holds m s k r b c.requires.width c.requires.rate within small).1 in
    let same_size = c.size-size.ensures in
    let put : (x : ℕ) → x < size → bit_of sub (low + x) ≡ bit_in_run (2 * m) bits (c.args.phase * size + x) =
    λ x h. c.put_run.ensures.put x (omega arith) ∙ ap (λ n. bit_in_run (2 * m) bits (c.args.phase * n + x)) same_size in
    PutsContainer-rest m s size (place_in_block m s k) c.args.phase bits old sub o low c.args.at (omega arith) (omega arith) c.requires.room c.put_run.auto.out
    (PutsContainer-run m s k c.args.phase bits rest sub low (omega arith) some c.put_run.auto.out inside
    (λ r b past. bit_of_item-past g.T.SampleWord.sample block r b (omega arith)) put
    c.put_run.ensures.before (λ x h. c.put_run.ensures.after x (omega arith)))
    inside

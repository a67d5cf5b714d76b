use Rattle.std.proofs.Common.{◌≡◌, ℕ, ◌+◌, ◌-◌, ◌*◌, ◌/◌, ◌%◌, ◌<◌, ◌∙◌, length, take, drop, ap, sym, arith}
use Rattle.link_base.specs.Bits.{bit_of}
use Rattle.sample_bits.specs.Blocks.{bit_of_item}
use Rattle.sample_bits.proofs.BlockLemmas.{PutsContainer-rest}
use Rattle.sample_bits.proofs.RateLemmas.{some_frames}
use Rattle.axc_compatible_map.specs.Container.{prescribed_size}
use Rattle.axc_compatible_map.specs.Place.{place_in_block}
use Rattle.axc_compatible_map.proofs.Places.{PlacesAreWithin-holds, PutsContainer-containers, bit_of_container-one, containers_of_one}
use Rattle.axc_compatible_map.proofs.packing.pack.Goals as goal

pub returns-then-k-eq1 : goal.returns-then-k-eq1
returns-then-k-eq1 g c =
    let m = c.args.m in
    let s = c.args.s in
    let k = c.args.k in
    let at = c.args.at in
    let new = c.write_run.new.octets in
    let bits = bit_of_item g.T.SampleWord.sample c.args.block.now in
    let count = containers_of_one s k c.if-k-eq1.true in
    let size = ap (λ n. 2 * m * n) count in
    let all = ap (λ n. 2 * m * n) c.requires.whole in
    PutsContainer-containers m s k c.args.phase bits c.args.out.now new at (omega arith) (omega arith) (some_frames s k c.requires.rate) c.requires.frame c.write_run.auto.octets
    (λ j b h small.
    let place : at + j * (2 * m) + b ≡ at + 2 * m * j + b = omega arith in
    ap (bit_of new) place ∙ c.write_run.ensures.put j b (omega arith) small
    ∙ sym (bit_of_container-one s k bits c.args.phase j b (omega arith) c.if-k-eq1.true c.requires.frame))
    c.write_run.ensures.before (λ x h. c.write_run.ensures.after x (omega arith))

pub returns : goal.returns
returns g c =
    let m = c.args.m in
    let s = c.args.s in
    let k = c.args.k in
    let size = prescribed_size m s k in
    let old = c.args.out.now in
    let o : ℕ = c.args.at / 8 in
    let low : ℕ = c.args.at % 8 in
    let rest = take (length old - o) (drop o old) in
    let sub = c.put_containers.new.out in
    let bits = bit_of_item g.T.SampleWord.sample c.args.block.now in
    let inside : (r b : ℕ) → r < s → b < 2 * m → (place_in_block m s k r b).bit < size = λ r b within small. (PlacesAreWithin-holds m s k r b c.requires.width c.requires.rate within small).1 in
    PutsContainer-rest m s size (place_in_block m s k) c.args.phase bits old sub o low c.args.at (omega arith) (omega arith) c.requires.room c.put_containers.auto.out
    (PutsContainer-containers m s k c.args.phase bits rest sub low (omega arith) (omega arith) (some_frames s k c.requires.rate) c.requires.frame c.put_containers.auto.out
    c.put_containers.ensures.put c.put_containers.ensures.before c.put_containers.ensures.after)
    inside

use Rattle.std.proofs.Common.{◌≡◌, ◌+◌, ◌*◌, ◌%◌, ◌∙◌, nat_lt, ap, sym, arith, ⊎_elim}
use Rattle.std.proofs.lemmas.Bool.{cases_lt, lt-ltb, le-ltb}
use Rattle.sample_bits.proofs.RateLemmas.{some_frames}
use Rattle.axc_compatible_map.proofs.Stuffing.{block_containers, is_stuffing-true, is_stuffing-false, is_stuffing-past}
use Rattle.axc_compatible_map.proofs.container.is_stuffing.Goals as goal

pub returns-then-u-all : goal.returns-then-u-all
returns-then-u-all c =
    let u = c.args.u in
    let s = c.args.s in
    let k = c.args.k in
    let t = block_containers s k in
    let frames = some_frames s k c.requires in
    let all : c.containers.result * k ≡ t = ap (λ n. n * k) c.containers.ensures in
    ap (λ n. nat_lt (u * s % n + s) n) all
    ∙ ⊎_elim
    (λ none. lt-ltb (u * s % t + s) t none ∙ sym (is_stuffing-true u s k frames (omega (arith, all)) none))
    (λ more. le-ltb (u * s % t + s) t more ∙ sym (is_stuffing-false u s k frames more))
    (cases_lt (u * s % t + s) t)

pub returns-else-u-all : goal.returns-else-u-all
returns-else-u-all c =
    let u = c.args.u in
    let s = c.args.s in
    let k = c.args.k in
    let t = block_containers s k in
    let all : c.containers.result * k ≡ t = ap (λ n. n * k) c.containers.ensures in
    ap (nat_lt u) all ∙ le-ltb u t (omega (arith, all)) ∙ sym (is_stuffing-past u s k (some_frames s k c.requires) (omega (arith, all)))

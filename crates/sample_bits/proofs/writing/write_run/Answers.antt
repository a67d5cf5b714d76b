use Rattle.std.proofs.Common.{◌≡◌, ℕ, ◌+◌, ◌-◌, ◌*◌, ◌≤◌, ◌∙◌, length, ap, sym, refl, arith}
use Rattle.std.proofs.lemmas.Nat.{mul-le}
use Rattle.link_base.specs.Bits.{bit_of}
use Rattle.sample_bits.specs.Blocks.{bit_of_item}
use Rattle.sample_bits.proofs.FilledLemmas.{IsFilled-same, run_after, run_after-before, run_after-at}
use Rattle.sample_bits.proofs.writing.write_run.Goals as goal
use Rattle.sample_bits.proofs.writing.write_run.Goals.{then-m-le15, else-m-le15}

pub returns-clause-put : goal.returns-clause-put
returns-clause-put g c r b h small =
    let m = c.args.m in
    let at = c.args.at in
    let old = c.args.octets.now in
    let samples = c.args.samples.now in
    let bits = bit_of_item g.T.SampleWord.sample samples in
    let wanted = run_after at (2 * m) old bits in
    let begun = c.begin-begun.result in
    let paired = c.push_pairs-paired.result in
    let first : ℕ = 2 * c.if-m-le15.pairs in
    let few : first ≤ length samples = elim c.if-m-le15.branch [ then-m-le15 w ↦ omega (arith, w.pairs-is) | else-m-le15 w ↦ omega (arith, w.pairs-is) ] in
    let whole : length samples ≡ first + (length samples - first) = omega arith in
    let scaled = ap (λ n. 2 * m * n) whole in
    let more = mul-le (2 * m) (r + 1) (2 * m) (length samples) (omega arith) (omega arith) in
    let start = IsFilled-same (bit_of old) wanted old begun.octet begun.bits begun.count at c.begin-begun.ensures.place (λ k h. sym (run_after-before at (2 * m) old bits k h)) c.begin-begun.ensures.filled in
    let pairs = c.push_pairs-paired.ensures.filled wanted start (λ r b h small. sym (run_after-at at (2 * m) old bits r b (8 * begun.octet + begun.count + 2 * m * r + b) small (omega (arith, c.begin-begun.ensures.place)))) in
    let all = c.push_singles.ensures.filled wanted pairs (λ i b h small. sym (run_after-at at (2 * m) old bits (first + i) b (8 * paired.octet + paired.count + 2 * m * i + b) small (omega (arith, c.begin-begun.ensures.place, c.push_pairs-paired.ensures.place)))) in
    c.flush.ensures.filled wanted all (at + 2 * m * r + b) (omega (arith, c.begin-begun.ensures.place, c.push_pairs-paired.ensures.place, c.push_singles.ensures.place))
    ∙ run_after-at at (2 * m) old bits r b (at + 2 * m * r + b) small refl

pub returns-clause-before : goal.returns-clause-before
returns-clause-before g c k h =
    let m = c.args.m in
    let at = c.args.at in
    let old = c.args.octets.now in
    let samples = c.args.samples.now in
    let bits = bit_of_item g.T.SampleWord.sample samples in
    let wanted = run_after at (2 * m) old bits in
    let begun = c.begin-begun.result in
    let paired = c.push_pairs-paired.result in
    let first : ℕ = 2 * c.if-m-le15.pairs in
    let start = IsFilled-same (bit_of old) wanted old begun.octet begun.bits begun.count at c.begin-begun.ensures.place (λ k h. sym (run_after-before at (2 * m) old bits k h)) c.begin-begun.ensures.filled in
    let pairs = c.push_pairs-paired.ensures.filled wanted start (λ r b h small. sym (run_after-at at (2 * m) old bits r b (8 * begun.octet + begun.count + 2 * m * r + b) small (omega (arith, c.begin-begun.ensures.place)))) in
    let all = c.push_singles.ensures.filled wanted pairs (λ i b h small. sym (run_after-at at (2 * m) old bits (first + i) b (8 * paired.octet + paired.count + 2 * m * i + b) small (omega (arith, c.begin-begun.ensures.place, c.push_pairs-paired.ensures.place)))) in
    c.flush.ensures.filled wanted all k (omega (arith, c.begin-begun.ensures.place, c.push_pairs-paired.ensures.place, c.push_singles.ensures.place))
    ∙ run_after-before at (2 * m) old bits k h

pub returns-clause-after : goal.returns-clause-after
returns-clause-after g c k h =
    let m = c.args.m in
    let samples = c.args.samples.now in
    let first : ℕ = 2 * c.if-m-le15.pairs in
    let few : first ≤ length samples = elim c.if-m-le15.branch [ then-m-le15 w ↦ omega (arith, w.pairs-is) | else-m-le15 w ↦ omega (arith, w.pairs-is) ] in
    let whole : length samples ≡ first + (length samples - first) = omega arith in
    let scaled = ap (λ n. 2 * m * n) whole in
    let last : 8 * c.push_singles.result.octet + c.push_singles.result.count ≤ k = omega (arith, c.begin-begun.ensures.place, c.push_pairs-paired.ensures.place, c.push_singles.ensures.place) in
    c.flush.ensures.after k last ∙ c.push_singles.ensures.after k last ∙ c.push_pairs-paired.ensures.after k (omega (arith, c.push_singles.ensures.place))

use Rattle.std.proofs.Common.{◌≡◌, ◌≢◌, ℕ, ◌+◌, ◌*◌, ◌<◌, ◌∙◌, List, length, get_or, subst, arith, ⊎_elim, get_or-set_other, get_or-set_same}
use Rattle.std.proofs.Math.ListN.{set}
use Rattle.std.proofs.lemmas.Bool.{cases_lt}
use Rattle.sample_bits.specs.declared.iq.RawIq.{RawIq}
use Rattle.sample_bits.specs.SampleOfBits.{sample_at}
use Rattle.sample_bits.proofs.run.read_run.Goals as goal

-- a sample that was written behind others
one_written : (out : List RawIq) (samples : ℕ → RawIq) (a : RawIq) (p : ℕ) → p < length out → a ≡ samples p
    → ((i : ℕ) → i < p → (d : RawIq) → get_or out i d ≡ samples i) → (i : ℕ) → i < p + 1 → (d : RawIq) → get_or (set out p a) i d ≡ samples i
one_written out samples a p room is before i h d =
    ⊎_elim
    (λ early. let ne : i ≢ p = omega arith in get_or-set_other out p i a d ne ∙ before i early d)
    (λ late. let here : p ≡ i = omega arith in subst (λ n. get_or (set out p a) n d ≡ samples n) here (get_or-set_same out p a d room ∙ is))
    (cases_lt i p)

pub loop-index-preserved : goal.loop-index-preserved
loop-index-preserved g c i h d =
    let m : ℕ = g.row.M in
    let samples : ℕ → RawIq = λ n. sample_at m c.args.octets.now (c.args.from + 2 * m * n) in
    let value : c.wide.result ≡ samples c.loop-index.index = c.wide.ensures.value ∙ c.read.ensures in
    one_written c.loop-index.out samples c.wide.result c.loop-index.index (omega arith) value c.loop-index.invariant i (omega (arith, h)) d

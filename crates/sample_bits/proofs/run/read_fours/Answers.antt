use Rattle.std.proofs.Common.{◌≡◌, ◌≢◌, ℕ, ◌+◌, ◌*◌, ◌<◌, ◌∙◌, List, length, get_or, ap, subst, arith, ⊎_elim, get_or-set_other, get_or-set_same}
use Rattle.std.proofs.Math.ListN.{set, length-set}
use Rattle.std.proofs.lemmas.Bool.{cases_lt}
use Rattle.sample_bits.specs.declared.iq.RawIq.{RawIq}
use Rattle.sample_bits.specs.SampleOfBits.{sample_at}
use Rattle.sample_bits.proofs.run.read_fours.Goals as goal

-- two samples that were written one after the other
two_written : (out : List RawIq) (samples : ℕ → RawIq) (a b : RawIq) (p : ℕ) → p + 1 < length out → a ≡ samples p → b ≡ samples (p + 1)
    → ((i : ℕ) → i < p → (d : RawIq) → get_or out i d ≡ samples i)
    → (i : ℕ) → i < p + 2 → (d : RawIq) → get_or (set (set out p a) (p + 1) b) i d ≡ samples i
two_written out samples a b p room first second before i h d =
    let P : ℕ → Type 0 = λ n. get_or (set (set out p a) (p + 1) b) n d ≡ samples n in
    ⊎_elim
    (λ early.
    let ne : i ≢ p = omega arith in
    let ne_next : i ≢ p + 1 = omega arith in
    get_or-set_other (set out p a) (p + 1) i b d ne_next ∙ get_or-set_other out p i a d ne ∙ before i early d)
    (λ late. ⊎_elim
    (λ near.
    let here : p ≡ i = omega arith in
    let ne : p ≢ p + 1 = omega arith in
    let lt : p < length out = omega arith in
    subst P here (get_or-set_other (set out p a) (p + 1) p b d ne ∙ get_or-set_same out p a d lt ∙ first))
    (λ next.
    let here : p + 1 ≡ i = omega arith in
    let lt : p + 1 < length (set out p a) = omega (arith, length-set out p a) in
    subst P here (get_or-set_same (set out p a) (p + 1) b d lt ∙ second))
    (cases_lt i (p + 1)))
    (cases_lt i p)

pub loop-four-preserved : goal.loop-four-preserved
loop-four-preserved g c i h d =
    let m : ℕ = g.row.M in
    let octets = c.args.octets.now in
    let four : ℕ = c.loop-four.four in
    let p : ℕ = 4 * four in
    let start : ℕ = 8 * c.args.octet + c.args.bit in
    let at : ℕ = c.args.octet + m * four in
    let samples : ℕ → RawIq = λ n. sample_at m octets (start + 2 * m * n) in
    let first : c.read_within-first.result ≡ samples p = c.read_within-first.ensures ∙ ap (sample_at m octets) (omega arith) in
    let second : c.read_within-second.result ≡ samples (p + 1) = c.read_within-second.ensures ∙ ap (sample_at m octets) (omega arith) in
    let third : c.read_within-third.result ≡ samples (p + 2) = c.read_within-third.ensures ∙ ap (sample_at m octets) (omega arith) in
    let fourth : c.read_within-fourth.result ≡ samples (p + 2 + 1) = c.read_within-fourth.ensures ∙ ap (sample_at m octets) (omega arith) in
    let a = c.read_within-first.result in
    let b = c.read_within-second.result in
    let out = c.loop-four.out in
    let half = set (set out p a) (p + 1) b in
    let long : length half ≡ length out = length-set (set out p a) (p + 1) b ∙ length-set out p a in
    let all =
    two_written half samples c.read_within-third.result c.read_within-fourth.result (p + 2) (omega (arith, long)) third fourth
    (two_written out samples a b p (omega arith) first second c.loop-four.invariant) i (omega (arith, h)) d in
    ap (λ n. get_or (set (set half (p + 2) c.read_within-third.result) n c.read_within-fourth.result) i d) (omega arith) ∙ all

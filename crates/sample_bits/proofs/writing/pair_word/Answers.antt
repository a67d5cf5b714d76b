use Rattle.std.proofs.Common.{◌≡◌, ℕ, ◌+◌, ◌*◌, ◌^◌, ◌<◌, ◌∙◌, subst, arith}
use Rattle.sample_bits.proofs.writing.pair_word.Goals as goal

pub returns-clause-first : goal.returns-clause-first
returns-clause-first g c b h = c.followed.ensures.first b h ∙ c.word.ensures.bits b h

pub returns-clause-no_others : goal.returns-clause-no_others
returns-clause-no_others g c =
    let both : 2 * c.args.m + 2 * c.args.m ≡ 4 * c.args.m = omega arith in
    let P : ℕ → Type 0 = λ n. c.followed.result < 2 ^ n in
    subst P both (c.followed.ensures.no_others (2 * c.args.m) c.word-2.ensures.no_others)

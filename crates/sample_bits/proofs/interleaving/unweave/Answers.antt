use Rattle.std.proofs.Common.{◌≡◌, ℕ, ◌+◌, ◌*◌, ◌^◌, ◌<◌, ◌≤◌, ◌∙◌, ap, arith}
use Rattle.std.specs.Int.{bit_at}
use Rattle.std.proofs.lemmas.Nat.Bits.{bit_at_above}
use Rattle.sample_bits.proofs.BitLemmas.{lt_from_bits, bit_at-shr}
use Rattle.sample_bits.proofs.ShortLemmas.{unwoven_short-even, unwoven_short-odd}
use Rattle.sample_bits.proofs.interleaving.unweave.Goals as goal

-- a word of twice at most 16 bits
short : (word width : ℕ) → width ≤ 16 → word < 2 ^ (2 * width) → word < 2 ^ 32
short word width few fits = lt_from_bits word 32 (λ i h. bit_at_above word (2 * width) i fits (omega arith))

pub returns-then-width-le16-clause-even : goal.returns-then-width-le16-clause-even
returns-then-width-le16-clause-even c j =
    unwoven_short-even c.args.word c.gather-both.result j (short c.args.word c.args.width c.if-width-le16.true c.requires.bits) c.gather-both.ensures

pub returns-then-width-le16-clause-odd : goal.returns-then-width-le16-clause-odd
returns-then-width-le16-clause-odd c j =
    unwoven_short-odd c.args.word c.gather-both.result j (short c.args.word c.args.width c.if-width-le16.true c.requires.bits) c.gather-both.ensures

pub returns-else-width-le16-clause-odd : goal.returns-else-width-le16-clause-odd
returns-else-width-le16-clause-odd c j =
    let place : 1 + 2 * j ≡ 2 * j + 1 = omega arith in
    c.gather-else-width-le16.ensures j ∙ bit_at-shr c.args.word 1 (2 * j) ∙ ap (bit_at c.args.word) place

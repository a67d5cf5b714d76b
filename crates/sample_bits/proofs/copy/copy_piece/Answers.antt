use Rattle.std.proofs.Common.{◌≡◌, ℕ, ◌+◌, ◌*◌, ◌/◌, ◌^◌, ◌<◌, ◌∙◌, ap, arith}
use Rattle.std.specs.Int.{bit_at}
use Rattle.link_base.specs.Bits.{bit_of}
use Rattle.sample_bits.proofs.BitLemmas.{bit_at-shr}
use Rattle.sample_bits.proofs.OctetLemmas.{CopiesBits-word, CopiesBits-part, bit_of-rest}
use Rattle.sample_bits.proofs.copy.copy_piece.Goals as goal

pub returns-then-left-ge64-clause-copies : goal.returns-then-left-ge64-clause-copies
returns-then-left-ge64-clause-copies c =
    let source = 8 * c.args.source.octet + c.args.source.bit in
    CopiesBits-word c.args.src.now c.args.dst.now c.store.new.octets source c.args.target.octet c.args.target.bit c.word_at-word.result
    c.if-target-eq0.true (omega arith) (omega arith)
    c.word_at-word.ensures c.store.ensures.written c.store.ensures.before c.store.ensures.after

pub returns-else-target-eq0-clause-copies : goal.returns-else-target-eq0-clause-copies
returns-else-target-eq0-clause-copies c =
    let src = c.args.src.now in
    let dst = c.args.dst.now in
    let o = c.args.source.octet in
    let b = c.args.source.bit in
    let bits : ℕ = c.load.result / 2 ^ b in
    let read : (j : ℕ) → j < c.min-count.result → bit_at bits j ≡ bit_of src (8 * o + b + j) =
    λ j h.
    let e : 8 * o + (b + j) ≡ 8 * o + b + j = omega arith in
    bit_at-shr c.load.result b j ∙ c.load.ensures (b + j) (omega arith) ∙ bit_of-rest o src (b + j) ∙ ap (bit_of src) e in
    let kept : (j : ℕ) → j < 64 → bit_at c.load-old.result j ≡ bit_of dst (8 * c.args.target.octet + j) =
    λ j h. c.load-old.ensures j h ∙ bit_of-rest c.args.target.octet dst j in
    CopiesBits-part src dst c.store-else-target-eq0.new.octets (8 * o + b) c.args.target.octet c.args.target.bit c.min-count.result bits c.load-old.result c.replaced.result
    (omega arith) (omega arith) (omega arith)
    read kept c.replaced.ensures.copied c.replaced.ensures.before c.replaced.ensures.after
    c.store-else-target-eq0.ensures.written c.store-else-target-eq0.ensures.before c.store-else-target-eq0.ensures.after

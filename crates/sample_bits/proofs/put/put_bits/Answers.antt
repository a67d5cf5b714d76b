use Rattle.std.proofs.Common.{ℕ, ◌+◌, ◌*◌, ◌/◌, ◌%◌, ◌∙◌, sym, refl, arith}
use Rattle.sample_bits.proofs.OctetLemmas.{bit_of-at, bit_of-rest}
use Rattle.sample_bits.proofs.PutLemmas.{PutsBits-word}
use Rattle.sample_bits.proofs.put.put_bits.Goals as goal

pub returns-then-octet-limit : goal.returns-then-octet-limit
returns-then-octet-limit c =
    let at = c.args.at in
    let o : ℕ = at / 8 in
    let octets = c.args.octets.now in
    PutsBits-word octets c.store.new.octets o (at % 8) at c.args.count c.args.limit c.args.word c.word_behind.result
    (omega arith) (omega arith) (omega arith) (omega arith) c.requires.within c.requires.room
    (λ j h. c.word_behind.ensures.octet j h ∙ sym (bit_of-at octets o j (8 * o + j) (omega arith) refl))
    (λ j h. c.word_behind.ensures.word j (omega arith))
    (λ j h beyond. absurd (omega arith))
    c.store.ensures.written c.store.ensures.before c.store.ensures.after

pub returns-else-octet-limit : goal.returns-else-octet-limit
returns-else-octet-limit c =
    let at = c.args.at in
    let o : ℕ = at / 8 in
    let octets = c.args.octets.now in
    PutsBits-word octets c.store-else-octet-limit.new.octets o (at % 8) at c.args.count c.args.limit c.args.word c.replaced.result
    (omega arith) (omega arith) (omega arith) (omega arith) c.requires.within c.requires.room
    (λ j h. c.replaced.ensures.before j h ∙ c.load-old.ensures j (omega arith) ∙ bit_of-rest o octets j)
    c.replaced.ensures.copied
    (λ j h beyond. c.replaced.ensures.after j (omega arith) ∙ c.load-old.ensures j h ∙ bit_of-rest o octets j)
    c.store-else-octet-limit.ensures.written c.store-else-octet-limit.ensures.before c.store-else-octet-limit.ensures.after

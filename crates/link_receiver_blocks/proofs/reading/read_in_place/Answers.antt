use Rattle.std.proofs.Common.{◌≡◌, ℕ, ◌+◌, ◌-◌, ◌*◌, ◌^◌, ◌%◌, ◌≤◌, [], ◌∷◌, length, get_or, sym, ap, subst, ◌∙◌, arith}
use Rattle.std.specs.Int.{bit_at}
use Rattle.std.specs.Option.{option_copied}
use Rattle.std.proofs.lemmas.Nat.{one_shl}
use Rattle.std.proofs.lemmas.Nat.Bits.{bit_at-zero, bit_at_ones}
use Rattle.sample_bits.specs.Blocks.{sample_in_block}
use Rattle.link_receiver_blocks.specs.Containers.{container_bits, container_played, place_of_bit, sample_of_block, unless_marked}
use Rattle.link_receiver_blocks.proofs.HeldLemmas.{sample_in_frame, sample_not_there}
use Rattle.link_receiver_blocks.proofs.reading.read_in_place.Goals as goal

pub returns-in-Some-clause-samples : goal.returns-in-Some-clause-samples
returns-in-Some-clause-samples c i h d =
    let w = c.args.mapping in
    let v = get_or c.unpack.new.out i d in
    let frame = c.in-Some.octets.now in
    let first : 0 + i ≡ i = omega arith in
    let read : v ≡ sample_in_block w.m (container_bits w) (place_of_bit w i) frame c.args.piece.start =
    subst (λ r. v ≡ sample_in_block w.m (container_bits w) (place_of_bit w r) frame c.args.piece.start) first (c.unpack.ensures i h d) in
    ap (λ mark. unless_marked mark v) (bit_at-zero i)
    ∙ sample_in_frame w c.args.piece i c.requires.width c.requires.rate c.requires.one_frame (omega arith) frame v c.requires.size read
    ∙ ap (λ f. sample_of_block w (container_played (option_copied f) (c.args.piece ∷ []) ∷ []) i) (sym c.in-Some.is)

pub returns-in-None-clause-samples : goal.returns-in-None-clause-samples
returns-in-None-clause-samples c i h d =
    let w = c.args.mapping in
    let v = get_or c.args.out.now i d in
    let n : ℕ = length c.args.out.now in
    let few = c.requires.rate.slow in
    let short : length c.args.out.now ≤ 32 = omega arith in
    let ones : bit_at (1 * 2 ^ n % 2 ^ 64 - 1) i ≡ 1 = ap (λ x. bit_at (x - 1) i) (one_shl n 64 (omega arith)) ∙ bit_at_ones n i h in
    ap (λ mark. unless_marked mark v) ones
    ∙ sym (sample_not_there w c.args.piece i c.requires.width c.requires.rate c.requires.one_frame (omega arith))
    ∙ ap (λ f. sample_of_block w (container_played (option_copied f) (c.args.piece ∷ []) ∷ []) i) (sym c.in-None.is)

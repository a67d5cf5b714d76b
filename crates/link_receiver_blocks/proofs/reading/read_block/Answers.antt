use Rattle.std.proofs.Common.{◌+◌, get_or, ap, ◌∙◌, arith}
use Rattle.link_receiver_blocks.specs.Containers.{unless_marked}
use Rattle.link_receiver_blocks.proofs.HeldLemmas.{held_sample}
use Rattle.link_receiver_blocks.proofs.reading.read_block.Goals as goal

pub returns-clause-samples : goal.returns-clause-samples
returns-clause-samples c i h d =
    let v = get_or c.unpack.new.out i d in
    ap (λ mark. unless_marked mark v) (c.marks_of.ensures.marks i (omega arith))
    ∙ held_sample c.args.mapping c.args.octets.now c.args.missed c.args.played (c.args.first + i) v c.requires.width c.requires.rate c.requires.played (omega arith) (c.unpack.ensures i h d)

use Rattle.std.proofs.Common.{◌+◌, sym, ◌∙◌, arith}
use Rattle.link_receiver_blocks.specs.Held.{containers_held}
use Rattle.link_receiver_blocks.proofs.HeldLemmas.{containers_held-none, in_hand_after-part, in_hand_after-whole, length-containers_held}
use Rattle.link_receiver_blocks.proofs.block.next_frame.Goals as goal

pub returns-then-played-k-clause-containers : goal.returns-then-played-k-clause-containers
returns-then-played-k-clause-containers c size octets =
    let after = containers_held size octets c.args.missed (c.args.played + 1) in
    let many = length-containers_held size octets c.args.missed (c.args.played + 1) in
    containers_held-none size octets 0 ∙ sym (in_hand_after-whole c.args.k after (omega arith))

pub returns-else-played-k-clause-containers : goal.returns-else-played-k-clause-containers
returns-else-played-k-clause-containers c size octets =
    let after = containers_held size octets c.args.missed (c.args.played + 1) in
    let many = length-containers_held size octets c.args.missed (c.args.played + 1) in
    sym (in_hand_after-part c.args.k after (λ whole. absurd (omega arith)))

use Rattle.std.proofs.Common.{◌∷◌, [], ◌++◌, sym, ap, ◌∙◌, arith}
use Rattle.std.specs.Option.{option_copied}
use Rattle.link_receiver_blocks.specs.Containers.{container_played}
use Rattle.link_receiver_blocks.specs.Held.{containers_held}
use Rattle.link_receiver_blocks.proofs.HeldLemmas.{container_missed, container_taken}
use Rattle.link_receiver_blocks.proofs.Masks.{with_bit-small}
use Rattle.link_receiver_blocks.proofs.gathering.take_container.Goals as goal

pub returns-in-Some-clause-containers : goal.returns-in-Some-clause-containers
returns-in-Some-clause-containers c =
    let route = c.args.route.now in
    container_taken c.args.size c.in-Some.octets.now route c.args.block.now c.gather.new.block c.args.missed c.args.phase c.requires.route c.requires.played
    c.gather.ensures.copied c.gather.ensures.before
    ∙ ap (λ f. containers_held c.args.size c.args.block.now c.args.missed c.args.phase ++ container_played (option_copied f) route ∷ []) (sym c.in-Some.is)

pub returns-in-None-clause-containers : goal.returns-in-None-clause-containers
returns-in-None-clause-containers c =
    let route = c.args.route.now in
    container_missed c.args.size c.args.block.now c.args.missed c.args.phase c.requires.played (omega arith)
    ∙ ap (λ f. containers_held c.args.size c.args.block.now c.args.missed c.args.phase ++ container_played (option_copied f) route ∷ []) (sym c.in-None.is)

pub returns-in-None-clause-played : goal.returns-in-None-clause-played
returns-in-None-clause-played c = with_bit-small 128 c.args.missed 1 c.args.phase c.requires.played (omega arith) (omega arith)

use Rattle.std.proofs.Common.{◌≡◌, List, sym, subst, arith}
use Rattle.carrier_plan.specs.declared.plan.Piece.{Piece}
use Rattle.plan_checker.specs.Container.{pieces_size}
use Rattle.sample_bits.specs.declared.iq.RawIq.{RawIq}
use Rattle.link_sender_blocks.specs.Containers.{SendsContainer, container_bits}
use Rattle.link_sender_blocks.specs.InHand.{SamplesView}
use Rattle.link_sender_blocks.proofs.Sent.{sent_in_pieces, sent_in_place}
use Rattle.link_sender_blocks.proofs.samples.SamplesInHand.write.Goals as goal

pub returns-in-len1-clause-container : goal.returns-in-len1-clause-container
returns-in-len1-clause-container c =
    let h = c.self.inside in
    let pieces = c.args.pieces.now in
    let old = c.args.octets.now in
    let new = c.pack.new.octets in
    let none : Piece = record { start = 0; size = 0 } in
    let block = c.as_slice-block.result.now in
    let size : pieces_size pieces ≡ container_bits h.mapping = subst (λ (v : SamplesView). pieces_size pieces ≡ container_bits v.mapping) (sym c.self.view_is) c.requires.size in
    let sent : SendsContainer h.mapping h.phase block pieces old new =
    sent_in_place h.mapping h.phase block c.self.invariant.width c.self.invariant.rate old new pieces none (omega arith) size c.pack.ensures in
    subst (λ (v : SamplesView). SendsContainer v.mapping v.phase v.sent pieces old new) c.self.view_is
    (subst (λ (b : List RawIq). SendsContainer h.mapping h.phase b pieces old new) c.as_slice-block.ensures.value sent)

pub returns-clause-container : goal.returns-clause-container
returns-clause-container c =
    let h = c.self.inside in
    let pieces = c.args.pieces.now in
    let old = c.args.octets.now in
    let new = c.cut.new.octets in
    let block = c.as_slice-block.result.now in
    let size : pieces_size pieces ≡ container_bits h.mapping = subst (λ (v : SamplesView). pieces_size pieces ≡ container_bits v.mapping) (sym c.self.view_is) c.requires.size in
    let sent : SendsContainer h.mapping h.phase block pieces old new =
    sent_in_pieces h.mapping h.phase block c.self.invariant.width c.self.invariant.rate old new pieces c.as_mut_slice-container.result.now c.pack-2.new.octets size c.pack-2.ensures c.cut.ensures in
    subst (λ (v : SamplesView). SendsContainer v.mapping v.phase v.sent pieces old new) c.self.view_is
    (subst (λ (b : List RawIq). SendsContainer h.mapping h.phase b pieces old new) c.as_slice-block.ensures.value sent)

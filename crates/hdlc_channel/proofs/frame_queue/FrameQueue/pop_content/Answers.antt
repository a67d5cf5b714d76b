use Rattle.std.proofs.Common.{◌≡◌, ◌≤◌, ◌/◌, ◌%◌, [], ◌∷◌, ◌++◌, length, take, bit_and, ap, ◌∙◌, arith}
use Rattle.std.proofs.lemmas.Nat.{and_mask}
use Rattle.hdlc_channel.specs.Fcs.{field_octets}
use Rattle.hdlc_channel.specs.SlowStream.{content_of}
use Rattle.hdlc_channel.proofs.OutSteps.{with_field}
use Rattle.hdlc_channel.proofs.frame_queue.FrameQueue.pop_content.Goals as goal

pub returns : goal.returns
unfolding content_of field_octets
returns c =
    let n = c.in-Some.len in
    let octets = c.pop.new.octets in
    let few : n ≤ 1500 = c.in-Some.ensures.none in
    let room : length octets ≡ 1502 = c.pop.auto.octets ∙ c.requires in
    let fcs = c.fcs-fcs.result in
    record {
      frame = take n octets;
      first = c.in-Some.ensures.frame;
      content = with_field octets n (bit_and fcs 255) (fcs / 256) (omega arith)
          ∙ ap (λ low. take n octets ++ low ∷ fcs / 256 ∷ []) (and_mask fcs 8)
          ∙ ap (λ f. take n octets ++ f % 256 ∷ f / 256 ∷ []) c.fcs-fcs.ensures;
      some = omega arith;
      within = omega arith;
    }

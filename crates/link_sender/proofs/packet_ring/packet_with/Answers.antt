use Rattle.std.proofs.Common.{length, ap, ◌∙◌, arith}
use Rattle.roe_header.specs.Layout.{Fields}
use Rattle.link_sender.proofs.PacketOctets.{most-packet}
use Rattle.link_sender.proofs.packet_ring.packet_with.Goals as goal

pub returns-clause-short : goal.returns-clause-short
returns-clause-short c =
    let x : Fields = record {
      dst = c.address-dst.result;
      src = c.address-src.result;
      sub = c.subtype.result;
      flow = c.args.flow.now.id;
      seq = 0;
      payload = c.args.payload.now;
    } in
    let most = most-packet x (ap length c.address-dst.ensures.same ∙ c.address-dst.ensures.six) (ap length c.address-src.ensures.same ∙ c.address-src.ensures.six) c.requires.payload in
    let size = ap length c.write.ensures in
    omega arith

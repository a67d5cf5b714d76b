use Rattle.std.proofs.Common.{◌++◌, ◌∙◌, refl, sym, ap, length}
use Rattle.ethernet_channel.proofs.EncodingTable.{ending_bits}
use Rattle.ethernet_channel.proofs.LowBits.{length-low_bits}
use Rattle.ethernet_channel.proofs.Streams.{frame_went_on, frame_ended}
use Rattle.ethernet_channel.proofs.encoder.Encoder.go_on_in_frame.Goals as goal

pub returns-in-Some : goal.returns-in-Some
returns-in-Some c =
    frame_went_on c.args.self.now _ c.in-Some.octet c.requires.within c.requires.preamble
    (sym c.next_octet.ensures.octet ∙ c.in-Some.is) c.next_octet.ensures.rest
    (c.append.ensures ∙ ap (λ bits. c.args.self.now.register ++ bits) c.encoded.ensures.bits) refl refl
    (sym (ap length c.encoded.ensures.bits) ∙ length-low_bits 10 c.encoded.result)

pub returns-in-None : goal.returns-in-None
returns-in-None c =
    frame_ended c.args.self.now _ c.requires.within c.requires.preamble
    (sym c.next_octet.ensures.octet ∙ c.in-None.is) c.next_octet.ensures.rest
    (c.append-in-None.ensures ∙ ap (λ bits. c.args.self.now.register ++ bits) ending_bits) refl

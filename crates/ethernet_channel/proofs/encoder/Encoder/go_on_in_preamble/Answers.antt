use Rattle.std.proofs.Common.{◌≡◌, ◌++◌, ◌-◌, ◌∙◌, cond, eqb, eq-eqb, refl, sym, ap, length}
use Rattle.std.proofs.lemmas.Bool.{cond-true, cond-false, ne_eqb}
use Rattle.ethernet_channel.proofs.LowBits.{length-low_bits}
use Rattle.ethernet_channel.proofs.Streams.{preamble_went_on}
use Rattle.ethernet_channel.proofs.encoder.Encoder.go_on_in_preamble.Goals.{then-self-eq0, else-self-eq0}
use Rattle.ethernet_channel.proofs.encoder.Encoder.go_on_in_preamble.Goals as goal

pub returns : goal.returns
returns c =
    let left = c.args.self.now.preamble - 1 in
    let octet : c.if-self-eq0.octet ≡ cond (eqb left 0) 0xd5 0x55 =
    elim c.if-self-eq0.branch [
      | then-self-eq0 w ↦ w.octet-is ∙ sym (cond-true (eqb left 0) 0xd5 0x55 (eq-eqb left 0 w.if-self-eq0.true))
      | else-self-eq0 w ↦ w.octet-is ∙ sym (cond-false (eqb left 0) 0xd5 0x55 (ne_eqb left 0 w.if-self-eq0.false))
    ] in
    preamble_went_on c.args.self.now _ c.if-self-eq0.octet c.requires.within c.requires.preamble refl octet
    (c.append.ensures ∙ ap (λ bits. c.args.self.now.register ++ bits) c.encoded.ensures.bits) refl refl
    (sym (ap length c.encoded.ensures.bits) ∙ length-low_bits 10 c.encoded.result)

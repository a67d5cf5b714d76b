use Rattle.std.proofs.Common.{◌≡◌, sym, ◌∙◌, subst}
use Rattle.std.proofs.lemmas.Bool.{OnFalse_at}
use Rattle.hdlc_channel.specs.Reader.{SlowView, StandsFor}
use Rattle.hdlc_channel.proofs.slow_reader.SlowReader.push_octet.Goals.{else-from-eq0-via-then-from-eq0+else-take_quiet, else-from-eq0-via-else-from-eq0}
use Rattle.hdlc_channel.proofs.slow_reader.SlowReader.push_octet.Goals as goal

pub returns-clause-takes : goal.returns-clause-takes
returns-clause-takes c bits stands =
    let same : c.else-from-eq0.self ≡ c.args.self.now = elim c.else-from-eq0.branch [
      | else-from-eq0-via-then-from-eq0+else-take_quiet w ↦ w.self-is ∙ OnFalse_at w.if-take_quiet.false w.take_quiet.ensures.unchanged
      | else-from-eq0-via-else-from-eq0 w ↦ w.self-is
    ] in
    c.push_bits.ensures.takes bits (subst (λ (v : SlowView). StandsFor v bits) (sym same) stands)

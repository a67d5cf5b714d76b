use Rattle.std.proofs.Common.{sym, ap, ◌∙◌, arith}
use Rattle.carrier_plan.specs.declared.plan.Plan.{Plan}
use Rattle.link_receiver.proofs.OctetsInHand.{no_symbols}
use Rattle.link_receiver.proofs.parts.spell.Goals as goal

pub spell_symbols-requires : goal.spell_symbols-requires
spell_symbols-requires g c = (
  omega arith,
  (c.requires.good, (ap (λ (p : Plan). p.mode) (sym c.plan.ensures.same) ∙ c.in-Tunnel.is, (c.requires.words, c.requires.flows))),
)

pub returns-in-Tunnel : goal.returns-in-Tunnel
returns-in-Tunnel g c tunnel = c.spell_symbols.ensures

pub returns-in-Bytes : goal.returns-in-Bytes
returns-in-Bytes g c tunnel = absurd (no_symbols c.plan.result.now.mode c.in-Bytes.is (ap (λ (p : Plan). p.mode) c.plan.ensures.same ∙ tunnel))

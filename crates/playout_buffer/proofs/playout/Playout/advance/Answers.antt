use Rattle.std.proofs.Common.{◌≡◌, ◌+◌, subst}
use Rattle.std.specs.FinMap.{retain_keys}
use Rattle.playout_buffer.specs.Held.{is_awaited}
use Rattle.playout_buffer.specs.View.{PlayoutView}
use Rattle.playout_buffer.proofs.SlotSteps.{shown, advanced, advanced_slots}
use Rattle.playout_buffer.proofs.playout.Playout.advance.Goals as goal

pub invariant_of-self : goal.invariant_of-self
invariant_of-self c = (
  advanced_slots c.self.inside.window c.self.inside.present c.self.inside.numbers.items c.self.inside.octets.items c.self.invariant.0 (rw (← c.self.view_is) at c.requires),
  c.opened-self-inside.ensures,
  c.at_next_tick-self-inside.ensures,
)

pub returns : goal.returns
returns c =
    let s = c.self.inside in
    subst (λ (v : PlayoutView). shown s.window (s.present + 1) s.numbers.items s.octets.items ≡ record { window = v.window; tick = v.tick + 1; held = retain_keys v.held (is_awaited v.window (v.tick + 1)) })
    c.self.view_is (advanced s.window s.present s.numbers.items s.octets.items c.self.invariant.0 (rw (← c.self.view_is) at c.requires))

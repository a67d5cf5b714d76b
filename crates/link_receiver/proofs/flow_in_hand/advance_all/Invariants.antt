use Rattle.std.proofs.Common.{◌≡◌}
use Rattle.link_receiver.specs.Flows.{advanced_flow}
use Rattle.link_receiver.proofs.Items.{partly}
use Rattle.link_receiver.proofs.flow_in_hand.advance_all.Given as goal

-- the first flows have advanced, and the others not yet
abbrev pub invariant-loop-f : goal.invariant-loop-f
invariant-loop-f l = l.flows ≡ partly advanced_flow l.f l.initial.flows

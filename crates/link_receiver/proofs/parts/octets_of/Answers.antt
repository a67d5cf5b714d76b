use Rattle.std.proofs.Common.{sym, ap, ◌∙◌}
use Rattle.link_receiver.specs.Playing.{octets_in_hand}
use Rattle.link_receiver.proofs.OctetsInHand.{is_played, length_plain, octets_plain, one_flow, no_symbols}
use Rattle.link_receiver.proofs.parts.octets_of.Goals as goal

pub frame-requires : goal.frame-requires
frame-requires c =
    is_played c.args.plan.now c.requires.flows.0 c.args.n c.args.f c.args.flows.now c.requires.flows.1 c.requires.flow c.index-flows-f.result

pub returns-in-Tunnel-clause-octets : goal.returns-in-Tunnel-clause-octets
returns-in-Tunnel-clause-octets c =
    c.requires.spelled c.in-Tunnel.is
    ∙ ap (λ place. octets_in_hand c.args.plan.now c.args.flows.now place c.args.n) (sym (one_flow c.args.plan.now c.args.f c.requires.good c.in-Tunnel.is c.requires.flow))

pub returns-in-Bytes : goal.returns-in-Bytes
returns-in-Bytes c =
    let plain = no_symbols c.args.plan.now.mode c.in-Bytes.is in record {
      octets = c.frame.ensures.octets
          ∙ sym (octets_plain c.args.plan.now c.requires.flows.0 c.args.n c.args.f c.args.flows.now c.index-flows-f.result c.requires.flows.1 c.requires.flow plain);
      whole = λ x some d. c.frame.ensures.length x some
          ∙ length_plain c.args.plan.now c.requires.flows.0 c.args.n c.args.f c.args.flows.now d c.index-flows-f.result c.requires.flows.1 c.requires.flow plain;
    }

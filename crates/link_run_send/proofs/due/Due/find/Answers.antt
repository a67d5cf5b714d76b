use Rattle.std.proofs.Common.{arith}
use Rattle.link_run_send.proofs.DuePlaces.{handed_to_carrier, handed_to_tick}
use Rattle.link_run_send.proofs.due.Due.find.Goals as goal

pub returns-in-Some-clause-handed : goal.returns-in-Some-clause-handed
returns-in-Some-clause-handed c handed to =
    let is = c.in-Some.ensures in
    handed_to_carrier c.args.checked.now handed c.loop-self.self.tick c.loop-self.self.carrier (c.loop-self.invariant.handed handed to) c.in-Some.carrier is.from is.none_before

pub loop-self-preserved : goal.loop-self-preserved
loop-self-preserved c =
    let so_far = c.loop-self.invariant in record {
      within = omega arith;
      first = λ end. omega arith;
      none = so_far.none;
      few = so_far.few;
      later = omega arith;
      carrier = λ same. absurd (omega arith);
      handed = λ handed to. handed_to_tick c.args.checked.now handed c.loop-self.self.tick c.loop-self.self.carrier (so_far.handed handed to) c.in_default.ensures;
    }

use Rattle.std.proofs.Common.{◌+◌, ◌≤◌, length, arith}
use Rattle.link_run_entries.proofs.RunLines.{front_of}
use Rattle.link_run_entries.proofs.front.Front.carry.Goals as goal

pub invariant_of-self : goal.invariant_of-self
invariant_of-self c =
    let front = c.args.self.now in
    let lays = c.put_tens-self.ensures.lays in
    let same = lays.same_length in
    let within = lays.within in
    let ends = lays.ends in
    let room : front.start ≤ length front.octets = omega arith in
    record {
      digit = omega arith;
      stands =
          front_of front.tick front.carrier (front.tens + 1) front.octets c.put_tens-self.new.octets front.start c.put_tens-self.result front.stands.both
          front.stands.start_within room lays c.put_tens-self.ensures.short;
    }

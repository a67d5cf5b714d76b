use Rattle.std.proofs.Common.{◌/◌, arith}
use Rattle.link_run_entries.proofs.RunLines.{front_of}
use Rattle.link_run_entries.proofs.front.Front.new.Goals as goal

pub invariant_of-result : goal.invariant_of-result
invariant_of-result c =
    let both = c.put_both-start in record {
      digit = omega arith;
      stands =
          front_of c.args.tick.now.tick c.args.carrier (c.args.number / 10) both.new.octets c.put_tens-end.new.octets both.result c.put_tens-end.result both.ensures.lays.laid
          both.ensures.short both.ensures.lays.within c.put_tens-end.ensures.lays c.put_tens-end.ensures.short;
    }

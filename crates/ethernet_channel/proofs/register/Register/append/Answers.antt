use Rattle.std.proofs.Common.{◌+◌, ◌^◌, ◌<◌, ◌∙◌, ap, sym, subst, arith}
use Rattle.ethernet_channel.specs.Bits.{low_bits}
use Rattle.ethernet_channel.proofs.LowBits.{length-low_bits, low_bits-add, shifted, sum_below, sum_fits}
use Rattle.ethernet_channel.proofs.register.Register.append.Goals as goal

pub overflow_add-self : goal.overflow_add-self
overflow_add-self c =
    let kept = c.self.inside in
    let short = rw (← c.self.view_is, length-low_bits) at c.requires.room in
    sum_fits kept.bits c.args.bits kept.count c.args.count c.self.invariant.1 c.requires.small c.requires.few short

pub invariant_of-self : goal.invariant_of-self
invariant_of-self c =
    let kept = c.self.inside in
    let short = rw (← c.self.view_is, length-low_bits) at c.requires.room in
    let same = shifted c.args.bits c.args.count kept.count c.requires.small c.requires.few short in (
      omega (arith, short, c.requires.few),
      subst (λ n. kept.bits + n < 2 ^ (kept.count + c.args.count)) (sym same)
          (sum_below kept.bits c.args.bits kept.count c.args.count c.self.invariant.1 c.requires.small),
    )

pub returns : goal.returns
returns c =
    let kept = c.self.inside in
    let short = rw (← c.self.view_is, length-low_bits) at c.requires.room in
    let same = shifted c.args.bits c.args.count kept.count c.requires.small c.requires.few short in
    rw (← c.self.view_is)
    (ap (λ n. low_bits (kept.count + c.args.count) (kept.bits + n)) same
    ∙ low_bits-add kept.count c.args.count kept.bits c.args.bits c.self.invariant.1)

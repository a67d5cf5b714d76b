use Rattle.std.proofs.Common.{◌+◌, ◌-◌, arith}
use Rattle.sample_bits.proofs.FilledLemmas.{IsFilled-longer, IsFilled-stored, shifted-lt}
use Rattle.sample_bits.proofs.writing.Pending.push.Goals as goal

pub returns-then-count-lt64-clause-filled : goal.returns-then-count-lt64-clause-filled
returns-then-count-lt64-clause-filled c bits filled more =
    let self = c.args.self in
    IsFilled-longer bits c.args.octets.now self.octet self.bits self.count c.followed-bits.result c.args.word c.args.width filled
    c.followed-bits.ensures.first c.followed-bits.ensures.next more c.if-count-lt64.true

pub invariant_of-result-2 : goal.invariant_of-result-2
invariant_of-result-2 c =
    let self = c.args.self in
    record {
      few = omega arith;
      no_others = shifted-lt c.args.word c.args.width (64 - self.count) (self.count + c.args.width - 64) c.requires.no_others (omega arith);
    }

pub returns-clause-filled : goal.returns-clause-filled
returns-clause-filled c bits filled more =
    let self = c.args.self in
    IsFilled-stored bits c.args.octets.now c.store_whole.new.octets self.octet self.bits self.count c.followed-bits.result c.args.word c.args.width filled
    c.followed-bits.ensures.first c.followed-bits.ensures.next more (omega arith) c.if-count-lt64.false
    c.store_whole.ensures.written c.store_whole.ensures.before

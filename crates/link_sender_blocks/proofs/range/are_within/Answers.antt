use Rattle.std.proofs.Common.{◌<◌, All, length, take, get_or, pos, sym, subst, arith}
use Rattle.std.proofs.lemmas.Bool.{and_parts}
use Rattle.std.proofs.lemmas.List.{take_all, take_more}
use Rattle.std.proofs.lemmas.List.Elements.{All-push}
use Rattle.sample_bits.specs.Samples.{IsWithin}
use Rattle.sample_bits.specs.declared.iq.RawIq.{RawIq}
use Rattle.link_sender_blocks.proofs.range.are_within.Goals as goal

pub loop-sample-preserved : goal.loop-sample-preserved
loop-sample-preserved c = λ both k d less.
    let samples = c.args.samples.now in
    let i = c.loop-sample.sample-index in
    let parts = and_parts c.loop-sample.within c.is_within-within.result both in
    let silence : RawIq = record { i = pos 0; q = pos 0 } in
    let inside : i < length samples = omega arith in
    subst (All (IsWithin c.args.m)) (sym (take_more samples i silence inside))
    (All-push (IsWithin c.args.m) (take i samples) (get_or samples i silence) (c.loop-sample.invariant parts.0) (c.is_within-within.ensures.0 parts.1)) k d less

pub returns : goal.returns
returns c = λ within.
    let samples = c.args.samples.now in
    subst (All (IsWithin c.args.m)) (take_all c.loop-sample.sample-index samples (omega arith)) (c.loop-sample.invariant within)

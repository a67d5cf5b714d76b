use Rattle.std.proofs.Common.{◌+◌, ◌≤◌, true, length, take, sym, ap, subst, arith}
use Rattle.std.proofs.lemmas.Bool.{both_ways}
use Rattle.std.proofs.lemmas.List.{length-append}
use Rattle.hdlc_channel.specs.Bits.{low_bits, octet_bits}
use Rattle.hdlc_channel.specs.Reader.{SlowView, StandsFor}
use Rattle.hdlc_channel.proofs.Contents.{length-low_bits}
use Rattle.hdlc_channel.proofs.QuietSteps.{QuietTo, kept_view, quiet_open, quiet_shut, takes_eight}
use Rattle.hdlc_channel.proofs.slow_reader.SlowReader.take_quiet.Goals.{else-self-via-then-self+else-len, else-self-via-else-self}
use Rattle.hdlc_channel.proofs.slow_reader.SlowReader.take_quiet.Goals as goal

pub returns-then-not-self-clause-quiet : goal.returns-then-not-self-clause-quiet
returns-then-not-self-clause-quiet c done bits stands =
    let i = c.self.inside in
    let u = c.in-Some.unstuffed in
    let frame = take i.frame_len i.frame.items in
    let given = octet_bits c.args.octet in
    let q : QuietTo (kept_view i.in_frame i.ones i.content frame) (kept_view i.in_frame u.ones i.content frame) given =
    subst (λ b. QuietTo (kept_view b i.ones i.content frame) (kept_view b u.ones i.content frame) given) (sym c.if-not-self.true)
    (quiet_shut frame i.content given i.ones u.ones (low_bits u.len u.bits) c.in-Some.ensures.bits) in
    takes_eight (kept_view i.in_frame i.ones i.content frame) (kept_view i.in_frame u.ones i.content frame) given bits (length-low_bits 8 c.args.octet) q
    (subst (λ (v : SlowView). StandsFor v bits) (sym c.self.view_is) stands)

pub invariant_of-self-2 : goal.invariant_of-self-2
invariant_of-self-2 c =
    let i = c.self.inside in
    let u = c.in-Some.unstuffed in
    let few : u.len ≤ 8 = c.in-Some.ensures.few in
    let room : length i.content + 8 ≤ 12023 = elim c.else-self.branch [
      | else-self-via-then-self+else-len w ↦ omega (arith, w.if-len.false, w.len.ensures.len)
      | else-self-via-else-self w ↦ absurd (both_ways i.in_frame w.if-self.false c.if-not-self.false)
    ] in
    let more = ap length c.append.ensures in
    record {
      few = c.in-Some.ensures.few_ones;
      collected_few = omega (arith, more, length-append i.content (low_bits u.len u.bits), length-low_bits u.len u.bits);
      room = c.self.invariant.room;
      within = c.self.invariant.within;
    }

pub returns-clause-quiet : goal.returns-clause-quiet
returns-clause-quiet c done bits stands =
    let i = c.self.inside in
    let u = c.in-Some.unstuffed in
    let frame = take i.frame_len i.frame.items in
    let given = octet_bits c.args.octet in
    let eight = length-low_bits 8 c.args.octet in
    let room : length i.content + 8 ≤ 12023 = elim c.else-self.branch [
      | else-self-via-then-self+else-len w ↦ omega (arith, w.if-len.false, w.len.ensures.len)
      | else-self-via-else-self w ↦ absurd (both_ways i.in_frame w.if-self.false c.if-not-self.false)
    ] in
    let q : QuietTo (kept_view i.in_frame i.ones i.content frame) (kept_view i.in_frame u.ones c.append.new.self frame) given =
    subst (λ b. QuietTo (kept_view b i.ones i.content frame) (kept_view b u.ones c.append.new.self frame) given) (sym c.if-not-self.false)
    (subst (λ xs. QuietTo (kept_view true i.ones i.content frame) (kept_view true u.ones xs frame) given) (sym c.append.ensures)
    (quiet_open frame given i.content i.ones u.ones (low_bits u.len u.bits) c.in-Some.ensures.bits (omega arith))) in
    takes_eight (kept_view i.in_frame i.ones i.content frame) (kept_view i.in_frame u.ones c.append.new.self frame) given bits eight q
    (subst (λ (v : SlowView). StandsFor v bits) (sym c.self.view_is) stands)

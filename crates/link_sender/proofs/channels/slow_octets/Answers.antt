use Rattle.std.proofs.Common.{◌≡◌, ℕ, ◌∷◌, [], length, sym, ap, ◌∙◌, length-append, arith}
use Rattle.hdlc_channel.specs.Bits.{bits_of}
use Rattle.hdlc_channel.specs.SlowStream as slow
use Rattle.link_sender.specs.Channels.{slow_left, slow_next}
use Rattle.link_sender.proofs.ChannelSteps.{slow_left-add, slow_left-one, small_more, small_none, slow_left-none, slow_more, slow_none, slow_whole}
use Rattle.link_sender.proofs.channels.slow_octets.Goals as goal

pub loop-init : goal.loop-init
loop-init c =
    let none = c.new-octets.ensures in
    record {
      few = ap length none;
      bits = ap bits_of none ∙ slow_none c.args.writer.now;
      small = small_none c.new-octets.result.items none;
      left = slow_left-none c.args.writer.now;
    }

pub loop-preserved : goal.loop-preserved
loop-preserved c =
    let w = c.args.writer.now in
    let i : ℕ = c.loop.counter in
    let before = c.loop.octets.items in
    let octet = c.next.result in
    let more = c.push.ensures.items in
    let left = c.loop.invariant.left in
    record {
      few = ap length more ∙ length-append before (octet ∷ []) ∙ omega arith;
      bits = ap bits_of more ∙ slow_more w i before octet c.loop.invariant.bits (c.next.ensures.bits ∙ ap (λ channel. slow.slow_stream channel 8) left);
      small = small_more before c.push.new.self.items octet more c.next.type_inv c.loop.invariant.small;
      left = c.next.ensures.left ∙ ap (λ channel. slow.after_eight channel) left ∙ sym (slow_left-add c.loop.counter 1 c.args.writer.now ∙ slow_left-one (slow_left c.loop.counter c.args.writer.now));
    }

pub returns-clause-octets : goal.returns-clause-octets
returns-clause-octets c =
    let i : ℕ = c.loop.counter in
    let all : i ≡ c.args.count = omega arith in
    slow_whole c.args.writer.now i c.loop.octets.items c.loop.invariant.small c.loop.invariant.bits ∙ ap (λ n. slow_next n c.args.writer.now) all

pub returns-clause-left : goal.returns-clause-left
returns-clause-left c =
    let i : ℕ = c.loop.counter in
    let all : i ≡ c.args.count = omega arith in
    c.loop.invariant.left ∙ ap (λ n. slow_left n c.args.writer.now) all

pub returns-clause-length : goal.returns-clause-length
returns-clause-length c = omega (arith, c.loop.invariant.few)

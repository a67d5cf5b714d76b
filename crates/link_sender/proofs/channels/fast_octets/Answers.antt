use Rattle.std.proofs.Common.{◌≡◌, ℕ, ◌∷◌, [], length, sym, ap, ◌∙◌, length-append, arith}
use Rattle.ethernet_channel.specs.FastStream as fast
use Rattle.hdlc_channel.specs.Bits.{bits_of}
use Rattle.link_sender.specs.Channels.{fast_left, fast_next}
use Rattle.link_sender.proofs.ChannelSteps.{fast_left-add, fast_left-one, small_more, small_none, fast_left-none, fast_more, fast_none, fast_whole}
use Rattle.link_sender.proofs.channels.fast_octets.Goals as goal

pub loop-init : goal.loop-init
loop-init c =
    let none = c.new-octets.ensures in
    record {
      few = ap length none;
      bits = ap bits_of none ∙ fast_none c.args.writer.now;
      small = small_none c.new-octets.result.items none;
      left = fast_left-none c.args.writer.now;
    }

pub loop-preserved : goal.loop-preserved
loop-preserved c =
    let w = c.args.writer.now in
    let i : ℕ = c.loop.counter in
    let before = c.loop.octets.items in
    let octet = c.next.result in
    let more = c.push.ensures.items in
    let left = c.loop.invariant.left in
    record {
      few = ap length more ∙ length-append before (octet ∷ []) ∙ omega arith;
      bits = ap bits_of more ∙ fast_more w i before octet c.loop.invariant.bits (c.next.ensures.bits ∙ ap (λ channel. fast.fast_stream channel 8) left);
      small = small_more before c.push.new.self.items octet more c.next.type_inv c.loop.invariant.small;
      left = c.next.ensures.after ∙ ap (λ channel. fast.after_bits 8 channel) left ∙ sym (fast_left-add c.loop.counter 1 c.args.writer.now ∙ fast_left-one (fast_left c.loop.counter c.args.writer.now));
    }

pub returns-clause-octets : goal.returns-clause-octets
returns-clause-octets c =
    let i : ℕ = c.loop.counter in
    let all : i ≡ c.args.count = omega arith in
    fast_whole c.args.writer.now i c.loop.octets.items c.loop.invariant.small c.loop.invariant.bits ∙ ap (λ n. fast_next n c.args.writer.now) all

pub returns-clause-left : goal.returns-clause-left
returns-clause-left c =
    let i : ℕ = c.loop.counter in
    let all : i ≡ c.args.count = omega arith in
    c.loop.invariant.left ∙ ap (λ n. fast_left n c.args.writer.now) all

pub returns-clause-length : goal.returns-clause-length
returns-clause-length c = omega (arith, c.loop.invariant.few)

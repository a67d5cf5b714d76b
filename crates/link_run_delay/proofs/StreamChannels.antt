-- The management channels of a stream go on from one octet to the next.
use Rattle.std.proofs.Common.{◌≡◌, ℕ, zero, suc, ◌+◌, ◌*◌, Bool, true, ◌++◌, length, take, replicate, refl, ap, ◌∙◌, arith, length-append}
use Rattle.std.specs.List.{flat_map, repeat}
use Rattle.std.proofs.lemmas.List.{length-replicate, length-take-le, take_at}
use Rattle.ethernet_channel.specs.FastStream as fast
use Rattle.ethernet_channel.proofs.WrittenFrames.{fast_stream-add}
use Rattle.hdlc_channel.specs.SlowStream as slow
use Rattle.hdlc_channel.specs.SlowText.{flag}
use Rattle.link_sender.specs.Channels.{slow_left}
use Rattle.link_sender.proofs.ChannelSteps.{slow_split}
use Rattle.link_run_delay.proofs.StreamOctets.{GoesOn}

-- ---- as many bits as are asked for

length-flags : (n : ℕ) → length (repeat n flag) ≡ 8 * n
length-flags zero = refl
length-flags (suc n) = let rest = length-flags n in length-append flag (repeat n flag) ∙ omega arith

length-slow : (c : slow.Channel) (n : ℕ) → length (slow.slow_stream c n) ≡ n
unfolding slow.slow_stream
length-slow c n =
    let behind = flat_map slow.frame_bits c.queue ++ repeat n flag in
    let one = length-append c.rest behind in
    let other = length-append (flat_map slow.frame_bits c.queue) (repeat n flag) in
    length-take-le n (c.rest ++ behind) (omega (arith, one, other, length-flags n))

length-fast : (c : fast.Channel) (n : ℕ) → length (fast.fast_stream c n) ≡ n
unfolding fast.fast_stream
length-fast c n =
    let behind = flat_map fast.frame_bits c.queue ++ replicate n true in
    let one = length-append c.rest behind in
    let other = length-append (flat_map fast.frame_bits c.queue) (replicate n true) in
    length-take-le n (c.rest ++ behind) (omega (arith, one, other, length-replicate {A = Bool} n true))

-- ---- and then more

pub slow_goes_on : (c : slow.Channel) → GoesOn (slow.slow_stream c)
slow_goes_on c = record {
  long = length-slow c;
  front = λ k count.
      let e : 8 * (k + count) ≡ 8 * k + 8 * count = omega arith in
      ap (λ n. take (8 * k) (slow.slow_stream c n)) e ∙ ap (take (8 * k)) (slow_split k (8 * count) c)
      ∙ take_at (slow.slow_stream c (8 * k)) (slow.slow_stream (slow_left k c) (8 * count)) (8 * k) (length-slow c (8 * k));
}

pub fast_goes_on : (c : fast.Channel) → GoesOn (fast.fast_stream c)
fast_goes_on c = record {
  long = length-fast c;
  front = λ k count.
      let e : 8 * (k + count) ≡ 8 * k + 8 * count = omega arith in
      ap (λ n. take (8 * k) (fast.fast_stream c n)) e ∙ ap (take (8 * k)) (fast_stream-add (8 * k) (8 * count) c)
      ∙ take_at (fast.fast_stream c (8 * k)) (fast.fast_stream (fast.after_bits (8 * k) c) (8 * count)) (8 * k) (length-fast c (8 * k));
}

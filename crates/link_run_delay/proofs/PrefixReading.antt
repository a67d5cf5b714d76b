-- What is read of the first octets of a stream's channels.
use Rattle.std.proofs.Common.{◌≡◌, ℕ, ◌*◌, ltb, Bool, List, ◌++◌, length, take, map, replicate, All, Some, None, sym, ap, ◌∙◌}
use Rattle.std.specs.List.{filter, flat_map}
use Rattle.ethernet_channel.specs.Codes.{idle}
use Rattle.ethernet_channel.specs.Events.{events_at}
use Rattle.ethernet_channel.specs.FastStream as fast
use Rattle.ethernet_channel.specs.Written.{found_in_frame, queued}
use Rattle.hdlc_channel.specs.Bits.{bits_of}
use Rattle.hdlc_channel.specs.SlowLaw.{frame_answers, slow_answers}
use Rattle.hdlc_channel.specs.SlowStream as slow
use Rattle.hdlc_channel.specs.SlowText.{flag}
use Rattle.link_run_delay.specs.ChannelsArePrefixes.{AreFirstFast, AreFirstSlow}
use Rattle.link_run_delay.specs.PrefixesAreRead.{FastIsRead, PrefixesAreRead, SlowIsRead, between, endings, fast_place, places}
use Rattle.link_sender.specs.Stream.{Stream}
use Rattle.link_run_delay.proofs.StreamChannels.{fast_goes_on, slow_goes_on}
use Rattle.link_run_delay.proofs.StreamOctets.{GoesOn, bits_of-octets_from, octets_from}
use Rattle.link_run_delay.proofs.WrittenEndings.{fast_below, length_idle, slow_below}

-- the laws of the channels
abbrev SlowStreamIsRead : Type 0
SlowStreamIsRead =
    (frames : List (List ℕ)) (n : ℕ) → All slow.IsFrame frames
    → slow_answers (slow.slow_stream (record { rest = flag; queue = frames }) n) n ≡ filter (λ a. ltb a.at n) (frame_answers 8 (map Some frames))

abbrev FastStreamIsRead : Type 0
FastStreamIsRead =
    (frames : List (List ℕ)) → All fast.IsFrame frames → (n : ℕ)
    → events_at (fast.fast_stream (queued frames) n) ≡ take n (replicate 5 None ++ (flat_map found_in_frame frames ++ replicate n None))

-- the bits of the first octets of a stream are its first bits
first_bits : (stream : ℕ → List Bool) (goes_on : GoesOn stream) (octets : List ℕ) → octets ≡ octets_from stream goes_on 0 (length octets)
    → bits_of octets ≡ stream (length (bits_of octets))
first_bits stream goes_on octets first =
    let k = length octets in
    let bits : bits_of octets ≡ stream (8 * k) = ap bits_of first ∙ bits_of-octets_from stream goes_on k in
    bits ∙ ap stream (sym (ap length bits ∙ goes_on.long (8 * k)))

slow_read : SlowStreamIsRead → (σ : Stream) (octets : List ℕ) → All slow.IsFrame σ.slow → AreFirstSlow σ octets → SlowIsRead σ octets
slow_read law σ octets each first =
    let bits = bits_of octets in
    let n = length bits in
    let channel : slow.Channel = record { rest = flag; queue = σ.slow } in
    ap (λ b. slow_answers b n) (first_bits (slow.slow_stream channel) (slow_goes_on channel) octets first)
    ∙ law σ.slow n each ∙ slow_below n σ.slow

fast_read : FastStreamIsRead → (σ : Stream) (octets : List ℕ) → All fast.IsFrame σ.fast → AreFirstFast σ octets → FastIsRead σ octets
fast_read law σ octets each first =
    let bits = bits_of octets in
    let n = length bits in
    let channel : fast.Channel = queued σ.fast in
    let five : 5 ≡ length idle = sym length_idle in
    ap (λ b. places 0 (events_at b)) (first_bits (fast.fast_stream channel) (fast_goes_on channel) octets first)
    ∙ ap (places 0) (law σ.fast each n) ∙ fast_below n σ.fast
    ∙ ap (λ k. map fast_place (between 0 n (endings fast.frame_bits k k σ.fast))) five

pub PrefixesAreRead-holds : SlowStreamIsRead → FastStreamIsRead → PrefixesAreRead
PrefixesAreRead-holds slow_law fast_law = record { slow = slow_read slow_law; fast = fast_read fast_law }

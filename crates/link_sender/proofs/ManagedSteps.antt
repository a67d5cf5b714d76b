-- What the channels give at a tick is what the control word of its frame carries.
use Rattle.std.proofs.Common.{◌≡◌, ℕ, zero, suc, ◌+◌, ◌*◌, ltb, Bool, true, cond, [], ◌∷◌, ◌++◌, length, length-append, drop, replicate, refl, sym, ap, ◌∙◌, arith}
use Rattle.std.specs.List.{flat_map, range_with_len, repeat, sum_by}
use Rattle.std.proofs.lemmas.List.{drop_at, length-replicate, length-take-le}
use Rattle.std.proofs.lemmas.List.Sums.{sum_by-append, sum_by-cons}
use Rattle.ethernet_channel.specs.Codes.{idle}
use Rattle.ethernet_channel.specs.FastStream as fast
use Rattle.ethernet_channel.proofs.WrittenFrames.{fast_stream-add}
use Rattle.hdlc_channel.specs.Bits.{octets_of}
use Rattle.hdlc_channel.specs.SlowStream as slow
use Rattle.hdlc_channel.specs.SlowText.{flag}
use Rattle.hyperframe.specs.Numbering.{frame_x}
use Rattle.link_sender.specs.Channels.{fast_left, fast_next, managed_next, slow_left, slow_next}
use Rattle.link_sender.specs.Managed.{fast_in_word, managed, octets_below, slow_in_word, slow_octets}
use Rattle.link_sender.specs.Stream.{Stream}
use Rattle.link_sender.proofs.ChannelSteps.{slow_split}

-- ---- how many octets there are

range_more : (a n : ℕ) → range_with_len a (n + 1) ≡ range_with_len a n ++ (a + n) ∷ []
range_more a zero = let e : a ≡ a + 0 = omega arith in ap (λ k. k ∷ []) e
range_more a (suc n) =
    let next : suc n + 1 ≡ suc (n + 1) = omega arith in
    let last : a + 1 + n ≡ a + suc n = omega arith in
    ap (range_with_len a) next ∙ ap (λ ks. a ∷ ks) (range_more (a + 1) n ∙ ap (λ k. range_with_len (a + 1) n ++ k ∷ []) last)

plus_none : (n : ℕ) → n + 0 ≡ n
plus_none n = omega arith

pub octets_below-more : (in_word : ℕ → ℕ) (n : ℕ) → octets_below in_word (n + 1) ≡ octets_below in_word n + in_word (frame_x n)
octets_below-more in_word n =
    let f : ℕ → ℕ = λ i. in_word (frame_x i) in
    let here : 0 + n ≡ n = omega arith in
    let one : sum_by f ((0 + n) ∷ []) ≡ f n = sum_by-cons f (0 + n) [] ∙ ap (λ k. f k + 0) here ∙ plus_none (f n) in
    ap (sum_by f) (range_more 0 n) ∙ sum_by-append f (range_with_len 0 n) ((0 + n) ∷ []) ∙ ap (λ v. sum_by f (range_with_len 0 n) + v) one

-- ---- the streams have as many bits as are asked for

length-flags : (n : ℕ) → length (repeat n flag) ≡ 8 * n
length-flags zero = refl
length-flags (suc n) = let rest = length-flags n in length-append flag (repeat n flag) ∙ omega arith

length-slow : (c : slow.Channel) (n : ℕ) → length (slow.slow_stream c n) ≡ n
unfolding slow.slow_stream
length-slow c n =
    let behind = flat_map slow.frame_bits c.queue ++ repeat n flag in
    let one = length-append c.rest behind in
    let other = length-append (flat_map slow.frame_bits c.queue) (repeat n flag) in
    length-take-le n (c.rest ++ behind) (omega (arith, one, other, length-flags n))

length-fast : (c : fast.Channel) (n : ℕ) → length (fast.fast_stream c n) ≡ n
unfolding fast.fast_stream
length-fast c n =
    let behind = flat_map fast.frame_bits c.queue ++ replicate n true in
    let one = length-append c.rest behind in
    let other = length-append (flat_map fast.frame_bits c.queue) (replicate n true) in
    length-take-le n (c.rest ++ behind) (omega (arith, one, other, length-replicate {A = Bool} n true))

-- ---- the octets of a channel from octet k on

slow_after : (c : slow.Channel) (k count : ℕ) → octets_of (drop (8 * k) (slow.slow_stream c (8 * (k + count)))) ≡ slow_next count (slow_left k c)
unfolding slow_next
slow_after c k count =
    let all : 8 * (k + count) ≡ 8 * k + 8 * count = omega arith in
    ap (λ n. octets_of (drop (8 * k) (slow.slow_stream c n))) all ∙ ap (λ bits. octets_of (drop (8 * k) bits)) (slow_split k (8 * count) c)
    ∙ ap octets_of (drop_at (slow.slow_stream c (8 * k)) (slow.slow_stream (slow_left k c) (8 * count)) (8 * k) (length-slow c (8 * k)))

fast_after : (c : fast.Channel) (k count : ℕ) → octets_of (drop (8 * k) (fast.fast_stream c (8 * (k + count)))) ≡ fast_next count (fast_left k c)
unfolding fast_next fast_left
fast_after c k count =
    let all : 8 * (k + count) ≡ 8 * k + 8 * count = omega arith in
    ap (λ n. octets_of (drop (8 * k) (fast.fast_stream c n))) all ∙ ap (λ bits. octets_of (drop (8 * k) bits)) (fast_stream-add (8 * k) (8 * count) c)
    ∙ ap octets_of (drop_at (fast.fast_stream c (8 * k)) (fast.fast_stream (fast.after_bits (8 * k) c) (8 * count)) (8 * k) (length-fast c (8 * k)))

pub managed_is : (Y : ℕ) (σ : Stream) (n : ℕ) (slow_channel : slow.Channel) (fast_channel : fast.Channel)
    → slow_channel ≡ slow_left (octets_below (slow_in_word Y σ.announcement) n) (record { rest = flag; queue = σ.slow })
    → fast_channel ≡ fast_left (octets_below (fast_in_word Y σ.announcement) n) (record { rest = idle; queue = σ.fast })
    → managed_next Y σ.announcement (frame_x n) slow_channel fast_channel ≡ managed Y σ n
unfolding managed
managed_is Y σ n slow_channel fast_channel slow_is fast_is =
    let a = σ.announcement in
    let x = frame_x n in
    let slow_count = slow_in_word Y a x in
    let fast_count = fast_in_word Y a x in
    let slow_start : slow.Channel = record { rest = flag; queue = σ.slow } in
    let fast_start : fast.Channel = record { rest = idle; queue = σ.fast } in
    ap (λ c. cond (ltb 0 slow_count) (slow_next slow_count c) (fast_next fast_count fast_channel)) slow_is
    ∙ ap (λ c. cond (ltb 0 slow_count) (slow_next slow_count (slow_left (octets_below (slow_in_word Y a) n) slow_start)) (fast_next fast_count c)) fast_is
    ∙ ap (λ o. cond (ltb 0 slow_count) o (fast_next fast_count (fast_left (octets_below (fast_in_word Y a) n) fast_start))) (sym (slow_after slow_start (octets_below (slow_in_word Y a) n) slow_count))
    ∙ ap (λ o. cond (ltb 0 slow_count) (slow_octets σ (octets_below (slow_in_word Y a) n) slow_count) o) (sym (fast_after fast_start (octets_below (fast_in_word Y a) n) fast_count))

-- The management channels, octet after octet.
use Rattle.std.proofs.Common.{◌≡◌, ℕ, zero, suc, ◌+◌, ◌*◌, ◌/◌, ◌%◌, ◌==◌, ◌<◌, List, [], ◌∷◌, ◌++◌, All, append_assoc, refl, sym, ap, ◌∙◌, subst, arith}
use Rattle.std.proofs.lemmas.List.{append-nil}
use Rattle.std.proofs.lemmas.List.Elements.{All-append, All-cons, All-nil}
use Rattle.std.proofs.lemmas.List.Concat.{flat_map-append}
use Rattle.ethernet_channel.specs.Bits as ethernet_bits
use Rattle.ethernet_channel.specs.FastStream as fast
use Rattle.ethernet_channel.proofs.WrittenFrames.{fast_stream-add}
use Rattle.hdlc_channel.specs.Bits.{bits_of, low_bits, octet_bits, octets_of}
use Rattle.hdlc_channel.specs.SlowStream as slow
use Rattle.hdlc_channel.proofs.Contents.{octets_of-bits_of}
use Rattle.hdlc_channel.proofs.Streams.{goes_on}
use Rattle.link_sender.specs.Channels.{fast_left, fast_next, slow_left, slow_next}

-- ---- the slow channel

pub slow_left-one : (c : slow.Channel) → slow_left 1 c ≡ slow.after_eight c
unfolding slow_left
slow_left-one c = refl

pub slow_left-add : (i k : ℕ) (c : slow.Channel) → slow_left (i + k) c ≡ slow_left k (slow_left i c)
unfolding slow_left
slow_left-add zero k c = let e : 0 + k ≡ k = omega arith in ap (λ n. slow_left n c) e
slow_left-add (suc i) k c = let e : suc i + k ≡ suc (i + k) = omega arith in ap (λ n. slow_left n c) e ∙ slow_left-add i k (slow.after_eight c)

no_bits : (c : slow.Channel) → slow.slow_stream c 0 ≡ []
unfolding slow.slow_stream
no_bits c = refl

-- the stream goes on with that of the channel that is left
pub slow_split : (i n : ℕ) (c : slow.Channel) → slow.slow_stream c (8 * i + n) ≡ slow.slow_stream c (8 * i) ++ slow.slow_stream (slow_left i c) n
unfolding slow_left
slow_split zero n c =
    let e : 8 * 0 + n ≡ n = omega arith in
    ap (slow.slow_stream c) e ∙ ap (λ front. front ++ slow.slow_stream c n) (sym (no_bits c))
slow_split (suc i) n c =
    let all : 8 * suc i + n ≡ 8 + (8 * i + n) = omega arith in
    let front : 8 * suc i ≡ 8 + 8 * i = omega arith in
    let next = slow.after_eight c in
    ap (slow.slow_stream c) all ∙ goes_on c (8 * i + n) ∙ ap (λ rest. slow.slow_stream c 8 ++ rest) (slow_split i n next)
    ∙ sym (append_assoc (slow.slow_stream c 8) (slow.slow_stream next (8 * i)) (slow.slow_stream (slow_left i next) n))
    ∙ ap (λ bits. bits ++ slow.slow_stream (slow_left i next) n) (sym (goes_on c (8 * i)) ∙ ap (slow.slow_stream c) (sym front))

-- ---- octets of it

bits_of-more : (octets : List ℕ) (octet : ℕ) → bits_of (octets ++ octet ∷ []) ≡ bits_of octets ++ octet_bits octet
bits_of-more octets octet = flat_map-append octet_bits octets (octet ∷ []) ∙ ap (λ last. bits_of octets ++ last) (append-nil (octet_bits octet))

-- One octet more.
pub slow_more : (c : slow.Channel) (i : ℕ) (octets : List ℕ) (octet : ℕ) → bits_of octets ≡ slow.slow_stream c (8 * i) → octet_bits octet ≡ slow.slow_stream (slow_left i c) 8
    → bits_of (octets ++ octet ∷ []) ≡ slow.slow_stream c (8 * (i + 1))
slow_more c i octets octet before next =
    let all : 8 * i + 8 ≡ 8 * (i + 1) = omega arith in
    bits_of-more octets octet ∙ ap (λ front. front ++ octet_bits octet) before ∙ ap (λ last. slow.slow_stream c (8 * i) ++ last) next
    ∙ sym (slow_split i 8 c) ∙ ap (slow.slow_stream c) all

pub slow_whole : (c : slow.Channel) (i : ℕ) (octets : List ℕ) → All (λ x. x < 256) octets → bits_of octets ≡ slow.slow_stream c (8 * i) → octets ≡ slow_next i c
unfolding slow_next
slow_whole c i octets small bits = sym (octets_of-bits_of octets small) ∙ ap octets_of bits

-- ---- the fast channel

low_bits-same : (k n : ℕ) → ethernet_bits.low_bits k n ≡ low_bits k n
unfolding ethernet_bits.low_bits low_bits
low_bits-same zero n = refl
low_bits-same (suc k) n = ap (λ bits. (n % 2 == 1) ∷ bits) (low_bits-same k (n / 2))

pub after_bits-add : (m n : ℕ) (c : fast.Channel) → fast.after_bits (m + n) c ≡ fast.after_bits n (fast.after_bits m c)
unfolding fast.after_bits
after_bits-add zero n c = let e : 0 + n ≡ n = omega arith in ap (λ k. fast.after_bits k c) e
after_bits-add (suc m) n c = let e : suc m + n ≡ suc (m + n) = omega arith in ap (λ k. fast.after_bits k c) e ∙ after_bits-add m n (fast.after_bit c.rest c.queue)

pub fast_left-add : (i k : ℕ) (c : fast.Channel) → fast_left (i + k) c ≡ fast_left k (fast_left i c)
unfolding fast_left
fast_left-add i k c = let e : 8 * (i + k) ≡ 8 * i + 8 * k = omega arith in ap (λ n. fast.after_bits n c) e ∙ after_bits-add (8 * i) (8 * k) c

pub fast_left-one : (c : fast.Channel) → fast_left 1 c ≡ fast.after_bits 8 c
unfolding fast_left
fast_left-one c = refl

pub fast_more : (c : fast.Channel) (i : ℕ) (octets : List ℕ) (octet : ℕ) → bits_of octets ≡ fast.fast_stream c (8 * i) → ethernet_bits.octet_bits octet ≡ fast.fast_stream (fast_left i c) 8
    → bits_of (octets ++ octet ∷ []) ≡ fast.fast_stream c (8 * (i + 1))
unfolding fast_left
fast_more c i octets octet before next =
    let all : 8 * i + 8 ≡ 8 * (i + 1) = omega arith in
    bits_of-more octets octet ∙ ap (λ front. front ++ octet_bits octet) before ∙ ap (λ last. fast.fast_stream c (8 * i) ++ last) (sym (low_bits-same 8 octet) ∙ next)
    ∙ sym (fast_stream-add (8 * i) 8 c) ∙ ap (fast.fast_stream c) all

pub fast_whole : (c : fast.Channel) (i : ℕ) (octets : List ℕ) → All (λ x. x < 256) octets → bits_of octets ≡ fast.fast_stream c (8 * i) → octets ≡ fast_next i c
unfolding fast_next
fast_whole c i octets small bits = sym (octets_of-bits_of octets small) ∙ ap octets_of bits

-- before any octet
pub slow_none : (c : slow.Channel) → [] ≡ slow.slow_stream c (8 * 0)
slow_none c = sym (no_bits c)

pub fast_none : (c : fast.Channel) → [] ≡ fast.fast_stream c (8 * 0)
unfolding fast.fast_stream
fast_none c = refl

pub slow_left-none : (c : slow.Channel) → c ≡ slow_left 0 c
unfolding slow_left
slow_left-none c = refl

pub fast_left-none : (c : fast.Channel) → c ≡ fast_left 0 c
unfolding fast_left fast.after_bits
fast_left-none c = refl

pub small_more : (octets more : List ℕ) (octet : ℕ) → more ≡ octets ++ octet ∷ [] → octet < 256 → All (λ x. x < 256) octets → All (λ x. x < 256) more
small_more octets more octet is low small =
    let S : ℕ → Type 0 = λ x. x < 256 in
    subst (All S) (sym is) (All-append S octets (octet ∷ []) small (All-cons S octet [] low (All-nil S)))

pub small_none : (octets : List ℕ) → octets ≡ [] → All (λ x. x < 256) octets
small_none octets is = let S : ℕ → Type 0 = λ x. x < 256 in subst (All S) (sym is) (All-nil S)

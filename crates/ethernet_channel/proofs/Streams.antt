-- What is written on the fast channel, item by item.
use Rattle.std.proofs.Common.{◌≡◌, ℕ, zero, suc, ◌+◌, ◌-◌, ◌<◌, Bool, true, false, List, [], ◌∷◌, ◌++◌, length, take, drop, replicate, cond, eqb, Some, None, refl, sym, ◌∙◌, ap, arith, append_assoc, length-append}
use Rattle.std.specs.List.{flat_map, slice_get}
use Rattle.std.proofs.lemmas.Bool.{cond-false, ne_eqb}
use Rattle.std.proofs.lemmas.List.{append-nil, take_at, take-append-le, length-replicate, replicate-append-replicate}
use Rattle.ethernet_channel.specs.Bits.{octet_bits}
use Rattle.ethernet_channel.specs.Codes.{start, idle}
use Rattle.ethernet_channel.proofs.LowBits.{length-low_bits}
use Rattle.ethernet_channel.specs.FastStream.{Channel, nibble_bits, coded, preamble, ending, frame_bits, fast_stream, after_bit, after_bits}
use Rattle.ethernet_channel.specs.Encodes.{preamble_octets, ahead, channel_of, IsParted, IsSameOctet, Refills}
use Rattle.ethernet_channel.specs.declared.encoder.Encoder.{Encoder}
use Rattle.ethernet_channel.proofs.EncodingTable.{code_on_literals}

length_start : length start ≡ 10
unfolding start
length_start = refl

length_ending : length (ending ++ idle) ≡ 15
unfolding code_on_literals
length_ending = refl

-- ---- bits that are given

pub after_bits-drop : (bits rest : List Bool) (queue : List (List ℕ))
    → after_bits (length bits) (record { rest = bits ++ rest; queue = queue }) ≡ record { rest = rest; queue = queue }
unfolding after_bits
after_bits-drop [] rest queue = refl
after_bits-drop (b ∷ bits) rest queue = after_bits-drop bits rest queue

pub fast_stream-front : (bits rest : List Bool) (queue : List (List ℕ)) → fast_stream (record { rest = bits ++ rest; queue = queue }) (length bits) ≡ bits
unfolding fast_stream
fast_stream-front bits rest queue =
    let n = length bits in
    ap (take n) (append_assoc bits rest (flat_map frame_bits queue ++ replicate n true)) ∙ take_at bits _ n refl

-- ---- an item that is begun

first_of_frame : (frame : List ℕ) (queue : List (List ℕ)) → after_bit [] (frame ∷ queue) ≡ after_bit (frame_bits frame) queue
unfolding frame_bits start
first_of_frame frame queue = refl

first_of_idle : after_bit [] [] ≡ after_bit idle []
unfolding idle
first_of_idle = refl

pub after_bits-frame : (n : ℕ) (rest : List Bool) (frame : List ℕ) (queue : List (List ℕ)) → length rest < n
    → after_bits n (record { rest = rest ++ frame_bits frame; queue = queue }) ≡ after_bits n (record { rest = rest; queue = frame ∷ queue })
unfolding after_bits
after_bits-frame zero rest frame queue h = absurd (omega arith)
after_bits-frame (suc n) [] frame queue h = ap (after_bits n) (sym (first_of_frame frame queue))
after_bits-frame (suc n) (b ∷ rest) frame queue h = after_bits-frame n rest frame queue (omega arith)

pub after_bits-idle : (n : ℕ) (rest : List Bool) → length rest < n
    → after_bits n (record { rest = rest ++ idle; queue = [] }) ≡ after_bits n (record { rest = rest; queue = [] })
unfolding after_bits
after_bits-idle zero rest h = absurd (omega arith)
after_bits-idle (suc n) [] h = ap (after_bits n) (sym first_of_idle)
after_bits-idle (suc n) (b ∷ rest) h = after_bits-idle n rest (omega arith)

pub fast_stream-frame : (n : ℕ) (rest : List Bool) (frame : List ℕ) (queue : List (List ℕ))
    → fast_stream (record { rest = rest ++ frame_bits frame; queue = queue }) n ≡ fast_stream (record { rest = rest; queue = frame ∷ queue }) n
unfolding fast_stream
fast_stream-frame n rest frame queue =
    ap (take n)
    (append_assoc rest (frame_bits frame) (flat_map frame_bits queue ++ replicate n true)
    ∙ ap (λ xs. rest ++ xs) (sym (append_assoc (frame_bits frame) (flat_map frame_bits queue) (replicate n true))))

pub idle_ones : idle ≡ replicate 5 true
unfolding idle
idle_ones = refl

pub fast_stream-idle : (n : ℕ) (rest : List Bool)
    → fast_stream (record { rest = rest ++ idle; queue = [] }) n ≡ fast_stream (record { rest = rest; queue = [] }) n
unfolding fast_stream
fast_stream-idle n rest =
    let ones = replicate n true in
    let same : idle ++ ones ≡ ones ++ replicate 5 true =
    ap (λ xs. xs ++ ones) idle_ones ∙ replicate-append-replicate 5 n true
    ∙ ap (λ k. replicate k true) (let e : 5 + n ≡ n + 5 = omega arith in e) ∙ sym (replicate-append-replicate n 5 true) in
    ap (take n) (append_assoc rest idle ones ∙ ap (λ xs. rest ++ xs) same ∙ sym (append_assoc rest ones (replicate 5 true)))
    ∙ take-append-le n (rest ++ ones) (replicate 5 true) (omega (arith, length-append rest ones, length-replicate n true))

-- ---- a frame as octets

preamble_same : flat_map nibble_bits preamble ≡ flat_map coded (preamble_octets 7)
unfolding code_on_literals
preamble_same = refl

regroup : (s p f e i : List Bool) → (((s ++ p) ++ f) ++ e) ++ i ≡ s ++ (p ++ (f ++ (e ++ i)))
regroup s p f e i = simp append_assoc

pub frame_bits_ahead : (frame : List ℕ) → frame_bits frame ≡ start ++ ahead true 7 frame
unfolding frame_bits
frame_bits_ahead frame =
    regroup start (flat_map nibble_bits preamble) (flat_map coded frame) ending idle
    ∙ ap (λ p. start ++ (p ++ (flat_map coded frame ++ (ending ++ idle)))) preamble_same

-- ---- what is laid out next

parted_within : (e : Encoder) → e.within ≡ true → IsParted e
parted_within e h h' = absurd (cc)

-- the channel where no frame is in hand
parted_channel : (e : Encoder) → e.within ≡ false → channel_of e ≡ record { rest = e.register; queue = e.frames.queue }
parted_channel e h =
    ap (λ b. let c : Channel = record { rest = e.register ++ ahead b e.preamble e.frames.frame; queue = e.frames.queue } in c) h
    ∙ ap (λ xs. let c : Channel = record { rest = xs; queue = e.frames.queue } in c) (append-nil e.register)

same_octet : (old new old' new' : Channel) → old ≡ old' → new ≡ new' → IsSameOctet old' new' → IsSameOctet old new
same_octet old new old' new' e e' h = record {
  stream = ap (λ c. fast_stream c 8) e' ∙ h.stream ∙ ap (λ c. fast_stream c 8) (sym e);
  after = ap (after_bits 8) e' ∙ h.after ∙ ap (after_bits 8) (sym e);
}

pub begun_frame : (old new : Encoder) → old.within ≡ false → length old.register < 8 → old.frames.queue ≡ new.frames.frame ∷ new.frames.queue
    → new.register ≡ old.register ++ start → new.within ≡ true → new.preamble ≡ 7 → Refills old new
begun_frame old new between short queue register within seven =
    let frame = new.frames.frame in
    let queued = new.frames.queue in
    let c : Channel = record { rest = old.register; queue = frame ∷ queued } in
    let c' : Channel = record { rest = old.register ++ frame_bits frame; queue = queued } in
    let before : channel_of old ≡ c =
    parted_channel old between ∙ ap (λ q. let x : Channel = record { rest = old.register; queue = q } in x) queue in
    let rest : new.register ++ ahead new.within new.preamble frame ≡ old.register ++ frame_bits frame =
    ap (λ b. new.register ++ ahead b new.preamble frame) within ∙ ap (λ n. new.register ++ ahead true n frame) seven
    ∙ ap (λ xs. xs ++ ahead true 7 frame) register ∙ append_assoc old.register start (ahead true 7 frame)
    ∙ ap (λ xs. old.register ++ xs) (sym (frame_bits_ahead frame)) in
    let after : channel_of new ≡ c' = ap (λ xs. let x : Channel = record { rest = xs; queue = queued } in x) rest in
    record {
      same = same_octet (channel_of old) (channel_of new) c c' before after
          (record { stream = fast_stream-frame 8 old.register frame queued; after = after_bits-frame 8 old.register frame queued short });
      parted = parted_within new within;
      more = omega (arith, ap length register, length-append old.register start, length_start);
    }

pub begun_idle : (old new : Encoder) → old.within ≡ false → IsParted old → length old.register < 8 → old.frames.queue ≡ []
    → new.register ≡ old.register ++ idle → new.within ≡ false → new.frames ≡ old.frames → Refills old new
begun_idle old new between parted short queue register within frames =
    let c : Channel = record { rest = old.register; queue = [] } in
    let c' : Channel = record { rest = old.register ++ idle; queue = [] } in
    let before : channel_of old ≡ c =
    parted_channel old between ∙ ap (λ q. let x : Channel = record { rest = old.register; queue = q } in x) queue in
    let after : channel_of new ≡ c' =
    parted_channel new within
    ∙ ap (λ xs. let x : Channel = record { rest = xs; queue = new.frames.queue } in x) register
    ∙ ap (λ q. let x : Channel = record { rest = old.register ++ idle; queue = q } in x) (ap (λ f. f.queue) frames ∙ queue) in
    record {
      same = same_octet (channel_of old) (channel_of new) c c' before after
          (record { stream = fast_stream-idle 8 old.register; after = after_bits-idle 8 old.register short });
      parted = λ h. ap (λ f. f.frame) frames ∙ parted between;
      more = omega (arith, ap length register, length-append old.register idle, ap length idle_ones);
    }

-- more of the item in hand
went_on : (old new : Encoder) (bits rest : List Bool) → old.within ≡ true → ahead true old.preamble old.frames.frame ≡ bits ++ rest
    → ahead new.within new.preamble new.frames.frame ≡ rest → new.register ≡ old.register ++ bits → new.frames.queue ≡ old.frames.queue
    → IsSameOctet (channel_of old) (channel_of new)
went_on old new bits rest within before after register queue =
    let same : new.register ++ ahead new.within new.preamble new.frames.frame ≡ old.register ++ ahead old.within old.preamble old.frames.frame =
    ap (λ xs. new.register ++ xs) after ∙ ap (λ xs. xs ++ rest) register ∙ append_assoc old.register bits rest
    ∙ ap (λ xs. old.register ++ xs) (sym before) ∙ ap (λ b. old.register ++ ahead b old.preamble old.frames.frame) (sym within) in
    let all : channel_of new ≡ channel_of old =
    ap (λ xs. let x : Channel = record { rest = xs; queue = new.frames.queue } in x) same
    ∙ ap (λ q. let x : Channel = record { rest = old.register ++ ahead old.within old.preamble old.frames.frame; queue = q } in x) queue in
    record { stream = ap (λ c. fast_stream c 8) all; after = ap (after_bits 8) all }

pub preamble_went_on : (old new : Encoder) (octet : ℕ) → old.within ≡ true → 0 < old.preamble → new.preamble ≡ old.preamble - 1
    → octet ≡ cond (eqb new.preamble 0) 0xd5 0x55 → new.register ≡ old.register ++ coded octet → new.within ≡ old.within → new.frames ≡ old.frames
    → length (coded octet) ≡ 10 → Refills old new
preamble_went_on old new octet within some preamble is register within' frames ten =
    let rest = ahead true new.preamble old.frames.frame in
    let now : ahead true old.preamble old.frames.frame ≡ coded octet ++ rest = by_count old.preamble new.preamble octet some preamble is in
    record {
      same = went_on old new (coded octet) rest within now
          (ap (λ b. ahead b new.preamble new.frames.frame) (within' ∙ within) ∙ ap (λ f. ahead true new.preamble f.frame) frames) register (ap (λ f. f.queue) frames);
      parted = parted_within new (within' ∙ within);
      more = omega (arith, ap length register, length-append old.register (coded octet), ten);
    }
  where
    by_count : (n m octet : ℕ) → 0 < n → m ≡ n - 1 → octet ≡ cond (eqb m 0) 0xd5 0x55
        → ahead true n old.frames.frame ≡ coded octet ++ ahead true m old.frames.frame
    by_count zero m octet h e is = absurd (omega arith)
    by_count (suc zero) m octet h e is =
        let none : m ≡ 0 = omega arith in
        let last : octet ≡ 0xd5 = is ∙ ap (λ k. cond (eqb k 0) 0xd5 0x55) none in
        append_assoc (coded 0xd5) [] (flat_map coded old.frames.frame ++ (ending ++ idle))
        ∙ ap (λ k. coded k ++ (flat_map coded old.frames.frame ++ (ending ++ idle))) (sym last)
        ∙ ap (λ k. coded octet ++ ahead true k old.frames.frame) (sym none)
    by_count (suc (suc n)) m octet h e is =
        let left : m ≡ suc n = omega arith in
        let filling : octet ≡ 0x55 = is ∙ ap (λ k. cond (eqb k 0) 0xd5 0x55) left ∙ cond-false (eqb (suc n) 0) 0xd5 0x55 (ne_eqb (suc n) 0 (λ z. omega arith)) in
        append_assoc (coded 0x55) (flat_map coded (preamble_octets (suc n))) (flat_map coded old.frames.frame ++ (ending ++ idle))
        ∙ ap (λ k. coded k ++ ahead true (suc n) old.frames.frame) (sym filling)
        ∙ ap (λ k. coded octet ++ ahead true k old.frames.frame) (sym left)

first_octet : (frame : List ℕ) (octet : ℕ) → slice_get frame 0 ≡ Some octet → frame ≡ octet ∷ drop 1 frame
first_octet [] octet e = absurd (cc)
first_octet (x ∷ frame) octet e = let same : x ≡ octet = cc in ap (λ k. k ∷ frame) same

no_octet : (frame : List ℕ) → slice_get frame 0 ≡ None → frame ≡ []
no_octet [] e = refl
no_octet (x ∷ frame) e = absurd (cc)

pub frame_went_on : (old new : Encoder) (octet : ℕ) → old.within ≡ true → old.preamble ≡ 0 → slice_get old.frames.frame 0 ≡ Some octet
    → new.frames ≡ record old.frames { frame = drop 1 old.frames.frame } → new.register ≡ old.register ++ coded octet
    → new.within ≡ old.within → new.preamble ≡ old.preamble → length (coded octet) ≡ 10 → Refills old new
frame_went_on old new octet within none is frames register within' preamble ten =
    let frame = old.frames.frame in
    let left = drop 1 frame in
    let rest = ahead true 0 left in
    let now : ahead true old.preamble frame ≡ coded octet ++ rest =
    ap (λ n. ahead true n frame) none ∙ ap (λ f. flat_map coded f ++ (ending ++ idle)) (first_octet frame octet is)
    ∙ append_assoc (coded octet) (flat_map coded left) (ending ++ idle) in
    let then : ahead new.within new.preamble new.frames.frame ≡ rest =
    ap (λ b. ahead b new.preamble new.frames.frame) (within' ∙ within) ∙ ap (λ n. ahead true n new.frames.frame) (preamble ∙ none)
    ∙ ap (λ f. ahead true 0 f.frame) frames in
    record {
      same = went_on old new (coded octet) rest within now then register (ap (λ f. f.queue) frames);
      parted = parted_within new (within' ∙ within);
      more = omega (arith, ap length register, length-append old.register (coded octet), ten);
    }

pub frame_ended : (old new : Encoder) → old.within ≡ true → old.preamble ≡ 0 → slice_get old.frames.frame 0 ≡ None
    → new.frames ≡ record old.frames { frame = drop 1 old.frames.frame } → new.register ≡ old.register ++ (ending ++ idle)
    → new.within ≡ false → Refills old new
frame_ended old new within none is frames register over =
    let frame = old.frames.frame in
    let empty : frame ≡ [] = no_octet frame is in
    let now : ahead true old.preamble frame ≡ (ending ++ idle) ++ [] =
    ap (λ n. ahead true n frame) none ∙ ap (λ f. flat_map coded f ++ (ending ++ idle)) empty ∙ sym (append-nil (ending ++ idle)) in
    record {
      same = went_on old new (ending ++ idle) [] within now (ap (λ b. ahead b new.preamble new.frames.frame) over) register (ap (λ f. f.queue) frames);
      parted = λ h. ap (λ f. f.frame) frames ∙ ap (drop 1) empty;
      more = omega (arith, ap length register, length-append old.register (ending ++ idle), length_ending);
    }

-- ---- an octet is taken

pub taken : (e : Encoder) (octet : ℕ) (left : List Bool) → e.register ≡ octet_bits octet ++ left
    → (after_bits 8 (channel_of e) ≡ channel_of (record e { register = left })) × (fast_stream (channel_of e) 8 ≡ octet_bits octet)
taken e octet left is =
    let bits = octet_bits octet in
    let more = ahead e.within e.preamble e.frames.frame in
    let eight : length bits ≡ 8 = length-low_bits 8 octet in
    let c : Channel = record { rest = bits ++ (left ++ more); queue = e.frames.queue } in
    let whole : channel_of e ≡ c =
    ap (λ xs. let x : Channel = record { rest = xs; queue = e.frames.queue } in x) (ap (λ xs. xs ++ more) is ∙ append_assoc bits left more) in (
      ap (after_bits 8) whole ∙ ap (λ n. after_bits n c) (sym eight) ∙ after_bits-drop bits (left ++ more) e.frames.queue,
      ap (λ x. fast_stream x 8) whole ∙ ap (λ n. fast_stream c n) (sym eight) ∙ fast_stream-front bits (left ++ more) e.frames.queue,
    )

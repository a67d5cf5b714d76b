-- What is found in a written stream, item by item.
use Rattle.std.proofs.Common.{◌≡◌, ℕ, zero, suc, ◌+◌, ◌-◌, ◌*◌, ◌<◌, ◌≤◌, Bool, true, List, [], ◌∷◌, ◌++◌, length, take, drop, map, replicate, Option, Some, None, refl, sym, ◌∙◌, ap, arith, append_assoc, zero-add, length-append, length-take}
use Rattle.std.specs.List.{All, flat_map}
use Rattle.std.proofs.lemmas.List.{append-nil, length-map, length-replicate, map-append, take_at, drop_at, take-append-le, replicate-append-replicate}
use Rattle.std.proofs.lemmas.List.Elements.{All-nil, All-cons, All-head, All-tail}
use Rattle.ethernet_channel.specs.Codes.{groups, start, idle, five, delimiter, terminate, code_of}
use Rattle.ethernet_channel.specs.Events.{Found, Answer, Reading, first_answer, after_start, at_none, quiet, at_last, read, events_at}
use Rattle.ethernet_channel.specs.FastStream.{Channel, nibble_bits, coded, preamble, ending, frame_bits, fast_stream, after_bit, after_bits, IsFrame}
use Rattle.ethernet_channel.specs.Nibbles.{nibbles_in}
use Rattle.ethernet_channel.specs.Written.{whole_frame, found_in_frame, item_bits, found_in_item, IsItem, written, found_in, queued}
use Rattle.ethernet_channel.proofs.EncodingTable.{code_on_literals}
use Rattle.ethernet_channel.proofs.NibbleLemmas.{length-nibbles_in}
use Rattle.ethernet_channel.proofs.Cuts.{read_none, read_some, after, cut_of}
use Rattle.ethernet_channel.proofs.Prefixes.{events_at-take}
use Rattle.ethernet_channel.proofs.Streams.{idle_ones, fast_stream-frame, fast_stream-idle}
use Rattle.ethernet_channel.proofs.WrittenGroups.{length-nibbles, coded_nibbles, are_nibbles, frame_groups, found_at_reset, after_start_bits, frame_groups_are}

-- ---- J K after 1s

start_after_ones : (m : ℕ) (more : List Bool) → after_start (replicate m true ++ (start ++ more)) ≡ Some more
unfolding start
start_after_ones zero more = refl
start_after_ones (suc zero) more = refl
start_after_ones (suc (suc zero)) more = refl
start_after_ones (suc (suc (suc m))) more = start_after_ones (suc (suc m)) more

no_start_in_ones : (m : ℕ) → after_start (replicate m true) ≡ None
unfolding start
no_start_in_ones zero = refl
no_start_in_ones (suc zero) = refl
no_start_in_ones (suc (suc zero)) = refl
no_start_in_ones (suc (suc (suc m))) = no_start_in_ones (suc (suc m))

at_none_is : (bits : List Bool) → at_none bits ≡ replicate (length bits) None
at_none_is [] = refl
at_none_is (bit ∷ bits) = ap (λ xs. None ∷ xs) (at_none_is bits)

-- ---- a frame after 1s

-- a frame up to its R
to_end : List ℕ → List Bool
to_end frame = start ++ flat_map nibble_bits preamble ++ flat_map coded frame ++ ending

frame_split : (frame : List ℕ) → frame_bits frame ≡ start ++ after_start_bits frame
unfolding frame_bits
frame_split frame = regroup start (flat_map nibble_bits preamble) (flat_map coded frame) ending idle
  where
    regroup : (s p f e i : List Bool) → (((s ++ p) ++ f) ++ e) ++ i ≡ s ++ (p ++ (f ++ (e ++ i)))
    regroup s p f e i = simp append_assoc

frame_ends : (frame : List ℕ) → frame_bits frame ≡ to_end frame ++ idle
unfolding frame_bits to_end
frame_ends frame = refl

length_preamble : length (flat_map nibble_bits preamble) ≡ 70
unfolding code_on_literals
length_preamble = refl

length_last : length (ending ++ idle) ≡ 15
unfolding code_on_literals
length_last = refl

length_start : length start ≡ 10
unfolding start
length_start = refl

length_idle : length idle ≡ 5
unfolding idle
length_idle = refl

length-coded : (frame : List ℕ) → All (λ octet. octet < 256) frame → length (flat_map coded frame) ≡ 10 * length frame
length-coded frame octets =
    omega (arith, ap length (coded_nibbles frame), length-nibbles (nibbles_in frame) (are_nibbles frame octets), length-nibbles_in frame)

length-rest : (frame : List ℕ) → All (λ octet. octet < 256) frame → length (after_start_bits frame) ≡ 85 + 10 * length frame
length-rest frame octets =
    let p = flat_map nibble_bits preamble in
    let f = flat_map coded frame in
    omega (arith, length-append p (f ++ (ending ++ idle)), length-append f (ending ++ idle), length_preamble, length_last, length-coded frame octets)

length-frame_bits : (frame : List ℕ) → All (λ octet. octet < 256) frame → length (frame_bits frame) ≡ 95 + 10 * length frame
length-frame_bits frame octets =
    omega (arith, ap length (frame_split frame), length-append start (after_start_bits frame), length_start, length-rest frame octets)

length-to_end : (frame : List ℕ) → All (λ octet. octet < 256) frame → length (to_end frame) ≡ 90 + 10 * length frame
length-to_end frame octets =
    omega (arith, ap length (frame_ends frame), length-append (to_end frame) idle, length_idle, length-frame_bits frame octets)

length-groups_to_end : (frame : List ℕ) → suc (length (frame_groups (nibbles_in frame) ++ terminate ∷ [])) ≡ 16 + 2 * length frame
length-groups_to_end frame =
    let fives = replicate 13 five in
    let codes = map code_of (nibbles_in frame) in
    omega (
      arith,
      length-append (fives ++ delimiter ∷ codes) (terminate ∷ []),
      length-append fives (delimiter ∷ codes),
      length-replicate 13 five,
      length-map (nibbles_in frame) code_of,
      length-nibbles_in frame,
    )

read_idle : read idle ≡ quiet idle
read_idle = read_none idle (ap after_start idle_ones ∙ no_start_in_ones 5)

-- what is found before the event
nones : (m n k : ℕ) (found : Found) → n ≡ m + k → replicate n None ++ Some found ∷ replicate 5 None ≡ replicate m None ++ (replicate k None ++ Some found ∷ replicate 5 None)
nones m n k found e =
    ap (λ j. replicate j None ++ Some found ∷ replicate 5 None) e
    ∙ ap (λ xs. xs ++ Some found ∷ replicate 5 None) (sym (replicate-append-replicate m k None))
    ∙ append_assoc (replicate m None) (replicate k None) (Some found ∷ replicate 5 None)

read_frame_after_ones : (m : ℕ) (frame : List ℕ) → IsFrame frame
    → read (replicate m true ++ frame_bits frame) ≡ record { at_bits = at_none (replicate m true) ++ found_in_frame frame; since = replicate 5 true }
read_frame_after_ones m frame h =
    let before = replicate m true in
    let bits = before ++ frame_bits frame in
    let rest = after_start_bits frame in
    let front = before ++ to_end frame in
    let a : Answer = record { groups = suc (length (frame_groups (nibbles_in frame) ++ terminate ∷ [])); found = whole_frame frame } in
    let began : after_start bits ≡ Some rest = ap (λ xs. after_start (before ++ xs)) (frame_split frame) ∙ start_after_ones m rest in
    let first : first_answer [] (groups rest) ≡ Some a =
    ap (first_answer []) (frame_groups_are frame h.octets) ∙ found_at_reset frame (groups idle) h.octets h.some h.few in
    let whole : bits ≡ front ++ idle = ap (λ xs. before ++ xs) (frame_ends frame) ∙ sym (append_assoc before (to_end frame) idle) in
    let size = length frame in
    let bits_long : length bits ≡ m + (95 + 10 * size) =
    omega (arith, length-append before (frame_bits frame), length-replicate m true, length-frame_bits frame h.octets) in
    let front_long : length front ≡ m + (90 + 10 * size) =
    omega (arith, length-append before (to_end frame), length-replicate m true, length-to_end frame h.octets) in
    let end : length bits - length rest + 5 * a.groups ≡ length front =
    omega (arith, bits_long, front_long, length-rest frame h.octets, length-groups_to_end frame) in
    let n = length bits - length rest + 5 * a.groups in
    let taken : take n bits ≡ front = ap (take n) whole ∙ take_at front idle n (sym end) in
    let left : drop n bits ≡ idle = ap (drop n) whole ∙ drop_at front idle n (sym end) in
    let none : at_none (take (length front - 1) front) ≡ replicate (length front - 1) None =
    at_none_is (take (length front - 1) front)
    ∙ ap (λ k. replicate k None) (let e : length (take (length front - 1) front) ≡ length front - 1 = omega (arith, length-take (length front - 1) front) in e) in
    let last : at_none idle ≡ replicate 5 None = at_none_is idle ∙ ap (λ k. replicate k None) length_idle in
    let split : length front - 1 ≡ m + (length (frame_bits frame) - 6) = omega (arith, front_long, length-frame_bits frame h.octets) in
    let ones_none : replicate m None ≡ at_none before = sym (at_none_is before ∙ ap (λ k. replicate k None) (length-replicate m true)) in
    let all : at_none (take (length front - 1) front) ++ Some (whole_frame frame) ∷ at_none idle ≡ at_none before ++ found_in_frame frame =
    ap (λ xs. xs ++ Some (whole_frame frame) ∷ at_none idle) none
    ∙ ap (λ xs. replicate (length front - 1) None ++ Some (whole_frame frame) ∷ xs) last
    ∙ nones m (length front - 1) (length (frame_bits frame) - 6) (whole_frame frame) split
    ∙ ap (λ xs. xs ++ found_in_frame frame) ones_none in
    read_some bits rest a began first
    ∙ ap (λ xs. at_last xs (whole_frame frame) (read (drop n bits))) taken
    ∙ ap (λ xs. at_last front (whole_frame frame) (read xs)) left
    ∙ ap (at_last front (whole_frame frame)) read_idle
    ∙ ap (λ xs. let r : Reading = record { at_bits = xs; since = idle } in r) all
    ∙ ap (λ xs. let r : Reading = record { at_bits = at_none before ++ found_in_frame frame; since = xs } in r) idle_ones

read_idle_after_ones : (m : ℕ) → read (replicate m true ++ idle) ≡ record { at_bits = at_none (replicate m true) ++ replicate 5 None; since = replicate (m + 5) true }
read_idle_after_ones m =
    let before = replicate m true in
    let same : before ++ idle ≡ replicate (m + 5) true = ap (λ xs. before ++ xs) idle_ones ∙ replicate-append-replicate m 5 true in
    let none : at_none (replicate (m + 5) true) ≡ at_none before ++ replicate 5 None =
    ap at_none (sym same) ∙ map-append (λ _. None) before idle
    ∙ ap (λ xs. at_none before ++ xs) (at_none_is idle ∙ ap (λ k. replicate k None) length_idle) in
    ap read same ∙ read_none (replicate (m + 5) true) (no_start_in_ones (m + 5))
    ∙ ap (λ xs. let r : Reading = record { at_bits = xs; since = replicate (m + 5) true } in r) none

-- ---- items

ones_after : ℕ → Option (List ℕ) → ℕ
ones_after m None = m + 5
ones_after m (Some frame) = 5

read_item_after_ones : (m : ℕ) (item : Option (List ℕ)) → IsItem item
    → read (replicate m true ++ item_bits item) ≡ record { at_bits = at_none (replicate m true) ++ found_in_item item; since = replicate (ones_after m item) true }
unfolding ones_after
read_item_after_ones m None h = read_idle_after_ones m
read_item_after_ones m (Some frame) h = read_frame_after_ones m frame h

record Item (bits : List Bool) (m : ℕ) (item : Option (List ℕ)) : Type 0 where
  events : events_at (bits ++ item_bits item) ≡ events_at bits ++ found_in_item item
  since : (read (bits ++ item_bits item)).since ≡ replicate (ones_after m item) true

one_item : (bits : List Bool) (m : ℕ) (item : Option (List ℕ)) → IsItem item → (read bits).since ≡ replicate m true → Item bits m item
one_item bits m item h e =
    let cut = cut_of bits in
    let before = replicate m true in
    let whole = cut.ahead (item_bits item) ∙ ap (λ xs. after cut.done (read (xs ++ item_bits item))) e ∙ ap (after cut.done) (read_item_after_ones m item h) in
    record {
      events = ap (λ r. r.at_bits) whole ∙ sym (append_assoc cut.done (at_none before) (found_in_item item))
          ∙ ap (λ xs. (cut.done ++ at_none xs) ++ found_in_item item) (sym e) ∙ ap (λ xs. xs ++ found_in_item item) (sym cut.found);
      since = ap (λ r. r.since) whole;
    }

more_items : (bits : List Bool) (m : ℕ) (items : List (Option (List ℕ))) → All IsItem items → (read bits).since ≡ replicate m true
    → events_at (bits ++ written items) ≡ events_at bits ++ found_in items
more_items bits m [] all e = ap events_at (append-nil bits) ∙ sym (append-nil (events_at bits))
more_items bits m (item ∷ items) all e =
    let one = one_item bits m item (All-head IsItem item items all) e in
    ap events_at (sym (append_assoc bits (item_bits item) (written items)))
    ∙ more_items (bits ++ item_bits item) (ones_after m item) items (All-tail IsItem item items all) one.since
    ∙ ap (λ xs. xs ++ found_in items) one.events
    ∙ append_assoc (events_at bits) (found_in_item item) (found_in items)

nothing_since : (read []).since ≡ replicate 0 true
nothing_since = ap (λ r. r.since) (read_none [] refl)

nothing_found : events_at [] ≡ []
nothing_found = ap (λ r. r.at_bits) (read_none [] refl)

pub events_at-written : (items : List (Option (List ℕ))) → All IsItem items → (n : ℕ)
    → events_at (take n (written items)) ≡ take n (found_in items)
events_at-written items all n =
    events_at-take n (written items)
    ∙ ap (take n) (more_items [] 0 items all nothing_since ∙ ap (λ xs. xs ++ found_in items) nothing_found)

-- ---- queued frames

items_of : List (List ℕ) → ℕ → List (Option (List ℕ))
items_of [] n = replicate n None
items_of (frame ∷ frames) n = Some frame ∷ items_of frames n

nones_are_items : (n : ℕ) → All IsItem (replicate n None)
nones_are_items zero = All-nil IsItem
nones_are_items (suc n) = All-cons IsItem None (replicate n None) tt (nones_are_items n)

are_items : (frames : List (List ℕ)) (n : ℕ) → All IsFrame frames → All IsItem (items_of frames n)
unfolding items_of
are_items [] n all = nones_are_items n
are_items (frame ∷ frames) n all =
    All-cons IsItem (Some frame) (items_of frames n) (All-head IsFrame frame frames all) (are_items frames n (All-tail IsFrame frame frames all))

written_items : (frames : List (List ℕ)) (n : ℕ) → written (items_of frames n) ≡ flat_map frame_bits frames ++ written (replicate n None)
unfolding items_of
written_items [] n = refl
written_items (frame ∷ frames) n =
    ap (λ xs. frame_bits frame ++ xs) (written_items frames n) ∙ sym (append_assoc (frame_bits frame) (flat_map frame_bits frames) (written (replicate n None)))

found_items : (frames : List (List ℕ)) (n : ℕ) → found_in (items_of frames n) ≡ flat_map found_in_frame frames ++ found_in (replicate n None)
unfolding items_of
found_items [] n = refl
found_items (frame ∷ frames) n =
    ap (λ xs. found_in_frame frame ++ xs) (found_items frames n)
    ∙ sym (append_assoc (found_in_frame frame) (flat_map found_in_frame frames) (found_in (replicate n None)))

written_nones : (n : ℕ) → written (replicate n None) ≡ replicate n true ++ replicate (4 * n) true
written_nones zero = refl
written_nones (suc n) =
    ap (λ xs. idle ++ xs) (written_nones n) ∙ ap (λ xs. xs ++ (replicate n true ++ replicate (4 * n) true)) idle_ones
    ∙ ap (λ xs. replicate 5 true ++ xs) (replicate-append-replicate n (4 * n) true)
    ∙ replicate-append-replicate 5 (n + 4 * n) true
    ∙ ap (λ k. replicate k true) (let e : 5 + (n + 4 * n) ≡ suc n + 4 * suc n = omega arith in e)
    ∙ sym (replicate-append-replicate (suc n) (4 * suc n) true)

found_nones : (n : ℕ) → found_in (replicate n None) ≡ replicate n None ++ replicate (4 * n) None
found_nones zero = refl
found_nones (suc n) =
    ap (λ xs. replicate 5 None ++ xs) (found_nones n)
    ∙ ap (λ xs. replicate 5 None ++ xs) (replicate-append-replicate n (4 * n) None)
    ∙ replicate-append-replicate 5 (n + 4 * n) None
    ∙ ap (λ k. replicate k None) (let e : 5 + (n + 4 * n) ≡ suc n + 4 * suc n = omega arith in e)
    ∙ sym (replicate-append-replicate (suc n) (4 * suc n) None)

module _ {X : Type 0} where
  take_enough : (n : ℕ) (a b c extra : List X) → n ≤ length c → take n (a ++ (b ++ (c ++ extra))) ≡ take n (a ++ (b ++ c))
  take_enough n a b c extra h =
      let same : a ++ (b ++ (c ++ extra)) ≡ (a ++ (b ++ c)) ++ extra = simp append_assoc in
      ap (take n) same ∙ take-append-le n (a ++ (b ++ c)) extra (omega (arith, h, length-append a (b ++ c), length-append b c))

pub events_at-queued : (frames : List (List ℕ)) → All IsFrame frames → (n : ℕ)
    → events_at (fast_stream (queued frames) n) ≡ take n (replicate 5 None ++ (flat_map found_in_frame frames ++ replicate n None))
unfolding fast_stream
events_at-queued frames all n =
    let items = None ∷ items_of frames n in
    let ones_n = replicate n true in
    let bits : take n (idle ++ (flat_map frame_bits frames ++ ones_n)) ≡ take n (written items) =
    sym (ap (λ xs. take n (idle ++ xs)) (written_items frames n ∙ ap (λ xs. flat_map frame_bits frames ++ xs) (written_nones n))
    ∙ take_enough n idle (flat_map frame_bits frames) ones_n (replicate (4 * n) true) (omega (arith, length-replicate n true))) in
    let none : Option Found = None in
    let nothing : List (Option Found) = replicate n none in
    ap events_at bits
    ∙ events_at-written items (All-cons IsItem None (items_of frames n) tt (are_items frames n all)) n
    ∙ ap (λ xs. take n (replicate 5 None ++ xs)) (found_items frames n ∙ ap (λ xs. flat_map found_in_frame frames ++ xs) (found_nones n))
    ∙ take_enough n (replicate 5 None) (flat_map found_in_frame frames) nothing (replicate (4 * n) None) (omega (arith, length-replicate n none))

-- ---- the stream after some bits

-- the first bit
first_bit : List Bool → Bool
first_bit [] = true
first_bit (bit ∷ rest) = bit

rest_goes_on : (bit : Bool) (rest : List Bool) (queue : List (List ℕ)) (n : ℕ)
    → fast_stream (record { rest = bit ∷ rest; queue = queue }) (suc n) ≡ bit ∷ fast_stream (record { rest = rest; queue = queue }) n
unfolding fast_stream
rest_goes_on bit rest queue n =
    let one : replicate (suc n) true ≡ replicate n true ++ replicate 1 true =
    ap (λ k. replicate k true) (let e : suc n ≡ n + 1 = omega arith in e) ∙ sym (replicate-append-replicate n 1 true) in
    ap (λ xs. bit ∷ take n (rest ++ (flat_map frame_bits queue ++ xs))) one
    ∙ ap (λ xs. bit ∷ xs) (take_enough n rest (flat_map frame_bits queue) (replicate n true) (replicate 1 true) (omega (arith, length-replicate n true)))

frame_goes_on : (frame : List ℕ) (queue : List (List ℕ)) (n : ℕ)
    → fast_stream (record { rest = frame_bits frame; queue = queue }) (suc n) ≡ true ∷ fast_stream (record { rest = drop 1 (frame_bits frame); queue = queue }) n
unfolding frame_bits start
frame_goes_on frame queue n = rest_goes_on true (drop 1 (frame_bits frame)) queue n

idle_goes_on : (n : ℕ) → fast_stream (record { rest = idle; queue = [] }) (suc n) ≡ true ∷ fast_stream (record { rest = drop 1 idle; queue = [] }) n
unfolding idle
idle_goes_on n = rest_goes_on true (drop 1 idle) [] n

one_bit : (rest : List Bool) (queue : List (List ℕ)) (n : ℕ)
    → fast_stream (record { rest = rest; queue = queue }) (suc n) ≡ first_bit rest ∷ fast_stream (after_bit rest queue) n
unfolding first_bit
one_bit (bit ∷ rest) queue n = rest_goes_on bit rest queue n
one_bit [] (frame ∷ queue) n = sym (fast_stream-frame (suc n) [] frame queue) ∙ frame_goes_on frame queue n
one_bit [] [] n = sym (fast_stream-idle (suc n) []) ∙ idle_goes_on n

pub fast_stream-add : (m n : ℕ) (c : Channel) → fast_stream c (m + n) ≡ fast_stream c m ++ fast_stream (after_bits m c) n
unfolding after_bits fast_stream
fast_stream-add zero n c = ap (fast_stream c) (zero-add n)
fast_stream-add (suc m) n c =
    let first = first_bit c.rest in
    let next = after_bit c.rest c.queue in
    ap (fast_stream c) (let e : suc m + n ≡ suc (m + n) = omega arith in e)
    ∙ one_bit c.rest c.queue (m + n)
    ∙ ap (λ xs. first ∷ xs) (fast_stream-add m n next)
    ∙ ap (λ xs. xs ++ fast_stream (after_bits m next) n) (sym (one_bit c.rest c.queue m))

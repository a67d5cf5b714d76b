-- Frames whose octets stand one after another.
use Rattle.std.proofs.Common.{◌≡◌, ℕ, ◌+◌, ◌-◌, ◌*◌, ◌≤◌, min, List, [], ◌∷◌, ◌++◌, length, take, drop, Some, None, refl, ◌∙◌, ap, arith, length-append, length-take, length-drop}
use Rattle.std.specs.List.{All, sum_by, slice_get}
use Rattle.std.proofs.lemmas.List.{take_all, take-append-le, drop-append-le, length_push}
use Rattle.std.proofs.lemmas.List.Elements.{All-nil, All-cons, All-append, All-head, All-tail}
use Rattle.std.proofs.lemmas.List.Sums.{sum_by-cons}
use Rattle.circular_buffer.specs.Buffer.{keep_last}
use Rattle.ethernet_channel.specs.FastStream.{room_of}
use Rattle.ethernet_channel.specs.Queue.{total, cut, IsQueue}

-- the room that is taken up
pub room_taken : (lengths octets : List ℕ) → total lengths ≡ length octets → sum_by (λ frame. length frame + 2) (cut lengths octets) ≡ total lengths + 2 * length lengths
room_taken [] octets e = refl
room_taken (n ∷ lengths) octets e =
    let rest : total lengths ≡ length (drop n octets) = omega (arith, e, length-drop n octets) in
    omega (arith, e, sum_by-cons (λ frame. length frame + 2) (take n octets) (cut lengths (drop n octets)), length-take n octets, room_taken lengths (drop n octets) rest)

pub room_left : (left : ℕ) (lengths octets : List ℕ) → left + total lengths ≡ length octets
    → room_of (cut lengths (drop left octets)) ≡ 8192 - (length octets - left + 2 * length lengths)
room_left left lengths octets e =
    let rest : total lengths ≡ length (drop left octets) = omega (arith, e, length-drop left octets) in
    omega (arith, e, room_taken lengths (drop left octets) rest)

-- one more frame behind the others
pub cut-push : (lengths octets frame : List ℕ) → total lengths ≡ length octets
    → cut (lengths ++ length frame ∷ []) (octets ++ frame) ≡ cut lengths octets ++ frame ∷ []
cut-push [] [] frame e = ap (λ f. f ∷ []) (take_all (length frame) frame (omega arith))
cut-push [] (x ∷ octets) frame e = absurd (omega arith)
cut-push (n ∷ lengths) octets frame e =
    let within : n ≤ length octets = omega arith in
    let rest : total lengths ≡ length (drop n octets) = omega (arith, e, length-drop n octets) in
    let front : take n (octets ++ frame) ≡ take n octets = take-append-le n octets frame within in
    let back : drop n (octets ++ frame) ≡ drop n octets ++ frame = drop-append-le n octets frame within in
    ap (λ f. f ∷ cut (lengths ++ length frame ∷ []) (drop n (octets ++ frame))) front
    ∙ ap (λ xs. take n octets ∷ cut (lengths ++ length frame ∷ []) xs) back
    ∙ ap (λ fs. take n octets ∷ fs) (cut-push lengths (drop n octets) frame rest)

-- no frame is empty
length-total : (lengths : List ℕ) → All (λ n. 1 ≤ n) lengths → length lengths ≤ total lengths
length-total [] all = omega arith
length-total (n ∷ lengths) all =
    omega (arith, All-head (λ k. 1 ≤ k) n lengths all, length-total lengths (All-tail (λ k. 1 ≤ k) n lengths all))

total-push : (lengths : List ℕ) (n : ℕ) → total (lengths ++ n ∷ []) ≡ total lengths + n
total-push [] n = omega arith
total-push (k ∷ lengths) n = omega (arith, total-push lengths n)

-- a frame fits the two rings
pub taken_whole : (left : ℕ) (lengths octets frame : List ℕ) (a b : ℕ) → IsQueue left lengths octets a b
    → length frame + 2 ≤ room_of (cut lengths (drop left octets)) → take (min (length frame) (b - length octets)) frame ≡ frame
taken_whole left lengths octets frame a b q room =
    let free = room_left left lengths octets q.whole in
    take_all (min (length frame) (b - length octets)) frame (omega (arith, room, free, q.whole, q.in_hand, q.few_octets, q.fits))

pub kept_whole : (left : ℕ) (lengths octets frame : List ℕ) (a b : ℕ) → IsQueue left lengths octets a b
    → length frame + 2 ≤ room_of (cut lengths (drop left octets)) → 1 ≤ length frame
    → keep_last a (lengths ++ length frame ∷ []) ≡ lengths ++ length frame ∷ []
kept_whole left lengths octets frame a b q room some =
    let free = room_left left lengths octets q.whole in
    let few : length (lengths ++ length frame ∷ []) - a ≡ 0 =
    omega (arith, room, free, q.whole, q.fits, q.few_frames, some, length-total lengths q.some, length_push lengths (length frame)) in
    ap (λ n. drop n (lengths ++ length frame ∷ [])) few

pub IsQueue-push : (left : ℕ) (lengths octets frame : List ℕ) (a b : ℕ) → IsQueue left lengths octets a b
    → length frame + 2 ≤ room_of (cut lengths (drop left octets)) → 1 ≤ length frame → length frame ≤ 1522
    → IsQueue left (lengths ++ length frame ∷ []) (octets ++ frame) a b
IsQueue-push left lengths octets frame a b q room some few =
    let free = room_left left lengths octets q.whole in record {
      whole = omega (arith, q.whole, total-push lengths (length frame), length-append octets frame);
      fits = omega (arith, room, free, q.whole, q.fits, some, total-push lengths (length frame), length_push lengths (length frame));
      in_hand = q.in_hand;
      each = All-append (λ n. n ≤ 1522) lengths (length frame ∷ []) q.each (All-cons (λ n. n ≤ 1522) (length frame) [] few (All-nil (λ n. n ≤ 1522)));
      some = All-append (λ n. 1 ≤ n) lengths (length frame ∷ []) q.some (All-cons (λ n. 1 ≤ n) (length frame) [] some (All-nil (λ n. 1 ≤ n)));
      few_frames = q.few_frames;
      few_octets = q.few_octets;
    }

-- the frame in hand stays when another is appended
pub frames-push : (left : ℕ) (lengths octets frame : List ℕ) → left + total lengths ≡ length octets
    → (take left (octets ++ frame) ≡ take left octets)
    × (cut (lengths ++ length frame ∷ []) (drop left (octets ++ frame)) ≡ cut lengths (drop left octets) ++ frame ∷ [])
frames-push left lengths octets frame e =
    let within : left ≤ length octets = omega arith in
    let rest : total lengths ≡ length (drop left octets) = omega (arith, e, length-drop left octets) in (
      take-append-le left octets frame within,
      ap (cut (lengths ++ length frame ∷ [])) (drop-append-le left octets frame within) ∙ cut-push lengths (drop left octets) frame rest,
    )

-- the oldest frame is taken in hand
first_item : (lengths : List ℕ) (n : ℕ) → slice_get lengths 0 ≡ Some n → lengths ≡ n ∷ drop 1 lengths
first_item [] n e = absurd (cc)
first_item (k ∷ lengths) n e = let same : k ≡ n = cc in ap (λ x. x ∷ lengths) same

none_in_hand : (left : ℕ) (octets : List ℕ) → left ≤ length octets → take left octets ≡ [] → left ≡ 0
none_in_hand left octets within e = omega (arith, ap length e, length-take left octets)

pub IsQueue-begin : (left n : ℕ) (lengths octets : List ℕ) (a b : ℕ) → IsQueue left lengths octets a b → take left octets ≡ []
    → slice_get lengths 0 ≡ Some n → IsQueue n (drop 1 lengths) octets a b
IsQueue-begin left n [] octets a b q none e = absurd (cc)
IsQueue-begin left n (k ∷ lengths) octets a b q none e =
    let same : k ≡ n = cc in
    let empty : left ≡ 0 = none_in_hand left octets (omega (arith, q.whole)) none in
    record {
      whole = omega (arith, q.whole, same, empty);
      fits = omega (arith, q.fits);
      in_hand = omega (arith, same, All-head (λ m. m ≤ 1522) k lengths q.each);
      each = All-tail (λ m. m ≤ 1522) k lengths q.each;
      some = All-tail (λ m. 1 ≤ m) k lengths q.some;
      few_frames = q.few_frames;
      few_octets = q.few_octets;
    }

pub frames-begin : (left n : ℕ) (lengths octets : List ℕ) → left ≤ length octets → take left octets ≡ [] → slice_get lengths 0 ≡ Some n
    → cut lengths (drop left octets) ≡ take n octets ∷ cut (drop 1 lengths) (drop n octets)
frames-begin left n [] octets within none e = absurd (cc)
frames-begin left n (k ∷ lengths) octets within none e =
    let same : k ≡ n = cc in
    let empty : left ≡ 0 = none_in_hand left octets within none in
    ap (λ m. cut (k ∷ lengths) (drop m octets)) empty ∙ ap (λ m. take m octets ∷ cut lengths (drop m octets)) same

pub frames-none : (lengths octets : List ℕ) → slice_get lengths 0 ≡ None → cut lengths octets ≡ []
frames-none [] octets e = refl
frames-none (k ∷ lengths) octets e = absurd (cc)

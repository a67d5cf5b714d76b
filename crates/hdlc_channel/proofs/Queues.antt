-- Frames that stand one after another, cut by their lengths.
use Rattle.std.proofs.Common.{◌≡◌, ℕ, ◌+◌, ◌-◌, ◌*◌, ◌≤◌, List, [], ◌∷◌, ◌++◌, length, take, drop, All, Some, None, refl, sym, ap, ◌∙◌, subst, arith}
use Rattle.std.specs.Prelude.{sum_by, slice_get}
use Rattle.std.proofs.lemmas.List.{length-append, length-drop, length-take-le, take-append-le, take_all, drop-append-le, nil_from_length}
use Rattle.std.proofs.lemmas.List.Sums.{sum_by-cons, sum_by-append}
use Rattle.std.proofs.lemmas.List.Elements.{All-push, All-drop, All-head}
use Rattle.circular_buffer.specs.Buffer.{keep_last}
use Rattle.hdlc_channel.specs.Outgoing.{cut, IsQueue}
use Rattle.hdlc_channel.specs.SlowStream.{room_of}

total : List ℕ → ℕ
total lengths = sum_by (λ n. n) lengths

total-cons : (n : ℕ) (lengths : List ℕ) → sum_by (λ k. k) (n ∷ lengths) ≡ n + sum_by (λ k. k) lengths
total-cons n lengths = sum_by-cons (λ k. k) n lengths

pub cut-push : (lengths octets frame : List ℕ) → sum_by (λ n. n) lengths ≡ length octets → cut (lengths ++ length frame ∷ []) (octets ++ frame) ≡ cut lengths octets ++ frame ∷ []
unfolding cut
cut-push [] octets frame e =
    let none : octets ≡ [] = nil_from_length octets (sym e) in
    ap (λ o. take (length frame) (o ++ frame) ∷ []) none ∙ ap (λ f. f ∷ []) (take_all (length frame) frame (omega arith))
cut-push (n ∷ lengths) octets frame e =
    let sum = total-cons n lengths in
    let rest : sum_by (λ k. k) lengths ≡ length (drop n octets) = omega (arith, sum, e, length-drop n octets) in
    let inside : n ≤ length octets = omega (arith, sum, e) in
    ap (λ f. f ∷ cut (lengths ++ length frame ∷ []) (drop n (octets ++ frame))) (take-append-le n octets frame inside)
    ∙ ap (λ o. take n octets ∷ cut (lengths ++ length frame ∷ []) o) (drop-append-le n octets frame inside)
    ∙ ap (λ q. take n octets ∷ q) (cut-push lengths (drop n octets) frame rest)

pub room_cut : (lengths octets : List ℕ) → sum_by (λ n. n) lengths ≡ length octets → sum_by (λ f. length f + 2) (cut lengths octets) ≡ length octets + 2 * length lengths
unfolding cut
room_cut [] octets e = omega arith
room_cut (n ∷ lengths) octets e =
    let sum = total-cons n lengths in
    let dropped = length-drop n octets in
    let rest : sum_by (λ k. k) lengths ≡ length (drop n octets) = omega (arith, sum, e, dropped) in
    let inside : n ≤ length octets = omega (arith, sum, e) in
    let taken : length (take n octets) ≡ n = length-take-le n octets inside in
    let below = room_cut lengths (drop n octets) rest in
    sum_by-cons (λ f. length f + 2) (take n octets) (cut lengths (drop n octets)) ∙ omega arith

pub keep_all : {X : Type 0} (n : ℕ) (xs : List X) → length xs ≤ n → keep_last n xs ≡ xs
keep_all n xs h = let e : length xs - n ≡ 0 = omega arith in ap (λ k. drop k xs) e

-- the first of a list that has one
pub first_of : (xs : List ℕ) (n : ℕ) → Some n ≡ slice_get xs 0 → xs ≡ n ∷ drop 1 xs
first_of [] n e = cc
first_of (x ∷ xs) n e = let same : n ≡ x = cc in ap (λ y. y ∷ xs) (sym same)

pub none_of : (xs : List ℕ) → None ≡ slice_get xs 0 → xs ≡ []
none_of [] e = refl
none_of (x ∷ xs) e = cc

pub cut-none : (lengths octets : List ℕ) → lengths ≡ [] → cut lengths octets ≡ []
unfolding cut
cut-none lengths octets e = ap (λ l. cut l octets) e

pub cut-first : (lengths octets : List ℕ) (n : ℕ) → lengths ≡ n ∷ drop 1 lengths → cut lengths octets ≡ take n octets ∷ cut (drop 1 lengths) (drop n octets)
unfolding cut
cut-first lengths octets n e = ap (λ l. cut l octets) e

module _ (lengths octets : List ℕ) (most_lengths most_octets : ℕ) (q : IsQueue lengths octets most_lengths most_octets) where
  pub room_is : 8192 - (length octets + 2 * length lengths) ≡ room_of (cut lengths octets)
  room_is = ap (λ s. 8192 - s) (sym (room_cut lengths octets q.whole))

  module _ (frame : List ℕ) (few : length frame ≤ 1500) (room : length frame + 2 ≤ room_of (cut lengths octets)) where
    pub pushed_lengths : keep_last most_lengths (lengths ++ length frame ∷ []) ≡ lengths ++ length frame ∷ []
    pushed_lengths =
        let fits = q.fits in let most : most_lengths ≡ 4096 = q.lengths_room in let r = room_is in
        keep_all most_lengths (lengths ++ length frame ∷ []) (omega (arith, length-append lengths (length frame ∷ [])))

    pub pushed_octets : keep_last most_octets (octets ++ frame) ≡ octets ++ frame
    pushed_octets =
        let fits = q.fits in let most : most_octets ≡ 8192 = q.octets_room in let r = room_is in
        keep_all most_octets (octets ++ frame) (omega (arith, length-append octets frame))

    pub pushed_queue : IsQueue (lengths ++ length frame ∷ []) (octets ++ frame) most_lengths most_octets
    pushed_queue =
        let r = room_is in let fits = q.fits in
        let sum = sum_by-append (λ n. n) lengths (length frame ∷ []) in
        let one = total-cons (length frame) [] in
        let whole = q.whole in
        let octets_more = length-append octets frame in
        let lengths_more = length-append lengths (length frame ∷ []) in
        record {
          whole = omega arith;
          fits = omega arith;
          each = All-push (λ n. n ≤ 1500) lengths (length frame) q.each few;
          lengths_room = q.lengths_room;
          octets_room = q.octets_room;
        }

  module _ (n : ℕ) (first : lengths ≡ n ∷ drop 1 lengths) where
    sum_first : sum_by (λ k. k) lengths ≡ n + sum_by (λ k. k) (drop 1 lengths)
    sum_first = ap (sum_by (λ k. k)) first ∙ total-cons n (drop 1 lengths)

    pub first_inside : n ≤ length octets
    first_inside = let whole = q.whole in omega (arith, sum_first)

    pub first_few : n ≤ 1500
    first_few = All-head (λ k. k ≤ 1500) n (drop 1 lengths) (subst (λ l. All (λ k. k ≤ 1500) l) first q.each)

    pub popped_queue : IsQueue (drop 1 lengths) (drop n octets) most_lengths most_octets
    popped_queue =
        let whole = q.whole in let fits = q.fits in
        let fewer = length-drop n octets in let one_fewer = length-drop 1 lengths in
        record {
          whole = omega (arith, sum_first);
          fits = omega arith;
          each = All-drop (λ k. k ≤ 1500) 1 lengths q.each;
          lengths_room = q.lengths_room;
          octets_room = q.octets_room;
        }

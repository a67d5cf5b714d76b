-- Line feeds in a list of octets.
use Rattle.std.proofs.Common.{◌≡◌, ◌≢◌, ℕ, suc, ◌+◌, ◌-◌, ◌<◌, ◌≤◌, zero-le, List, ◌∷◌, ◌++◌, length, take, drop, get_or, sym, ◌∙◌, ap, subst, arith, add-one, length-take, length-drop, drop-cons, get_or-take, get_or-drop}
use Rattle.std.proofs.Math.Seq.{take-add}
use Rattle.std.proofs.lemmas.Bool.{eqb-true, eq-eqb}
use Rattle.std.proofs.lemmas.List.{take-append-drop, take_all, take-take}
use Rattle.std.proofs.lemmas.List.Elements.{All-append, All-from_get_or, All-take}
use Rattle.memchr.specs.Find.{Nowhere, NoneBefore, Passes, is_byte}
use Rattle.link_text.specs.Lines.{HasNoFeed}
use Rattle.link_text.specs.LineBuffer.{IsFirstFeed}

-- what a search for a line feed says
no_feed_before : (hay : List ℕ) (n : ℕ) → n ≤ length hay → Nowhere (Passes (is_byte 10) hay) 0 n → HasNoFeed (take n hay)
no_feed_before hay n within nowhere =
    All-from_get_or (λ c. c ≢ 10) (take n hay) 0
    (λ i below is.
    let short : i < n = omega (arith, length-take n hay) in
    nowhere i (zero-le) short (eq-eqb (get_or hay i 0) 10 (sym (get_or-take n hay i 0 short) ∙ is)))

HasNoFeed-append : (xs ys : List ℕ) → HasNoFeed xs → HasNoFeed ys → HasNoFeed (xs ++ ys)
HasNoFeed-append xs ys = All-append (λ c. c ≢ 10) xs ys

pub HasNoFeed-take : (xs : List ℕ) (n : ℕ) → HasNoFeed xs → HasNoFeed (take n xs)
HasNoFeed-take xs n = All-take (λ c. c ≢ 10) n xs

no_feed_found : (octets : List ℕ) (searched : ℕ) → HasNoFeed (take searched octets)
    → Nowhere (Passes (is_byte 10) (drop searched octets)) 0 (length (drop searched octets)) → HasNoFeed octets
no_feed_found octets searched front nowhere =
    let rest = drop searched octets in
    let none : HasNoFeed rest = subst HasNoFeed (take_all (length rest) rest (omega arith)) (no_feed_before rest (length rest) (omega arith) nowhere) in
    subst HasNoFeed (take-append-drop searched octets) (HasNoFeed-append (take searched octets) rest front none)

feed_found : (octets : List ℕ) (searched place : ℕ) → searched ≤ length octets → HasNoFeed (take searched octets)
    → NoneBefore (Passes (is_byte 10) (drop searched octets)) 0 (length (drop searched octets)) place
    → Passes (is_byte 10) (drop searched octets) place → IsFirstFeed octets (searched + place)
feed_found octets searched place within front first is =
    let rest = drop searched octets in
    let below : searched + place < length octets = omega (arith, length-drop searched octets, first.high) in
    let feed : get_or octets (searched + place) 0 ≡ 10 = sym (get_or-drop searched octets place 0) ∙ eqb-true (get_or rest place 0) 10 is in record {
      before = subst HasNoFeed (sym (take-add searched place octets))
          (HasNoFeed-append (take searched octets) (take place rest) front (no_feed_before rest place (omega (arith, first.high)) first.before));
      within = below;
      at = sym (take-append-drop (searched + place) octets)
          ∙ ap (λ more. take (searched + place) octets ++ more)
          (drop-cons octets (searched + place) 0 below ∙ ap (λ c. c ∷ drop (suc (searched + place)) octets) feed ∙ ap (λ n. 10 ∷ drop n octets) (sym (add-one (searched + place))));
    }

-- the same of `&octets[searched..]`
tail : (octets : List ℕ) (searched : ℕ) → take (length octets - searched) (drop searched octets) ≡ drop searched octets
tail octets searched = take_all (length octets - searched) (drop searched octets) (omega (arith, length-drop searched octets))

pub no_feed_in_tail : (octets : List ℕ) (searched : ℕ) → HasNoFeed (take searched octets)
    → (let hay = take (length octets - searched) (drop searched octets) in Nowhere (Passes (is_byte 10) hay) 0 (length hay)) → HasNoFeed octets
no_feed_in_tail octets searched front nowhere =
    no_feed_found octets searched front (subst (λ hay. Nowhere (Passes (is_byte 10) hay) 0 (length hay)) (tail octets searched) nowhere)

pub feed_in_tail : (octets : List ℕ) (searched place : ℕ) → searched ≤ length octets → HasNoFeed (take searched octets)
    → (let hay = take (length octets - searched) (drop searched octets) in
    NoneBefore (Passes (is_byte 10) hay) 0 (length hay) place × Passes (is_byte 10) hay place) → IsFirstFeed octets (searched + place)
feed_in_tail octets searched place within front found =
    let there = subst (λ hay. NoneBefore (Passes (is_byte 10) hay) 0 (length hay) place × Passes (is_byte 10) hay place) (tail octets searched) found in
    feed_found octets searched place within front there.0 there.1

-- a line feed after more octets than a line has
pub far_feed : (octets : List ℕ) (place n : ℕ) → IsFirstFeed octets place → n ≤ place → HasNoFeed (take n octets)
far_feed octets place n first far =
    subst HasNoFeed (take-take n place octets far) (HasNoFeed-take (take place octets) n first.before)

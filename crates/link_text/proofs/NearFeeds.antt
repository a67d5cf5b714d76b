-- A line feed among the first octets.
use Rattle.std.proofs.Common.{◌≡◌, ◌≢◌, ℕ, suc, ◌+◌, ◌<◌, ◌≤◌, zero-le, eqb, not, map, List, ◌∷◌, ◌++◌, length, take, drop, get_or, sym, ◌∙◌, ap, arith, add-one, length-take, drop-cons, get_or-take}
use Rattle.std.specs.Simd.Lanes.{mask_l}
use Rattle.std.specs.List.{prefix_len}
use Rattle.std.proofs.lemmas.Bool.{eqb-true, eq-eqb, true≢false}
use Rattle.std.proofs.lemmas.List.{length-take-le, take-append-drop}
use Rattle.std.proofs.lemmas.List.Elements.{All-from_get_or}
use Rattle.std.proofs.lemmas.Simd.{trailing_mask_l, run_in_chunk_fails, run_in_chunk_stops}
use lib.Count.{count_trailing_zeros}
use Rattle.link_text.specs.LineBuffer.{IsFirstFeed}

-- the lowest bit of the mask of line feeds is the first of them
pub near_feed : (lanes : ℕ) (octets : List ℕ) (mask : ℕ) → lanes ≤ 64 → lanes ≤ length octets → mask ≡ mask_l (map (λ x. eqb x 10) (take lanes octets)) → mask ≢ 0
    → count_trailing_zeros 64 mask < lanes → IsFirstFeed octets (count_trailing_zeros 64 mask)
near_feed lanes octets mask few enough is some near =
    let feeds = λ (x : ℕ). eqb x 10 in
    let place = count_trailing_zeros 64 mask in
    let room : 0 + lanes ≤ length octets = omega arith in
    let long = length-take-le lanes octets enough in
    let counted : place ≡ prefix_len (λ x. not (feeds x)) (take lanes octets) =
    ap (count_trailing_zeros 64) is ∙ trailing_mask_l feeds 64 (take lanes octets) (omega (arith, long, few)) (omega (arith, is, some)) in
    let below : place < length octets = omega (arith, near) in
    let here : 0 + place ≡ place = omega arith in
    let feed : get_or octets place 0 ≡ 10 =
    eqb-true (get_or octets place 0) 10 (ap (λ i. feeds (get_or octets i 0)) (sym here) ∙ run_in_chunk_stops feeds octets 0 lanes place 0 room counted near) in
    record {
      before = All-from_get_or (λ c. c ≢ 10) (take place octets) 0
          (λ k within feed.
          let short : k < place = omega (arith, length-take place octets) in
          let other = run_in_chunk_fails feeds octets 0 lanes place 0 room counted k (zero-le) (omega (arith, short)) in
          true≢false (sym (eq-eqb (get_or octets k 0) 10 (sym (get_or-take place octets k 0 short) ∙ feed)) ∙ other));
      within = below;
      at = sym (take-append-drop place octets)
          ∙ ap (λ more. take place octets ++ more)
          (drop-cons octets place 0 below ∙ ap (λ c. c ∷ drop (suc place) octets) feed ∙ ap (λ n. 10 ∷ drop n octets) (sym (add-one place)));
    }

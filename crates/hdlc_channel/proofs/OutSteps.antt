-- One more octet of the item is laid out.
use Rattle.std.proofs.Common.{◌≡◌, ℕ, ◌+◌, ◌<◌, ◌≤◌, Bool, List, [], ◌∷◌, ◌++◌, length, take, drop, get_or, set, refl, sym, ap, ◌∙◌, arith, inl, inr, append_assoc}
use Rattle.std.proofs.lemmas.Bool.{cases_lt}
use Rattle.std.proofs.lemmas.List.{length-append, append-nil, take_more_set, length-set, take_at}
use Rattle.hdlc_channel.specs.Bits.{octet_bits, bits_of}
use Rattle.hdlc_channel.specs.Fcs.{fcs_of, field_octets}
use Rattle.hdlc_channel.specs.SlowText.{flag}
use Rattle.hdlc_channel.specs.SlowStream.{stuffed, content_of, frame_bits}
use Rattle.hdlc_channel.specs.Outgoing.{IsOut, later_bits, ones_after}
use Rattle.hdlc_channel.proofs.LaidBits.{later_bits-nil, later_bits-first, later_bits-last, none_left, some_left, first_left, is_last_iff}

module _ (ready : List Bool) (ones : ℕ) (octets : List ℕ) (at end : ℕ) (out : IsOut ready ones octets at end) where
  within_octets : end ≤ length octets
  within_octets = let room : length octets ≡ 1502 = out.room in let w = out.within in omega arith

  later : List Bool
  later = later_bits ones (drop at (take end octets))

  pub some_at : (later_bits ones (drop at (take end octets)) ≡ [] → ⊥) → at < end
  some_at some =
      elim (cases_lt at end) [
        | inl h ↦ h
        | inr h ↦ absurd (some ((is_last_iff ones octets at end within_octets out.left).0 (let l = out.left in omega arith)))
      ]

  pub place_in : at < end → at < 1502
  place_in h = let w = out.within in omega arith

  -- the next octet, as it is stuffed: its bits, their number, and the 1s after them
  module _ (h : at < end) (more : List Bool) (ones' : ℕ) (is : more ≡ stuffed ones (octet_bits (get_or octets at 0))) (ones_is : ones' ≡ ones_after ones (octet_bits (get_or octets at 0))) where
    pub laid_last : at + 1 ≡ end → (ready ++ more) ++ flag ++ later_bits ones' (drop (at + 1) (take end octets)) ≡ ready ++ later_bits ones (drop at (take end octets))
    laid_last last =
        let nothing : later_bits ones' (drop (at + 1) (take end octets)) ≡ [] = later_bits-nil ones' (drop (at + 1) (take end octets)) (none_left octets (at + 1) end within_octets last) in
        let one : drop at (take end octets) ≡ get_or octets at 0 ∷ [] = first_left octets at end within_octets h ∙ ap (λ xs. get_or octets at 0 ∷ xs) (none_left octets (at + 1) end within_octets last) in
        ap (λ xs. (ready ++ more) ++ flag ++ xs) nothing ∙ append-nil ((ready ++ more) ++ flag)
        ∙ append_assoc ready more flag
        ∙ ap (λ xs. ready ++ (xs ++ flag)) is
        ∙ ap (λ xs. ready ++ xs) (sym (ap (later_bits ones) one ∙ later_bits-last ones (get_or octets at 0)))

    pub laid_other : (at + 1 ≡ end → ⊥) → (ready ++ more) ++ later_bits ones' (drop (at + 1) (take end octets)) ≡ ready ++ later_bits ones (drop at (take end octets))
    laid_other other =
        let rest = drop (at + 1) (take end octets) in
        append_assoc ready more (later_bits ones' rest)
        ∙ ap (λ n. ready ++ (more ++ later_bits n rest)) ones_is
        ∙ ap (λ xs. ready ++ (xs ++ later_bits (ones_after ones (octet_bits (get_or octets at 0))) rest)) is
        ∙ ap (λ xs. ready ++ xs) (sym (ap (later_bits ones) (first_left octets at end within_octets h)
        ∙ later_bits-first ones (get_or octets at 0) rest (some_left octets (at + 1) end within_octets (omega arith))))

  pub out_after : (ready' : List Bool) (ones' : ℕ) → at < end → length ready' ≤ 25 → ones' ≤ 4 → IsOut ready' ones' octets (at + 1) end
  out_after ready' ones' h few few_ones = record { few = few; few_ones = few_ones; room = out.room; left = omega arith; within = out.within }

-- ---- the next frame

later_bits-some : (xs : List ℕ) → 1 ≤ length xs → later_bits 0 xs ≡ stuffed 0 (bits_of xs) ++ flag
unfolding later_bits
later_bits-some [] h = absurd (omega arith)
later_bits-some (x ∷ xs) h = refl

-- its content is what its bits are made of
pub later_bits-frame : (n : ℕ) (octets frame : List ℕ) → take n octets ≡ content_of frame → later_bits 0 (drop 0 (take n octets)) ≡ frame_bits frame
unfolding frame_bits content_of field_octets
later_bits-frame n octets frame e = ap (later_bits 0) e ∙ later_bits-some (frame ++ field_octets (fcs_of frame)) (omega (arith, length-append frame (field_octets (fcs_of frame))))

pub frame_bits-some : (frame : List ℕ) → frame_bits frame ≡ [] → ⊥
unfolding frame_bits
frame_bits-some frame e = let l = ap length e in omega (arith, length-append (stuffed 0 (bits_of (content_of frame))) flag, l)

-- its sequence is put behind it
pub with_field : (octets : List ℕ) (n low high : ℕ) → n + 2 ≤ length octets → take (n + 2) (set (set octets n low) (n + 1) high) ≡ take n octets ++ low ∷ high ∷ []
with_field octets n low high h =
    let e : n + 2 ≡ n + 1 + 1 = omega arith in
    let l = length-set octets n low in
    ap (λ k. take k (set (set octets n low) (n + 1) high)) e
    ∙ take_more_set (set octets n low) (n + 1) high (omega arith)
    ∙ ap (λ xs. xs ++ high ∷ []) (take_more_set octets n low (omega arith))
    ∙ append_assoc (take n octets) (low ∷ []) (high ∷ [])

-- what is written back of a vector's octets
pub written_back : (n : ℕ) (new items : List ℕ) → length new ≡ n → take n (new ++ drop (length new) items) ≡ new
written_back n new items e = take_at new (drop (length new) items) n e

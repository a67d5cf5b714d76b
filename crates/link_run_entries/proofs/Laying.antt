-- Text laid out piece by piece.
use Rattle.std.proofs.Common.{◌≡◌, ◌∙◌, ℕ, ◌+◌, ◌≤◌, List, [], ◌++◌, length, take, refl, sym, ap, subst, arith, append_assoc, append-nil, length-append}
use Rattle.std.proofs.lemmas.List.{take-append-le, length-take-le, take-take}
use Rattle.std.proofs.Math.Seq.{take-append-add}
use Rattle.link_text.specs.Laid.{Lays}

-- what stands behind the octets in front of a place, where others were stored from there on
pub take-stored : (a c : ℕ) (xs ys post : List ℕ) → a ≤ length xs → c ≤ length ys → take (a + c) (take a xs ++ (ys ++ post)) ≡ take a xs ++ take c ys
take-stored a c xs ys post within few =
    ap (λ n. take (n + c) (take a xs ++ (ys ++ post))) (sym (length-take-le a xs within))
    ∙ take-append-add (take a xs) (ys ++ post) c
    ∙ ap (λ t. take a xs ++ t) (take-append-le c ys post few)

pub lays_none : (old : List ℕ) (at : ℕ) → at ≤ length old → Lays [] old at old at
lays_none old at within = record {
  same_length = refl;
  within = within;
  ends = omega arith;
  laid = sym (append-nil (take at old));
}

-- one piece behind another
pub lays_then : (a b old mid new : List ℕ) (at m n : ℕ) → Lays a old at mid m → Lays b mid m new n → Lays (a ++ b) old at new n
lays_then a b old mid new at m n first second = record {
  same_length = second.same_length ∙ first.same_length;
  within = second.within;
  ends = let f = first.ends in let s = second.ends in omega (arith, length-append a b);
  laid = second.laid ∙ ap (λ t. t ++ b) first.laid ∙ append_assoc (take at old) a b;
}

-- the same text in other words
pub lays_as : (a b old new : List ℕ) (at n : ℕ) → a ≡ b → Lays a old at new n → Lays b old at new n
lays_as a b old new at n e lays = subst (λ t. Lays t old at new n) e lays

-- the octets of a piece that count
pub lays_stored : (text piece old new : List ℕ) (at count : ℕ) → length new ≡ length old → at + count ≤ length new → count ≤ length piece → take count piece ≡ text → take (at + count) new ≡ take at old ++ take count piece → Lays text old at new (at + count)
lays_stored text piece old new at count same within few is stored = record {
  same_length = same;
  within = within;
  ends = ap (λ n. at + n) (sym (length-take-le count piece few) ∙ ap length is);
  laid = stored ∙ ap (λ t. take at old ++ t) is;
}

-- the octets in front of the text stay
pub lays_before : (text old new : List ℕ) (at end n : ℕ) → n ≤ at → at ≤ length old → Lays text old at new end → take n new ≡ take n old
lays_before text old new at end n before within lays =
    let ends = lays.ends in let size = length-take-le at old within in
    sym (take-take n end new (omega arith)) ∙ ap (take n) lays.laid
    ∙ take-append-le n (take at old) text (omega arith) ∙ take-take n at old before

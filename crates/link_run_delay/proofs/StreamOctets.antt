-- The octets that the bits of a stream make up, one part after another.
use Rattle.std.proofs.Common.{◌≡◌, ℕ, zero, suc, ◌+◌, ◌*◌, Bool, List, [], ◌∷◌, ◌++◌, length, take, drop, refl, sym, ap, ◌∙◌, arith}
use Rattle.std.proofs.lemmas.List.{length-drop, take-append-drop}
use Rattle.hdlc_channel.specs.Bits.{bits_of, number_of, octets_of}
use Rattle.hdlc_channel.proofs.StuffedBits.{low_bits-number_of}

-- ---- octets of bits

octets_of-append : (k : ℕ) (xs ys : List Bool) → length xs ≡ 8 * k → octets_of (xs ++ ys) ≡ octets_of xs ++ octets_of ys
unfolding octets_of
octets_of-append zero [] ys e = refl
octets_of-append zero (x ∷ xs) ys e = absurd (omega arith)
octets_of-append (suc k) (a ∷ b ∷ c ∷ d ∷ e ∷ f ∷ g ∷ h ∷ xs) ys long =
    ap (λ os. number_of (a ∷ b ∷ c ∷ d ∷ e ∷ f ∷ g ∷ h ∷ []) ∷ os) (octets_of-append k xs ys (omega arith))
octets_of-append (suc k) _ ys long = absurd (omega arith)

bits_of-octets_of : (k : ℕ) (xs : List Bool) → length xs ≡ 8 * k → bits_of (octets_of xs) ≡ xs
unfolding octets_of
bits_of-octets_of zero [] e = refl
bits_of-octets_of zero (x ∷ xs) e = absurd (omega arith)
bits_of-octets_of (suc k) (a ∷ b ∷ c ∷ d ∷ e ∷ f ∷ g ∷ h ∷ xs) long =
    ap (λ bs. bs ++ bits_of (octets_of xs)) (low_bits-number_of (a ∷ b ∷ c ∷ d ∷ e ∷ f ∷ g ∷ h ∷ []))
    ∙ ap (λ bs. a ∷ b ∷ c ∷ d ∷ e ∷ f ∷ g ∷ h ∷ bs) (bits_of-octets_of k xs (omega arith))
bits_of-octets_of (suc k) _ long = absurd (omega arith)

length-octets_of : (k : ℕ) (xs : List Bool) → length xs ≡ 8 * k → length (octets_of xs) ≡ k
unfolding octets_of
length-octets_of zero [] e = refl
length-octets_of zero (x ∷ xs) e = absurd (omega arith)
length-octets_of (suc k) (a ∷ b ∷ c ∷ d ∷ e ∷ f ∷ g ∷ h ∷ xs) long = ap suc (length-octets_of k xs (omega arith))
length-octets_of (suc k) _ long = absurd (omega arith)

-- ---- a stream

-- bits that are asked for are given, and more of them go on
pub record GoesOn (stream : ℕ → List Bool) : Type 0 where
  pub long : (n : ℕ) → length (stream n) ≡ n
  pub front : (k count : ℕ) → take (8 * k) (stream (8 * (k + count))) ≡ stream (8 * k)

module _ (stream : ℕ → List Bool) (goes_on : GoesOn stream) where
  -- so many octets from octet k on
  abbrev pub octets_from : (k count : ℕ) → List ℕ
  octets_from k count = octets_of (drop (8 * k) (stream (8 * (k + count))))

  pub length-octets_from : (k count : ℕ) → length (octets_from k count) ≡ count
  length-octets_from k count =
      length-octets_of count (drop (8 * k) (stream (8 * (k + count))))
      (omega (arith, length-drop (8 * k) (stream (8 * (k + count))), goes_on.long (8 * (k + count))))

  from_first : (k : ℕ) → octets_from 0 k ≡ octets_of (stream (8 * k))
  from_first k = let e : 8 * (0 + k) ≡ 8 * k = omega arith in ap (λ n. octets_of (stream n)) e

  pub octets_from-add : (k count : ℕ) → octets_from 0 k ++ octets_from k count ≡ octets_from 0 (k + count)
  octets_from-add k count =
      let all = stream (8 * (k + count)) in
      ap (λ os. os ++ octets_from k count) (from_first k)
      ∙ sym (octets_of-append k (stream (8 * k)) (drop (8 * k) all) (goes_on.long (8 * k)))
      ∙ ap (λ bs. octets_of (bs ++ drop (8 * k) all)) (sym (goes_on.front k count))
      ∙ ap octets_of (take-append-drop (8 * k) all)
      ∙ sym (from_first (k + count))

  pub bits_of-octets_from : (k : ℕ) → bits_of (octets_from 0 k) ≡ stream (8 * k)
  bits_of-octets_from k = ap bits_of (from_first k) ∙ bits_of-octets_of k (stream (8 * k)) (goes_on.long (8 * k))

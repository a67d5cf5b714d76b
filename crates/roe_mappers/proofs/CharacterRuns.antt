-- Runs of characters of a frame, and the symbols that spell them.
use Rattle.std.proofs.Common.{◌≡◌, ℕ, zero, suc, ◌+◌, ◌*◌, ◌<◌, ◌≤◌, List, [], ◌∷◌, ◌++◌, length, map, take, drop, get_or, refl, sym, ap, ◌∙◌, arith, length-drop, add-zero}
use Rattle.std.proofs.Math.Seq.{take-add}
use Rattle.std.proofs.lemmas.List.{get_or-drop}
use Rattle.line_code.specs.declared.characters.Char.{Char}
use Rattle.line_code.specs.declared.characters.Char.TheVariants.{Octet, Comma}
use Rattle.line_code.specs.declared.characters.Rd.{Rd}
use Rattle.line_code.specs.Line.{disparity_after_all, frame_characters, symbols_of}
use Rattle.line_code.specs.Packed.{symbols_in}
use Rattle.line_code.proofs.LineLaws.{disparity_after_all-append, symbols_of-append}
use Rattle.line_code.proofs.PackedSymbols.{symbols_in-append}

length-octets : (octets : List ℕ) → length (map Octet octets) ≡ length octets
length-octets [] = refl
length-octets (o ∷ octets) = ap suc (length-octets octets)

pub length-frame_characters : (n : ℕ) (octets : List ℕ) → length (frame_characters n octets) ≡ length octets
length-frame_characters n [] = refl
length-frame_characters n (first ∷ octets) = ap suc (length-octets octets)

octet_in : (octets : List ℕ) (k : ℕ) → k < length octets → get_or (map Octet octets) k Comma ≡ Octet (get_or octets k 0)
octet_in [] k lt = absurd (omega arith)
octet_in (o ∷ octets) zero lt = refl
octet_in (o ∷ octets) (suc k) lt = octet_in octets k (omega arith)

-- a character after the first is its octet
pub later_character : (n : ℕ) (octets : List ℕ) (k : ℕ) → k + 1 < length octets → get_or (frame_characters n octets) (k + 1) Comma ≡ Octet (get_or octets (k + 1) 0)
later_character n [] k lt = absurd (omega arith)
later_character n (first ∷ octets) k lt =
    let next : k + 1 ≡ suc k = omega arith in
    ap (λ m. get_or (frame_characters n (first ∷ octets)) m Comma) next ∙ octet_in octets k (omega arith) ∙ ap (λ m. Octet (get_or (first ∷ octets) m 0)) (sym next)

four_of : (chars : List Char) → 4 ≤ length chars → take 4 chars ≡ get_or chars 0 Comma ∷ get_or chars 1 Comma ∷ get_or chars 2 Comma ∷ get_or chars 3 Comma ∷ []
four_of (a ∷ b ∷ c ∷ d ∷ chars) h = refl
four_of (a ∷ b ∷ c ∷ []) h = absurd (omega arith)
four_of (a ∷ b ∷ []) h = absurd (omega arith)
four_of (a ∷ []) h = absurd (omega arith)
four_of [] h = absurd (omega arith)

pub four_from : (chars : List Char) (at : ℕ) → at + 4 ≤ length chars
    → take 4 (drop at chars) ≡ get_or chars at Comma ∷ get_or chars (at + 1) Comma ∷ get_or chars (at + 2) Comma ∷ get_or chars (at + 3) Comma ∷ []
four_from chars at h =
    four_of (drop at chars) (omega (arith, length-drop at chars))
    ∙ simp (get_or-drop {A = Char}, add-zero) refl

-- ---- four more

take-four_more : (chars : List Char) (at : ℕ) → take (at + 4) chars ≡ take at chars ++ take 4 (drop at chars)
take-four_more chars at = take-add at 4 chars

-- four more characters are spelled
pub spelled_more : (out five : List ℕ) (chars : List Char) (rd disparity next : Rd) (g : ℕ) → length (take (5 * g) out) ≡ 5 * g
    → symbols_in (take (5 * g) out) ≡ symbols_of rd (take (4 * g) chars) → disparity ≡ disparity_after_all rd (take (4 * g) chars)
    → symbols_in five ≡ symbols_of disparity (take 4 (drop (4 * g) chars)) → next ≡ disparity_after_all disparity (take 4 (drop (4 * g) chars))
    → (symbols_in (take (5 * g) out ++ five) ≡ symbols_of rd (take (4 * (g + 1)) chars)) × (next ≡ disparity_after_all rd (take (4 * (g + 1)) chars))
spelled_more out five chars rd disparity next g long so_far at more then =
    let front = take (4 * g) chars in
    let four = take 4 (drop (4 * g) chars) in
    let both : take (4 * (g + 1)) chars ≡ front ++ four = ap (λ m. take m chars) (let e : 4 * (g + 1) ≡ 4 * g + 4 = omega arith in e) ∙ take-four_more chars (4 * g) in (
      symbols_in-append (take (5 * g) out) five (omega (arith, long))
          ∙ ap (λ s. s ++ symbols_in five) so_far ∙ ap (λ s. symbols_of rd front ++ s) more
          ∙ ap (λ r. symbols_of rd front ++ symbols_of r four) at
          ∙ sym (symbols_of-append rd front four) ∙ ap (symbols_of rd) (sym both),
      then ∙ ap (λ r. disparity_after_all r four) at ∙ sym (disparity_after_all-append rd front four) ∙ ap (disparity_after_all rd) (sym both),
    )

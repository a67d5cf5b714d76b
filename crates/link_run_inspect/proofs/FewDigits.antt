-- Digits that are read with digits 0 behind them.
use Rattle.std.proofs.Common.{◌≡◌, ℕ, suc, ◌+◌, ◌/◌, ◌%◌, ◌<◌, true, false, List, [], ◌∷◌, ◌++◌, length, take, drop, replicate, refl, sym, ◌∙◌, ap, arith, length-append, Some, None, Result, Ok, Err}
use Rattle.std.specs.Bool.{IsTrue}
use Rattle.std.specs.List.{AllPass}
use Rattle.std.specs.Result.{result_ok}
use Rattle.std.proofs.lemmas.List.Elements.{All-append, All-drop, All-replicate}
use Rattle.hex.specs.Hex.{decode_of, decode_pairs, pair_value, ◌>>=◌, is_hex_digit}
use Rattle.hex.specs.declared.error.FromHexError.{FromHexError}
use Rattle.hex.proofs.HexLemmas.{decode_of-even}
use Rattle.link_text.specs.Hexadecimal.{spelled_octets}
use Rattle.link_text.proofs.HexadecimalLemmas.{none_decoded}

front_by : (i high low : ℕ) (rest b octets : List ℕ) (pair : Result ℕ FromHexError) (all : Result (List ℕ) FromHexError)
    → (pair >>= (λ byte. all >>= (λ bytes. Ok (byte ∷ bytes)))) ≡ Ok octets
    → ((bytes : List ℕ) → all ≡ Ok bytes → decode_pairs (i + 2) rest ≡ Ok (take (length rest / 2) bytes))
    → (pair >>= (λ byte. decode_pairs (i + 2) rest >>= (λ bytes. Ok (byte ∷ bytes)))) ≡ Ok (take (suc (length rest / 2)) octets)
front_by i high low rest b octets (Err e) all h later = absurd (let wrong : Err e ≡ Ok octets = h in cc)
front_by i high low rest b octets (Ok byte) (Err e) h later = absurd (let wrong : Err e ≡ Ok octets = h in cc)
front_by i high low rest b octets (Ok byte) (Ok bytes) h later =
    let same : byte ∷ bytes ≡ octets = cc in
    ap (λ (all : Result (List ℕ) FromHexError). all >>= (λ (more : List ℕ). Ok (byte ∷ more))) (later bytes refl) ∙ ap (λ o. Ok (take (suc (length rest / 2)) o)) same

front_decoded : (i : ℕ) (a b octets : List ℕ) → length a % 2 ≡ 0 → decode_pairs i (a ++ b) ≡ Ok octets → decode_pairs i a ≡ Ok (take (length a / 2) octets)
unfolding decode_pairs
front_decoded i [] b octets even h = refl
front_decoded i (digit ∷ []) b octets even h = absurd (omega arith)
front_decoded i (high ∷ low ∷ rest) b octets even h =
    let half : suc (length rest / 2) ≡ length (high ∷ low ∷ rest) / 2 = omega arith in
    front_by i high low rest b octets (pair_value high low i) (decode_pairs (i + 2) (rest ++ b)) h (λ bytes e. front_decoded (i + 2) rest b bytes (omega arith) e)
    ∙ ap (λ n. Ok (take n octets)) half

ok_by : (r : Result (List ℕ) FromHexError) (octets : List ℕ) → result_ok r ≡ Some octets → r ≡ Ok octets
ok_by (Ok x) octets h = let same : x ≡ octets = cc in ap Ok same
ok_by (Err e) octets h = absurd (let wrong : None ≡ Some octets = h in cc)

pub spelled_front : (digits more octets : List ℕ) → 0 < length digits → length digits % 2 ≡ 0 → length more % 2 ≡ 0 → spelled_octets (digits ++ more) ≡ Some octets
    → spelled_octets digits ≡ Some (take (length digits / 2) octets)
spelled_front [] more octets some even pairs h = absurd (omega arith)
spelled_front (c ∷ digits) more octets some even pairs h =
    let all = (c ∷ digits) ++ more in
    let whole : decode_pairs 0 all ≡ Ok octets = sym (decode_of-even all (omega (arith, length-append (c ∷ digits) more))) ∙ ok_by (decode_of all) octets h in
    ap result_ok (decode_of-even (c ∷ digits) even ∙ front_decoded 0 (c ∷ digits) more octets even whole)

pub spelled_none : (digits more : List ℕ) → AllPass is_hex_digit more → (AllPass is_hex_digit (digits ++ more) → ⊥) → spelled_octets digits ≡ None
spelled_none digits more pass never =
    none_decoded digits false 0 (λ wrong. absurd (not_true wrong), λ all. absurd (never (All-append (λ c. is_hex_digit c ≡ true) digits more all pass)))
  where
    not_true : IsTrue false → ⊥
    not_true h = cc

pub rest_passes : (k : ℕ) → AllPass is_hex_digit (drop k (replicate 64 48))
rest_passes k = let digit : ℕ → Type 0 = λ c. is_hex_digit c ≡ true in All-drop digit k (replicate 64 48) (All-replicate digit 64 48 refl)

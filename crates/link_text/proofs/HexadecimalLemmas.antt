-- Hexadecimal digits: which texts spell octets, and one octet more.
use Rattle.std.proofs.Common.{◌≡◌, ◌↔◌, ℕ, ◌+◌, ◌*◌, ◌/◌, ◌%◌, ◌<◌, List, [], ◌∷◌, ◌++◌, length, take, get_or, refl, ◌∙◌, ap, arith, append_assoc, Some, None, IsOk, Ok, Err, MatchResult, Result}
use Rattle.std.specs.Prelude.{slice_index, Bool, true, false, IsTrue, IfNone}
use Rattle.std.specs.List.{AllPass}
use Rattle.std.proofs.lemmas.List.{take_more}
use Rattle.std.proofs.lemmas.Grind.{common_steps}
use Rattle.hex.specs.Hex.{encode_with, encode_lower, lower_digits, decode_of, decode_sized, is_hex_digit, IsBytes}
use Rattle.hex.specs.declared.error.FromHexError.{FromHexError}
use Rattle.hex.proofs.HexLemmas.{decode_of-ok, length-encode_with, decode_of-encode_lower, IsOk-decode_sized, IsOk-written}
use Rattle.std.specs.Bool.{then_some}
use Rattle.std.specs.Result.{result_ok}
use Rattle.link_text.specs.Hexadecimal.{spelled_octets}

-- which texts are decoded into room for half as many octets
pub decoded_digits : (text : List ℕ) (n : ℕ) (r : Result (Unit {0}) FromHexError) (out : List ℕ)
    → MatchResult (decode_sized text n) (λ bytes. (r ≡ Ok tt) × (out ≡ bytes)) (λ e. r ≡ Err e)
    → length text ≡ 2 * n → IsOk r ↔ AllPass is_hex_digit text
decoded_digits text n r out answered len =
    let written = IsOk-written (decode_sized text n) r out answered in
    let digits = IsOk-decode_sized text n in
    (λ ok. (digits.0 (written.0 ok)).1, λ all. written.1 (digits.1 (len, all)))

-- the digits of one octet more
encode_with-append : (t xs ys : List ℕ) → encode_with t (xs ++ ys) ≡ encode_with t xs ++ encode_with t ys
unfolding encode_with
encode_with-append t [] ys = refl
encode_with-append t (x ∷ xs) ys = ap (λ more. slice_index t (x / 16) ∷ slice_index t (x % 16) ∷ more) (encode_with-append t xs ys)

encode_with-one : (t : List ℕ) (x : ℕ) → encode_with t (x ∷ []) ≡ slice_index t (x / 16) ∷ slice_index t (x % 16) ∷ []
unfolding encode_with
encode_with-one t x = refl

pub encode_lower-none : (front : List ℕ) → front ≡ front ++ encode_lower []
unfolding encode_with
encode_lower-none front = grind (arith, common_steps)

pub encode_more : (front xs : List ℕ) (i : ℕ) → i < length xs
    → ((front ++ encode_lower (take i xs)) ++ slice_index lower_digits (get_or xs i 0 / 16) ∷ []) ++ slice_index lower_digits (get_or xs i 0 % 16) ∷ []
    ≡ front ++ encode_lower (take (i + 1) xs)
encode_more front xs i within =
    rw (take_more xs i 0 within, encode_with-append lower_digits (take i xs) (get_or xs i 0 ∷ []), encode_with-one lower_digits (get_or xs i 0))
    (append_assoc (front ++ encode_lower (take i xs)) _ _ ∙ append_assoc front (encode_lower (take i xs)) _)

pub length-encode_lower : (xs : List ℕ) → length (encode_lower xs) ≡ 2 * length xs
length-encode_lower xs = length-encode_with lower_digits xs

spelled : (text : List ℕ) → 0 < length text → spelled_octets text ≡ result_ok (decode_of text)
spelled [] some = absurd (omega arith)
spelled (c ∷ text) some = refl

pub spelled_octets-encode_lower : (xs : List ℕ) → IsBytes xs → 0 < length xs → spelled_octets (encode_lower xs) ≡ Some xs
spelled_octets-encode_lower xs bytes some =
    spelled (encode_lower xs) (omega (arith, length-encode_with lower_digits xs)) ∙ ap (λ (r : Result (List ℕ) FromHexError). result_ok r) (decode_of-encode_lower xs bytes)

-- a text that has no digits alone spells no octets
spelled_by : (text : List ℕ) (read : Result (List ℕ) FromHexError) → decode_of text ≡ read → ((octets : List ℕ) → decode_of text ≡ Ok octets → ⊥) → result_ok read ≡ None
spelled_by text (Ok octets) is never = absurd (never octets is)
spelled_by text (Err e) is never = refl

spelled_none : (text : List ℕ) → ((0 < length text) × (length text % 2 ≡ 0) × AllPass is_hex_digit text → ⊥) → spelled_octets text ≡ None
spelled_none [] never = refl
spelled_none (c ∷ text) never =
    spelled_by (c ∷ text) (decode_of (c ∷ text)) refl (λ octets is. let ok = decode_of-ok (c ∷ text) octets is in never (omega arith, ok.0, ok.1))

pub none_decoded : (text : List ℕ) (all : Bool) (n : ℕ) → IsTrue all ↔ AllPass is_hex_digit text → IfNone (then_some all n) (spelled_octets text ≡ None)
none_decoded text true n digits = tt
none_decoded text false n digits = spelled_none text (λ all. absurd (let no = digits.1 all.2 in cc))

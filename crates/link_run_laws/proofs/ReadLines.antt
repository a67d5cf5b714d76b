-- The lines of a capture that is written are read back: numbers as numbers, digits as octets.
use Rattle.std.proofs.Common.{codes, ◌≡◌, ◌≢◌, ◌==◌, ℕ, ◌+◌, ◌^◌, ◌<◌, ◌≤◌, true, false, not, List, [], ◌∷◌, ◌++◌, length, take, drop, get_or, All, cond, Some, None, Ok, inl, inr, refl, sym, ap, ◌∙◌, arith, append_assoc, length-append}
use Rattle.std.specs.Prelude.{decimal, nat_lt}
use Rattle.std.specs.Char.{is_ascii_digit}
use Rattle.std.specs.List.{list_all, position_or_len}
use Rattle.std.specs.Str.{all_ascii_digits}
use Rattle.std.proofs.lemmas.Bool.{and_parts, both_ways, cases_lt, cond-true, eq-eqb, eqb-true, false_from_ne_true, lt-ltb, not-true}
use Rattle.std.proofs.lemmas.Fmt.{length-decimal-le}
use Rattle.std.proofs.lemmas.List.{drop_at, get_or_at, get_or_append_left, get_or_past, take_at}
use Rattle.std.proofs.lemmas.List.Elements.{All-append, All-cons, All-nil, All-weaker}
use Rattle.std.proofs.lemmas.List.Sums.{position_or_len_is}
use Rattle.hex.specs.Hex.{IsBytes, encode_lower, is_hex_digit}
use Rattle.hex.proofs.HexLemmas.{decode_of-encode_lower, decode_of-ok}
use Rattle.link_base.specs.Record.{Record}
use Rattle.link_run_capture.proofs.CaptureLines.{at_most_some}
use Rattle.link_run_capture.specs.Capture.{latest_tick, record_by, record_in, record_of}
use Rattle.link_run_capture.specs.Written.{record_text}
use Rattle.link_run_delay.specs.Existing.{AreOctets}
use Rattle.link_text.proofs.DecimalLemmas.{decimal_value-decimal, decimal_value_parts}
use Rattle.link_text.proofs.HexadecimalLemmas.{length-encode_lower, spelled_octets-encode_lower}
use Rattle.link_text.specs.Decimals.{decimal_value}
use Rattle.link_text.specs.Fields.{at_first_space, cut_at, is_space}
use Rattle.link_text.specs.Hexadecimal.{spelled_octets}
use Rattle.link_text.specs.Lines.{HasNoFeed}

-- ---- what stands in no number and in no digits

abbrev pub HasNo : ℕ → List ℕ → Type 0
HasNo c text = All (λ x. x ≢ c) text

pub none_by_test : (c : ℕ) (text : List ℕ) → list_all (λ x. not (x == c)) text ≡ true → HasNo c text
none_by_test c [] test = All-nil (λ x. x ≢ c)
none_by_test c (x ∷ xs) test =
    let parts = and_parts (not (x == c)) (list_all (λ y. not (y == c)) xs) test in
    All-cons (λ y. y ≢ c) x xs (λ same. both_ways (x == c) (not-true (x == c) parts.0) (eq-eqb x c same)) (none_by_test c xs parts.1)

none_of_digits : (c : ℕ) → is_ascii_digit c ≡ false → (text : List ℕ) → all_ascii_digits text ≡ true → HasNo c text
none_of_digits c other [] all = All-nil (λ x. x ≢ c)
none_of_digits c other (x ∷ xs) all =
    let parts = and_parts (is_ascii_digit x) (all_ascii_digits xs) all in
    All-cons (λ y. y ≢ c) x xs (λ same. both_ways (is_ascii_digit c) other (ap is_ascii_digit (sym same) ∙ parts.0)) (none_of_digits c other xs parts.1)

pub HasNo-decimal : (c n : ℕ) → is_ascii_digit c ≡ false → n < 2 ^ 64 → HasNo c (decimal n)
HasNo-decimal c n other low = none_of_digits c other (decimal n) (decimal_value_parts (decimal n) n (decimal_value-decimal n low)).0.digits

pub HasNo-encode_lower : (c : ℕ) (octets : List ℕ) → is_hex_digit c ≡ false → IsBytes octets → HasNo c (encode_lower octets)
HasNo-encode_lower c octets other bytes =
    let digits = (decode_of-ok (encode_lower octets) octets (decode_of-encode_lower octets bytes)).1 in
    All-weaker (λ x. is_hex_digit x ≡ true) (λ x. x ≢ c) (λ x is same. both_ways (is_hex_digit c) other (ap is_hex_digit (sym same) ∙ is)) (encode_lower octets) digits

pub IsBytes-octets : (octets : List ℕ) → AreOctets octets → IsBytes octets
IsBytes-octets octets small i = elim (cases_lt i (length octets)) [
  | inl within ↦ small i 0 within
  | inr past ↦ let none = get_or_past octets i 0 past in omega (arith, none)
]

-- ---- the first space

cut_by : (line front rest : List ℕ) (n : ℕ) → n < length line → position_or_len is_space line ≡ n → take n line ≡ front → drop (n + 1) line ≡ rest → at_first_space line ≡ Some (front, rest)
cut_by line front rest n within place before after =
    let found : cond (nat_lt (position_or_len is_space line) (length line)) (Some (position_or_len is_space line)) None ≡ Some n =
    ap (λ k. cond (nat_lt k (length line)) (Some k) None) place ∙ cond-true (nat_lt n (length line)) (Some n) None (lt-ltb n (length line) within) in
    ap (cut_at line) found ∙ ap (λ text. Some (text, drop (n + 1) line)) before ∙ ap (λ text. Some (front, text)) after

pub cut_at_space : (front rest : List ℕ) → HasNo 32 front → at_first_space (front ++ 32 ∷ rest) ≡ Some (front, rest)
cut_at_space front rest none =
    let line = front ++ 32 ∷ rest in
    let n = length front in
    let long : n < length line = omega (arith, length-append front (32 ∷ rest)) in
    let place : position_or_len is_space line ≡ n =
    position_or_len_is is_space line n 0 (omega (arith, long))
    (λ k before.
    ap is_space (get_or_append_left front (32 ∷ rest) 0 k before)
    ∙ false_from_ne_true (is_space (get_or front k 0)) (λ is. none k 0 before (eqb-true (get_or front k 0) 32 is)))
    (λ _. ap is_space (get_or_at front 32 rest 0 n refl)) in
    let after : drop (n + 1) line ≡ rest =
    ap (drop (n + 1)) (sym (append_assoc front (32 ∷ []) rest)) ∙ drop_at (front ++ 32 ∷ []) rest (n + 1) (length-append front (32 ∷ [])) in
    cut_by line front rest n long place (take_at front (32 ∷ rest) n refl) after

-- ---- a record

-- a record that can be written: its tick is a record's, and its octets make a line that is not too long
pub record IsWritten (r : Record) : Type 0 where
  pub early : r.tick ≤ latest_tick
  pub bytes : IsBytes r.octets
  pub some : 0 < length r.octets
  pub short : length r.octets ≤ 1514

pub record_back : (r : Record) → IsWritten r → record_of (record_text r.tick r.octets) ≡ Ok r
unfolding record_of record_text
record_back r is =
    let early = is.early in
    let low : r.tick < 2 ^ 64 = omega arith in
    let digits = encode_lower r.octets in
    let text = decimal r.tick in
    let line : (text ++ codes " ") ++ digits ≡ text ++ 32 ∷ digits = append_assoc text (codes " ") digits in
    let fields = ap at_first_space line ∙ cut_at_space text digits (HasNo-decimal 32 r.tick refl low) in
    ap (record_in ((text ++ codes " ") ++ digits)) fields
    ∙ ap (λ tick. record_by tick (spelled_octets digits)) (at_most_some latest_tick r.tick (decimal_value text) (decimal_value-decimal r.tick low) early)
    ∙ ap (record_by (Some r.tick)) (spelled_octets-encode_lower r.octets is.bytes is.some)

pub record_no_feed : (r : Record) → IsWritten r → HasNoFeed (record_text r.tick r.octets)
unfolding record_text
record_no_feed r is =
    let early = is.early in
    let F : ℕ → Type 0 = λ c. c ≢ 10 in
    All-append F (decimal r.tick ++ codes " ") (encode_lower r.octets)
    (All-append F (decimal r.tick) (codes " ") (HasNo-decimal 10 r.tick refl (omega arith)) (All-cons F 32 [] (λ same. absurd (omega (arith, same))) (All-nil F)))
    (HasNo-encode_lower 10 r.octets refl is.bytes)

pub record_short : (r : Record) → IsWritten r → length (record_text r.tick r.octets) ≤ 4096
unfolding record_text
record_short r is =
    let early = is.early in
    let text = length-decimal-le 20 r.tick (omega arith) (omega arith) (omega arith) in
    omega (arith, is.short, text, length-append (decimal r.tick ++ codes " ") (encode_lower r.octets), length-append (decimal r.tick) (codes " "), length-encode_lower r.octets)

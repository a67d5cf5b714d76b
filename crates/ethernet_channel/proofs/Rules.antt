-- The rules, at the groups that a reader keeps in a few numbers.
use Rattle.std.proofs.Common.{◌≡◌, ℕ, zero, suc, ◌+◌, ◌-◌, ◌<◌, Bool, true, false, ◌||◌, eqb, List, [], ◌∷◌, ◌++◌, length, take, drop, map, replicate, refl, sym, ◌∙◌, ap, arith, length-append}
use Rattle.std.specs.List.{list_any, prefix_len}
use Rattle.std.specs.Option.{unwrap_or}
use Rattle.std.proofs.lemmas.Bool.{eq-eqb, ne_eqb, cond-true, cond-false, or_right}
use Rattle.std.proofs.lemmas.List.{length-map, length-replicate, take_at, length_push}
use Rattle.std.proofs.lemmas.List.Elements.{All-head, All-tail}
use Rattle.std.proofs.lemmas.List.Folds.{list_any-append}
use Rattle.ethernet_channel.specs.Codes.{code_of, five, delimiter, terminate}
use Rattle.ethernet_channel.specs.Events.{nibbles_of, preamble_rule, data_rule, end_rule, frame_rule, rule}
use Rattle.ethernet_channel.specs.Keeps.{AreNibbles}
use Rattle.ethernet_channel.proofs.CodeTables.{code_of_nibble, five_is, delimiter_is}

abbrev is_five : ℕ → Bool
is_five k = eqb k five

abbrev is_terminate : ℕ → Bool
is_terminate k = eqb k terminate

-- ---- before D

five_is_five : eqb five five ≡ true
five_is_five = eq-eqb five five refl

delimiter_is_not_five : eqb delimiter five ≡ false
delimiter_is_not_five = rw (five_is, delimiter_is) refl

fives_all : (n : ℕ) → prefix_len is_five (replicate n five) ≡ n
fives_all zero = refl
fives_all (suc n) =
    cond-true (eqb five five) (1 + prefix_len is_five (replicate n five)) 0 five_is_five ∙ omega (arith, fives_all n)

fives_before : (n : ℕ) (gs : List ℕ) → prefix_len is_five (replicate n five ++ delimiter ∷ gs) ≡ n
fives_before zero gs = cond-false (eqb delimiter five) (1 + prefix_len is_five gs) 0 delimiter_is_not_five
fives_before (suc n) gs =
    cond-true (eqb five five) (1 + prefix_len is_five (replicate n five ++ delimiter ∷ gs)) 0 five_is_five ∙ omega (arith, fives_before n gs)

pub rule-preamble : (n g : ℕ) → rule (replicate n five) g ≡ preamble_rule n g
unfolding rule
rule-preamble n g =
    let gs = replicate n five in
    let fives = prefix_len is_five gs in
    let all : fives ≡ length gs = fives_all n ∙ sym (length-replicate n five) in
    cond-true (eqb fives (length gs)) (preamble_rule fives g) (frame_rule (drop (suc fives) gs) g) (eq-eqb fives (length gs) all)
    ∙ ap (λ k. preamble_rule k g) (fives_all n)

-- ---- after D

drop_preamble : (n : ℕ) (gs : List ℕ) → drop (suc n) (replicate n five ++ delimiter ∷ gs) ≡ gs
drop_preamble zero gs = refl
drop_preamble (suc n) gs = drop_preamble n gs

pub rule-frame : (n : ℕ) (gs : List ℕ) (g : ℕ) → rule (replicate n five ++ delimiter ∷ gs) g ≡ frame_rule gs g
unfolding rule
rule-frame n gs g =
    let before = replicate n five ++ delimiter ∷ gs in
    let fives = prefix_len is_five before in
    let long : length before ≡ n + suc (length gs) = omega (arith, length-append (replicate n five) (delimiter ∷ gs), length-replicate n five) in
    let more : eqb fives (length before) ≡ false = ne_eqb fives (length before) (λ e. omega (arith, e, long, fives_before n gs)) in
    cond-false (eqb fives (length before)) (preamble_rule fives g) (frame_rule (drop (suc fives) before) g) more
    ∙ ap (λ k. frame_rule (drop (suc k) before) g) (fives_before n gs)
    ∙ ap (λ xs. frame_rule xs g) (drop_preamble n gs)

no_terminate : (nibbles : List ℕ) → AreNibbles nibbles → list_any is_terminate (map code_of nibbles) ≡ false
no_terminate [] all = refl
no_terminate (n ∷ nibbles) all =
    let other : eqb (code_of n) terminate ≡ false = ne_eqb (code_of n) terminate (code_of_nibble n (All-head (λ k. k < 16) n nibbles all)).no_end in
    ap (λ b. b || list_any is_terminate (map code_of nibbles)) other ∙ no_terminate nibbles (All-tail (λ k. k < 16) n nibbles all)

pub frame_rule-data : (nibbles : List ℕ) (g : ℕ) → AreNibbles nibbles → frame_rule (map code_of nibbles) g ≡ data_rule (length nibbles) g
frame_rule-data nibbles g all =
    let gs = map code_of nibbles in
    cond-false (list_any is_terminate gs) (end_rule (nibbles_of (take (length gs - 1) gs)) g) (data_rule (length gs) g) (no_terminate nibbles all)
    ∙ ap (λ n. data_rule n g) (length-map nibbles code_of)

pub nibbles_of_codes : (nibbles : List ℕ) → AreNibbles nibbles → nibbles_of (map code_of nibbles) ≡ nibbles
nibbles_of_codes [] all = refl
nibbles_of_codes (n ∷ nibbles) all =
    let back = (code_of_nibble n (All-head (λ k. k < 16) n nibbles all)).back in
    ap (λ o. unwrap_or o 0 ∷ nibbles_of (map code_of nibbles)) back
    ∙ ap (λ xs. n ∷ xs) (nibbles_of_codes nibbles (All-tail (λ k. k < 16) n nibbles all))

pub frame_rule-end : (nibbles : List ℕ) (g : ℕ) → AreNibbles nibbles → frame_rule (map code_of nibbles ++ terminate ∷ []) g ≡ end_rule nibbles g
frame_rule-end nibbles g all =
    let codes = map code_of nibbles in
    let gs = codes ++ terminate ∷ [] in
    let there : (eqb terminate terminate || false) ≡ true = ap (λ b. b || false) (eq-eqb terminate terminate refl) in
    let found : list_any is_terminate gs ≡ true =
    list_any-append is_terminate codes (terminate ∷ []) ∙ or_right (list_any is_terminate codes) _ there in
    let most : length codes ≡ length gs - 1 = omega (arith, length_push codes terminate) in
    cond-true (list_any is_terminate gs) (end_rule (nibbles_of (take (length gs - 1) gs)) g) (data_rule (length gs) g) found
    ∙ ap (λ xs. end_rule (nibbles_of xs) g) (take_at codes (terminate ∷ []) (length gs - 1) most)
    ∙ ap (λ xs. end_rule xs g) (nibbles_of_codes nibbles all)

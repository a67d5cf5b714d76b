-- The groups of a written frame, and that nothing is found at them before the R.
use Rattle.std.proofs.Common.{◌≡◌, ℕ, zero, suc, ◌+◌, ◌*◌, ◌/◌, ◌%◌, ◌<◌, ◌≤◌, Bool, true, false, eqb, List, [], ◌∷◌, ◌++◌, length, map, replicate, Some, None, refl, sym, ◌∙◌, ap, arith, append_assoc, length-append, add-one, zero-add, rules}
use Rattle.std.specs.List.{All, flat_map}
use Rattle.std.proofs.lemmas.Bool.{agree_below, agree_below_at, eq-eqb, ne_eqb, eqb-true, cond-true}
use Rattle.std.proofs.lemmas.List.{append-nil, length_push, replicate_more, map_push}
use Rattle.std.proofs.lemmas.List.Elements.{All-nil, All-cons, All-append, All-head, All-tail}
use Rattle.ethernet_channel.specs.Codes.{number, groups, nibble_of, code_of, five, delimiter, terminate, reset, idle}
use Rattle.ethernet_channel.specs.Events.{octets_of, preamble_rule, data_rule, ended, rule, answer_or, first_answer}
use Rattle.ethernet_channel.specs.FastStream.{nibble_bits, coded, preamble, ending}
use Rattle.ethernet_channel.specs.Keeps.{AreNibbles}
use Rattle.ethernet_channel.specs.Nibbles.{nibbles_in}
use Rattle.ethernet_channel.specs.Written.{whole_frame}
use Rattle.ethernet_channel.proofs.CodeTables.{code_of_nibble, terminate_is_none}
use Rattle.ethernet_channel.proofs.CodeTables.{code_on_literals as reading_on_literals}
use Rattle.ethernet_channel.proofs.EncodingTable.{code_on_literals}
use Rattle.ethernet_channel.proofs.NibbleLemmas.{length-nibbles_in}
use Rattle.ethernet_channel.proofs.Readings.{first_answer-append, first_answer-push}
use Rattle.ethernet_channel.proofs.Rules.{rule-preamble, rule-frame, frame_rule-data, frame_rule-end}

-- ---- bits as groups

groups_five : (bits more : List Bool) → length bits ≡ 5 → groups (bits ++ more) ≡ number bits ∷ groups more
groups_five [] more e = absurd (omega arith)
groups_five (a ∷ []) more e = absurd (omega arith)
groups_five (a ∷ b ∷ []) more e = absurd (omega arith)
groups_five (a ∷ b ∷ c ∷ []) more e = absurd (omega arith)
groups_five (a ∷ b ∷ c ∷ d ∷ []) more e = absurd (omega arith)
groups_five (a ∷ b ∷ c ∷ d ∷ e ∷ []) more h = refl
groups_five (a ∷ b ∷ c ∷ d ∷ e ∷ f ∷ bits) more h = absurd (omega arith)

five_bits_pass : agree_below (λ n. eqb (length (nibble_bits n)) 5) (λ n. true) 16 ≡ true
unfolding code_on_literals
five_bits_pass = refl

length-nibble_bits : (n : ℕ) → n < 16 → length (nibble_bits n) ≡ 5
length-nibble_bits n h = eqb-true _ _ (agree_below_at (λ k. eqb (length (nibble_bits k)) 5) (λ k. true) 16 n five_bits_pass h)

number-nibble_bits : (n : ℕ) → number (nibble_bits n) ≡ code_of n
unfolding nibble_bits code_of
number-nibble_bits n = refl

groups-nibbles : (nibbles : List ℕ) (more : List Bool) → AreNibbles nibbles
    → groups (flat_map nibble_bits nibbles ++ more) ≡ map code_of nibbles ++ groups more
groups-nibbles [] more all = refl
groups-nibbles (n ∷ nibbles) more all =
    ap groups (append_assoc (nibble_bits n) (flat_map nibble_bits nibbles) more)
    ∙ groups_five (nibble_bits n) (flat_map nibble_bits nibbles ++ more) (length-nibble_bits n (All-head (λ k. k < 16) n nibbles all))
    ∙ ap (λ g. g ∷ groups (flat_map nibble_bits nibbles ++ more)) (number-nibble_bits n)
    ∙ ap (λ gs. code_of n ∷ gs) (groups-nibbles nibbles more (All-tail (λ k. k < 16) n nibbles all))

pub length-nibbles : (nibbles : List ℕ) → AreNibbles nibbles → length (flat_map nibble_bits nibbles) ≡ 5 * length nibbles
length-nibbles [] all = refl
length-nibbles (n ∷ nibbles) all =
    omega (
      arith,
      length-append (nibble_bits n) (flat_map nibble_bits nibbles),
      length-nibble_bits n (All-head (λ k. k < 16) n nibbles all),
      length-nibbles nibbles (All-tail (λ k. k < 16) n nibbles all),
    )

-- the octets of a frame, by nibbles
pub coded_nibbles : (frame : List ℕ) → flat_map coded frame ≡ flat_map nibble_bits (nibbles_in frame)
unfolding coded
coded_nibbles [] = refl
coded_nibbles (octet ∷ frame) =
    append_assoc (nibble_bits (octet % 16)) (nibble_bits (octet / 16)) (flat_map coded frame)
    ∙ ap (λ xs. nibble_bits (octet % 16) ++ (nibble_bits (octet / 16) ++ xs)) (coded_nibbles frame)

pub are_nibbles : (frame : List ℕ) → All (λ octet. octet < 256) frame → AreNibbles (nibbles_in frame)
are_nibbles [] all = All-nil (λ n. n < 16)
are_nibbles (octet ∷ frame) all =
    let small : octet < 256 = All-head (λ k. k < 256) octet frame all in
    All-cons (λ n. n < 16) (octet % 16) (octet / 16 ∷ nibbles_in frame) (omega arith)
    (All-cons (λ n. n < 16) (octet / 16) (nibbles_in frame) (omega (arith, small)) (are_nibbles frame (All-tail (λ k. k < 256) octet frame all)))

octets_back : (frame : List ℕ) → octets_of (nibbles_in frame) ≡ frame
octets_back [] = refl
octets_back (octet ∷ frame) =
    let whole : octet % 16 + 16 * (octet / 16) ≡ octet = omega arith in
    ap (λ k. k ∷ octets_of (nibbles_in frame)) whole ∙ ap (λ xs. octet ∷ xs) (octets_back frame)

-- ---- nothing is found before R

first_push : (gs : List ℕ) (g : ℕ) → first_answer [] gs ≡ None → first_answer [] (gs ++ g ∷ []) ≡ answer_or (rule gs g) (suc (length gs)) None
first_push gs g e = first_answer-push [] gs g e ∙ ap (λ n. answer_or (rule gs g) (suc n) None) (zero-add (length gs))

silent_push : (gs : List ℕ) (g : ℕ) → first_answer [] gs ≡ None → rule gs g ≡ None → first_answer [] (gs ++ g ∷ []) ≡ None
silent_push gs g e quiet = first_push gs g e ∙ ap (λ o. answer_or o (suc (length gs)) None) quiet

five_quiet : (n : ℕ) → n < 13 → preamble_rule n five ≡ None
five_quiet n h =
    let few : eqb n 13 ≡ false = ne_eqb n 13 (λ e. omega (arith, e)) in
    let here : eqb five five ≡ true = eq-eqb five five refl in
    rw (here, few) refl

silent_fives : (n : ℕ) → n ≤ 13 → first_answer [] (replicate n five) ≡ None
silent_fives zero h = refl
silent_fives (suc n) h =
    let same : replicate n five ++ five ∷ [] ≡ replicate (suc n) five = replicate_more n five ∙ ap (λ k. replicate k five) (add-one n) in
    ap (first_answer []) (sym same)
    ∙ silent_push (replicate n five) five (silent_fives n (omega arith)) (rule-preamble n five ∙ five_quiet n (omega arith))

abbrev pub before_data : List ℕ
before_data = replicate 13 five ++ delimiter ∷ []

delimiter_quiet : preamble_rule 13 delimiter ≡ None
unfolding reading_on_literals
delimiter_quiet = refl

silent_delimiter : first_answer [] (replicate 13 five ++ delimiter ∷ []) ≡ None
silent_delimiter = silent_push (replicate 13 five) delimiter (silent_fives 13 (omega arith)) (rule-preamble 13 delimiter ∙ delimiter_quiet)

nibble_quiet : (count n : ℕ) → count < 3044 → n < 16 → data_rule count (code_of n) ≡ None
nibble_quiet count n few small =
    let back : nibble_of (code_of n) ≡ Some n = (code_of_nibble n small).back in
    let short : eqb count 3044 ≡ false = ne_eqb count 3044 (λ e. omega (arith, e)) in
    rw (back, short) refl

abbrev pub frame_groups : List ℕ → List ℕ
frame_groups nibbles = replicate 13 five ++ delimiter ∷ map code_of nibbles

silent_data : (nibbles more : List ℕ) → AreNibbles nibbles → AreNibbles more → length nibbles + length more ≤ 3044
    → first_answer [] (frame_groups nibbles) ≡ None → first_answer [] (frame_groups (nibbles ++ more)) ≡ None
silent_data nibbles [] all all' few e = ap (λ xs. first_answer [] (frame_groups xs)) (append-nil nibbles) ∙ e
silent_data nibbles (n ∷ more) all all' few e =
    let small : n < 16 = All-head (λ k. k < 16) n more all' in
    let quiet : rule (frame_groups nibbles) (code_of n) ≡ None =
    rule-frame 13 (map code_of nibbles) (code_of n) ∙ frame_rule-data nibbles (code_of n) all
    ∙ nibble_quiet (length nibbles) n (omega arith) small in
    let same : frame_groups nibbles ++ code_of n ∷ [] ≡ frame_groups (nibbles ++ n ∷ []) =
    append_assoc (replicate 13 five) (delimiter ∷ map code_of nibbles) (code_of n ∷ [])
    ∙ ap (λ cs. replicate 13 five ++ delimiter ∷ cs) (sym (map_push code_of nibbles n)) in
    let next : first_answer [] (frame_groups (nibbles ++ n ∷ [])) ≡ None =
    ap (first_answer []) (sym same) ∙ silent_push (frame_groups nibbles) (code_of n) e quiet in
    let both : AreNibbles (nibbles ++ n ∷ []) = All-append (λ k. k < 16) nibbles (n ∷ []) all (All-cons (λ k. k < 16) n [] small (All-nil (λ k. k < 16))) in
    ap (λ xs. first_answer [] (frame_groups xs)) (sym (append_assoc nibbles (n ∷ []) more))
    ∙ silent_data (nibbles ++ n ∷ []) more both (All-tail (λ k. k < 16) n more all') (omega (arith, length_push nibbles n, few)) next

terminate_quiet : (count : ℕ) → data_rule count terminate ≡ None
terminate_quiet count =
    let here : eqb terminate terminate ≡ true = eq-eqb terminate terminate refl in
    rw (terminate_is_none, here) refl

silent_end : (nibbles : List ℕ) → AreNibbles nibbles → length nibbles ≤ 3044 → first_answer [] (frame_groups nibbles ++ terminate ∷ []) ≡ None
silent_end nibbles all few =
    silent_push (frame_groups nibbles) terminate (silent_data [] nibbles (All-nil (λ k. k < 16)) all (omega arith) silent_delimiter)
    (rule-frame 13 (map code_of nibbles) terminate ∙ frame_rule-data nibbles terminate all ∙ terminate_quiet (length nibbles))

-- ---- what is found at R

ended_whole : (frame : List ℕ) → 1 ≤ length frame → ended (nibbles_in frame) ≡ whole_frame frame
ended_whole frame some =
    let long = length-nibbles_in frame in
    let full : eqb (length (nibbles_in frame)) 0 ≡ false = ne_eqb (length (nibbles_in frame)) 0 (λ e. omega (arith, e, long, some)) in
    let even : eqb (length (nibbles_in frame) % 2) 1 ≡ false = ne_eqb (length (nibbles_in frame) % 2) 1 (λ e. omega (arith, e, long)) in
    rw (full, even) (ap whole_frame (octets_back frame))

-- the groups of a frame up to its R
abbrev pub to_reset : List ℕ → List ℕ
to_reset nibbles = (frame_groups nibbles ++ terminate ∷ []) ++ reset ∷ []

pub found_at_reset : (frame more : List ℕ) → All (λ octet. octet < 256) frame → 1 ≤ length frame → length frame ≤ 1522
    → first_answer [] (to_reset (nibbles_in frame) ++ more)
    ≡ Some (record { groups = suc (length (frame_groups (nibbles_in frame) ++ terminate ∷ [])); found = whole_frame frame })
found_at_reset frame more octets some few =
    let nibbles = nibbles_in frame in
    let all = are_nibbles frame octets in
    let gs = frame_groups nibbles ++ terminate ∷ [] in
    let here : eqb reset reset ≡ true = eq-eqb reset reset refl in
    let rules : rule gs reset ≡ Some (whole_frame frame) =
    ap (λ xs. rule xs reset) (append_assoc (replicate 13 five) (delimiter ∷ map code_of nibbles) (terminate ∷ []))
    ∙ rule-frame 13 (map code_of nibbles ++ terminate ∷ []) reset
    ∙ frame_rule-end nibbles reset all
    ∙ cond-true (eqb reset reset) (Some (ended nibbles)) _ here
    ∙ ap Some (ended_whole frame some) in
    first_answer-append [] (gs ++ reset ∷ []) more _
    (first_push gs reset (silent_end nibbles all (omega (arith, length-nibbles_in frame)))
    ∙ ap (λ o. answer_or o (suc (length gs)) None) rules)

-- ---- the groups of a written frame

preamble_codes : map code_of preamble ≡ before_data
unfolding reading_on_literals
preamble_codes = refl

preamble_nibbles : AreNibbles preamble
preamble_nibbles = search rules

ending_groups : (more : List Bool) → groups (ending ++ more) ≡ terminate ∷ reset ∷ groups more
unfolding code_on_literals reading_on_literals
ending_groups more = refl

-- the bits after J K
abbrev pub after_start_bits : List ℕ → List Bool
after_start_bits frame = flat_map nibble_bits preamble ++ (flat_map coded frame ++ (ending ++ idle))

pub frame_groups_are : (frame : List ℕ) → All (λ octet. octet < 256) frame
    → groups (after_start_bits frame) ≡ to_reset (nibbles_in frame) ++ groups idle
frame_groups_are frame octets =
    let nibbles = nibbles_in frame in
    groups-nibbles preamble (flat_map coded frame ++ (ending ++ idle)) preamble_nibbles
    ∙ ap (λ cs. cs ++ groups (flat_map coded frame ++ (ending ++ idle))) preamble_codes
    ∙ ap (λ xs. before_data ++ groups (xs ++ (ending ++ idle))) (coded_nibbles frame)
    ∙ ap (λ gs. before_data ++ gs) (groups-nibbles nibbles (ending ++ idle) (are_nibbles frame octets))
    ∙ ap (λ gs. before_data ++ (map code_of nibbles ++ gs)) (ending_groups idle)
    ∙ regroup (replicate 13 five) (map code_of nibbles) (groups idle)
  where
    regroup : (fives codes last : List ℕ)
        → (fives ++ delimiter ∷ []) ++ (codes ++ terminate ∷ reset ∷ last) ≡ (((fives ++ delimiter ∷ codes) ++ terminate ∷ []) ++ reset ∷ []) ++ last
    regroup fives codes last = simp append_assoc

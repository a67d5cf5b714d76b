-- What is found in a list of bits, and in the same list with more bits at its end.
use Rattle.std.proofs.Common.{◌≡◌, ℕ, suc, ◌+◌, ◌*◌, ◌<◌, ◌≤◌, Bool, true, false, cond, List, [], ◌∷◌, ◌++◌, length, take, drop, Option, Some, None, refl, sym, ◌∙◌, ap, arith, append_assoc, length-append, length-take}
use Rattle.std.proofs.lemmas.List.{append-nil, take-append-drop, drop-append-le, length_push}
use Rattle.std.proofs.lemmas.Bool.{cond-true, cond-false}
use Rattle.ethernet_channel.specs.Codes.{number, start, groups}
use Rattle.ethernet_channel.specs.Keeps.{part_of_group}
use Rattle.ethernet_channel.specs.Events.{Found, Answer, rule, answer_or, first_answer, begins_with, after_start}

-- ---- J K

length_start : length start ≡ 10
unfolding start
length_start = refl

begins_with-length : (front bits : List Bool) → begins_with front bits ≡ true → length front ≤ length bits
begins_with-length [] bits h = omega arith
begins_with-length (b ∷ front) [] h = absurd (cc)
begins_with-length (true ∷ front) (true ∷ bits) h = omega (arith, begins_with-length front bits h)
begins_with-length (true ∷ front) (false ∷ bits) h = absurd (cc)
begins_with-length (false ∷ front) (true ∷ bits) h = absurd (cc)
begins_with-length (false ∷ front) (false ∷ bits) h = omega (arith, begins_with-length front bits h)

pub begins_with-append : (front bits more : List Bool) → length front ≤ length bits → begins_with front (bits ++ more) ≡ begins_with front bits
begins_with-append [] bits more h = refl
begins_with-append (b ∷ front) [] more h = absurd (omega arith)
begins_with-append (true ∷ front) (true ∷ bits) more h = begins_with-append front bits more (omega arith)
begins_with-append (true ∷ front) (false ∷ bits) more h = refl
begins_with-append (false ∷ front) (true ∷ bits) more h = refl
begins_with-append (false ∷ front) (false ∷ bits) more h = begins_with-append front bits more (omega arith)

-- the bits after J K end the list
pub record Began (bits rest : List Bool) : Type 0 where
  pub front : List Bool
  pub whole : bits ≡ front ++ rest
  pub long : 10 ≤ length front

began_by : (here : Bool) (bit : Bool) (bits rest : List Bool) → begins_with start (bit ∷ bits) ≡ here
    → (after_start bits ≡ Some rest → Began bits rest)
    → cond here (Some (drop 10 (bit ∷ bits))) (after_start bits) ≡ Some rest → Began (bit ∷ bits) rest
began_by true bit bits rest is later e =
    let long : 10 ≤ length (bit ∷ bits) = omega (arith, begins_with-length start (bit ∷ bits) is, length_start) in
    let same : drop 10 (bit ∷ bits) ≡ rest = cc in
    record {
      front = take 10 (bit ∷ bits);
      whole = sym (take-append-drop 10 (bit ∷ bits)) ∙ ap (λ xs. take 10 (bit ∷ bits) ++ xs) same;
      long = omega (arith, length-take 10 (bit ∷ bits), long);
    }
began_by false bit bits rest is later e =
    let more = later e in
    record {
      front = bit ∷ more.front;
      whole = ap (λ xs. bit ∷ xs) more.whole;
      long = omega (arith, more.long);
    }

pub after_start_began : (bits rest : List Bool) → after_start bits ≡ Some rest → Began bits rest
after_start_began [] rest e = absurd (cc)
after_start_began (bit ∷ bits) rest e = began_by (begins_with start (bit ∷ bits)) bit bits rest refl (after_start_began bits rest) e

pub length-after_start : (bits rest : List Bool) → after_start bits ≡ Some rest → 10 + length rest ≤ length bits
length-after_start bits rest e =
    let began = after_start_began bits rest e in omega (arith, began.long, ap length began.whole, length-append began.front rest)

start_by : (here : Bool) (bit : Bool) (bits more rest : List Bool) → begins_with start (bit ∷ bits) ≡ here
    → (after_start bits ≡ Some rest → after_start (bits ++ more) ≡ Some (rest ++ more))
    → cond here (Some (drop 10 (bit ∷ bits))) (after_start bits) ≡ Some rest → after_start ((bit ∷ bits) ++ more) ≡ Some (rest ++ more)
start_by true bit bits more rest is later e =
    let long : 10 ≤ length (bit ∷ bits) = omega (arith, begins_with-length start (bit ∷ bits) is, length_start) in
    let short : length start ≤ length (bit ∷ bits) = omega (arith, long, length_start) in
    let test : begins_with start ((bit ∷ bits) ++ more) ≡ true = begins_with-append start (bit ∷ bits) more short ∙ is in
    let same : drop 10 (bit ∷ bits) ≡ rest = cc in
    cond-true (begins_with start ((bit ∷ bits) ++ more)) (Some (drop 10 ((bit ∷ bits) ++ more))) (after_start (bits ++ more)) test
    ∙ ap Some (drop-append-le 10 (bit ∷ bits) more long ∙ ap (λ xs. xs ++ more) same)
start_by false bit bits more rest is later e =
    let long : 10 ≤ length bits = omega (arith, length-after_start bits rest e) in
    let short : length start ≤ length (bit ∷ bits) = omega (arith, long, length_start) in
    let test : begins_with start ((bit ∷ bits) ++ more) ≡ false = begins_with-append start (bit ∷ bits) more short ∙ is in
    cond-false (begins_with start ((bit ∷ bits) ++ more)) (Some (drop 10 ((bit ∷ bits) ++ more))) (after_start (bits ++ more)) test ∙ later e

pub after_start-append : (bits more rest : List Bool) → after_start bits ≡ Some rest → after_start (bits ++ more) ≡ Some (rest ++ more)
after_start-append [] more rest e = absurd (cc)
after_start-append (bit ∷ bits) more rest e =
    start_by (begins_with start (bit ∷ bits)) bit bits more rest refl (after_start-append bits more rest) e

-- ---- groups

pub groups-append : (bits more : List Bool) → groups (bits ++ more) ≡ groups bits ++ groups (part_of_group bits ++ more)
groups-append [] more = refl
groups-append (a ∷ []) more = refl
groups-append (a ∷ b ∷ []) more = refl
groups-append (a ∷ b ∷ c ∷ []) more = refl
groups-append (a ∷ b ∷ c ∷ d ∷ []) more = refl
groups-append (a ∷ b ∷ c ∷ d ∷ e ∷ bits) more = ap (λ gs. number (a ∷ b ∷ c ∷ d ∷ e ∷ []) ∷ gs) (groups-append bits more)

pub part_of_group-append : (bits more : List Bool) → part_of_group (bits ++ more) ≡ part_of_group (part_of_group bits ++ more)
part_of_group-append [] more = refl
part_of_group-append (a ∷ []) more = refl
part_of_group-append (a ∷ b ∷ []) more = refl
part_of_group-append (a ∷ b ∷ c ∷ []) more = refl
part_of_group-append (a ∷ b ∷ c ∷ d ∷ []) more = refl
part_of_group-append (a ∷ b ∷ c ∷ d ∷ e ∷ bits) more = part_of_group-append bits more

pub length-groups : (bits : List Bool) → 5 * length (groups bits) + length (part_of_group bits) ≡ length bits
length-groups [] = refl
length-groups (a ∷ []) = refl
length-groups (a ∷ b ∷ []) = refl
length-groups (a ∷ b ∷ c ∷ []) = refl
length-groups (a ∷ b ∷ c ∷ d ∷ []) = refl
length-groups (a ∷ b ∷ c ∷ d ∷ e ∷ bits) = omega (arith, length-groups bits)

pub length-part_of_group : (bits : List Bool) → length (part_of_group bits) < 5
length-part_of_group [] = omega arith
length-part_of_group (a ∷ []) = omega arith
length-part_of_group (a ∷ b ∷ []) = omega arith
length-part_of_group (a ∷ b ∷ c ∷ []) = omega arith
length-part_of_group (a ∷ b ∷ c ∷ d ∷ []) = omega arith
length-part_of_group (a ∷ b ∷ c ∷ d ∷ e ∷ bits) = length-part_of_group bits

-- the part ends the list
pub record EndsWith (bits part : List Bool) : Type 0 where
  pub front : List Bool
  pub whole : bits ≡ front ++ part

pub part_of_group_ends : (bits : List Bool) → EndsWith bits (part_of_group bits)
part_of_group_ends [] = record { front = []; whole = refl }
part_of_group_ends (a ∷ []) = record { front = []; whole = refl }
part_of_group_ends (a ∷ b ∷ []) = record { front = []; whole = refl }
part_of_group_ends (a ∷ b ∷ c ∷ []) = record { front = []; whole = refl }
part_of_group_ends (a ∷ b ∷ c ∷ d ∷ []) = record { front = []; whole = refl }
part_of_group_ends (a ∷ b ∷ c ∷ d ∷ e ∷ bits) =
    let more = part_of_group_ends bits in
    record { front = a ∷ b ∷ c ∷ d ∷ e ∷ more.front; whole = ap (λ xs. a ∷ b ∷ c ∷ d ∷ e ∷ xs) more.whole }

-- ---- the first event of a frame

answer_some : (o : Option Found) (n : ℕ) (later later' : Option Answer) (a : Answer) → (later ≡ Some a → later' ≡ Some a)
    → answer_or o n later ≡ Some a → answer_or o n later' ≡ Some a
answer_some (Some found) n later later' a go e = e
answer_some None n later later' a go e = go e

pub first_answer-append : (before gs more : List ℕ) (a : Answer) → first_answer before gs ≡ Some a → first_answer before (gs ++ more) ≡ Some a
first_answer-append before [] more a e = absurd (cc)
first_answer-append before (g ∷ gs) more a e =
    answer_some (rule before g) (suc (length before)) (first_answer (before ++ g ∷ []) gs) (first_answer (before ++ g ∷ []) (gs ++ more)) a
    (first_answer-append (before ++ g ∷ []) gs more a) e

answer_none : (o : Option Found) (n : ℕ) (later : Option Answer) → answer_or o n later ≡ None → (o ≡ None) × (later ≡ None)
answer_none (Some found) n later e = absurd (cc)
answer_none None n later e = (refl, e)

-- one more group after groups with no event
pub first_answer-push : (before gs : List ℕ) (g : ℕ) → first_answer before gs ≡ None
    → first_answer before (gs ++ g ∷ []) ≡ answer_or (rule (before ++ gs) g) (suc (length before + length gs)) None
first_answer-push before [] g e =
    let same : before ++ [] ≡ before = append-nil before in
    let count : length before + 0 ≡ length before = omega arith in
    rw (same, count) refl
first_answer-push before (k ∷ gs) g e =
    let parts = answer_none (rule before k) (suc (length before)) (first_answer (before ++ k ∷ []) gs) e in
    let same : (before ++ k ∷ []) ++ gs ≡ before ++ k ∷ gs = append_assoc before (k ∷ []) gs in
    let count : length (before ++ k ∷ []) + length gs ≡ length before + length (k ∷ gs) = omega (arith, length_push before k) in
    ap (λ o. answer_or o (suc (length before)) (first_answer (before ++ k ∷ []) (gs ++ g ∷ []))) parts.0
    ∙ first_answer-push (before ++ k ∷ []) gs g parts.1
    ∙ ap (λ xs. answer_or (rule xs g) (suc (length (before ++ k ∷ []) + length gs)) None) same
    ∙ ap (λ n. answer_or (rule (before ++ k ∷ gs) g) (suc n) None) count

answer_bound : (o : Option Found) (n : ℕ) (later : Option Answer) (a : Answer) (most : ℕ) → n ≤ most → (later ≡ Some a → a.groups ≤ most)
    → answer_or o n later ≡ Some a → a.groups ≤ most
answer_bound (Some found) n later a most h go e = let same : n ≡ a.groups = cc in omega arith
answer_bound None n later a most h go e = go e

pub first_answer_bound : (before gs : List ℕ) (a : Answer) → first_answer before gs ≡ Some a → a.groups ≤ length before + length gs
first_answer_bound before [] a e = absurd (cc)
first_answer_bound before (g ∷ gs) a e =
    answer_bound (rule before g) (suc (length before)) (first_answer (before ++ g ∷ []) gs) a (length before + suc (length gs)) (omega arith)
    (λ later. omega (arith, first_answer_bound (before ++ g ∷ []) gs a later, length_push before g)) e

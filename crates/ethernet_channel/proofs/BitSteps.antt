-- One more bit at the end of a list, for what a reader keeps.
use Rattle.std.proofs.Common.{◌≡◌, ℕ, suc, ◌+◌, ◌-◌, ◌*◌, ◌%◌, ◌^◌, ◌<◌, Bool, true, false, cond, eqb, List, [], ◌∷◌, ◌++◌, length, take, drop, map, replicate, get_or, Option, Some, None, refl, sym, ◌∙◌, ap, subst, arith, zero-add, append_assoc}
use Rattle.std.proofs.lemmas.Bool.{eqb-true, eqb-false, cond-false}
use Rattle.std.proofs.lemmas.List.{append-nil, length_push, take_all, take_at, get_or_push, drop_all, replicate_more, map_push}
use Rattle.std.proofs.lemmas.List.Elements.{All-nil, All-append, All-cons}
use Rattle.ethernet_channel.specs.declared.events.FastEvent.{FastEvent}
use Rattle.ethernet_channel.specs.declared.events.FastEvent.TheVariants as event
use Rattle.ethernet_channel.specs.declared.reader.Step.{Step}
use Rattle.ethernet_channel.specs.declared.reader.Step.TheVariants.{Hunting, Preamble, Data, End}
use Rattle.ethernet_channel.specs.Codes.{number, groups, code_of, nibble_of, five, delimiter, terminate, reset, start}
use Rattle.ethernet_channel.specs.Events.{Found, Answer, Reading, fault, octets_of, preamble_rule, data_rule, end_rule, rule, answer_or, first_answer, after_start, at_none, quiet, at_last, read_within, read, events_at, event_of, event_last, is_frame, frames_in, last_frame}
use Rattle.ethernet_channel.specs.Keeps.{Kept, part_of_group, preamble_groups, data_groups, groups_at, IsWithin, AreNibbles, IsAt, StandsFor}
use Rattle.ethernet_channel.specs.Steps.{Taken, goes_on, stops, takes_preamble, takes_nibble, takes_end, with_bit, hunts, takes_part, takes_in, takes}
use Rattle.ethernet_channel.proofs.CodeTables.{nibble_of_code}
use Rattle.ethernet_channel.proofs.Numbers.{number-push, number-last}
use Rattle.ethernet_channel.proofs.Readings.{after_start-append, after_start_began, length-after_start, groups-append, part_of_group-append, length-groups, length-part_of_group, part_of_group_ends, first_answer-push}
use Rattle.ethernet_channel.proofs.Cuts.{read_none, read_silent, read_some, then_at, Pushed, pushed}
use Rattle.ethernet_channel.proofs.Hunts.{is_started, after_start-push}
use Rattle.ethernet_channel.proofs.Rules.{rule-preamble, rule-frame, frame_rule-data, frame_rule-end}

-- ---- the last frame

frames_in-append : (xs ys : List (Option Found)) → frames_in (xs ++ ys) ≡ frames_in xs ++ frames_in ys
frames_in-append [] ys = refl
frames_in-append (None ∷ xs) ys = frames_in-append xs ys
frames_in-append (Some found ∷ xs) ys = by_kind (is_frame found.event) (frames_in-append xs ys)
  where
    by_kind : (b : Bool) → frames_in (xs ++ ys) ≡ frames_in xs ++ frames_in ys
        → cond b (found.octets ∷ frames_in (xs ++ ys)) (frames_in (xs ++ ys)) ≡ cond b (found.octets ∷ frames_in xs) (frames_in xs) ++ frames_in ys
    by_kind true e = ap (λ zs. found.octets ∷ zs) e
    by_kind false e = e

-- the last frame after one more answer
abbrev frame_after : List ℕ → Option Found → List ℕ
frame_after frame None = frame
frame_after frame (Some found) = cond (is_frame found.event) found.octets frame

last_frame-push : (xs : List (Option Found)) (o : Option Found) → last_frame (xs ++ o ∷ []) ≡ frame_after (last_frame xs) o
last_frame-push xs None =
    ap (λ frames. get_or frames (length frames - 1) []) (frames_in-append xs (None ∷ []) ∙ append-nil (frames_in xs))
last_frame-push xs (Some found) =
    ap (λ frames. get_or frames (length frames - 1) []) (frames_in-append xs (Some found ∷ [])) ∙ by_kind (is_frame found.event)
  where
    by_kind : (b : Bool) → (let frames = frames_in xs ++ cond b (found.octets ∷ []) [] in get_or frames (length frames - 1) []) ≡ cond b found.octets (last_frame xs)
    by_kind true =
        let count : length (frames_in xs) ≡ length (frames_in xs ++ found.octets ∷ []) - 1 = omega (arith, length_push (frames_in xs) found.octets) in
        get_or_push (frames_in xs) found.octets [] (length (frames_in xs ++ found.octets ∷ []) - 1) count
    by_kind false = ap (λ frames. get_or frames (length frames - 1) []) (append-nil (frames_in xs))

-- ---- a whole group

-- one more bit completes a group
record Grouped (since : List Bool) (bit : Bool) (rest : List Bool) (gs : List ℕ) (g : ℕ) : Type 0 where
  began : after_start (since ++ bit ∷ []) ≡ Some rest
  whole : groups rest ≡ gs ++ g ∷ []
  part : part_of_group rest ≡ []
  silent : first_answer [] gs ≡ None
  five_bits : g < 32

first_push : (gs : List ℕ) (g : ℕ) → first_answer [] gs ≡ None → first_answer [] (gs ++ g ∷ []) ≡ answer_or (rule gs g) (suc (length gs)) None
first_push gs g e = first_answer-push [] gs g e ∙ ap (λ n. answer_or (rule gs g) (suc n) None) (zero-add (length gs))

first_grouped : (since : List Bool) (bit : Bool) (rest : List Bool) (gs : List ℕ) (g : ℕ) (found : Option Found) → Grouped since bit rest gs g → rule gs g ≡ found
    → first_answer [] (groups rest) ≡ answer_or found (suc (length gs)) None
first_grouped since bit rest gs g found at e =
    ap (first_answer []) at.whole ∙ first_push gs g at.silent ∙ ap (λ o. answer_or o (suc (length gs)) None) e

read_group : (since : List Bool) (bit : Bool) (rest : List Bool) (gs : List ℕ) (g : ℕ) (found : Option Found) → Grouped since bit rest gs g → rule gs g ≡ found
    → read (since ++ bit ∷ []) ≡ then_at since bit found
read_group since bit rest gs g None at e = read_silent (since ++ bit ∷ []) rest at.began (first_grouped since bit rest gs g None at e)
read_group since bit rest gs g (Some found) at e =
    let bits = since ++ bit ∷ [] in
    let a : Answer = record { groups = suc (length gs); found = found } in
    let long : length rest ≡ 5 * suc (length gs) =
    omega (arith, length-groups rest, ap length at.part, ap length at.whole, length_push gs g) in
    let end : length bits - length rest + 5 * suc (length gs) ≡ length bits = omega (arith, long, length-after_start bits rest at.began) in
    let front : take (length bits - 1) bits ≡ since = take_at since (bit ∷ []) (length bits - 1) (omega (arith, length_push since bit)) in
    read_some bits rest a at.began (first_grouped since bit rest gs g (Some found) at e)
    ∙ ap (λ n. at_last (take n bits) found (read (drop n bits))) end
    ∙ ap (λ xs. at_last xs found (read (drop (length bits) bits))) (take_all (length bits) bits (omega arith))
    ∙ ap (λ xs. at_last bits found (read xs)) (drop_all (length bits) bits (omega arith))
    ∙ ap (λ r. at_last bits found r) (read_none [] refl)
    ∙ ap (λ xs. let r : Reading = record { at_bits = at_none xs ++ Some found ∷ []; since = [] } in r) front

-- what is kept after one more bit
pub record Stepped (frame_before : List ℕ) (since : List Bool) (bit : Bool) (found : Option Found) (t : Taken) : Type 0 where
  pub event : t.event ≡ event_of found
  pub recent : t.kept.recent ≡ number (then_at since bit found).since % 1024
  pub step : IsAt t.kept.step t.kept (then_at since bit found).since
  pub frame : octets_of t.kept.frame ≡ frame_after (octets_of frame_before) found

stopped : (k : Kept) (since : List Bool) (bit : Bool) (e : FastEvent) → is_frame e ≡ false → Stepped k.frame since bit (Some (fault e)) (stops e k)
stopped k since bit e is = record {
  event = refl;
  recent = refl;
  step = refl;
  frame = sym (cond-false (is_frame e) [] (octets_of k.frame) is);
}

-- a group at which nothing is found
record IsQuiet (k : Kept) (since : List Bool) (bit : Bool) (rest : List Bool) (gs : List ℕ) (g : ℕ) : Type 0 where
  at : Grouped since bit rest gs g
  recent : k.recent ≡ number (since ++ bit ∷ []) % 1024
  bits : k.bits ≡ 0

within : (k k' : Kept) (since : List Bool) (bit : Bool) (rest : List Bool) (gs : List ℕ) (g : ℕ) → IsQuiet k since bit rest gs g
    → k'.bits ≡ k.bits → rule gs g ≡ None → gs ++ g ∷ [] ≡ groups_at k'.step k' → IsWithin k' (since ++ bit ∷ [])
within k k' since bit rest gs g h e quiet whole = record {
  rest = rest;
  began = h.at.began;
  part = e ∙ h.bits ∙ sym (ap length h.at.part);
  whole = h.at.whole ∙ whole;
  silent = first_grouped since bit rest gs g None h.at quiet;
}

goes : (k k' : Kept) (since : List Bool) (bit : Bool) → k'.recent ≡ number (since ++ bit ∷ []) % 1024 → IsAt k'.step k' (since ++ bit ∷ []) → k'.frame ≡ k.frame
    → Stepped k.frame since bit None (goes_on k')
goes k k' since bit recent step frame = record { event = refl; recent = recent; step = step; frame = ap octets_of frame }

-- ---- before D

preamble_by : (five_here enough end : Bool) (k : Kept) (since : List Bool) (bit : Bool) (rest : List Bool) (g : ℕ)
    → eqb g five ≡ five_here → eqb k.fives 13 ≡ enough → eqb g delimiter ≡ end → k.step ≡ Preamble
    → IsQuiet k since bit rest (replicate k.fives five) g
    → Stepped k.frame since bit (preamble_rule k.fives g) (takes_preamble k g)
preamble_by true true end k since bit rest g is full is' e h = rw (is, full) (stopped k since bit event.BadPreamble refl)
preamble_by true false end k since bit rest g is full is' e h =
    let k' : Kept = record k { fives = k.fives + 1 } in
    let quiet : rule (replicate k.fives five) g ≡ None = rule-preamble k.fives g ∙ rw (is, full) refl in
    let more : replicate k.fives five ++ g ∷ [] ≡ groups_at k.step k' =
    ap (λ n. replicate k.fives five ++ n ∷ []) (eqb-true g five is) ∙ replicate_more k.fives five ∙ ap (λ s. groups_at s k') (sym e) in
    let all = within k k' since bit rest (replicate k.fives five) g h refl quiet more in
    rw (is, full) (goes k k' since bit h.recent (subst (λ s. IsAt s k' (since ++ bit ∷ [])) (sym e) all) refl)
preamble_by false enough true k since bit rest g is full is' e h =
    let k' : Kept = record k { step = Data; nibbles = [] } in
    let quiet : rule (replicate k.fives five) g ≡ None = rule-preamble k.fives g ∙ rw (is, is') refl in
    let more : replicate k.fives five ++ g ∷ [] ≡ groups_at Data k' = ap (λ n. replicate k.fives five ++ n ∷ []) (eqb-true g delimiter is') in
    let all = within k k' since bit rest (replicate k.fives five) g h refl quiet more in
    rw (is, is') (goes k k' since bit h.recent (all, All-nil (λ n. n < 16)) refl)
preamble_by false enough false k since bit rest g is full is' e h = rw (is, is') (stopped k since bit event.BadPreamble refl)

-- ---- after D

nibble_by : (o : Option ℕ) (here : Bool) (k : Kept) (since : List Bool) (bit : Bool) (rest : List Bool) (g : ℕ)
    → nibble_of g ≡ o → (elim o as (λ _. Bool) [ None ↦ eqb g terminate | Some n ↦ eqb (length k.nibbles) 3044 ]) ≡ here
    → k.step ≡ Data → AreNibbles k.nibbles
    → IsQuiet k since bit rest (data_groups k) g
    → Stepped k.frame since bit (data_rule (length k.nibbles) g) (takes_nibble k g (nibble_of g))
nibble_by (Some n) true k since bit rest g is full e all h = rw (is, full) (stopped k since bit event.TooLong refl)
nibble_by (Some n) false k since bit rest g is full e all h =
    let k' : Kept = record k { nibbles = k.nibbles ++ n ∷ [] } in
    let code = nibble_of_code g n h.at.five_bits is in
    let quiet : rule (data_groups k) g ≡ None =
    rule-frame k.fives (map code_of k.nibbles) g ∙ frame_rule-data k.nibbles g all ∙ rw (is, full) refl in
    let more : data_groups k ++ g ∷ [] ≡ groups_at k.step k' =
    append_assoc (preamble_groups k) (delimiter ∷ map code_of k.nibbles) (g ∷ [])
    ∙ ap (λ c. preamble_groups k ++ delimiter ∷ (map code_of k.nibbles ++ c ∷ [])) (sym code.0)
    ∙ ap (λ cs. preamble_groups k ++ delimiter ∷ cs) (sym (map_push code_of k.nibbles n))
    ∙ ap (λ s. groups_at s k') (sym e) in
    let new = within k k' since bit rest (data_groups k) g h refl quiet more in
    let nibbles : AreNibbles k'.nibbles = All-append (λ m. m < 16) k.nibbles (n ∷ []) all (All-cons (λ m. m < 16) n [] code.1 (All-nil (λ m. m < 16))) in
    rw (is, full) (goes k k' since bit h.recent (subst (λ s. IsAt s k' (since ++ bit ∷ [])) (sym e) (new, nibbles)) refl)
nibble_by None true k since bit rest g is end e all h =
    let k' : Kept = record k { step = End } in
    let quiet : rule (data_groups k) g ≡ None =
    rule-frame k.fives (map code_of k.nibbles) g ∙ frame_rule-data k.nibbles g all ∙ rw (is, end) refl in
    let more : data_groups k ++ g ∷ [] ≡ groups_at End k' = ap (λ n. data_groups k ++ n ∷ []) (eqb-true g terminate end) in
    let new = within k k' since bit rest (data_groups k) g h refl quiet more in
    rw (is, end) (goes k k' since bit h.recent (new, all) refl)
nibble_by None false k since bit rest g is other e all h = rw (is, other) (stopped k since bit (event.BadGroup g) refl)

-- ---- after T

end_by : (here none odd : Bool) (k : Kept) (since : List Bool) (bit : Bool) (g : ℕ)
    → eqb g reset ≡ here → eqb (length k.nibbles) 0 ≡ none → eqb (length k.nibbles % 2) 1 ≡ odd
    → Stepped k.frame since bit (end_rule k.nibbles g) (takes_end k g)
end_by false none odd k since bit g is is' is'' = rw is (stopped k since bit (event.NoEnd g) refl)
end_by true true odd k since bit g is is' is'' = rw (is, is') (stopped k since bit event.Empty refl)
end_by true false true k since bit g is is' is'' = rw (is, is', is'') (stopped k since bit event.Odd refl)
end_by true false false k since bit g is is' is'' = rw (is, is', is'') (record { event = refl; recent = refl; step = refl; frame = refl })

-- ---- one bit of a group

part_few : (part : List Bool) (bit : Bool) → length part < 4 → (groups (part ++ bit ∷ []) ≡ []) × (part_of_group (part ++ bit ∷ []) ≡ part ++ bit ∷ [])
part_few [] bit h = (refl, refl)
part_few (a ∷ []) bit h = (refl, refl)
part_few (a ∷ b ∷ []) bit h = (refl, refl)
part_few (a ∷ b ∷ c ∷ []) bit h = (refl, refl)
part_few (a ∷ b ∷ c ∷ d ∷ more) bit h = absurd (omega arith)

part_four : (part : List Bool) (bit : Bool) → length part ≡ 4
    → (groups (part ++ bit ∷ []) ≡ number (part ++ bit ∷ []) ∷ []) × (part_of_group (part ++ bit ∷ []) ≡ [])
part_four [] bit h = absurd (omega arith)
part_four (a ∷ []) bit h = absurd (omega arith)
part_four (a ∷ b ∷ []) bit h = absurd (omega arith)
part_four (a ∷ b ∷ c ∷ []) bit h = absurd (omega arith)
part_four (a ∷ b ∷ c ∷ d ∷ []) bit h = (refl, refl)
part_four (a ∷ b ∷ c ∷ d ∷ e ∷ more) bit h = absurd (omega arith)

-- the part of a group is the end of the bits since the last event
last_five : (since rest : List Bool) (bit : Bool) → after_start since ≡ Some rest → length (part_of_group rest) ≡ 4
    → number (since ++ bit ∷ []) % 32 ≡ number (part_of_group rest ++ bit ∷ [])
last_five since rest bit e four =
    let began = after_start_began since rest e in
    let ends = part_of_group_ends rest in
    let part = part_of_group rest in
    let whole : since ++ bit ∷ [] ≡ (began.front ++ ends.front) ++ (part ++ bit ∷ []) =
    ap (λ xs. xs ++ bit ∷ []) (began.whole ∙ ap (λ xs. began.front ++ xs) ends.whole ∙ sym (append_assoc began.front ends.front part))
    ∙ append_assoc (began.front ++ ends.front) part (bit ∷ []) in
    let five_long : 2 ^ length (part ++ bit ∷ []) ≡ 32 = ap (λ n. 2 ^ n) (let n : length (part ++ bit ∷ []) ≡ 5 = omega (arith, length_push part bit) in n) in
    ap (λ xs. number xs % 32) whole
    ∙ ap (λ n. number ((began.front ++ ends.front) ++ (part ++ bit ∷ [])) % n) (sym five_long)
    ∙ number-last (began.front ++ ends.front) (part ++ bit ∷ [])

recent_after : (k : Kept) (since : List Bool) (bit : Bool) → k.recent ≡ number since % 1024 → (with_bit k bit).recent ≡ number (since ++ bit ∷ []) % 1024
recent_after k since bit e = omega (arith, e, number-push since bit)

-- what one more bit makes of a reader
pub record After (k : Kept) (since : List Bool) (bit : Bool) (t : Taken) : Type 0 where
  pub found : Option Found
  pub reads : read (since ++ bit ∷ []) ≡ then_at since bit found
  pub stepped : Stepped k.frame since bit found t

grouped : (k : Kept) (since : List Bool) (bit : Bool) → k.recent ≡ number since % 1024 → (w : IsWithin k since) → k.bits ≡ 4
    → IsQuiet (record (with_bit k bit) { bits = 0 }) since bit (w.rest ++ bit ∷ []) (groups_at k.step k) ((with_bit k bit).recent % 32)
grouped k since bit recent w four =
    let rest = w.rest in
    let part = part_of_group rest in
    let is_four : length part ≡ 4 = omega (arith, w.part) in
    let more = part_four part bit is_four in
    let new = recent_after k since bit recent in
    let g : (with_bit k bit).recent % 32 ≡ number (part ++ bit ∷ []) = omega (arith, new, last_five since rest bit w.began is_four) in
    record {
      at = record {
        began = after_start-append since (bit ∷ []) rest w.began;
        whole = groups-append rest (bit ∷ []) ∙ ap (λ gs. groups rest ++ gs) more.0 ∙ ap (λ n. groups rest ++ n ∷ []) (sym g)
            ∙ ap (λ gs. gs ++ (with_bit k bit).recent % 32 ∷ []) w.whole;
        part = part_of_group-append rest (bit ∷ []) ∙ more.1;
        silent = ap (first_answer []) (sym w.whole) ∙ w.silent;
        five_bits = omega arith;
      };
      recent = new;
      bits = refl;
    }

-- the groups do not rest on the part of one that is kept
groups_kept : (s : Step) (k : Kept) (recent bits : ℕ) → groups_at s k ≡ groups_at s (record k { recent = recent; bits = bits })
groups_kept Hunting k recent bits = refl
groups_kept Preamble k recent bits = refl
groups_kept Data k recent bits = refl
groups_kept End k recent bits = refl

-- a bit that is not the last of a group
inside : (k : Kept) (since : List Bool) (bit : Bool) → k.recent ≡ number since % 1024 → (w : IsWithin k since) → (k.bits ≡ 4 → ⊥)
    → IsWithin (record (with_bit k bit) { bits = k.bits + 1 }) (since ++ bit ∷ [])
inside k since bit recent w few =
    let rest = w.rest in
    let part = part_of_group rest in
    let is_few : length part < 4 = omega (arith, w.part, few, length-part_of_group rest) in
    let more = part_few part bit is_few in
    let same : groups (rest ++ bit ∷ []) ≡ groups rest =
    groups-append rest (bit ∷ []) ∙ ap (λ gs. groups rest ++ gs) more.0 ∙ append-nil (groups rest) in
    record {
      rest = rest ++ bit ∷ [];
      began = after_start-append since (bit ∷ []) rest w.began;
      part = omega (arith, w.part, ap length (part_of_group-append rest (bit ∷ []) ∙ more.1), length_push part bit);
      whole = same ∙ w.whole ∙ groups_kept k.step k (with_bit k bit).recent (k.bits + 1);
      silent = ap (first_answer []) same ∙ w.silent;
    }

inside_after : (k k' : Kept) (since : List Bool) (bit : Bool) → k'.recent ≡ number (since ++ bit ∷ []) % 1024 → k'.frame ≡ k.frame
    → IsWithin k' (since ++ bit ∷ []) → IsAt k'.step k' (since ++ bit ∷ []) → After k since bit (goes_on k')
inside_after k k' since bit recent frame w at = record {
  found = None;
  reads = read_silent (since ++ bit ∷ []) w.rest w.began w.silent;
  stepped = goes k k' since bit recent at frame;
}

-- the same after the reader's own test
not_four : (k : Kept) (since : List Bool) (bit : Bool) (s : Step) → k.step ≡ s → k.recent ≡ number since % 1024 → IsWithin k since → eqb k.bits 4 ≡ false
    → (IsWithin (record (with_bit k bit) { bits = k.bits + 1 }) (since ++ bit ∷ []) → IsAt s (record (with_bit k bit) { bits = k.bits + 1 }) (since ++ bit ∷ []))
    → After k since bit (takes_part s (with_bit k bit))
not_four k since bit s e recent w test at =
    let k' : Kept = record (with_bit k bit) { bits = k.bits + 1 } in
    let new : IsWithin k' (since ++ bit ∷ []) = inside k since bit recent w (eqb-false k.bits 4 test) in
    rw test (inside_after k k' since bit (recent_after k since bit recent) refl new (subst (λ x. IsAt x k' (since ++ bit ∷ [])) (sym e) (at new)))

preamble_after : (four : Bool) (k : Kept) (since : List Bool) (bit : Bool) → eqb k.bits 4 ≡ four → k.step ≡ Preamble
    → k.recent ≡ number since % 1024 → IsWithin k since → After k since bit (takes_part Preamble (with_bit k bit))
preamble_after false k since bit test e recent w = not_four k since bit Preamble e recent w test (λ new. new)
preamble_after true k since bit test e recent w =
    let k' : Kept = record (with_bit k bit) { bits = 0 } in
    let g = (with_bit k bit).recent % 32 in
    let quiet : IsQuiet k' since bit (w.rest ++ bit ∷ []) (replicate k.fives five) g =
    subst (λ s. IsQuiet k' since bit (w.rest ++ bit ∷ []) (groups_at s k) g) e (grouped k since bit recent w (eqb-true k.bits 4 test)) in
    let stepped = preamble_by (eqb g five) (eqb k.fives 13) (eqb g delimiter) k' since bit (w.rest ++ bit ∷ []) g refl refl refl e quiet in
    let reads = read_group since bit (w.rest ++ bit ∷ []) (replicate k.fives five) g (preamble_rule k.fives g) quiet.at (rule-preamble k.fives g) in
    rw test (record { found = preamble_rule k.fives g; reads = reads; stepped = stepped })

data_after : (four : Bool) (k : Kept) (since : List Bool) (bit : Bool) → eqb k.bits 4 ≡ four → k.step ≡ Data
    → k.recent ≡ number since % 1024 → IsWithin k since → AreNibbles k.nibbles → After k since bit (takes_part Data (with_bit k bit))
data_after false k since bit test e recent w all = not_four k since bit Data e recent w test (λ new. (new, all))
data_after true k since bit test e recent w all =
    let k' : Kept = record (with_bit k bit) { bits = 0 } in
    let g = (with_bit k bit).recent % 32 in
    let quiet : IsQuiet k' since bit (w.rest ++ bit ∷ []) (data_groups k) g =
    subst (λ s. IsQuiet k' since bit (w.rest ++ bit ∷ []) (groups_at s k) g) e (grouped k since bit recent w (eqb-true k.bits 4 test)) in
    let stepped = nibble_by (nibble_of g) _ k' since bit (w.rest ++ bit ∷ []) g refl refl e all quiet in
    let rules : rule (data_groups k) g ≡ data_rule (length k.nibbles) g =
    rule-frame k.fives (map code_of k.nibbles) g ∙ frame_rule-data k.nibbles g all in
    let reads = read_group since bit (w.rest ++ bit ∷ []) (data_groups k) g (data_rule (length k.nibbles) g) quiet.at rules in
    rw test (record { found = data_rule (length k.nibbles) g; reads = reads; stepped = stepped })

end_after : (four : Bool) (k : Kept) (since : List Bool) (bit : Bool) → eqb k.bits 4 ≡ four → k.step ≡ End
    → k.recent ≡ number since % 1024 → IsWithin k since → AreNibbles k.nibbles → After k since bit (takes_part End (with_bit k bit))
end_after false k since bit test e recent w all = not_four k since bit End e recent w test (λ new. (new, all))
end_after true k since bit test e recent w all =
    let k' : Kept = record (with_bit k bit) { bits = 0 } in
    let g = (with_bit k bit).recent % 32 in
    let gs = data_groups k ++ terminate ∷ [] in
    let quiet : IsQuiet k' since bit (w.rest ++ bit ∷ []) gs g =
    subst (λ s. IsQuiet k' since bit (w.rest ++ bit ∷ []) (groups_at s k) g) e (grouped k since bit recent w (eqb-true k.bits 4 test)) in
    let stepped = end_by (eqb g reset) (eqb (length k.nibbles) 0) (eqb (length k.nibbles % 2) 1) k' since bit g refl refl refl in
    let rules : rule gs g ≡ end_rule k.nibbles g =
    ap (λ xs. rule xs g) (append_assoc (preamble_groups k) (delimiter ∷ map code_of k.nibbles) (terminate ∷ []))
    ∙ rule-frame k.fives (map code_of k.nibbles ++ terminate ∷ []) g
    ∙ frame_rule-end k.nibbles g all in
    let reads = read_group since bit (w.rest ++ bit ∷ []) gs g (end_rule k.nibbles g) quiet.at rules in
    rw test (record { found = end_rule k.nibbles g; reads = reads; stepped = stepped })

-- ---- one bit where no frame has begun

hunting_after : (here : Bool) (k : Kept) (since : List Bool) (bit : Bool) → is_started (since ++ bit ∷ []) ≡ here → k.step ≡ Hunting
    → k.recent ≡ number since % 1024 → after_start since ≡ None → After k since bit (hunts (with_bit k bit))
hunting_after here k since bit test e recent none =
    let new = recent_after k since bit recent in
    let same : eqb (with_bit k bit).recent (number start) ≡ here = ap (λ n. eqb n (number start)) new ∙ test in
    let start_is : after_start (since ++ bit ∷ []) ≡ cond here (Some []) None =
    after_start-push since bit none ∙ ap (λ b. cond b (Some []) None) test in
    rw same (by_start here start_is)
  where
    by_start : (here : Bool) → after_start (since ++ bit ∷ []) ≡ cond here (Some []) None
        → After k since bit (goes_on (cond here (record (with_bit k bit) { step = Preamble; bits = 0; fives = 0 }) (with_bit k bit)))
    by_start true began =
        let k' : Kept = record (with_bit k bit) { step = Preamble; bits = 0; fives = 0 } in
        let w : IsWithin k' (since ++ bit ∷ []) = record { rest = []; began = began; part = refl; whole = refl; silent = refl } in
        inside_after k k' since bit (recent_after k since bit recent) refl w w
    by_start false absent = record {
      found = None;
      reads = read_none (since ++ bit ∷ []) absent;
      stepped = goes k (with_bit k bit) since bit (recent_after k since bit recent) (subst (λ s. IsAt s (with_bit k bit) (since ++ bit ∷ [])) (sym e) absent) refl;
    }

-- ---- any bit

after_bit : (s : Step) (k : Kept) (since : List Bool) (bit : Bool) → k.step ≡ s → k.recent ≡ number since % 1024 → IsAt s k since
    → After k since bit (takes_in s (with_bit k bit))
after_bit Hunting k since bit e recent at = hunting_after (is_started (since ++ bit ∷ [])) k since bit refl e recent at
after_bit Preamble k since bit e recent at = preamble_after (eqb k.bits 4) k since bit refl e recent at
after_bit Data k since bit e recent at = data_after (eqb k.bits 4) k since bit refl e recent at.0 at.1
after_bit End k since bit e recent at = end_after (eqb k.bits 4) k since bit refl e recent at.0 at.1

pub record Takes (k : Kept) (bits : List Bool) (bit : Bool) (t : Taken) : Type 0 where
  pub event : t.event ≡ event_last (bits ++ bit ∷ [])
  pub kept : StandsFor t.kept (bits ++ bit ∷ [])

pub StandsFor-push : (k : Kept) (bits : List Bool) (bit : Bool) → StandsFor k bits → Takes k bits bit (takes k bit)
unfolding takes
StandsFor-push k bits bit h =
    let since = (read bits).since in
    let t = takes_in k.step (with_bit k bit) in
    let new = after_bit k.step k since bit refl h.recent h.step in
    let push = pushed bits bit new.found new.reads in
    record {
      event = new.stepped.event ∙ ap event_of (sym push.last);
      kept = record {
        recent = new.stepped.recent ∙ ap (λ xs. number xs % 1024) (sym push.since);
        step = subst (λ xs. IsAt t.kept.step t.kept xs) (sym push.since) new.stepped.step;
        frame = new.stepped.frame ∙ ap (λ xs. frame_after xs new.found) h.frame
            ∙ sym (last_frame-push (events_at bits) new.found) ∙ ap last_frame (sym push.events);
      };
    }

-- no bit
pub StandsFor-nil : (k : Kept) → k.step ≡ Hunting → k.recent ≡ 0 → k.frame ≡ [] → StandsFor k []
unfolding read read_within
StandsFor-nil k step recent frame = record {
  recent = recent;
  step = subst (λ s. IsAt s k []) (sym step) refl;
  frame = ap octets_of frame;
}

-- what is found at one more bit
pub record FoundAfter (bits : List Bool) (bit : Bool) : Type 0 where
  pub found : Option Found
  pub pushed : Pushed bits bit found

pub found_after : (k : Kept) (bits : List Bool) (bit : Bool) → StandsFor k bits → FoundAfter bits bit
found_after k bits bit h =
    let new = after_bit k.step k (read bits).since bit refl h.recent h.step in
    record { found = new.found; pushed = pushed bits bit new.found new.reads }

-- The lines about bits that are handed in together.
use Rattle.std.proofs.Common.{◌≡◌, ℕ, zero, suc, ◌+◌, ◌-◌, ◌<◌, ◌≤◌, Bool, true, false, List, [], ◌∷◌, ◌++◌, length, take, drop, get_or, Option, Some, None, refl, sym, ◌∙◌, ap, subst, arith, append_assoc, append-nil}
use Rattle.std.specs.Prelude.{if◌then◌else◌}
use Rattle.std.specs.Option.{option_to_list}
use Rattle.std.proofs.lemmas.List.{length_push, take-append-drop}
use Rattle.hdlc_channel.specs.declared.slow_event.SlowEvent.{SlowEvent}
use Rattle.hdlc_channel.specs.Bits.{low_bits as slow_low_bits, octet_bits as slow_octet_bits}
use Rattle.hdlc_channel.specs.Octet.{TakesBits}
use Rattle.hdlc_channel.specs.Reader.{SlowView}
use Rattle.hdlc_channel.specs.SlowText.{slow_at, last_frame as last_slow_frame}
use Rattle.hdlc_channel.proofs.Places.{slow_at-append}
use Rattle.ethernet_channel.specs.declared.events.FastEvent.{FastEvent}
use Rattle.ethernet_channel.specs.Bits.{low_bits, octet_bits}
use Rattle.ethernet_channel.specs.Events.{Found, event_of, found_last, events_at, events_in, found_after, frames_in, last_frame, is_frame}
use Rattle.ethernet_channel.specs.Keeps.{Kept, StandsFor}
use Rattle.ethernet_channel.proofs.Prefixes.{longer}
use Rattle.ethernet_channel.proofs.Runs.{found_after-longer}
use Rattle.link_base.specs.Sink.{Taken}
use Rattle.link_text.specs.Gathered.{Gathers}
use Rattle.link_text.proofs.Gathering.{gathers_none, gathers_put, gathers_then}
use Rattle.link_run_management.specs.Events.{bit_lines, slow_line, slow_event_line, slow_quiet, fast_line, fast_event_line, fast_quiet}
use Rattle.link_run_management.specs.HandsIn.{HandsIn}
use Rattle.link_run_management.proofs.Handing.{bit_lines-append, more_bits}

-- ---- any channel

pub hands_quiet : {C : Type 0} (stands : C → List Bool → Type 0) (line : ℕ → List Bool → List ℕ) (n : ℕ) (more : List Bool) (c0 c1 : C) (hand : List ℕ) (sink : Taken)
    → ((bits : List Bool) → stands c0 bits → stands c1 (bits ++ more) × (bit_lines line n bits more ≡ []))
    → HandsIn stands line n more c0 c1 hand sink hand sink
hands_quiet stands line n more c0 c1 hand sink h bits s =
    let all = h bits s in
    (all.0, subst (λ text. Gathers text hand sink hand sink) (sym all.1) (gathers_none hand sink))

pub hands_line : {C : Type 0} (stands : C → List Bool → Type 0) (line : ℕ → List Bool → List ℕ) (n : ℕ) (more : List Bool) (c0 c1 : C) (h0 h1 h2 : List ℕ) (s0 s1 : Taken)
    → Gathers [] h0 s0 h1 s1
    → ((bits : List Bool) → stands c0 bits → stands c1 (bits ++ more) × (h2 ≡ h1 ++ bit_lines line n bits more))
    → HandsIn stands line n more c0 c1 h0 s0 h2 s1
hands_line stands line n more c0 c1 h0 h1 h2 s0 s1 room h bits s =
    let all = h bits s in
    let text = bit_lines line n bits more in
    (all.0, gathers_then [] text h0 h1 h2 s0 s1 s1 room (gathers_put text h1 h2 s1 all.1))

-- ---- the slow channel

slow_none : (n : ℕ) (bits more : List Bool) → ((k : ℕ) → k < length more → slow_at (bits ++ more) (length bits + k) ≡ None) → bit_lines slow_line n bits more ≡ []
unfolding bit_lines
slow_none n bits [] h = refl
slow_none n bits (bit ∷ more) h =
    let here = bits ++ bit ∷ [] in
    let long : length here ≡ length bits + 1 = length_push bits bit in
    let joined : here ++ more ≡ bits ++ bit ∷ more = append_assoc bits (bit ∷ []) more in
    let first : slow_at here (length here - 1) ≡ None =
    ap (slow_at here) (omega (arith, long)) ∙ sym (slow_at-append here more (length bits + 0) (omega (arith, long)))
    ∙ ap (λ b. slow_at b (length bits + 0)) joined ∙ h 0 (omega arith) in
    ap (λ text. text ++ bit_lines slow_line n here more) (slow_quiet n here first)
    ∙ slow_none n here more (λ k lt. ap (λ b. slow_at b (length here + k)) joined ∙ ap (slow_at (bits ++ bit ∷ more)) (omega (arith, long)) ∙ h (suc k) (omega arith))

slow_taken : (n : ℕ) (bits given : List Bool) (m : ℕ) (answer : Option SlowEvent) → m < length given
    → ((k : ℕ) → k < m → slow_at (bits ++ given) (length bits + k) ≡ None) → slow_at (bits ++ given) (length bits + m) ≡ answer
    → let all = bits ++ take (m + 1) given in bit_lines slow_line n bits (take (m + 1) given) ≡ slow_event_line n answer (last_slow_frame all (length all))
unfolding bit_lines slow_line
slow_taken n bits given m answer within quiet last =
    let front = take m given in
    let bit = get_or given m false in
    let before = bits ++ front in
    let all = bits ++ take (m + 1) given in
    let more : front ++ bit ∷ [] ≡ take (m + 1) given = more_bits given m within in
    let whole : before ++ bit ∷ [] ≡ all = append_assoc bits front (bit ∷ []) ∙ ap (λ b. bits ++ b) more in
    let front_long : length front ≡ m = omega (arith, length_take_at given m within) in
    let long : length all ≡ suc (length bits + m) = omega (arith, ap length whole, length_push before bit, length_both bits front, front_long) in
    let rest : front ++ drop m given ≡ given = take-append-drop m given in
    let all_rest : all ++ drop (m + 1) given ≡ bits ++ given = append_assoc bits (take (m + 1) given) (drop (m + 1) given) ∙ ap (λ b. bits ++ b) (take-append-drop (m + 1) given) in
    let front_rest : before ++ drop m given ≡ bits ++ given = append_assoc bits front (drop m given) ∙ ap (λ b. bits ++ b) rest in
    let none : bit_lines slow_line n bits front ≡ [] =
    slow_none n bits front (λ k lt. sym (slow_at-append before (drop m given) (length bits + k) (omega (arith, length_both bits front, front_long)))
    ∙ ap (λ b. slow_at b (length bits + k)) front_rest ∙ quiet k (omega (arith, front_long))) in
    let event : slow_at all (length all - 1) ≡ answer =
    ap (slow_at all) (omega (arith, long)) ∙ sym (slow_at-append all (drop (m + 1) given) (length bits + m) (omega (arith, long))) ∙ ap (λ b. slow_at b (length bits + m)) all_rest ∙ last in
    ap (bit_lines slow_line n bits) (sym more)
    ∙ bit_lines-append slow_line n bits front (bit ∷ [])
    ∙ ap (λ text. text ++ bit_lines slow_line n before (bit ∷ [])) none
    ∙ append-nil (slow_line n (before ++ bit ∷ []))
    ∙ ap (slow_line n) whole
    ∙ ap (λ o. slow_event_line n o (last_slow_frame all (length all))) event
  where
    length_take_at : (xs : List Bool) (k : ℕ) → k < length xs → length (take k xs) ≡ k
    length_take_at xs zero h = refl
    length_take_at [] (suc k) h = absurd (omega arith)
    length_take_at (x ∷ xs) (suc k) h = ap suc (length_take_at xs k (omega arith))

    length_both : (a b : List Bool) → length (a ++ b) ≡ length a + length b
    length_both [] b = omega arith
    length_both (x ∷ a) b = omega (arith, length_both a b)

pub slow_lines : (n : ℕ) (bits given : List Bool) (taken : ℕ) (answer : Option SlowEvent) (new : SlowView) → 1 ≤ taken → taken ≤ length given → TakesBits given taken answer new bits
    → let all = bits ++ take taken given in bit_lines slow_line n bits (take taken given) ≡ slow_event_line n answer (last_slow_frame all (length all))
slow_lines n bits given zero answer new some within h = absurd (omega arith)
slow_lines n bits given (suc m) answer new some within h =
    let e : m + 1 ≡ suc m = omega arith in
    let last : slow_at (bits ++ given) (length bits + m) ≡ answer = ap (λ k. slow_at (bits ++ given) (length bits + k)) (omega arith) ∙ h.last in
    let P : ℕ → Type 0 = λ t. let all = bits ++ take t given in bit_lines slow_line n bits (take t given) ≡ slow_event_line n answer (last_slow_frame all (length all)) in
    subst P e (slow_taken n bits given m answer (omega arith) (λ k lt. h.quiet k (omega arith)) last)

-- ---- the fast channel

pub same_octet_bits : (octet : ℕ) → octet_bits octet ≡ slow_octet_bits octet
unfolding low_bits slow_low_bits
same_octet_bits octet = refl

first_none : (o : Option Found) (rest : List (Option Found)) → option_to_list (event_of o) ++ events_in rest ≡ [] → (o ≡ None) × (events_in rest ≡ [])
first_none None rest e = (refl, e)
first_none (Some found) rest e = absurd (let wrong : found.event ∷ events_in rest ≡ [] = e in cc)

fast_none : (n : ℕ) (bits more : List Bool) → events_in (longer bits more).found ≡ [] → bit_lines fast_line n bits more ≡ []
unfolding bit_lines longer
fast_none n bits [] e = refl
fast_none n bits (bit ∷ more) e =
    let here = bits ++ bit ∷ [] in
    let first = first_none (found_last here) (longer here more).found e in
    ap (λ text. text ++ bit_lines fast_line n here more) (fast_quiet n here (ap event_of first.0)) ∙ fast_none n here more first.1

frames_of_none : (found : List (Option Found)) → events_in found ≡ [] → frames_in found ≡ []
frames_of_none [] e = refl
frames_of_none (None ∷ found) e = frames_of_none found e
frames_of_none (Some f ∷ found) e = absurd (let wrong : f.event ∷ events_in found ≡ [] = e in cc)

same_cond : (b : Bool) (x : List ℕ) (xs ys more : List (List ℕ)) → xs ≡ ys ++ more → (if b then x ∷ xs else xs) ≡ (if b then x ∷ ys else ys) ++ more
same_cond true x xs ys more e = ap (λ l. x ∷ l) e
same_cond false x xs ys more e = e

frames_in-append : (a b : List (Option Found)) → frames_in (a ++ b) ≡ frames_in a ++ frames_in b
frames_in-append [] b = refl
frames_in-append (None ∷ a) b = frames_in-append a b
frames_in-append (Some f ∷ a) b = same_cond (is_frame f.event) f.octets (frames_in (a ++ b)) (frames_in a) (frames_in b) (frames_in-append a b)

-- no event later, and so the same last frame
same_frame : (bits more : List Bool) → events_in (longer bits more).found ≡ [] → last_frame (events_at (bits ++ more)) ≡ last_frame (events_at bits)
same_frame bits more e =
    let frames : frames_in (events_at (bits ++ more)) ≡ frames_in (events_at bits) =
    ap frames_in (longer bits more).whole ∙ frames_in-append (events_at bits) (longer bits more).found
    ∙ ap (λ f. frames_in (events_at bits) ++ f) (frames_of_none (longer bits more).found e) ∙ append-nil (frames_in (events_at bits)) in
    ap (λ f. get_or f (length f - 1) []) frames

one_by : (n : ℕ) (bits more : List Bool) (bit : Bool) (event : FastEvent) (o : Option Found) → let here = bits ++ bit ∷ [] in found_last here ≡ o
    → option_to_list (event_of o) ++ events_in (longer here more).found ≡ event ∷ []
    → (events_in (longer here more).found ≡ event ∷ [] → bit_lines fast_line n here more ≡ fast_event_line n (Some event) (last_frame (events_at (here ++ more))))
    → fast_line n here ++ bit_lines fast_line n here more ≡ fast_event_line n (Some event) (last_frame (events_at (here ++ more)))
unfolding fast_line
one_by n bits more bit event None is e later =
    let here = bits ++ bit ∷ [] in
    ap (λ text. text ++ bit_lines fast_line n here more) (fast_quiet n here (ap event_of is)) ∙ later e
one_by n bits more bit event (Some found) is e later =
    let here = bits ++ bit ∷ [] in
    let both : found.event ∷ events_in (longer here more).found ≡ event ∷ [] = e in
    let same : found.event ≡ event = cc in
    let none : events_in (longer here more).found ≡ [] = cc in
    ap (λ text. fast_line n here ++ text) (fast_none n here more none)
    ∙ append-nil (fast_line n here)
    ∙ ap (λ o. fast_event_line n (event_of o) (last_frame (events_at here))) is
    ∙ ap (λ v. fast_event_line n (Some v) (last_frame (events_at here))) same
    ∙ ap (fast_event_line n (Some event)) (sym (same_frame here more none))

fast_one : (n : ℕ) (bits more : List Bool) (event : FastEvent) → events_in (longer bits more).found ≡ event ∷ []
    → bit_lines fast_line n bits more ≡ fast_event_line n (Some event) (last_frame (events_at (bits ++ more)))
unfolding bit_lines longer
fast_one n bits [] event e = absurd (let wrong : [] ≡ event ∷ [] = e in cc)
fast_one n bits (bit ∷ more) event e =
    let here = bits ++ bit ∷ [] in
    one_by n bits more bit event (found_last here) refl e (fast_one n here more event)
    ∙ ap (λ b. fast_event_line n (Some event) (last_frame (events_at b))) (append_assoc bits (bit ∷ []) more)

pub fast_lines : (n : ℕ) (bits more : List Bool) (answer : Option FastEvent) → events_in (found_after bits more) ≡ option_to_list answer
    → bit_lines fast_line n bits more ≡ fast_event_line n answer (last_frame (events_at (bits ++ more)))
fast_lines n bits more None e = fast_none n bits more (ap events_in (sym (found_after-longer bits more)) ∙ e)
fast_lines n bits more (Some event) e = fast_one n bits more event (ap events_in (sym (found_after-longer bits more)) ∙ e)

-- by the bits of an octet, which both channels take alike
pub octet_lines : (n : ℕ) (bits : List Bool) (octet : ℕ) (answer : Option FastEvent) → events_in (found_after bits (octet_bits octet)) ≡ option_to_list answer
    → bit_lines fast_line n bits (slow_octet_bits octet) ≡ fast_event_line n answer (last_frame (events_at (bits ++ octet_bits octet)))
octet_lines n bits octet answer e = ap (bit_lines fast_line n bits) (sym (same_octet_bits octet)) ∙ fast_lines n bits (octet_bits octet) answer e

pub octet_stands : (k : Kept) (bits : List Bool) (octet : ℕ) → StandsFor k (bits ++ octet_bits octet) → StandsFor k (bits ++ slow_octet_bits octet)
octet_stands k bits octet h = subst (λ b. StandsFor k (bits ++ b)) (same_octet_bits octet) h

-- ---- part by part

take_none : (n : ℕ) → take n (let none : List Bool = [] in none) ≡ []
take_none zero = refl
take_none (suc n) = refl

pub taken_so_far : (bits : List Bool) (from n : ℕ) → take from bits ++ take n (drop from bits) ≡ take (from + n) bits
taken_so_far bits zero n = ap (λ k. take k bits) (omega arith)
taken_so_far [] (suc from) n = take_none n ∙ sym (take_none (suc from + n))
taken_so_far (bit ∷ bits) (suc from) n = let e : suc from + n ≡ suc (from + n) = omega arith in ap (λ l. bit ∷ l) (taken_so_far bits from n) ∙ ap (λ k. take k (bit ∷ bits)) (sym e)

pub and_the_rest : (bits : List Bool) (from : ℕ) → take from bits ++ drop from bits ++ [] ≡ bits
and_the_rest bits from = append-nil (take from bits ++ drop from bits) ∙ take-append-drop from bits

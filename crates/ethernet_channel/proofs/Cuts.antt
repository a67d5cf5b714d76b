-- A list of bits, cut after the last event in it.
use Rattle.std.proofs.Common.{◌≡◌, ℕ, zero, suc, ◌+◌, ◌-◌, ◌*◌, ◌<◌, ◌≤◌, Bool, List, [], ◌∷◌, ◌++◌, length, take, drop, get_or, Option, Some, None, refl, sym, ◌∙◌, ap, arith, append_assoc, length-append, length-take, length-drop}
use Rattle.std.proofs.lemmas.List.{drop-append-le, take-append-le, map-append, length-map, length_push, get_or_push}
use Rattle.ethernet_channel.specs.Codes.{groups}
use Rattle.ethernet_channel.specs.Events.{Found, Answer, Reading, first_answer, after_start, at_none, quiet, at_last, read_frame, read_from, read_within, read, events_at, found_last}
use Rattle.ethernet_channel.proofs.Readings.{after_start-append, length-after_start, groups-append, length-groups, first_answer-append, first_answer_bound}

-- ---- as many events as are looked for

same_frame : (later later' : List Bool → Reading) (bits rest : List Bool) (o : Option Answer) → 10 + length rest ≤ length bits
    → ((ys : List Bool) → length ys < length bits → later ys ≡ later' ys) → read_frame later bits rest o ≡ read_frame later' bits rest o
same_frame later later' bits rest None long h = refl
same_frame later later' bits rest (Some a) long h =
    let end = length bits - length rest + 5 * a.groups in
    ap (at_last (take end bits) a.found) (h (drop end bits) (omega (arith, length-drop end bits, long)))

same_from : (later later' : List Bool → Reading) (bits : List Bool) (o : Option (List Bool)) → after_start bits ≡ o
    → ((ys : List Bool) → length ys < length bits → later ys ≡ later' ys) → read_from later bits o ≡ read_from later' bits o
same_from later later' bits None e h = refl
same_from later later' bits (Some rest) e h = same_frame later later' bits rest (first_answer [] (groups rest)) (length-after_start bits rest e) h

enough : (m n : ℕ) (bits : List Bool) → length bits ≤ m → length bits ≤ n → read_within m bits ≡ read_within n bits
unfolding read_within
enough zero zero bits h h' = refl
enough zero (suc n) [] h h' = refl
enough zero (suc n) (bit ∷ bits) h h' = absurd (omega arith)
enough (suc m) zero [] h h' = refl
enough (suc m) zero (bit ∷ bits) h h' = absurd (omega arith)
enough (suc m) (suc n) bits h h' =
    same_from (read_within m) (read_within n) bits (after_start bits) refl (λ ys less. enough m n ys (omega (arith, less)) (omega (arith, less)))

-- reading, by the first event
read_more : (bits : List Bool) → read bits ≡ read_from (read_within (length bits)) bits (after_start bits)
unfolding read read_within
read_more bits = enough (length bits) (suc (length bits)) bits (omega arith) (omega arith)

pub read_none : (bits : List Bool) → after_start bits ≡ None → read bits ≡ quiet bits
read_none bits e = read_more bits ∙ ap (read_from (read_within (length bits)) bits) e

pub read_silent : (bits rest : List Bool) → after_start bits ≡ Some rest → first_answer [] (groups rest) ≡ None → read bits ≡ quiet bits
read_silent bits rest e e' =
    read_more bits ∙ ap (read_from (read_within (length bits)) bits) e ∙ ap (read_frame (read_within (length bits)) bits rest) e'

pub read_some : (bits rest : List Bool) (a : Answer) → after_start bits ≡ Some rest → first_answer [] (groups rest) ≡ Some a
    → (let end = length bits - length rest + 5 * a.groups in read bits ≡ at_last (take end bits) a.found (read (drop end bits)))
unfolding read
read_some bits rest a e e' =
    let end = length bits - length rest + 5 * a.groups in
    read_more bits ∙ ap (read_from (read_within (length bits)) bits) e ∙ ap (read_frame (read_within (length bits)) bits rest) e'
    ∙ ap (at_last (take end bits) a.found)
    (enough (length bits) (length (drop end bits)) (drop end bits) (omega (arith, length-drop end bits)) (omega arith))

-- ---- the cut

-- what was found before, and then
abbrev pub after : List (Option Found) → Reading → Reading
after done r = record { at_bits = done ++ r.at_bits; since = r.since }

pub record Cut (bits : List Bool) (r : Reading) : Type 0 where
  pub done : List (Option Found)
  pub found : r.at_bits ≡ done ++ at_none r.since
  pub long : length done + length r.since ≡ length bits
  pub ahead : (more : List Bool) → read (bits ++ more) ≡ after done (read (r.since ++ more))

quiet_cut : (bits : List Bool) → Cut bits (quiet bits)
quiet_cut bits = record { done = []; found = refl; long = omega arith; ahead = λ more. refl }

length-at_none : (bits : List Bool) → length (at_none bits) ≡ length bits
length-at_none bits = length-map bits (λ _. None)

length_done : (end : ℕ) (bits : List Bool) (found : Found) (done : List (Option Found)) → 0 < end → end ≤ length bits
    → length (at_none (take (length (take end bits) - 1) (take end bits)) ++ Some found ∷ done) ≡ end + length done
length_done end bits found done some within =
    let front = take (length (take end bits) - 1) (take end bits) in
    let one : length (take end bits) ≡ end = omega (arith, length-take end bits) in
    let two : length front ≡ end - 1 = omega (arith, one, length-take (length (take end bits) - 1) (take end bits)) in
    omega (arith, length-append (at_none front) (Some found ∷ done), length-at_none front, two, some)

cut_some : (m : ℕ) (bits rest : List Bool) (a : Answer) → after_start bits ≡ Some rest → first_answer [] (groups rest) ≡ Some a
    → ((ys : List Bool) → length ys < length bits → Cut ys (read_within m ys))
    → Cut bits (read_frame (read_within m) bits rest (Some a))
cut_some m bits rest a e e' ih =
    let end = length bits - length rest + 5 * a.groups in
    let long : 10 + length rest ≤ length bits = length-after_start bits rest e in
    let within : end ≤ length bits = omega (arith, long, first_answer_bound [] (groups rest) a e', length-groups rest) in
    let cut = ih (drop end bits) (omega (arith, length-drop end bits, long)) in
    let front = at_none (take (length (take end bits) - 1) (take end bits)) in
    record {
      done = front ++ Some a.found ∷ cut.done;
      found = ap (λ xs. front ++ Some a.found ∷ xs) cut.found ∙ sym (append_assoc front (Some a.found ∷ cut.done) (at_none (read_within m (drop end bits)).since));
      long = omega (arith, length_done end bits a.found cut.done (omega (arith, long)) within, cut.long, length-drop end bits, within);
      ahead = λ more.
          let since = (read_within m (drop end bits)).since in
          let end' = length (bits ++ more) - length (rest ++ more) + 5 * a.groups in
          let same : end' ≡ end = omega (arith, length-append bits more, length-append rest more, long) in
          let first : first_answer [] (groups (rest ++ more)) ≡ Some a =
          ap (first_answer []) (groups-append rest more) ∙ first_answer-append [] (groups rest) _ a e' in
          let left : drop end (bits ++ more) ≡ drop end bits ++ more = drop-append-le end bits more within in
          let taken : take end (bits ++ more) ≡ take end bits = take-append-le end bits more within in
          read_some (bits ++ more) (rest ++ more) a (after_start-append bits more rest e) first
          ∙ ap (λ n. at_last (take n (bits ++ more)) a.found (read (drop n (bits ++ more)))) same
          ∙ ap (λ xs. at_last xs a.found (read (drop end (bits ++ more)))) taken
          ∙ ap (λ xs. at_last (take end bits) a.found (read xs)) left
          ∙ ap (at_last (take end bits) a.found) (cut.ahead more)
          ∙ ap (λ xs. let r : Reading = record { at_bits = xs; since = (read (since ++ more)).since } in r)
          (sym (append_assoc front (Some a.found ∷ cut.done) (read (since ++ more)).at_bits));
    }

cut_frame : (m : ℕ) (bits rest : List Bool) (o : Option Answer) → after_start bits ≡ Some rest → first_answer [] (groups rest) ≡ o
    → ((ys : List Bool) → length ys < length bits → Cut ys (read_within m ys))
    → Cut bits (read_frame (read_within m) bits rest o)
cut_frame m bits rest None e e' ih = quiet_cut bits
cut_frame m bits rest (Some a) e e' ih = cut_some m bits rest a e e' ih

cut_from : (m : ℕ) (bits : List Bool) (o : Option (List Bool)) → after_start bits ≡ o
    → ((ys : List Bool) → length ys < length bits → Cut ys (read_within m ys))
    → Cut bits (read_from (read_within m) bits o)
cut_from m bits None e ih = quiet_cut bits
cut_from m bits (Some rest) e ih = cut_frame m bits rest (first_answer [] (groups rest)) e refl ih

cut_within : (m : ℕ) (bits : List Bool) → length bits ≤ m → Cut bits (read_within m bits)
unfolding read_within
cut_within zero bits h = quiet_cut bits
cut_within (suc m) bits h = cut_from m bits (after_start bits) refl (λ ys less. cut_within m ys (omega (arith, less)))

pub cut_of : (bits : List Bool) → Cut bits (read bits)
unfolding read
cut_of bits = cut_within (length bits) bits (omega arith)

pub length-events_at : (bits : List Bool) → length (events_at bits) ≡ length bits
length-events_at bits =
    let cut = cut_of bits in
    omega (arith, cut.long, ap length cut.found, length-append cut.done (at_none (read bits).since), length-at_none (read bits).since)

-- ---- one more bit

-- an answer at one more bit after bits without an event
abbrev pub then_at : List Bool → Bool → Option Found → Reading
then_at since bit None = quiet (since ++ bit ∷ [])
then_at since bit (Some found) = record { at_bits = at_none since ++ Some found ∷ []; since = [] }

pub record Pushed (bits : List Bool) (bit : Bool) (found : Option Found) : Type 0 where
  pub events : events_at (bits ++ bit ∷ []) ≡ events_at bits ++ found ∷ []
  pub last : found_last (bits ++ bit ∷ []) ≡ found
  pub since : (read (bits ++ bit ∷ [])).since ≡ (then_at (read bits).since bit found).since

pushed_at : (since : List Bool) (bit : Bool) (found : Option Found) → (then_at since bit found).at_bits ≡ at_none since ++ found ∷ []
pushed_at since bit None = map-append (λ _. None) since (bit ∷ [])
pushed_at since bit (Some found) = refl

pub pushed : (bits : List Bool) (bit : Bool) (found : Option Found) → read ((read bits).since ++ bit ∷ []) ≡ then_at (read bits).since bit found
    → Pushed bits bit found
pushed bits bit found e =
    let cut = cut_of bits in
    let since = (read bits).since in
    let whole : read (bits ++ bit ∷ []) ≡ after cut.done (then_at since bit found) = cut.ahead (bit ∷ []) ∙ ap (after cut.done) e in
    let events : events_at (bits ++ bit ∷ []) ≡ events_at bits ++ found ∷ [] =
    ap (λ r. r.at_bits) whole ∙ ap (λ xs. cut.done ++ xs) (pushed_at since bit found)
    ∙ sym (append_assoc cut.done (at_none since) (found ∷ [])) ∙ ap (λ xs. xs ++ found ∷ []) (sym cut.found) in
    let last : length (bits ++ bit ∷ []) - 1 ≡ length (events_at bits) = omega (arith, length_push bits bit, length-events_at bits) in
    record {
      events = events;
      last = ap (λ xs. get_or xs (length (bits ++ bit ∷ []) - 1) None) events
          ∙ ap (λ n. get_or (events_at bits ++ found ∷ []) n None) last
          ∙ get_or_push (events_at bits) found None (length (events_at bits)) refl;
      since = ap (λ r. r.since) whole;
    }

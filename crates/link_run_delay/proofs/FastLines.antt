-- The lines about bits of the fast channel are those of what is found at them.
use Rattle.std.proofs.Common.{◌≡◌, ℕ, suc, ◌+◌, ◌-◌, Bool, true, false, cond, List, [], ◌∷◌, ◌++◌, length, get_or, Option, Some, None, refl, sym, ap, ◌∙◌, arith, append-nil}
use Rattle.std.specs.List.{flat_map}
use Rattle.std.proofs.lemmas.List.{get_or_push, length_push}
use Rattle.ethernet_channel.specs.declared.events.FastEvent.{FastEvent}
use Rattle.ethernet_channel.specs.declared.events.FastEvent.TheVariants as event
use Rattle.ethernet_channel.specs.Events.{Found, event_of, events_at, found_last, frames_in, is_frame, last_frame}
use Rattle.ethernet_channel.proofs.Prefixes.{events_at-push, longer}
use Rattle.link_run_management.specs.Events.{bit_lines, fast_event_line, fast_line, fast_words, numbered}
use Rattle.link_run_delay.specs.PrefixesAreRead.{Place, places}

-- the line of what is found at a place
abbrev pub place_line : ℕ → Place → List ℕ
place_line n place = numbered n (fast_words place.found.event place.found.octets)

-- ---- what is found last

append_frame : (b : Bool) (x : List ℕ) (xs ys more : List (List ℕ)) → xs ≡ ys ++ more → cond b (x ∷ xs) xs ≡ cond b (x ∷ ys) ys ++ more
append_frame true x xs ys more e = ap (λ l. x ∷ l) e
append_frame false x xs ys more e = e

frames_in-append : (a b : List (Option Found)) → frames_in (a ++ b) ≡ frames_in a ++ frames_in b
frames_in-append [] b = refl
frames_in-append (None ∷ a) b = frames_in-append a b
frames_in-append (Some f ∷ a) b = append_frame (is_frame f.event) f.octets (frames_in (a ++ b)) (frames_in a) (frames_in b) (frames_in-append a b)

-- the last frame is the one that is found last
last_found : (before : List (Option Found)) (found : Found) → is_frame found.event ≡ true → last_frame (before ++ Some found ∷ []) ≡ found.octets
last_found before found is =
    let frames : frames_in (before ++ Some found ∷ []) ≡ frames_in before ++ found.octets ∷ [] =
    frames_in-append before (Some found ∷ []) ∙ ap (λ b. frames_in before ++ cond b (found.octets ∷ []) []) is in
    ap (λ f. get_or f (length f - 1) []) frames
    ∙ get_or_push (frames_in before) found.octets [] (length (frames_in before ++ found.octets ∷ []) - 1) (omega (arith, length_push (frames_in before) found.octets))

-- a line tells of the frame where there is one
same_words : (e : FastEvent) (frame other : List ℕ) → (is_frame e ≡ true → other ≡ frame) → fast_words e other ≡ fast_words e frame
same_words event.Frame frame other same = ap (fast_words event.Frame) (same refl)
same_words event.BadPreamble frame other same = refl
same_words (event.BadGroup code) frame other same = refl
same_words (event.NoEnd code) frame other same = refl
same_words event.Odd frame other same = refl
same_words event.Empty frame other same = refl
same_words event.TooLong frame other same = refl

-- ---- bits behind others

module _ (bits : List Bool) (bit : Bool) where
  abbrev here : List Bool
  here = bits ++ bit ∷ []

  line_by : (n p : ℕ) (o : Option Found) → found_last here ≡ o → fast_line n here ≡ flat_map (place_line n) (places p (o ∷ []))
  unfolding fast_line places
  line_by n p None e = ap (λ o. fast_event_line n (event_of o) (last_frame (events_at here))) e
  line_by n p (Some found) e =
      let last : events_at here ≡ events_at bits ++ Some found ∷ [] = events_at-push bits bit ∙ ap (λ o. events_at bits ++ o ∷ []) e in
      ap (λ o. fast_event_line n (event_of o) (last_frame (events_at here))) e
      ∙ ap (numbered n) (same_words found.event found.octets (last_frame (events_at here)) (λ is. ap last_frame last ∙ last_found (events_at bits) found is))
      ∙ sym (append-nil (numbered n (fast_words found.event found.octets)))

-- the lines of one found before others
first_lines : (n p : ℕ) (o : Option Found) (more : List (Option Found))
    → flat_map (place_line n) (places p (o ∷ [])) ++ flat_map (place_line n) (places (suc p) more) ≡ flat_map (place_line n) (places p (o ∷ more))
unfolding places
first_lines n p None more = refl
first_lines n p (Some found) more = ap (λ t. t ++ flat_map (place_line n) (places (suc p) more)) (append-nil (numbered n (fast_words found.event found.octets)))

pub found_lines : (n p : ℕ) (bits more : List Bool) → bit_lines fast_line n bits more ≡ flat_map (place_line n) (places p (longer bits more).found)
unfolding bit_lines longer places
found_lines n p bits [] = refl
found_lines n p bits (bit ∷ more) =
    let now = here bits bit in
    ap (λ t. t ++ bit_lines fast_line n now more) (line_by bits bit n p (found_last now) refl)
    ∙ ap (λ t. flat_map (place_line n) (places p (found_last now ∷ [])) ++ t) (found_lines n (suc p) now more)
    ∙ first_lines n p (found_last now) (longer now more).found

-- ---- places

pub places-append : (p : ℕ) (a b : List (Option Found)) → places p (a ++ b) ≡ places p a ++ places (p + length a) b
unfolding places
places-append p [] b = let e : p ≡ p + 0 = omega arith in ap (λ k. places k b) e
places-append p (None ∷ a) b =
    let e : suc p + length a ≡ p + suc (length a) = omega arith in
    places-append (suc p) a b ∙ ap (λ k. places (suc p) a ++ places k b) e
places-append p (Some found ∷ a) b =
    let e : suc p + length a ≡ p + suc (length a) = omega arith in
    ap (λ xs. (let here : Place = record { at = p; found = found } in here) ∷ xs) (places-append (suc p) a b ∙ ap (λ k. places (suc p) a ++ places k b) e)

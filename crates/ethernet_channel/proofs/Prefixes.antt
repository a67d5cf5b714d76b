-- What is found in a list of bits is found in a longer one.
use Rattle.std.proofs.Common.{◌≡◌, ℕ, ◌<◌, ◌≤◌, Bool, ◌⊎◌, inl, inr, List, [], ◌∷◌, ◌++◌, length, take, drop, Option, refl, sym, ◌∙◌, ap, subst, arith, append_assoc, length-take}
use Rattle.std.proofs.lemmas.Bool.{cases_lt}
use Rattle.std.proofs.lemmas.List.{append-nil, take_at, take_all, take-append-drop}
use Rattle.ethernet_channel.specs.declared.reader.Step.TheVariants.{Hunting}
use Rattle.ethernet_channel.specs.Events.{Found, events_at, found_last}
use Rattle.ethernet_channel.specs.Keeps.{Kept, StandsFor}
use Rattle.ethernet_channel.specs.Steps.{takes}
use Rattle.ethernet_channel.proofs.Cuts.{length-events_at}
use Rattle.ethernet_channel.proofs.BitSteps.{StandsFor-nil, StandsFor-push, found_after}

-- a reader of these bits
pub record Reads (bits : List Bool) : Type 0 where
  pub kept : Kept
  pub stands : StandsFor kept bits

reads_more : (bits more : List Bool) → Reads bits → Reads (bits ++ more)
reads_more bits [] h = subst Reads (sym (append-nil bits)) h
reads_more bits (bit ∷ more) h =
    let next : Reads (bits ++ bit ∷ []) = record { kept = (takes h.kept bit).kept; stands = (StandsFor-push h.kept bits bit h.stands).kept } in
    subst Reads (append_assoc bits (bit ∷ []) more) (reads_more (bits ++ bit ∷ []) more next)

reads : (bits : List Bool) → Reads bits
reads bits =
    let none : Kept = record { step = Hunting; recent = 0; bits = 0; fives = 0; nibbles = []; frame = [] } in
    reads_more [] bits (record { kept = none; stands = StandsFor-nil none refl refl refl })

pub events_at-push : (bits : List Bool) (bit : Bool) → events_at (bits ++ bit ∷ []) ≡ events_at bits ++ found_last (bits ++ bit ∷ []) ∷ []
events_at-push bits bit =
    let h = reads bits in
    let push = found_after h.kept bits bit h.stands in
    push.pushed.events ∙ ap (λ o. events_at bits ++ o ∷ []) (sym push.pushed.last)

-- what is found in the bits of a longer list that are more
pub record Longer (bits more : List Bool) : Type 0 where
  pub found : List (Option Found)
  pub whole : events_at (bits ++ more) ≡ events_at bits ++ found

unfoldable pub longer : (bits more : List Bool) → Longer bits more
longer bits [] = record { found = []; whole = ap events_at (append-nil bits) ∙ sym (append-nil (events_at bits)) }
longer bits (bit ∷ more) =
    let next = longer (bits ++ bit ∷ []) more in
    let one = found_last (bits ++ bit ∷ []) in
    record {
      found = one ∷ next.found;
      whole = ap events_at (sym (append_assoc bits (bit ∷ []) more)) ∙ next.whole
          ∙ ap (λ xs. xs ++ next.found) (events_at-push bits bit) ∙ append_assoc (events_at bits) (one ∷ []) next.found;
    }

front_by : (n : ℕ) (bits : List Bool) → (n < length bits) ⊎ (length bits ≤ n) → events_at (take n bits) ≡ take n (events_at bits)
front_by n bits (inl within) =
    let more = longer (take n bits) (drop n bits) in
    let long : length (events_at (take n bits)) ≡ n = omega (arith, length-events_at (take n bits), length-take n bits, within) in
    sym (ap (λ xs. take n (events_at xs)) (sym (take-append-drop n bits)) ∙ ap (take n) more.whole ∙ take_at (events_at (take n bits)) more.found n long)
front_by n bits (inr past) =
    ap events_at (take_all n bits past) ∙ sym (take_all n (events_at bits) (omega (arith, length-events_at bits, past)))

pub events_at-take : (n : ℕ) (bits : List Bool) → events_at (take n bits) ≡ take n (events_at bits)
events_at-take n bits = front_by n bits (cases_lt n (length bits))

-- Bits one after another.
use Rattle.std.proofs.Common.{◌≡◌, ℕ, suc, ◌+◌, ◌-◌, ◌*◌, ◌/◌, ◌%◌, ◌^◌, ◌<◌, ◌≤◌, Bool, true, false, cond, eqb, ◌⊎◌, inl, inr, List, [], ◌∷◌, ◌++◌, length, drop, Option, Some, None, refl, sym, ◌∙◌, ap, subst, arith, append_assoc, add-one, zero-le, lit<}
use Rattle.std.specs.Option.{option_to_list, is_some}
use Rattle.std.proofs.Math.Nat.{pow-le-pow_right, pow-succ'}
use Rattle.std.proofs.lemmas.Bool.{ne_eqb, cond-false}
use Rattle.std.proofs.lemmas.List.{append-nil, drop_at}
use Rattle.ethernet_channel.specs.declared.events.FastEvent.{FastEvent}
use Rattle.ethernet_channel.specs.declared.reader.Step.{Step}
use Rattle.ethernet_channel.specs.declared.reader.Step.TheVariants.{Hunting, Preamble, Data, End}
use Rattle.ethernet_channel.specs.Bits.{low_bits}
use Rattle.ethernet_channel.specs.Codes.{number, five, delimiter, terminate, reset, nibble_of, start}
use Rattle.ethernet_channel.specs.Events.{events_at, events_in, found_after}
use Rattle.ethernet_channel.specs.Keeps.{Kept, StandsFor}
use Rattle.ethernet_channel.specs.Steps.{Taken, goes_on, stops, takes_nibble, takes_reset, takes_group, with_bit, takes_part, takes_in, takes, run, run_events, IsPastEvent, IsQuietAfter}
use Rattle.ethernet_channel.proofs.BitSteps.{StandsFor-push}
use Rattle.ethernet_channel.proofs.Cuts.{length-events_at}
use Rattle.ethernet_channel.proofs.Hunts.{number_start}
use Rattle.ethernet_channel.proofs.Prefixes.{longer}

-- ---- what is found at more bits

pub StandsFor-run : (k : Kept) (bits more : List Bool) → StandsFor k bits → StandsFor (run k more) (bits ++ more)
StandsFor-run k bits [] h = subst (StandsFor k) (sym (append-nil bits)) h
StandsFor-run k bits (bit ∷ more) h =
    subst (StandsFor (run k (bit ∷ more))) (append_assoc bits (bit ∷ []) more)
    (StandsFor-run (takes k bit).kept (bits ++ bit ∷ []) more (StandsFor-push k bits bit h).kept)

pub found_after-longer : (bits more : List Bool) → found_after bits more ≡ (longer bits more).found
found_after-longer bits more =
    ap (drop (length bits)) (longer bits more).whole
    ∙ drop_at (events_at bits) (longer bits more).found (length bits) (length-events_at bits)

events_in-longer : (k : Kept) (bits more : List Bool) → StandsFor k bits → events_in (longer bits more).found ≡ run_events k more
unfolding longer
events_in-longer k bits [] h = refl
events_in-longer k bits (bit ∷ more) h =
    let push = StandsFor-push k bits bit h in
    ap (λ o. option_to_list o ++ events_in (longer (bits ++ bit ∷ []) more).found) (sym push.event)
    ∙ ap (λ es. option_to_list (takes k bit).event ++ es) (events_in-longer (takes k bit).kept (bits ++ bit ∷ []) more push.kept)

pub events_in-run : (k : Kept) (bits more : List Bool) → StandsFor k bits → events_in (found_after bits more) ≡ run_events k more
events_in-run k bits more h = ap events_in (found_after-longer bits more) ∙ events_in-longer k bits more h

-- ---- after an event

-- an answer that is an event leaves the reader hunting, and counts no earlier bit
record IsStopped (t : Taken) : Type 0 where
  quiet : IsQuietAfter t.event t.kept 1

stopped_cond : (b : Bool) (t t' : Taken) → IsStopped t → IsStopped t' → IsStopped (cond b t t')
stopped_cond true t t' h h' = h
stopped_cond false t t' h h' = h'

stops_stopped : (event : FastEvent) (k : Kept) → IsStopped (stops event k)
stops_stopped event k = record { quiet = record { hunts = refl; few = omega arith } }

goes_stopped : (k : Kept) → IsStopped (goes_on k)
goes_stopped k = record { quiet = tt }

nibble_stopped : (o : Option ℕ) (k : Kept) (g : ℕ) → IsStopped (takes_nibble k g o)
nibble_stopped None k g = stopped_cond (eqb g terminate) _ _ (goes_stopped _) (stops_stopped _ k)
nibble_stopped (Some n) k g = stopped_cond (eqb (length k.nibbles) 3044) _ _ (stops_stopped _ k) (goes_stopped _)

reset_stopped : (k : Kept) → IsStopped (takes_reset k)
reset_stopped k =
    stopped_cond (eqb (length k.nibbles) 0) _ _ (stops_stopped _ k)
    (stopped_cond (eqb (length k.nibbles % 2) 1) _ _ (stops_stopped _ k) (stops_stopped _ (record k { nibbles = k.frame; frame = k.nibbles })))

group_stopped : (s : Step) (k : Kept) (g : ℕ) → IsStopped (takes_group s k g)
group_stopped Hunting k g = goes_stopped k
group_stopped Preamble k g =
    stopped_cond (eqb g five) _ _ (stopped_cond (eqb k.fives 13) _ _ (stops_stopped _ k) (goes_stopped _))
    (stopped_cond (eqb g delimiter) _ _ (goes_stopped _) (stops_stopped _ k))
group_stopped Data k g = nibble_stopped (nibble_of g) k g
group_stopped End k g = stopped_cond (eqb g reset) _ _ (reset_stopped k) (stops_stopped _ k)

part_stopped : (s : Step) (k : Kept) → IsStopped (takes_part s k)
part_stopped s k = stopped_cond (eqb k.bits 4) _ _ (group_stopped s (record k { bits = 0 }) (k.recent % 32)) (goes_stopped _)

in_stopped : (s : Step) (k : Kept) → IsStopped (takes_in s k)
in_stopped Hunting k = goes_stopped _
in_stopped Preamble k = part_stopped Preamble k
in_stopped Data k = part_stopped Data k
in_stopped End k = part_stopped End k

takes_stopped : (k : Kept) (bit : Bool) → IsStopped (takes k bit)
unfolding takes
takes_stopped k bit = in_stopped k.step (with_bit k bit)

-- a few bits where the reader hunts
record IsStill (k : Kept) (bit : Bool) (limit : ℕ) : Type 0 where
  none : (takes k bit).event ≡ None
  past : IsPastEvent (takes k bit).kept (2 * limit)

bit_below : (bit : Bool) → cond bit 1 0 < 2
bit_below true = omega arith
bit_below false = omega arith

still_by : (s : Step) (k : Kept) (bit : Bool) (limit : ℕ) → k.step ≡ s → s ≡ Hunting → k.recent < limit → limit ≤ 256
    → (takes_in s (with_bit k bit) ≡ goes_on (with_bit k bit))
still_by Hunting k bit limit e e' few most =
    let below : (with_bit k bit).recent < 785 = omega (arith, few, most, bit_below bit) in
    ap goes_on (cond-false (eqb (with_bit k bit).recent (number start)) _ (with_bit k bit)
    (ne_eqb (with_bit k bit).recent (number start) (λ same. omega (arith, same, below, number_start))))
still_by Preamble k bit limit e e' few most = absurd (cc)
still_by Data k bit limit e e' few most = absurd (cc)
still_by End k bit limit e e' few most = absurd (cc)

still : (k : Kept) (bit : Bool) (limit : ℕ) → IsPastEvent k limit → limit ≤ 256 → IsStill k bit limit
unfolding takes
still k bit limit h most =
    let same = still_by k.step k bit limit refl h.hunts h.few most in
    record {
      none = ap (λ t. t.event) same;
      past = record {
        hunts = ap (λ t. t.kept.step) same ∙ h.hunts;
        few = omega (arith, ap (λ t. t.kept.recent) same, h.few, most, bit_below bit);
      };
    }

-- ---- one bit of an octet

pub record Goes (old k : Kept) (found : Option FastEvent) (all left : List Bool) (limit : ℕ) : Type 0 where
  pub kept : run old all ≡ run k left
  pub events : run_events old all ≡ option_to_list found ++ run_events k left
  pub quiet : IsQuietAfter found k limit

-- the event of a bit, or the one before
abbrev pub either : Option FastEvent → Option FastEvent → Option FastEvent
either None found = found
either (Some event) found = Some event

goes_by : (event found : Option FastEvent) (old k : Kept) (all left : List Bool) (bit : Bool) (limit : ℕ) → (takes k bit).event ≡ event
    → 1 ≤ limit → limit ≤ 256 → Goes old k found all (bit ∷ left) limit → Goes old (takes k bit).kept (either event found) all left (2 * limit)
goes_by None None old k all left bit limit e some most h = record {
  kept = h.kept;
  events = h.events ∙ ap (λ o. option_to_list o ++ run_events (takes k bit).kept left) e;
  quiet = tt;
}
goes_by None (Some found) old k all left bit limit e some most h = record {
  kept = h.kept;
  events = h.events ∙ ap (λ o. found ∷ (option_to_list o ++ run_events (takes k bit).kept left)) e;
  quiet = (still k bit limit h.quiet most).past;
}
goes_by (Some event) None old k all left bit limit e some most h =
    let stopped : IsPastEvent (takes k bit).kept 1 = subst (λ o. IsQuietAfter o (takes k bit).kept 1) e (takes_stopped k bit).quiet in
    record {
      kept = h.kept;
      events = h.events ∙ ap (λ o. option_to_list o ++ run_events (takes k bit).kept left) e;
      quiet = record { hunts = stopped.hunts; few = omega (arith, stopped.few, some) };
    }
goes_by (Some event) (Some found) old k all left bit limit e some most h =
    let none = (still k bit limit h.quiet most).none in absurd (cc)

pub goes_more : (found : Option FastEvent) (old k : Kept) (all left : List Bool) (bit : Bool) (limit : ℕ)
    → 1 ≤ limit → limit ≤ 256 → Goes old k found all (bit ∷ left) limit → Goes old (takes k bit).kept (either (takes k bit).event found) all left (2 * limit)
goes_more found old k all left bit limit some most h = goes_by (takes k bit).event found old k all left bit limit refl some most h

pub goes_first : (old : Kept) (all : List Bool) → Goes old old None all all 1
goes_first old all = record { kept = refl; events = refl; quiet = tt }

pub low_bits-more : (i rest : ℕ) → i < 8 → low_bits (8 - i) rest ≡ eqb (rest % 2) 1 ∷ low_bits (8 - (i + 1)) (rest / 2)
unfolding low_bits
low_bits-more i rest h =
    let e : 8 - i ≡ suc (8 - (i + 1)) = omega arith in ap (λ n. low_bits n rest) e

either_some : (event found : Option FastEvent) → is_some event ≡ true → event ≡ either event found
either_some None found e = absurd (cc)
either_some (Some event) found e = refl

either_none : (event found : Option FastEvent) → is_some event ≡ false → found ≡ either event found
either_none None found e = refl
either_none (Some event) found e = absurd (cc)

pub goes_step : (event found new : Option FastEvent) (old k k' : Kept) (all : List Bool) (place rest : ℕ) → place < 8
    → (let t = takes k (eqb (rest % 2) 1) in (event ≡ t.event) × (k' ≡ t.kept))
    → ((is_some event ≡ true) × (new ≡ event)) ⊎ ((is_some event ≡ false) × (new ≡ found))
    → Goes old k found all (low_bits (8 - place) rest) (2 ^ place)
    → Goes old k' new all (low_bits (8 - (place + 1)) (rest / 2)) (2 ^ (place + 1))
goes_step event found new old k k' all place rest within took which h =
    let bit = eqb (rest % 2) 1 in
    let some : 1 ≤ 2 ^ place = pow-le-pow_right (lit< tt) (zero-le {n = place}) in
    let most : 2 ^ place ≤ 256 = pow-le-pow_right (lit< tt) (let e : place ≤ 8 = omega arith in e) in
    let bits = subst (λ xs. Goes old k found all xs (2 ^ place)) (low_bits-more place rest within) h in
    let next = goes_more found old k all (low_bits (8 - (place + 1)) (rest / 2)) bit (2 ^ place) some most bits in
    let power : 2 * 2 ^ place ≡ 2 ^ (place + 1) = sym (ap (λ n. 2 ^ n) (add-one place) ∙ pow-succ' 2 place) in
    let is : new ≡ either (takes k bit).event found =
    elim which [ inl a ↦ a.1 ∙ either_some event found a.0 ∙ ap (λ e. either e found) took.0 | inr b ↦ b.1 ∙ either_none event found b.0 ∙ ap (λ e. either e found) took.0 ] in
    subst (λ n. Goes old k' new all (low_bits (8 - (place + 1)) (rest / 2)) n) power
    (subst (λ f. Goes old k' f all (low_bits (8 - (place + 1)) (rest / 2)) (2 * 2 ^ place)) (sym is)
    (subst (λ x. Goes old x (either (takes k bit).event found) all (low_bits (8 - (place + 1)) (rest / 2)) (2 * 2 ^ place)) (sym took.1) next))

pub goes_end : (found : Option FastEvent) (old k : Kept) (all : List Bool) (place rest limit : ℕ) → place ≡ 8
    → Goes old k found all (low_bits (8 - place) rest) limit → (run_events old all ≡ option_to_list found) × (k ≡ run old all)
unfolding low_bits
goes_end found old k all place rest limit e h =
    let none : low_bits (8 - place) rest ≡ [] = ap (λ n. low_bits n rest) (let z : 8 - place ≡ 0 = omega arith in z) in (
      h.events ∙ ap (λ xs. option_to_list found ++ run_events k xs) none ∙ append-nil (option_to_list found),
      sym (h.kept ∙ ap (run k) none),
    )

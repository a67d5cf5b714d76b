-- The records of a drill, and what they play.
use Rattle.std.proofs.Common.{◌≡◌, ℕ, ◌+◌, ◌-◌, ◌<◌, ◌==◌, Bool, true, false, List, [], ◌∷◌, ◌++◌, All, length, get_or, flat_map, append_assoc, append-nil, refl, sym, ap, ◌∙◌, subst, arith, add-one}
use Rattle.std.specs.List.{range_with_len}
use Rattle.std.proofs.lemmas.Bool.{cond-false, cond-true, cond_both, ne_eqb}
use Rattle.std.proofs.lemmas.Bool.Decides.{Decides-eqb}
use Rattle.std.proofs.lemmas.Grind.{flat_map-append}
use Rattle.std.proofs.lemmas.List.Elements.{All-cons, All-nil}
use Rattle.carrier_plan.specs.declared.plan.Plan.{Plan}
use Rattle.link_base.specs.Record.{Record}
use Rattle.link_receiver.specs.Laws.{EntriesAreSettled}
use Rattle.link_receiver.specs.Output.{entries_at, entries_before, entries_below}
use Rattle.link_receiver.specs.declared.entry.Entry.{Entry}
use Rattle.plan_checker.specs.Rules.{IsGood}
use Rattle.link_drill.specs.declared.fates.Fate.{Fate}
use Rattle.link_drill.specs.declared.fates.Fate.TheVariants.{Lost, Arrives}
use Rattle.link_drill.specs.Arrivals.{arrivals_at, arrivals_below, arrivals_by, arrivals_of_first, arrivals_of_packet, record_or_two}
use Rattle.link_drill.proofs.Ranges.{All-flat_map, range_more, range_split}

abbrev pub of_tick : ℕ → List ℕ → Record
of_tick t octets = record { tick = t; octets = octets }

-- ---- the records of a packet

pub arrivals-other : (t tick : ℕ) (octets : List ℕ) (twice : Bool) → (tick ≡ t → ⊥) → arrivals_by t octets (Arrives tick twice) ≡ []
arrivals-other t tick octets twice other = cond-false {A = List Record} (tick == t) (record_or_two t octets twice) [] (ne_eqb tick t other)

arrivals-now : (t tick : ℕ) (octets : List ℕ) (twice : Bool) → tick ≡ t → arrivals_by t octets (Arrives tick twice) ≡ record_or_two t octets twice
arrivals-now t tick octets twice now = cond-true {A = List Record} (tick == t) (record_or_two t octets twice) [] ((Decides-eqb tick t).1 now)

pub arrivals-once : (t tick : ℕ) (octets : List ℕ) (twice : Bool) → tick ≡ t → twice ≡ false → arrivals_by t octets (Arrives tick twice) ≡ of_tick t octets ∷ []
arrivals-once t tick octets twice now once = arrivals-now t tick octets twice now ∙ ap (record_or_two t octets) once

pub arrivals-twice : (t tick : ℕ) (octets : List ℕ) (twice : Bool) → tick ≡ t → twice ≡ true → arrivals_by t octets (Arrives tick twice) ≡ of_tick t octets ∷ of_tick t octets ∷ []
arrivals-twice t tick octets twice now again = arrivals-now t tick octets twice now ∙ ap (record_or_two t octets) again

-- what a fact says of the records before and none, one or two
pub with_none : (P : List Record → Type 0) (records : List Record) (more : List Record) → more ≡ [] → P records → P (records ++ more)
with_none P records more none before = subst P (sym (ap (λ xs. records ++ xs) none ∙ append-nil records)) before

pub with_one : (P : List Record → Type 0) (records : List Record) (more : List Record) (r : Record) → more ≡ r ∷ [] → P (records ++ r ∷ []) → P (records ++ more)
with_one P records more r one before = subst P (sym (ap (λ xs. records ++ xs) one)) before

pub with_two : (P : List Record → Type 0) (records : List Record) (more : List Record) (r : Record) → more ≡ r ∷ r ∷ [] → P ((records ++ r ∷ []) ++ r ∷ []) → P (records ++ more)
with_two P records more r two before = subst P (append_assoc records (r ∷ []) (r ∷ []) ∙ sym (ap (λ xs. records ++ xs) two)) before

-- ---- the records of a tick

pub arrivals_of_first-none : (packets : List (List ℕ)) (fates : List Fate) (t : ℕ) → arrivals_of_first packets fates t 0 ≡ []
unfolding arrivals_of_first
arrivals_of_first-none packets fates t = refl

pub arrivals_of_first-more : (packets : List (List ℕ)) (fates : List Fate) (t n : ℕ)
    → arrivals_of_first packets fates t (n + 1) ≡ arrivals_of_first packets fates t n ++ arrivals_of_packet packets fates t n
unfolding arrivals_of_first
arrivals_of_first-more packets fates t n =
    let f : ℕ → List Record = arrivals_of_packet packets fates t in
    let here : 0 + n ≡ n = omega arith in
    ap (flat_map f) (range_more 0 n) ∙ flat_map-append f (range_with_len 0 n) ((0 + n) ∷ [])
    ∙ ap (λ xs. flat_map f (range_with_len 0 n) ++ xs) (append-nil (f (0 + n)) ∙ ap f here)

all_by : (t : ℕ) (octets : List ℕ) (fate : Fate) → All (λ r. r.tick ≡ t) (arrivals_by t octets fate)
all_by t octets Lost = All-nil _
all_by t octets (Arrives tick twice) =
    let P : Record → Type 0 = λ r. r.tick ≡ t in
    let one : All P (of_tick t octets ∷ []) = All-cons P (of_tick t octets) [] refl (All-nil P) in
    let two : All P (of_tick t octets ∷ of_tick t octets ∷ []) = All-cons P (of_tick t octets) (of_tick t octets ∷ []) refl one in
    cond_both (tick == t) (record_or_two t octets twice) [] (All P) (λ now. cond_both twice _ _ (All P) (λ again. two) (λ once. one)) (λ other. All-nil P)

all_first : (packets : List (List ℕ)) (fates : List Fate) (t n : ℕ) → All (λ r. r.tick ≡ t) (arrivals_of_first packets fates t n)
unfolding arrivals_of_first
all_first packets fates t n =
    All-flat_map (λ r. r.tick ≡ t) (arrivals_of_packet packets fates t) 0 n (λ i low high. all_by t (get_or packets i []) (get_or fates i Lost))

-- ---- the records of all ticks

pub arrivals_below-none : (packets : List (List ℕ)) (fates : List Fate) → arrivals_below packets fates 0 ≡ []
unfolding arrivals_below
arrivals_below-none packets fates = refl

pub arrivals_below-more : (packets : List (List ℕ)) (fates : List Fate) (t : ℕ) → arrivals_below packets fates (t + 1) ≡ arrivals_below packets fates t ++ arrivals_at packets fates t
unfolding arrivals_below
arrivals_below-more packets fates t =
    let f : ℕ → List Record = arrivals_at packets fates in
    let here : 0 + t ≡ t = omega arith in
    ap (flat_map f) (range_more 0 t) ∙ flat_map-append f (range_with_len 0 t) ((0 + t) ∷ [])
    ∙ ap (λ xs. flat_map f (range_with_len 0 t) ++ xs) (append-nil (f (0 + t)) ∙ ap f here)

-- the records of n ticks from tick t on
abbrev later_from : List (List ℕ) → List Fate → ℕ → ℕ → List Record
later_from packets fates t n = flat_map (arrivals_at packets fates) (range_with_len t n)

arrivals_below-split : (packets : List (List ℕ)) (fates : List Fate) (t n : ℕ) → arrivals_below packets fates (t + n) ≡ arrivals_below packets fates t ++ later_from packets fates t n
unfolding arrivals_below
arrivals_below-split packets fates t n =
    let f : ℕ → List Record = arrivals_at packets fates in
    ap (flat_map f) (range_split 0 t n) ∙ flat_map-append f (range_with_len 0 t) (range_with_len (0 + t) n)
    ∙ ap (λ a. flat_map f (range_with_len 0 t) ++ flat_map f (range_with_len a n)) (let here : 0 + t ≡ t = omega arith in here)

all_later : (packets : List (List ℕ)) (fates : List Fate) (t n : ℕ) → All (λ r. t < r.tick) (later_from packets fates (t + 1) n)
all_later packets fates t n =
    All-flat_map (λ r. t < r.tick) (arrivals_at packets fates) (t + 1) n
    (λ i low high k d inside. let at = all_first packets fates i (length packets) k d inside in omega (arith, at, low))

-- ---- the entries

-- what a session lists after tick t are the entries of that tick
pub listed-is : (p q : Plan) (h frames tick t : ℕ) (records : List Record) (listed : List Entry) → q ≡ p → frames ≡ h → tick ≡ t + 1
    → listed ≡ entries_before q frames records tick → listed ≡ entries_at p h records t
listed-is p q h frames tick t records listed plan many now is =
    let before : entries_before p h records (t + 1) ≡ entries_at p h records t = rw add-one refl in
    is ∙ ap (λ (r : Plan). entries_before r frames records tick) plan ∙ ap (λ k. entries_before p k records tick) many ∙ ap (entries_before p h records) now ∙ before

module _ (p : Plan) (h n : ℕ) (packets : List (List ℕ)) (fates : List Fate) where
  -- The entries of a tick are those of the whole run's records.
  entries-whole : EntriesAreSettled → IsGood p → (t : ℕ) → t < n → entries_at p h (arrivals_below packets fates (t + 1)) t ≡ entries_at p h (arrivals_below packets fates n) t
  entries-whole settled good t less =
      let rest = n - (t + 1) in
      let whole : t + 1 + rest ≡ n = omega arith in
      sym (settled p h t (arrivals_below packets fates (t + 1)) (later_from packets fates (t + 1) rest) good (all_later packets fates t rest))
      ∙ ap (λ (records : List Record). entries_at p h records t) (sym (arrivals_below-split packets fates (t + 1) rest) ∙ ap (arrivals_below packets fates) whole)

  pub entries-more : EntriesAreSettled → IsGood p → (t : ℕ) (listed : List Entry) → t < n
      → listed ≡ entries_at p h (arrivals_below packets fates t ++ arrivals_at packets fates t) t
      → entries_below p h (arrivals_below packets fates n) t ++ listed ≡ entries_below p h (arrivals_below packets fates n) (t + 1)
  entries-more settled good t listed less is =
      let R = arrivals_below packets fates n in
      let f : ℕ → List Entry = entries_at p h R in
      let here : 0 + t ≡ t = omega arith in
      let now : listed ≡ f t =
      is ∙ ap (λ (records : List Record). entries_at p h records t) (sym (arrivals_below-more packets fates t)) ∙ entries-whole settled good t less in
      ap (λ (xs : List Entry). entries_below p h R t ++ xs) now
      ∙ sym (ap (flat_map f) (range_more 0 t) ∙ flat_map-append f (range_with_len 0 t) ((0 + t) ∷ [])
      ∙ ap (λ xs. flat_map f (range_with_len 0 t) ++ xs) (append-nil (f (0 + t)) ∙ ap f here))

-- ---- a packet more

pub deliver_more : (P : List Record → Type 0) (records : List Record) (packets : List (List ℕ)) (fates : List Fate) (t tick n : ℕ) (octets : List ℕ) (fate : Fate)
    → tick ≡ t → get_or packets n [] ≡ octets → get_or fates n Lost ≡ fate
    → P ((records ++ arrivals_of_first packets fates t n) ++ arrivals_by tick octets fate) → P (records ++ arrivals_of_first packets fates t (n + 1))
deliver_more P records packets fates t tick n octets fate now packet its before =
    let same : arrivals_by tick octets fate ≡ arrivals_of_packet packets fates t n =
    ap (λ k. arrivals_by k octets fate) now ∙ ap (λ xs. arrivals_by t xs fate) (sym packet) ∙ ap (arrivals_by t (get_or packets n [])) (sym its) in
    subst P (append_assoc records (arrivals_of_first packets fates t n) (arrivals_by tick octets fate)
    ∙ ap (λ xs. records ++ xs) (ap (λ ys. arrivals_of_first packets fates t n ++ ys) same ∙ sym (arrivals_of_first-more packets fates t n))) before

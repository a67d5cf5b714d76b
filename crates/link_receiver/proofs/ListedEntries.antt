-- Entries, carrier by carrier.
use Rattle.std.proofs.Common.{◌≡◌, ℕ, zero, suc, ◌+◌, ◌-◌, ◌<◌, ◌≤◌, ◌^◌, List, [], ◌∷◌, ◌++◌, length, take, get_or, All, flat_map, true, pos, Option, append-nil, append_assoc, refl, sym, ap, ◌∙◌, subst, arith}
use Rattle.std.specs.Int.{bit_at}
use Rattle.std.specs.List.{range_with_len}
use Rattle.std.proofs.lemmas.List.{get_or-take, length-take-le}
use Rattle.std.proofs.lemmas.List.FromFn.{map-range_with_len_more}
use Rattle.link_base.specs.Record.{Record}
use Rattle.link_receiver_blocks.specs.Containers.{unless_marked}
use Rattle.sample_bits.specs.declared.iq.RawIq.{RawIq}
use Rattle.link_receiver.specs.Output.{entries_at, entries_before, entries_of}
use Rattle.carrier_plan.specs.declared.plan.Carrier.{Carrier}
use Rattle.carrier_plan.specs.declared.plan.Plan.{Plan}
use Rattle.link_receiver.specs.Runs.{CanBeListed, entries_from, entries_of_before, entries_of_kept, entries_of_run, entry_of_run}
use Rattle.link_receiver.specs.Sessions.{IsSession, KeepsCarrier, SessionView, StandsFor}
use Rattle.link_receiver.specs.declared.carrier_in_hand.CarrierInHand.{CarrierInHand}
use Rattle.link_receiver.specs.declared.entry.Entry.{Entry}
use Rattle.link_receiver.proofs.OctetsInHand.{item, item_at}
use Rattle.link_receiver.proofs.Ranges.{map-ranges}
use Rattle.link_receiver.proofs.Readiness.{get_or-any, ready_number}

-- one carrier more
pub entries_from-more : (tick c i : ℕ) (xs : List CarrierInHand) (d : CarrierInHand) → i < length xs
    → entries_from tick c (take (suc i) xs) ≡ entries_from tick c (take i xs) ++ entries_of_kept tick (c + i) (get_or xs i d)
entries_from-more tick c i [] d inside = absurd (omega arith)
entries_from-more tick c zero (x ∷ xs) d inside =
    let here : c ≡ c + 0 = omega arith in
    append-nil (entries_of_kept tick c x) ∙ ap (λ k. entries_of_kept tick k x) here
entries_from-more tick c (suc i) (x ∷ xs) d inside =
    let place : c + 1 + i ≡ c + suc i = omega arith in
    ap (λ ys. entries_of_kept tick c x ++ ys) (entries_from-more tick (c + 1) i xs d (omega arith) ∙ ap (λ k. entries_from tick (c + 1) (take i xs) ++ entries_of_kept tick k (get_or xs i d)) place)
    ∙ sym (append_assoc (entries_of_kept tick c x) (entries_from tick (c + 1) (take i xs)) (entries_of_kept tick (c + suc i) (get_or xs i d)))

-- carriers whose entries are given, one by one
pub entries_from-each : (tick c : ℕ) (xs : List CarrierInHand) (g : ℕ → List Entry) → ((i : ℕ) (d : CarrierInHand) → i < length xs → entries_of_kept tick (c + i) (get_or xs i d) ≡ g (c + i))
    → entries_from tick c xs ≡ flat_map g (range_with_len c (length xs))
entries_from-each tick c [] g each = refl
entries_from-each tick c (x ∷ xs) g each =
    let here : c ≡ c + 0 = omega arith in
    ap (λ k. entries_of_kept tick k x ++ entries_from tick (c + 1) xs) here
    ∙ ap (λ ys. ys ++ entries_from tick (c + 1) xs) (each 0 x (omega arith) ∙ ap g (sym here))
    ∙ ap (λ ys. g c ++ ys) (entries_from-each tick (c + 1) xs g (λ i d inside.
    let place : c + 1 + i ≡ c + suc i = omega arith in
    ap (λ k. entries_of_kept tick k (get_or xs i d)) place ∙ each (suc i) d (omega arith) ∙ ap g (sym place)))

-- each carrier of a session can be listed
pub can_be_listed : (s : SessionView) → IsSession s → All CanBeListed s.carriers
can_be_listed s is k d inside =
    let many = is.as_many_carriers in
    let here : k < length s.plan.carriers = omega (arith, many, inside) in
    let carrier = item s.plan.carriers k here in
    let read = item_at s.plan.carriers k here in
    let keeps = is.carriers k carrier read d in
    record { few = keeps.few; samples = keeps.room; number = ready_number s.plan s.frames s.tick k carrier (get_or s.carriers k d) is.good read keeps is.few }

-- ---- one entry more

abbrev pub the_entry : (tick c number : ℕ) → Option RawIq → Entry
the_entry tick c number value = record { tick = tick; carrier = c; number = number; value = value }

pub run-more : (tick c number marks : ℕ) (samples : List RawIq) (i from : ℕ) (sample : RawIq) (value : Option RawIq) → i < length samples → from ≡ i → sample ≡ get_or samples i sample
    → value ≡ unless_marked (bit_at marks i) sample
    → entries_of_run tick c number marks samples i ++ the_entry tick c (number + from) value ∷ [] ≡ entries_of_run tick c number marks samples (i + 1)
run-more tick c number marks samples i from sample value inside same at is =
    let zero_sample : RawIq = record { i = pos 0; q = pos 0 } in
    let entry = entry_of_run tick c number marks samples in
    ap (λ k. entries_of_run tick c number marks samples i ++ the_entry tick c (number + k) value ∷ []) same
    ∙ ap (λ v. entries_of_run tick c number marks samples i ++ the_entry tick c (number + i) v ∷ []) (is ∙ ap (unless_marked (bit_at marks i)) (at ∙ get_or-any samples i sample zero_sample inside))
    ∙ sym (map-range_with_len_more entry 0 i i (omega arith))

-- ---- the session whose entries are listed

entries_before-suc : (p : Plan) (h t : ℕ) (records : List Record) → 0 < t → entries_before p h records t ≡ entries_at p h records (t - 1)
entries_before-suc p h zero records some = absurd (omega arith)
entries_before-suc p h (suc t) records some = let back : t ≡ suc t - 1 = omega arith in ap (entries_at p h records) back

entries_of_before-last : (p : Plan) (h t c : ℕ) (records : List Record) → 0 < t → entries_of_before p h records t c ≡ entries_of p h records (t - 1) c
entries_of_before-last p h zero c records some = absurd (omega arith)
entries_of_before-last p h (suc t) c records some = let back : t ≡ suc t - 1 = omega arith in ap (λ u. entries_of p h records u c) back

unfold_entries : (p : Plan) (h t : ℕ) (records : List Record) → entries_at p h records t ≡ flat_map (entries_of p h records t) (range_with_len 0 (length p.carriers))
unfolding entries_at
unfold_entries p h t records = refl

pub listed-before : (s : SessionView) (records : List Record) → IsSession s → 0 < s.tick → StandsFor s records
    → entries_from (s.tick - 1) 0 s.carriers ≡ entries_before s.plan s.frames records s.tick
listed-before s records is some stands =
    entries_from-each (s.tick - 1) 0 s.carriers (entries_of s.plan s.frames records (s.tick - 1)) (λ i d inside.
    let many = is.as_many_carriers in
    let here : i < length s.plan.carriers = omega (arith, many, inside) in
    let carrier = item s.plan.carriers i here in
    let read = item_at s.plan.carriers i here in
    let keeps = is.carriers i carrier read d in
    let place : i ≡ 0 + i = omega arith in
    let entries = (stands.carriers i carrier keeps.flow read keeps.listed d).entries ∙ entries_of_before-last s.plan s.frames s.tick i records some in
    subst (λ k. entries_of_kept (s.tick - 1) k (get_or s.carriers i d) ≡ entries_of s.plan s.frames records (s.tick - 1) k) place entries)
    ∙ ap (λ n. flat_map (entries_of s.plan s.frames records (s.tick - 1)) (range_with_len 0 n)) is.as_many_carriers
    ∙ sym (entries_before-suc s.plan s.frames s.tick records some ∙ unfold_entries s.plan s.frames (s.tick - 1) records)

abbrev with_entries : SessionView → List Entry → SessionView
with_entries s entries = record {
  plan = s.plan;
  frames = s.frames;
  tick = s.tick;
  flows = s.flows;
  carriers = s.carriers;
  listed = true;
  entries = entries;
  control = s.control;
}

pub stands-listed : (s : SessionView) (entries : List Entry) (records : List Record) → IsSession s → 0 < s.tick → entries ≡ entries_from (s.tick - 1) 0 s.carriers → StandsFor s records
    → StandsFor (with_entries s entries) records
stands-listed s entries records is some same stands = record {
  arrived = stands.arrived;
  flows = stands.flows;
  carriers = stands.carriers;
  entries = λ listed. same ∙ listed-before s records is some stands;
  control = stands.control;
}

-- ---- the samples of a carrier that left

-- the samples behind the first ones give no entry
run-front : (tick c number marks : ℕ) (samples : List RawIq) (count : ℕ) → count ≤ length samples
    → entries_of_run tick c number marks (take count samples) (length (take count samples)) ≡ entries_of_run tick c number marks samples count
run-front tick c number marks samples count within =
    let zero_sample : RawIq = record { i = pos 0; q = pos 0 } in
    ap (entries_of_run tick c number marks (take count samples)) (length-take-le count samples within)
    ∙ map-ranges (entry_of_run tick c number marks (take count samples)) (entry_of_run tick c number marks samples) 0 0 count
    (λ i less. let here : 0 + i < count = omega arith in
    ap (λ v. the_entry tick c (number + (0 + i)) (unless_marked (bit_at marks (0 + i)) v)) (get_or-take count samples (0 + i) zero_sample here))

-- what is lent of carrier c of a session, which is seen as `now`
module _ (s now : SessionView) (same : s ≡ now) (is : IsSession s) (c : ℕ) (kept : CarrierInHand) (read : kept ≡ get_or s.carriers c kept) (inside : c < length now.plan.carriers)
    (samples : List RawIq) (all : samples ≡ kept.samples.items) where
  within : c < length s.plan.carriers
  within = subst (λ (v : SessionView). c < length v.plan.carriers) (sym same) inside

  abbrev the_carrier : Carrier
  the_carrier = item s.plan.carriers c within

  keeps_carrier : KeepsCarrier s.plan s.frames s.tick c the_carrier kept
  keeps_carrier = subst (KeepsCarrier s.plan s.frames s.tick c the_carrier) (sym read) (is.carriers c the_carrier (item_at s.plan.carriers c within) kept)

  pub leaving-length : kept.count ≡ length (take kept.count samples)
  leaving-length =
      let few = keeps_carrier.few in
      let room = keeps_carrier.room in
      let long = ap length all in
      sym (length-take-le kept.count samples (omega arith))

  pub leaving-few : length (take kept.count samples) ≤ 32
  leaving-few =
      let few = keeps_carrier.few in
      let long = leaving-length in
      omega arith

  pub leaving-numbers : kept.number + length (take kept.count samples) < 2 ^ 64
  leaving-numbers =
      subst (λ n. kept.number + n < 2 ^ 64) leaving-length
      (ready_number s.plan s.frames s.tick c the_carrier kept is.good (item_at s.plan.carriers c within) keeps_carrier is.few)

  entries_kept : (records : List Record) → StandsFor s records
      → entries_of_run (s.tick - 1) c kept.number kept.marks (take kept.count samples) (length (take kept.count samples))
      ≡ entries_of_before s.plan s.frames records s.tick c
  entries_kept records stands =
      let keeps = keeps_carrier in
      let entries = (stands.carriers c the_carrier keeps.flow (item_at s.plan.carriers c within) keeps.listed kept).entries in
      let few = keeps.few in
      let room = keeps.room in
      let long = ap length all in
      run-front (s.tick - 1) c kept.number kept.marks samples kept.count (omega arith)
      ∙ ap (λ xs. entries_of_run (s.tick - 1) c kept.number kept.marks xs kept.count) all
      ∙ subst (λ (k : CarrierInHand). entries_of_kept (s.tick - 1) c k ≡ entries_of_before s.plan s.frames records s.tick c) (sym read) entries

  pub leaving-entries : (records : List Record) → StandsFor now records
      → entries_of_run (now.tick - 1) c kept.number kept.marks (take kept.count samples) (length (take kept.count samples))
      ≡ entries_of_before now.plan now.frames records now.tick c
  leaving-entries records stands =
      subst (λ (v : SessionView). entries_of_run (v.tick - 1) c kept.number kept.marks (take kept.count samples) (length (take kept.count samples))
      ≡ entries_of_before v.plan v.frames records v.tick c) same (entries_kept records (subst (λ v. StandsFor v records) (sym same) stands))

-- Each sample of a stream is played once, its delay after it was handed in, with its value or marked.
use Rattle.std.proofs.Common.{◌≡◌, ℕ, ◌+◌, ◌-◌, ◌<◌, ◌≤◌, true, false, List, [], ◌∷◌, length, All, Contains, IsTrue, Some, slice_get, count_by, eqb, sym, refl, ◌∙◌, subst, arith, get_or}
use Rattle.std.proofs.lemmas.Bool.{and_from, and_parts, and_right, eq-eqb, eqb-true, false_from_ne_true, ne_eqb}
use Rattle.std.proofs.lemmas.Option.{same_Some, slice_get-get_or}
use Rattle.carrier_plan.specs.declared.plan.Carrier.{Carrier}
use Rattle.carrier_plan.specs.declared.plan.Flow.{Flow}
use Rattle.carrier_plan.specs.declared.plan.Plan.{Plan}
use Rattle.link_base.specs.Record.{Record}
use Rattle.link_receiver.proofs.Places.{delay_of-carrier, good_carrier}
use Rattle.link_receiver.specs.declared.entry.Entry.{Entry}
use Rattle.link_receiver.specs.Output.{all_entries, entry_of, value_of}
use Rattle.link_sender.specs.Stream.{IsStream, Stream}
use Rattle.plan_checker.specs.Flows.{lists}
use Rattle.plan_checker.specs.Laws.{EachBitHasOneSample}
use Rattle.plan_checker.specs.Rules.{IsGood}
use Rattle.plan_checker.specs.Run.{IsDue, delay_of, ticks_of_run}
use Rattle.roe_mappers.specs.Laws.{PartsAreGivenBack}
use Rattle.link_run_delay.specs.Delay.{AreFresh, IsPlain, IsPlayed, IsValue, SamplesAreDelayed, tells_of}
use Rattle.link_run_delay.proofs.BitPlaces.{block_within, tick_of-due}
use Rattle.link_run_delay.proofs.Entries.{All-all_entries, count_by-all_entries_one, count_by-entries_at_none, count_by-entries_at_one, count_by-entries_of_none, count_by-entries_of_one}
use Rattle.link_run_delay.proofs.SampleValues.{value_of-is}

-- a carrier of the list by its place
carrier_at : (cs : List Carrier) (c : ℕ) → c < length cs → (carrier : Carrier) × (slice_get cs c ≡ Some carrier)
carrier_at [] c lt = absurd (omega arith)
carrier_at (x ∷ xs) c lt = (get_or (x ∷ xs) c x, slice_get-get_or (x ∷ xs) c x lt)

module _ (p : Plan) (h : ℕ) (records : List Record) (good : IsGood p) (c : ℕ) (carrier : Carrier) (read : slice_get p.carriers c ≡ Some carrier) (n j : ℕ) (within : c < length p.carriers) (lt : n < h) (due : IsDue p c n j) where
  -- an entry of the sample leaves its delay after tick n
  tick_of-entry : (t d i : ℕ) → delay_of p d ≤ t → IsDue p d (t - delay_of p d) i → d ≡ c → i ≡ j → t ≡ n + delay_of p c
  tick_of-entry t d i late is_due same_carrier same_number =
      let here : IsDue p c (t - delay_of p c) i = subst (λ x. IsDue p x (t - delay_of p x) i) same_carrier is_due in
      let it : IsDue p c (t - delay_of p c) j = subst (IsDue p c (t - delay_of p c)) same_number here in
      let after : delay_of p c ≤ t = subst (λ x. delay_of p x ≤ t) same_carrier late in
      let tick : t - delay_of p c ≡ n = tick_of-due p c carrier good read (t - delay_of p c) n j it due in
      omega arith

  tells : (t d i : ℕ) (a : Carrier) → tells_of c j (entry_of p h records t d a i) ≡ true → (d ≡ c) × (i ≡ j)
  tells t d i a test =
      let parts = and_parts (eqb d c) (eqb i j) test in
      (eqb-true d c parts.0, eqb-true i j parts.1)

  -- no entry tells of the sample at another tick or of another carrier
  others : (t d : ℕ) → (t ≡ n + delay_of p c → d ≡ c → ⊥) → (a : Carrier) (i : ℕ) → delay_of p d ≤ t → IsDue p d (t - delay_of p d) i → tells_of c j (entry_of p h records t d a i) ≡ false
  others t d other a i late is_due =
      false_from_ne_true (tells_of c j (entry_of p h records t d a i))
      (λ test.
      let same = tells t d i a test in
      other (tick_of-entry t d i late is_due same.0 same.1) same.0)

  pub once : count_by (tells_of c j) (all_entries p h records) ≡ 1
  once =
      let test = tells_of c j in
      let t = n + delay_of p c in
      let passes : test (entry_of p h records t c carrier j) ≡ true = and_from (eqb c c) (eqb j j) (eq-eqb c c refl) (eq-eqb j j refl) in
      let fails : (i : ℕ) → (i ≡ j → ⊥) → test (entry_of p h records t c carrier i) ≡ false = λ i other. and_right (eqb c c) (eqb i j) (ne_eqb i j other) in
      let end : t < ticks_of_run p h = omega (arith, delay_of-carrier p c carrier (good_carrier p c carrier good read), block_within p c carrier good read) in
      count_by-all_entries_one test p h records t end
      (count_by-entries_at_one test p h records t c within
      (count_by-entries_of_one test p h records c carrier n j read lt due passes fails)
      (λ d other. count_by-entries_of_none test p h records t d (λ a i _ late _ is_due. others t d (λ _ same. other same) a i late is_due)))
      (λ u other. count_by-entries_at_none test p h records u
      (λ d. count_by-entries_of_none test p h records u d (λ a i _ late _ is_due. others u d (λ same _. other same) a i late is_due)))

  -- the entry at its delay has the right value
  module _ (one : EachBitHasOneSample) (law : PartsAreGivenBack) (σ : Stream) (plain : IsPlain p) (stream : IsStream p h σ) (fresh : AreFresh p h σ records) where
    value_here : (f : Flow) → Contains p.flows f → IsTrue (lists c f) → IsValue p σ f records c carrier j (value_of p h records c carrier j)
    value_here f listed lists_it = value_of-is one law p h σ records good plain stream fresh f listed c lists_it carrier read n j lt due

    value_of_entry : (f : Flow) (b : Carrier) (d : ℕ) (a : Carrier) (i : ℕ) → Contains p.flows f → IsTrue (lists c f) → slice_get p.carriers c ≡ Some b → slice_get p.carriers d ≡ Some a → d ≡ c → i ≡ j
        → IsValue p σ f records c b j (value_of p h records d a i)
    value_of_entry f b d a i listed lists_it is_b is_a same_carrier same_number =
        let here_a : slice_get p.carriers c ≡ Some a = subst (λ x. slice_get p.carriers x ≡ Some a) same_carrier is_a in
        let a_is : carrier ≡ a = same_Some carrier a (sym read ∙ here_a) in
        let b_is : carrier ≡ b = same_Some carrier b (sym read ∙ is_b) in
        let Right : Carrier → ℕ → Carrier → ℕ → Type 0 = λ x y z k. IsValue p σ f records c x j (value_of p h records y z k) in
        subst (λ x. Right x d a i) b_is
        (subst (λ y. Right carrier y a i) (sym same_carrier)
        (subst (λ z. Right carrier c z i) a_is
        (subst (Right carrier c carrier) (sym same_number) (value_here f listed lists_it))))

    pub played : All (λ (entry : Entry). tells_of c j entry ≡ true → IsPlayed p σ records c n j entry) (all_entries p h records)
    played =
        All-all_entries (λ (entry : Entry). tells_of c j entry ≡ true → IsPlayed p σ records c n j entry) p h records
        (λ t d a i is_a late _ is_due test.
        let same = tells t d i a test in
        record {
          tick = tick_of-entry t d i late is_due same.0 same.1;
          value = λ b f is_b listed lists_it. value_of_entry f b d a i listed lists_it is_b is_a same.0 same.1;
        })

pub SamplesAreDelayed-holds : EachBitHasOneSample → PartsAreGivenBack → SamplesAreDelayed
SamplesAreDelayed-holds one law p h σ records good plain stream _ fresh c n j within lt due =
    let found = carrier_at p.carriers c within in
    record {
      once = once p h records good c found.0 found.1 n j within lt due;
      played = played p h records good c found.0 found.1 n j within lt due one law σ plain stream fresh;
    }

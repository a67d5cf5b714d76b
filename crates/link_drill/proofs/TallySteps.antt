-- How many entries leave at a tick of a drill, and the counts of those of a tick more.
use Rattle.std.proofs.Common.{◌≡◌, ℕ, zero, suc, ◌+◌, ◌-◌, ◌*◌, ◌<◌, ◌≤◌, ◌&&◌, List, [], length, length-append, leb, ltb, flat_map, Option, Some, None, slice_get, refl, arith}
use Rattle.std.specs.List.{range_with_len}
use Rattle.std.proofs.lemmas.Bool.{cond_both}
use Rattle.std.proofs.lemmas.List.FromFn.{length-map-range_with_len}
use Rattle.std.proofs.lemmas.List.Sums.{count_by-le-length}
use Rattle.std.proofs.lemmas.Option.{slice_get_within}
use Rattle.carrier_plan.specs.declared.plan.Carrier.{Carrier}
use Rattle.carrier_plan.specs.declared.plan.Plan.{Plan}
use Rattle.link_base.specs.Record.{Record}
use Rattle.link_receiver.specs.Output.{entries_at, entries_below, entries_by, entries_handed_in, entries_of, entry_of}
use Rattle.link_receiver.specs.declared.entry.Entry.{Entry}
use Rattle.link_sender.specs.Stream.{Stream}
use Rattle.plan_checker.specs.Run.{delay_of, samples_before, samples_due}
use Rattle.link_drill.specs.Summary.{is_equal, is_marked}
use Rattle.link_drill.specs.Tally.{IsTally}
use Rattle.link_drill.specs.declared.tally.Tally.{Tally}
use Rattle.link_drill.proofs.PlanFacts.{IsDrillPlan, as_many_carriers, samples_due-four}

-- lists of at most m elements each
few_flat : {X : Type 0} (f : ℕ → List X) (m a n : ℕ) → ((i : ℕ) → a ≤ i → i < a + n → length (f i) ≤ m) → length (flat_map f (range_with_len a n)) ≤ n * m
few_flat f m a zero each = omega arith
few_flat f m a (suc n) each =
    let first = each a (omega arith) (omega arith) in
    let rest = few_flat f m (a + 1) n (λ i low high. each i (omega arith) (omega arith)) in
    omega (arith, first, rest, length-append (f a) (flat_map f (range_with_len (a + 1) n)))

module _ (p : Plan) (Y : ℕ) (is : IsDrillPlan p Y) (h : ℕ) (records : List Record) where
  few_by : (t c : ℕ) (found : Option Carrier) → slice_get p.carriers c ≡ found → length (entries_by p h records t c found) ≤ 4
  few_by t c None e = omega arith
  few_by t c (Some carrier) e =
      let n : ℕ = t - delay_of p c in
      let low : c < Y = omega (arith, slice_get_within p.carriers c carrier e, as_many_carriers p Y is) in
      let many = length-map-range_with_len (entry_of p h records t c carrier) (samples_before p c n) (samples_due p c n) in
      cond_both (leb (delay_of p c) t && ltb n h) (entries_handed_in p h records t c carrier n) [] (λ (xs : List Entry). length xs ≤ 4)
      (λ test. omega (arith, many, samples_due-four p Y is c n low)) (λ _. omega arith)

  few_of : (t c : ℕ) → length (entries_of p h records t c) ≤ 4
  unfolding entries_of
  few_of t c = few_by t c (slice_get p.carriers c) refl

  pub few_at : (t : ℕ) → length (entries_at p h records t) ≤ 64
  unfolding entries_at
  few_at t =
      let few = few_flat (entries_of p h records t) 4 0 (length p.carriers) (λ c low high. few_of t c) in
      omega (arith, few, as_many_carriers p Y is, is.few)

  pub few_below : (t : ℕ) → length (entries_below p h records t) ≤ t * 64
  few_below t = few_flat (entries_at p h records) 64 0 t (λ i low high. few_at i)

-- what a tally counts is among what it has seen
pub equal_few : (σ : Stream) (entries : List Entry) (tally : Tally) → IsTally σ entries tally → tally.equal ≤ tally.samples
equal_few σ entries tally is = omega (arith, is.equal, is.samples, count_by-le-length (is_equal σ) entries)

pub marked_few : (σ : Stream) (entries : List Entry) (tally : Tally) → IsTally σ entries tally → tally.marked ≤ tally.samples
marked_few σ entries tally is = omega (arith, is.marked, is.samples, count_by-le-length is_marked entries)

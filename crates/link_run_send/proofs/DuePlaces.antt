-- The samples that are due at a tick, and the places in a file at which they stand.
use Rattle.std.proofs.Common.{◌≡◌, ℕ, ◌+◌, ◌*◌, ◌/◌, ◌<◌, ◌≤◌, List, length, replicate, slice_index, sym, ap, ◌∙◌, inl, inr, arith}
use Rattle.std.proofs.Math.Nat.{zero-div}
use Rattle.std.proofs.lemmas.Bool.{cases_lt}
use Rattle.std.proofs.lemmas.List.{get_or-replicate, length-replicate}
use Rattle.std.proofs.lemmas.Nat.{div-add-mod', div_below, mod_below}
use Rattle.carrier_plan.specs.declared.plan.Carrier.{Carrier}
use Rattle.carrier_plan.specs.declared.plan.Plan.{Plan}
use Rattle.link_sender.proofs.GoodCarriers.{good_carrier, samples_before-carrier}
use Rattle.link_sender.proofs.Items.{item, item_at}
use Rattle.plan_checker.specs.Rules.{IsGood}
use Rattle.plan_checker.specs.Run.{block_lengths, block_samples, samples_before, samples_due}
use Rattle.link_run_send.specs.ComesNext.{HandedTo}
use Rattle.link_run_send.proofs.LackingPlaces.{samples_before-grows}

-- where s samples stand in k basic frames, and no more than 32 in one
quotient_grows_little : (n s k : ℕ) → 1 ≤ k → s ≤ 32 * k → (n + 1) * s / k ≤ n * s / k + 32
quotient_grows_little n s k some slow =
    let q = n * s / k in
    let split = div-add-mod' (n * s) k in
    let rest = mod_below (n * s) k some in
    let less = div_below ((n + 1) * s) k (q + 33) some (omega (arith, split, rest, slow)) in
    omega arith

pub few_due : (p : Plan) (c tick : ℕ) → IsGood p → c < length p.carriers → samples_due p c tick ≤ 32
few_due p c tick good inside =
    let carrier : Carrier = item p.carriers c inside in
    let is = good_carrier p c carrier good (item_at p.carriers c inside) in
    let first = samples_before-carrier p c carrier tick is in
    let next = samples_before-carrier p c carrier (tick + 1) is in
    let little = quotient_grows_little tick carrier.s carrier.k is.some_frames is.rate.slow in
    omega (arith, first, next, little)

-- ---- from one place in a file to a later one

module _ (p : Plan) (handed : List ℕ) (tick first : ℕ) (to : HandedTo p handed tick first) where
  nothing_due : (c : ℕ) → first ≤ c → c < length p.carriers → samples_due p c tick ≡ 0 → slice_index handed c ≡ samples_before p c (tick + 1)
  nothing_due c later inside none =
      let grows = samples_before-grows p c tick (tick + 1) (omega arith) in
      omega (arith, to.from c later inside, none, grows)

  pub handed_to_carrier : (carrier : ℕ) → first ≤ carrier → ((c : ℕ) → first ≤ c → c < carrier → samples_due p c tick ≡ 0) → HandedTo p handed tick carrier
  handed_to_carrier carrier order none = record {
    as_many = to.as_many;
    before = λ c low inside. elim (cases_lt c first) [
      | inl earlier ↦ to.before c earlier inside
      | inr later ↦ nothing_due c later inside (none c later low)
    ];
    from = λ c low inside. to.from c (omega arith) inside;
  }

  pub handed_to_tick : ((c : ℕ) → first ≤ c → c < length p.carriers → samples_due p c tick ≡ 0) → HandedTo p handed (tick + 1) 0
  handed_to_tick none = record {
    as_many = to.as_many;
    before = λ c low inside. absurd (omega arith);
    from = λ c low inside. elim (cases_lt c first) [
      | inl earlier ↦ to.before c earlier inside
      | inr later ↦ nothing_due c later inside (none c later inside)
    ];
  }

-- before the first sample
pub handed_to_first : (p : Plan) → HandedTo p (replicate (length p.carriers) 0) 0 0
handed_to_first p = record {
  as_many = length-replicate (length p.carriers) 0;
  before = λ c low inside. absurd (omega arith);
  from = λ c low inside.
      let none : 0 * slice_index (block_samples p) c ≡ 0 = omega arith in
      get_or-replicate (length p.carriers) c 0 0 inside ∙ sym (ap (λ m. m / slice_index (block_lengths p) c) none ∙ zero-div (slice_index (block_lengths p) c));
}

-- The plan of a drill meets the rules.
use Rattle.std.proofs.Common.{◌≡◌, ◌≢◌, ℕ, ◌+◌, ◌*◌, ◌<◌, ◌≤◌, zero, suc, true, cond, IsTrue, List, [], ◌∷◌, All, length, map, refl, sym, ap, ◌∙◌, subst, arith}
use Rattle.std.specs.List.{AllPairs, HoldsAt, range_with_len}
use Rattle.std.specs.List.Sorted.{IsStrictlyIncreasing}
use Rattle.std.proofs.lemmas.Bool.{cond-true}
use Rattle.std.proofs.lemmas.List.Elements.{All-cons, All-nil}
use Rattle.std.proofs.lemmas.List.Sums.{sum_by-cons}
use Rattle.std.proofs.lemmas.List.FromFn.{get_or-map-range_with_len, length-map-range_with_len}
use Rattle.carrier_plan.specs.declared.plan.Carrier.{Carrier}
use Rattle.carrier_plan.specs.declared.plan.Flow.{Flow}
use Rattle.carrier_plan.specs.declared.plan.Mode.TheVariants.{Bytes}
use Rattle.carrier_plan.specs.declared.plan.Piece.{Piece}
use Rattle.carrier_plan.specs.declared.plan.Plan.{Plan}
use Rattle.plan_checker.specs.Container.{HasPrescribedSize, HasSeparateBits, LiesWithin, SharesNoBit, SharesNoPiece}
use Rattle.plan_checker.specs.Flows.{HasPayload, SharesOutCarriers, lists}
use Rattle.plan_checker.specs.Rules.{IsGood}
use Rattle.plan_checker.specs.Rules.Rule.{LineOption, Counts, WholeFrames, SampleRate, SampleWidth, ContainerSize, ContainerEnd, SeparateBits, SharedOut, PayloadSize, ArrivalWindow, PlayedInTime, SequenceNumbers, BufferRoom}
use Rattle.plan_checker.specs.SampleRate.{HasSampleRate, HasSampleWidth}
use Rattle.plan_checker.specs.Timing.{HasRoom, HasSequenceNumbers, HasWindow, IsPlayedInTime}
use Rattle.plan_checker.specs.WordSize.{word_size}
use Rattle.plan_checker.proofs.Counting.{range-ascending}
use Rattle.plan_checker.proofs.Decisions.{Decides-has_sample_rate}
use Rattle.plan_checker.proofs.Held.{held_bound}
use Rattle.link_drill.specs.DrillPlan.{drill_carrier, drill_flow, drill_plan}
use Rattle.link_drill.proofs.Ranges.{All-range, any_in_range}

all_one : {A : Type 0} (P : A → Type 0) (x : A) → P x → All P (x ∷ [])
all_one P x here = All-cons P x [] here (All-nil P)

at_one : {A : Type 0} (P : A → Type 0) (x : A) (i : ℕ) → i < 1 → P x → HoldsAt P (x ∷ []) i
at_one P x zero low here d = here
at_one P x (suc i) low here d = absurd (omega arith)

no_pairs : {A : Type 0} (R : A → A → Type 0) (x : A) → AllPairs R (x ∷ [])
no_pairs R x i j d less inside = absurd (omega arith)

has_sample_rate : (c : ℕ) → HasSampleRate (drill_carrier c)
has_sample_rate c = (Decides-has_sample_rate (drill_carrier c)).0 refl

has_prescribed_size : (c : ℕ) → HasPrescribedSize (drill_carrier c)
has_prescribed_size c = record {
  some_pieces = omega arith;
  few_pieces = omega arith;
  no_empty_piece = all_one (λ (p : Piece). 1 ≤ p.size) _ (omega arith);
  prescribed = refl;
}

shares_no_bit : (c e : ℕ) → c < e → SharesNoBit (record { start = 120 * c; size = 120 }) (record { start = 120 * e; size = 120 })
shares_no_bit c e less = record { apart = λ x in_first in_second. absurd (omega (arith, in_first.1, in_second.0)) }

shares_no_piece : (c e : ℕ) → c < e → SharesNoPiece (drill_carrier c).pieces (drill_carrier e).pieces
shares_no_piece c e less = record { apart = all_one (λ a. All (SharesNoBit a) (drill_carrier e).pieces) _ (all_one (SharesNoBit _) _ (shares_no_bit c e less)) }

module _ (Y : ℕ) (some : 1 ≤ Y) (few : Y ≤ 16) where
  abbrev carriers : List Carrier
  carriers = map drill_carrier (range_with_len 0 Y)

  long : length carriers ≡ Y
  long = length-map-range_with_len drill_carrier 0 Y

  at_carrier : (P : Carrier → Type 0) (i : ℕ) → i < length carriers → P (drill_carrier i) → HoldsAt P carriers i
  at_carrier P i inside here d = subst P (sym (get_or-map-range_with_len drill_carrier 0 Y i i d (omega (arith, inside, long)) (omega arith))) here

  has_separate_bits : (i : ℕ) → i < length carriers → HasSeparateBits carriers i (drill_carrier i)
  has_separate_bits i inside = record {
    own = no_pairs SharesNoBit _;
    others = λ k d low less. at_carrier (λ (earlier : Carrier). SharesNoPiece earlier.pieces (drill_carrier i).pieces) k (omega arith) (shares_no_piece k i less) d;
  }

  lists_each : (c : ℕ) → c < length carriers → lists c (drill_flow Y) ≡ true
  lists_each c inside = any_in_range c 0 Y (omega arith) (omega (arith, inside, long))

  shares_out : SharesOutCarriers (drill_flow Y ∷ []) (length carriers)
  shares_out = record {
    small_ids = all_one (λ (f : Flow). f.id ≤ 255) _ (omega arith);
    distinct_ids = no_pairs (λ (f g : Flow). f.id ≢ g.id) (drill_flow Y);
    ascending = all_one (λ (f : Flow). IsStrictlyIncreasing f.carriers) (drill_flow Y) (range-ascending 0 Y);
    known = all_one (λ (f : Flow). All (λ c. c < length carriers) f.carriers) _ (All-range (λ c. c < length carriers) 0 Y (λ i low high. omega (arith, high, long)));
    one_flow = λ c inside.
        let one = cond-true {A = ℕ} (lists c (drill_flow Y)) 1 0 (lists_each c inside) in
        sum_by-cons (λ (f : Flow). cond (lists c f) 1 0) (drill_flow Y) [] ∙ omega (arith, one);
    one_control = refl;
  }

  abbrev plan_by : ℕ → Plan
  plan_by option = record { option = option; mode = Bytes; playout = 33; carriers = carriers; flows = drill_flow Y ∷ [] }

  has_payload : (option : ℕ) → word_size option ≡ Y → HasPayload (plan_by option) (drill_flow Y)
  has_payload option words = record {
    some_frames = omega arith;
    few_frames = omega arith;
    some_octets = omega (arith, words);
    few_octets = omega (arith, words);
  }

  is_good : (option : ℕ) → 1 ≤ option → option ≤ 7 → word_size option ≡ Y → IsGood (plan_by option)
  is_good option low high words LineOption i inside = (low, high)
  is_good option low high words Counts i inside = record { some_carriers = omega (arith, long); few_carriers = omega (arith, long); some_flows = omega arith; few_flows = omega arith }
  is_good option low high words WholeFrames i inside = record {
    one = refl;
    control = all_one (λ (f : Flow). IsTrue f.control) (drill_flow Y) refl;
    whole = all_one (λ (f : Flow). f.carriers ≡ range_with_len 0 (length carriers)) _ (ap (range_with_len 0) (sym long));
  }
  is_good option low high words SampleRate i inside = at_carrier HasSampleRate i inside (has_sample_rate i)
  is_good option low high words SampleWidth i inside = at_carrier HasSampleWidth i inside (omega arith, omega arith)
  is_good option low high words ContainerSize i inside = at_carrier HasPrescribedSize i inside (has_prescribed_size i)
  is_good option low high words ContainerEnd i inside =
      at_carrier (LiesWithin (120 * word_size option)) i inside (all_one (λ (p : Piece). p.start + p.size ≤ 120 * word_size option) _ (omega (arith, inside, long, words)))
  is_good option low high words SeparateBits i inside = at_carrier (HasSeparateBits carriers i) i inside (has_separate_bits i inside)
  is_good option low high words SharedOut i inside = shares_out
  is_good option low high words PayloadSize i inside = at_one (HasPayload (plan_by option)) (drill_flow Y) i inside (has_payload option words)
  is_good option low high words ArrivalWindow i inside = at_one HasWindow (drill_flow Y) i inside (omega arith, omega arith)
  is_good option low high words PlayedInTime i inside = at_one (IsPlayedInTime 33) (drill_flow Y) i inside (omega arith, omega arith)
  is_good option low high words SequenceNumbers i inside = at_one HasSequenceNumbers (drill_flow Y) i inside (record { some_p = omega arith; small_p = omega arith; some_q = omega arith; small_q = omega arith; enough = omega arith })
  is_good option low high words BufferRoom i inside = at_one (HasRoom 33) (drill_flow Y) i inside (record { some = omega arith; small = omega arith; enough = λ t n count. held_bound 4 10 33 t n (omega arith) count })

pub words_between : (option : ℕ) → 1 ≤ option → option ≤ 7 → (1 ≤ word_size option) × (word_size option ≤ 16)
words_between zero low high = absurd (omega arith)
words_between (suc zero) low high = (omega arith, omega arith)
words_between (suc (suc zero)) low high = (omega arith, omega arith)
words_between (suc (suc (suc zero))) low high = (omega arith, omega arith)
words_between (suc (suc (suc (suc zero)))) low high = (omega arith, omega arith)
words_between (suc (suc (suc (suc (suc zero))))) low high = (omega arith, omega arith)
words_between (suc (suc (suc (suc (suc (suc zero)))))) low high = (omega arith, omega arith)
words_between (suc (suc (suc (suc (suc (suc (suc zero))))))) low high = (omega arith, omega arith)
words_between (suc (suc (suc (suc (suc (suc (suc (suc option)))))))) low high = absurd (omega arith)

pub drill_plan-good : (option : ℕ) → 1 ≤ option → option ≤ 7 → IsGood (drill_plan option)
unfolding drill_plan
drill_plan-good option low high =
    let words = words_between option low high in
    is_good (word_size option) words.0 words.1 option low high refl

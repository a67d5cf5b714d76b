-- A session before its first tick.
use Rattle.std.proofs.Common.{◌≡◌, ◌≢◌, ℕ, zero, suc, ◌+◌, ◌-◌, ◌*◌, ◌%◌, ◌<◌, ◌≤◌, ◌^◌, min, true, List, [], length, get_or, Some, None, slice_get, refl, sym, ap, ◌∙◌, subst, arith}
use Rattle.std.specs.List.{range_with_len}
use Rattle.std.specs.Option.{is_some}
use Rattle.std.proofs.lemmas.Nat.{div-add-mod'}
use Rattle.std.proofs.Math.Nat.{min-eq_left}
use Rattle.carrier_plan.specs.declared.plan.Carrier.{Carrier}
use Rattle.carrier_plan.specs.declared.plan.Flow.{Flow}
use Rattle.carrier_plan.specs.declared.plan.Plan.{Plan}
use Rattle.link_base.specs.WordSize.{IsWordSize}
use Rattle.link_receiver_blocks.specs.View.{BlockView}
use Rattle.plan_checker.specs.Rules.{IsGood}
use Rattle.plan_checker.specs.Rules.Rule.{LineOption}
use Rattle.plan_checker.specs.Run.{delay_of, samples_before}
use Rattle.plan_checker.specs.WordSize.{word_size}
use Rattle.playout_buffer.specs.Laws.{HeldIsReceived}
use Rattle.playout_buffer.specs.Received as buffer
use Rattle.playout_buffer.specs.View.{PlayoutView}
use Rattle.playout_buffer.specs.declared.window.Window.{Window}
use Rattle.link_receiver.specs.Flows.{HaveBegun}
use Rattle.link_receiver.specs.Received.{taken}
use Rattle.link_receiver.specs.Records.{window_of}
use Rattle.link_receiver.specs.Sessions.{CarriersHaveBegun, IsBegunCarrier, IsSession, KeepsCarrier, SessionView, StandsFor}
use Rattle.link_receiver.specs.declared.carrier_in_hand.CarrierInHand.{CarrierInHand}
use Rattle.link_receiver.specs.declared.entry.Entry.{Entry}
use Rattle.link_receiver.specs.declared.flow_in_hand.FlowInHand.{FlowInHand}
use Rattle.link_receiver.proofs.Entries.{entries_of_kept-none}
use Rattle.link_receiver.proofs.Items.{none_counts}
use Rattle.link_receiver.proofs.Places.{good_carrier, samples_before-carrier}
use Rattle.link_receiver.proofs.Readiness.{quotient-le}
use Rattle.link_receiver.proofs.Steps.{none_in_hand}

-- ---- the word size of a line option is one of the seven

word_size-is : (option : ℕ) → 1 ≤ option → option ≤ 7 → IsWordSize (word_size option)
word_size-is zero low high = absurd (omega arith)
word_size-is (suc zero) low high = refl
word_size-is (suc (suc zero)) low high = refl
word_size-is (suc (suc (suc zero))) low high = refl
word_size-is (suc (suc (suc (suc zero)))) low high = refl
word_size-is (suc (suc (suc (suc (suc zero))))) low high = refl
word_size-is (suc (suc (suc (suc (suc (suc zero)))))) low high = refl
word_size-is (suc (suc (suc (suc (suc (suc (suc zero))))))) low high = refl
word_size-is (suc (suc (suc (suc (suc (suc (suc (suc option)))))))) low high = absurd (omega arith)

pub good_word_size : (p : Plan) → IsGood p → IsWordSize (word_size p.option)
good_word_size p good = let line = good LineOption 0 (omega arith) in word_size-is p.option line.0 line.1

word_size-small : (option : ℕ) → 1 ≤ option → option ≤ 7 → word_size option ≤ 16
word_size-small zero low high = absurd (omega arith)
word_size-small (suc zero) low high = omega arith
word_size-small (suc (suc zero)) low high = omega arith
word_size-small (suc (suc (suc zero))) low high = omega arith
word_size-small (suc (suc (suc (suc zero)))) low high = omega arith
word_size-small (suc (suc (suc (suc (suc zero))))) low high = omega arith
word_size-small (suc (suc (suc (suc (suc (suc zero)))))) low high = omega arith
word_size-small (suc (suc (suc (suc (suc (suc (suc zero))))))) low high = omega arith
word_size-small (suc (suc (suc (suc (suc (suc (suc (suc option)))))))) low high = absurd (omega arith)

pub few_octets : (p : Plan) (word : ℕ) → IsGood p → word ≡ word_size p.option → word * 1 < 2 ^ 63
few_octets p word good is =
    let line = good LineOption 0 (omega arith) in
    let small = word_size-small p.option line.0 line.1 in
    omega (arith, is, small)

-- ---- before the first tick

nothing_left : (p : Plan) (c h : ℕ) (carrier : Carrier) → IsGood p → slice_get p.carriers c ≡ Some carrier → 0 ≡ samples_before p c (min (0 - delay_of p c) h)
nothing_left p c h carrier good read =
    let is = good_carrier p c carrier good read in
    let none : 0 - delay_of p c ≡ 0 = omega arith in
    let least : min 0 h ≡ 0 = min-eq_left (omega arith) in
    let first = samples_before-carrier p c carrier 0 is in
    let less = quotient-le (0 * carrier.s) carrier.k is.some_frames in
    let begun : samples_before p c 0 ≡ 0 = omega (arith, first, less) in
    sym (ap (λ x. samples_before p c (min x h)) none ∙ ap (samples_before p c) least ∙ begun)

no_phase : (playout k : ℕ) → 0 ≡ (0 - playout) % k
no_phase playout k =
    let none : 0 - playout ≡ 0 = omega arith in
    let split = div-add-mod' 0 k in
    let zero_left : 0 % k ≡ 0 = omega (arith, split) in
    sym (ap (λ x. x % k) none ∙ zero_left)

keeps-begun : (p : Plan) (h c : ℕ) (carrier : Carrier) (kept : CarrierInHand) → IsGood p → slice_get p.carriers c ≡ Some carrier → IsBegunCarrier p c carrier kept → KeepsCarrier p h 0 c carrier kept
keeps-begun p h c carrier kept good read begun =
    let number = begun.number in
    let count = begun.count in
    let none : kept.number + kept.count ≡ 0 = omega arith in record {
      flow = begun.flow;
      at = begun.at;
      listed = begun.listed;
      block_frames = begun.block_frames;
      route = begun.route;
      mapping = ap (λ (b : BlockView). b.mapping) begun.block;
      room = begun.room;
      few = omega arith;
      next = none ∙ nothing_left p c h carrier good read;
      phase = ap (λ (b : BlockView). length b.containers) begun.block ∙ no_phase p.playout carrier.k;
    }

none_taken : (w : Window) → buffer.taken w [] ≡ 0
unfolding buffer.taken
none_taken w = none_counts (λ i. is_some (buffer.received w [] i)) (range_with_len 0 w.packets) (λ k d inside. refl)

none_taken-of : (p : Plan) (f : Flow) (h : ℕ) → taken p f h [] ≡ 0
unfolding taken
none_taken-of p f h = none_taken (window_of p f h)

module _ (p : Plan) (h : ℕ) (flows : List FlowInHand) (carriers : List CarrierInHand) (entries : List Entry) (good : IsGood p) (few : h ≤ 2 ^ 40) (flows_begun : HaveBegun p h flows)
    (carriers_begun : CarriersHaveBegun p carriers) where
  abbrev session : SessionView
  session = record { plan = p; frames = h; tick = 0; flows = flows; carriers = carriers; listed = true; entries = entries; control = None }

  pub session-begun : IsSession session
  session-begun = record {
    good = good;
    few = few;
    present = omega arith;
    flows = λ i f read d. let begun = flows_begun.each i f read d in record { window = ap (λ (v : PlayoutView). v.window) begun.playout; tick = ap (λ (v : PlayoutView). v.tick) begun.playout };
    as_many_flows = flows_begun.as_many;
    carriers = λ c carrier read d. keeps-begun p h c carrier (get_or carriers c d) good read (carriers_begun.each c carrier read d);
    as_many_carriers = carriers_begun.as_many;
  }

  pub stands-begun : HeldIsReceived → entries ≡ [] → StandsFor session []
  stands-begun law none = record {
    arrived = λ k d inside. absurd (omega arith);
    flows = λ i f read d.
        let begun = flows_begun.each i f read d in record {
          held = subst (λ (v : PlayoutView). buffer.HoldsReceived v []) (sym begun.playout) (law.at_first (window_of p f h));
          taken = begun.taken ∙ sym (none_taken-of p f h);
        };
    carriers = λ c carrier f read listed d.
        let begun = carriers_begun.each c carrier read d in record {
          containers = ap (λ (b : BlockView). b.containers) begun.block ∙ sym (none_in_hand p f h [] carrier (0 - p.playout) (omega arith));
          entries = entries_of_kept-none (0 - 1) c (get_or carriers c d) begun.count;
        };
    entries = λ listed. none;
    control = λ late. absurd (omega arith);
  }

-- ---- the word size that is none of the smaller ones

last_word : (option : ℕ) → 1 ≤ option → option ≤ 7 → word_size option ≢ 1 → word_size option ≢ 2 → word_size option ≢ 4 → word_size option ≢ 5 → word_size option ≢ 8 → word_size option ≢ 10
    → 16 ≡ word_size option
last_word zero low high one two four five eight ten = absurd (omega arith)
last_word (suc zero) low high one two four five eight ten = absurd (one refl)
last_word (suc (suc zero)) low high one two four five eight ten = absurd (two refl)
last_word (suc (suc (suc zero))) low high one two four five eight ten = absurd (four refl)
last_word (suc (suc (suc (suc zero)))) low high one two four five eight ten = absurd (five refl)
last_word (suc (suc (suc (suc (suc zero))))) low high one two four five eight ten = absurd (eight refl)
last_word (suc (suc (suc (suc (suc (suc zero)))))) low high one two four five eight ten = absurd (ten refl)
last_word (suc (suc (suc (suc (suc (suc (suc zero))))))) low high one two four five eight ten = refl
last_word (suc (suc (suc (suc (suc (suc (suc (suc option)))))))) low high one two four five eight ten = absurd (omega arith)

pub last_word_size : (p : Plan) (word : ℕ) → IsGood p → word ≡ word_size p.option → word ≢ 1 → word ≢ 2 → word ≢ 4 → word ≢ 5 → word ≢ 8 → word ≢ 10 → 16 ≡ word_size p.option
last_word_size p word good is one two four five eight ten =
    let line = good LineOption 0 (omega arith) in
    last_word p.option line.0 line.1 (λ e. one (is ∙ e)) (λ e. two (is ∙ e)) (λ e. four (is ∙ e)) (λ e. five (is ∙ e)) (λ e. eight (is ∙ e)) (λ e. ten (is ∙ e))

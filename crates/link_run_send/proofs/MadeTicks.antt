-- The text of some ticks, one tick after another.
use Rattle.std.proofs.Common.{inl, inr, ◌≡◌, ◌∙◌, ◌+◌, ◌-◌, ◌≤◌, ◌<◌, ◌++◌, [], ℕ, List, sym, ap, subst, refl, arith, append-nil}
use Rattle.std.specs.List.{flat_map, range_with_len}
use Rattle.std.proofs.lemmas.Bool.{cases_lt}
use Rattle.std.proofs.lemmas.List.Concat.{flat_map-append}
use Rattle.carrier_plan.specs.declared.plan.Plan.{Plan}
use Rattle.link_base.specs.Sink.{Taken}
use Rattle.link_sender.specs.Stream.{Stream}
use Rattle.link_text.specs.Gathered.{Gathers, BreaksOff}
use Rattle.link_text.proofs.GatheredLines.{range_split}
use Rattle.link_text.proofs.Gathering.{gathers_none, gathers_then}
use Rattle.link_run_send.specs.SentText.{text_between, tick_text}
use Rattle.link_run_send.specs.declared.run_output.Output.{Output}
use Rattle.link_run_send.proofs.GatheredItems.{breaks_in}

module _ (output : Output) (p : Plan) (h : ℕ) (σ : Stream) where
  pub between_none : (from to : ℕ) → to ≤ from → text_between output p h σ from to ≡ []
  unfolding text_between
  between_none from to past =
      let none : to - from ≡ 0 = omega arith in
      ap (λ n. flat_map (tick_text output p h σ) (range_with_len from n)) none

  -- the ticks as far as one in the middle, and those from there on
  pub between_split : (from mid to : ℕ) → from ≤ mid → mid ≤ to → text_between output p h σ from to ≡ text_between output p h σ from mid ++ text_between output p h σ mid to
  unfolding text_between
  between_split from mid to first second =
      let all : to - from ≡ (mid - from) + (to - mid) = omega arith in
      let there : from + (mid - from) ≡ mid = omega arith in
      ap (λ n. flat_map (tick_text output p h σ) (range_with_len from n)) all
      ∙ ap (flat_map (tick_text output p h σ)) (range_split from (mid - from) (to - mid) ∙ ap (λ b. range_with_len from (mid - from) ++ range_with_len b (to - mid)) there)
      ∙ flat_map-append (tick_text output p h σ) (range_with_len from (mid - from)) (range_with_len mid (to - mid))

  pub between_one : (tick next : ℕ) → next ≡ tick + 1 → text_between output p h σ tick next ≡ tick_text output p h σ tick
  unfolding text_between
  between_one tick next is =
      let one : next - tick ≡ 1 = omega arith in
      ap (λ n. flat_map (tick_text output p h σ) (range_with_len tick n)) one ∙ append-nil (tick_text output p h σ tick)

  -- no tick was made yet
  pub gathers_begun : (tick : ℕ) (hand : List ℕ) (sink : Taken) → Gathers (text_between output p h σ tick tick) hand sink hand sink
  gathers_begun tick hand sink =
      let past : tick ≤ tick = omega arith in
      subst (λ text. Gathers text hand sink hand sink) (sym (between_none tick tick past)) (gathers_none hand sink)

  -- the text of a tick more was gathered
  pub gathers_tick : (from tick next : ℕ) (hand hand1 hand2 : List ℕ) (old mid new : Taken) → from ≤ tick → next ≡ tick + 1
      → Gathers (text_between output p h σ from tick) hand old hand1 mid → Gathers (tick_text output p h σ tick) hand1 mid hand2 new
      → Gathers (text_between output p h σ from next) hand old hand2 new
  gathers_tick from tick next hand hand1 hand2 old mid new behind is first second =
      subst (λ text. Gathers text hand old hand2 new)
      (ap (λ text. text_between output p h σ from tick ++ text) (sym (between_one tick next is)) ∙ sym (between_split from tick next behind (omega arith)))
      (gathers_then _ _ hand hand1 hand2 old mid new first second)

  -- a write failed at a tick
  pub breaks_tick : (from tick to : ℕ) (hand hand1 : List ℕ) (old mid new : Taken) → from ≤ tick → tick < to
      → Gathers (text_between output p h σ from tick) hand old hand1 mid → BreaksOff (tick_text output p h σ tick) hand1 mid new
      → BreaksOff (text_between output p h σ from to) hand old new
  breaks_tick from tick to hand hand1 old mid new behind within first front =
      let this = tick_text output p h σ tick in
      let rest = text_between output p h σ (tick + 1) to in
      let split : text_between output p h σ tick to ≡ this ++ rest =
      between_split tick (tick + 1) to (omega arith) (omega arith) ∙ ap (λ text. text ++ rest) (between_one tick (tick + 1) refl) in
      subst (λ text. BreaksOff text hand old new)
      (ap (λ text. text_between output p h σ from tick ++ text) (sym split) ∙ sym (between_split from tick to behind (omega arith)))
      (breaks_in _ this rest hand hand1 old mid new first front)

  -- where the last tick was made
  pub gathers_to : (from now to : ℕ) (hand hand1 : List ℕ) (old new : Taken) → (from ≤ to → now ≡ to) → (to ≤ from → now ≡ from)
      → Gathers (text_between output p h σ from now) hand old hand1 new → Gathers (text_between output p h σ from to) hand old hand1 new
  gathers_to from now to hand hand1 old new ahead stays gathers = elim (cases_lt from to) [
    | inl below ↦ subst (λ n. Gathers (text_between output p h σ from n) hand old hand1 new) (ahead (omega arith)) gathers
    | inr beyond ↦
        let here : now ≤ from = omega (arith, stays beyond) in
        subst (λ text. Gathers text hand old hand1 new) (between_none from now here ∙ sym (between_none from to beyond)) gathers
  ]

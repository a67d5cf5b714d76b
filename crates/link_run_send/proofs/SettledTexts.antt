-- The text of ticks is the same of streams that agree on what is handed in before them.
use Rattle.std.proofs.Common.{◌≡◌, ℕ, zero, suc, ◌+◌, ◌-◌, ◌<◌, ◌≤◌, List, [], ◌∷◌, ◌++◌, refl, ap, ◌∙◌, arith, Bool, true, false}
use Rattle.std.specs.Prelude.{◌==◌, filter, if◌then◌else◌}
use Rattle.std.specs.List.{flat_map, range_with_len}
use Rattle.std.proofs.lemmas.Bool.{eqb-true}
use Rattle.std.proofs.lemmas.List.Concat.{flat_map-append}
use Rattle.hex.specs.Hex.{encode_lower}
use Rattle.carrier_plan.specs.declared.plan.Flow.{Flow}
use Rattle.carrier_plan.specs.declared.plan.Plan.{Plan}
use Rattle.link_base.specs.Window.{last_frame}
use Rattle.link_run_capture.specs.Written.{record_line}
use Rattle.link_sender.specs.Laws.{AgreesBefore}
use Rattle.link_sender.specs.Stream.{Stream}
use Rattle.link_sender.specs.Whole.{packet_of}
use Rattle.link_sender.proofs.WholeSettled.{line_octets_settled, packet_of_settled}
use Rattle.link_text.specs.Printed.{ended}
use Rattle.link_text.proofs.GatheredLines.{range_split}
use Rattle.plan_checker.specs.Packets.{run_packets}
use Rattle.plan_checker.specs.Rules.{IsGood}
use Rattle.link_run_send.specs.SentText.{flow_text, opening_at, packets_text, symbols_text, text_between, tick_text}
use Rattle.link_run_send.specs.declared.run_output.Output.{Output}
use Rattle.link_run_send.specs.declared.run_output.Output.TheVariants.{Packets, Symbols}

module _ {A : Type 0} (f g : ℕ → List A) (test : ℕ → Bool) (same : (i : ℕ) → test i ≡ true → f i ≡ g i) where
  one_more : (i : ℕ) (b : Bool) (xs : List ℕ) → test i ≡ b → flat_map f xs ≡ flat_map g xs → flat_map f (if b then i ∷ xs else xs) ≡ flat_map g (if b then i ∷ xs else xs)
  one_more i true xs is rest = ap (λ a. a ++ flat_map f xs) (same i is) ∙ ap (λ b. g i ++ b) rest
  one_more i false xs is rest = rest

  flat_map-filter : (xs : List ℕ) → flat_map f (filter test xs) ≡ flat_map g (filter test xs)
  flat_map-filter [] = refl
  flat_map-filter (i ∷ xs) = one_more i (test i) (filter test xs) refl (flat_map-filter xs)

flat_map-each : {X A : Type 0} (f g : X → List A) → ((x : X) → f x ≡ g x) → (xs : List X) → flat_map f xs ≡ flat_map g xs
flat_map-each f g same [] = refl
flat_map-each f g same (x ∷ xs) = ap (λ a. a ++ flat_map f xs) (same x) ∙ ap (λ b. g x ++ b) (flat_map-each f g same xs)

flat_map-range : {A : Type 0} (f g : ℕ → List A) (from n : ℕ) → ((i : ℕ) → i < from + n → f i ≡ g i) → flat_map f (range_with_len from n) ≡ flat_map g (range_with_len from n)
flat_map-range f g from zero same = refl
flat_map-range f g from (suc n) same =
    ap (λ a. a ++ flat_map f (range_with_len (from + 1) n)) (same from (omega arith))
    ∙ ap (λ b. g from ++ b) (flat_map-range f g (from + 1) n (λ i less. same i (omega (arith, less))))

module _ (p : Plan) (h : ℕ) (σ τ : Stream) (good : IsGood p) (t : ℕ) (agrees : AgreesBefore p t σ τ) where
  flow_same : (n : ℕ) → n ≤ t → (f : Flow) → flow_text p h τ n f ≡ flow_text p h σ n f
  unfolding flow_text opening_at
  flow_same n early f =
      flat_map-filter (λ i. record_line n (packet_of p τ f i)) (λ i. record_line n (packet_of p σ f i)) (λ i. last_frame f.frames i + f.lmin == n)
      (λ i opens. ap (record_line n) (packet_of_settled p σ τ good f i t (omega (arith, early, eqb-true (last_frame f.frames i + f.lmin) n opens)) agrees))
      (range_with_len 0 (run_packets p f h))

  packets_same : (n : ℕ) → n ≤ t → packets_text p h τ n ≡ packets_text p h σ n
  unfolding packets_text
  packets_same n early = flat_map-each (flow_text p h τ n) (flow_text p h σ n) (flow_same n early) p.flows

  symbols_same : (n : ℕ) → n ≤ t → symbols_text p τ n ≡ symbols_text p σ n
  unfolding symbols_text
  symbols_same n early = ap (λ octets. ended (encode_lower octets)) (line_octets_settled p σ τ good n t early agrees)

  tick_same : (output : Output) (n : ℕ) → n ≤ t → tick_text output p h τ n ≡ tick_text output p h σ n
  tick_same Packets n early = packets_same n early
  tick_same Symbols n early = symbols_same n early

  pub text_settled : (output : Output) (from to : ℕ) → from ≤ to → to ≤ t + 1 → text_between output p h τ from to ≡ text_between output p h σ from to
  unfolding text_between
  text_settled output from to grows early =
      flat_map-range (tick_text output p h τ) (tick_text output p h σ) from (to - from) (λ n less. tick_same output n (omega (arith, less, grows, early)))

-- ---- text of ticks in a row

module _ (output : Output) (p : Plan) (h : ℕ) (σ : Stream) where
  pub text_none : (from to : ℕ) → to ≤ from → text_between output p h σ from to ≡ []
  unfolding text_between
  text_none from to past =
      let none : to - from ≡ 0 = omega arith in
      ap (λ n. flat_map (tick_text output p h σ) (range_with_len from n)) none

  pub text_split : (from mid to : ℕ) → from ≤ mid → mid ≤ to → text_between output p h σ from to ≡ text_between output p h σ from mid ++ text_between output p h σ mid to
  unfolding text_between
  text_split from mid to first second =
      let all : to - from ≡ (mid - from) + (to - mid) = omega arith in
      let there : from + (mid - from) ≡ mid = omega arith in
      ap (λ n. flat_map (tick_text output p h σ) (range_with_len from n)) all
      ∙ ap (flat_map (tick_text output p h σ)) (range_split from (mid - from) (to - mid) ∙ ap (λ b. range_with_len from (mid - from) ++ range_with_len b (to - mid)) there)
      ∙ flat_map-append (tick_text output p h σ) (range_with_len from (mid - from)) (range_with_len mid (to - mid))

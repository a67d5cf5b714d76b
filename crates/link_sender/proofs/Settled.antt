-- Later samples change no frame that was made.
use Rattle.std.proofs.Common.{◌≡◌, ℕ, ◌+◌, ◌*◌, ◌/◌, ◌<◌, ◌≤◌, List, sym, refl, ap, ◌∙◌, arith}
use Rattle.std.proofs.lemmas.Nat.{div-add-mod', le-div, mod_below, mul-le}
use Rattle.carrier_plan.specs.declared.plan.Flow.{Flow}
use Rattle.carrier_plan.specs.declared.plan.Plan.{Plan}
use Rattle.control_words.specs.ControlWord.{word}
use Rattle.control_words.specs.declared.announce.Announce.{Announce}
use Rattle.plan_checker.specs.Rules.{IsGood}
use Rattle.plan_checker.specs.WordSize.{word_size}
use Rattle.sample_bits.specs.Samples.{sample_bit}
use Rattle.sample_bits.specs.declared.iq.RawIq.{RawIq}
use Rattle.link_sender.specs.Frames.{CarriesOne, StandsAt}
use Rattle.link_sender.specs.Laws.{AgreesBefore, FramesAreSettled, PacketsAreSettled}
use Rattle.link_sender.specs.Managed.{managed}
use Rattle.link_sender.specs.Packets.{CarriesFrame}
use Rattle.link_sender.specs.Stream.{Stream}
use Rattle.link_sender.proofs.GoodCarriers.{good_carrier}

-- ---- the channels

managed_other : (Y n : ℕ) (s t : List (List RawIq)) (a : Announce) (slow fast : List (List ℕ))
    → managed Y (record { samples = s; announcement = a; slow = slow; fast = fast }) n ≡ managed Y (record { samples = t; announcement = a; slow = slow; fast = fast }) n
unfolding managed
managed_other Y n s t a slow fast = refl

pub managed-same : (Y n : ℕ) (σ τ : Stream) → τ.announcement ≡ σ.announcement → τ.slow ≡ σ.slow → τ.fast ≡ σ.fast → managed Y τ n ≡ managed Y σ n
managed-same Y n σ τ announcement slow fast =
    let by : Announce → List (List ℕ) → List (List ℕ) → List ℕ = λ a s f. managed Y (record { samples = τ.samples; announcement = a; slow = s; fast = f }) n in
    ap (λ a. by a τ.slow τ.fast) announcement ∙ ap (λ s. by σ.announcement s τ.fast) slow ∙ ap (λ f. by σ.announcement σ.slow f) fast
    ∙ managed_other Y n τ.samples σ.samples σ.announcement σ.slow σ.fast

-- ---- the samples

-- a sample that stands in frame n is of a block before
block_before : (j s k phase n : ℕ) → 1 ≤ s → 1 ≤ k → (j / s + 1) * k + phase ≡ n → j < n / k * s
block_before j s k phase n some_samples some_frames frame =
    let blocks = le-div (j / s + 1) n k some_frames (omega arith) in
    let low = mod_below j s some_samples in
    let whole = div-add-mod' j s in
    let product = mul-le (j / s + 1) s (n / k) s blocks (omega arith) in
    omega (arith, product, whole)

pub stands_before : (p : Plan) (n x c j b : ℕ) → IsGood p → (stands : StandsAt p n x c j b) → j < n / stands.carrier.k * stands.carrier.s
stands_before p n x c j b good stands =
    let carrier = stands.carrier in
    let is = good_carrier p c carrier good stands.at in
    block_before j carrier.s carrier.k _ n is.rate.some_samples is.some_frames stands.frame

pub carries_still : (p : Plan) (σ τ : Stream) (n x : ℕ) → IsGood p → AgreesBefore p n σ τ → CarriesOne p σ n x → CarriesOne p τ n x
carries_still p σ τ n x good agrees one =
    let stands = one.stands in
    let early = stands_before p n x one.carrier one.number one.place good stands in
    record {
      carrier = one.carrier;
      number = one.number;
      place = one.place;
      stands = stands;
      one = ap (λ s. sample_bit s one.place) (agrees.samples one.carrier stands.carrier one.number stands.at early) ∙ one.one;
    }

pub back : (p : Plan) (σ τ : Stream) (n : ℕ) → AgreesBefore p n σ τ → AgreesBefore p n τ σ
back p σ τ n agrees = record {
  announcement = sym agrees.announcement;
  slow = sym agrees.slow;
  fast = sym agrees.fast;
  samples = λ c carrier j read less. sym (agrees.samples c carrier j read less);
}

pub FramesAreSettled-holds : FramesAreSettled
FramesAreSettled-holds p σ τ n octets good agrees is =
    let Y = word_size p.option in
    record {
      size = is.size;
      small = is.small;
      control =
          is.control ∙ ap (λ a. word Y n a (managed Y σ n)) (sym agrees.announcement)
          ∙ ap (word Y n τ.announcement) (sym (managed-same Y n σ τ agrees.announcement agrees.slow agrees.fast));
      bits = λ x within.
          let before = is.bits x within in (
            λ one. carries_still p σ τ n x good agrees (before.0 one),
            λ carries. before.1 (carries_still p τ σ n x good (back p σ τ n agrees) carries),
          );
    }

-- ---- packets

pub agrees_earlier : (p : Plan) (n m : ℕ) (σ τ : Stream) → IsGood p → m ≤ n → AgreesBefore p n σ τ → AgreesBefore p m σ τ
agrees_earlier p n m σ τ good less agrees = record {
  announcement = agrees.announcement;
  slow = agrees.slow;
  fast = agrees.fast;
  samples = λ c carrier j read early.
      let is = good_carrier p c carrier good read in
      let split = div-add-mod' m carrier.k in
      let grows = le-div (m / carrier.k) n carrier.k is.some_frames (omega (arith, split)) in
      let product = mul-le (m / carrier.k) carrier.s (n / carrier.k) carrier.s grows (omega arith) in
      agrees.samples c carrier j read (omega (arith, product));
}

pub carries_frame-still : (p : Plan) (σ τ : Stream) (f : Flow) (n t : ℕ) (octets : List ℕ) → IsGood p → n < t → AgreesBefore p t σ τ → CarriesFrame p σ f n octets → CarriesFrame p τ f n octets
carries_frame-still p σ τ f n t octets good less agrees carries = record {
  before = carries.before;
  count = carries.count;
  are_frames = λ i lt d. FramesAreSettled-holds p σ τ i _ good (agrees_earlier p t i σ τ good (omega arith) agrees) (carries.are_frames i lt d);
  frame = carries.frame;
  is_frame = FramesAreSettled-holds p σ τ n carries.frame good (agrees_earlier p t n σ τ good (omega arith) agrees) carries.is_frame;
  is_part = carries.is_part;
}

pub PacketsAreSettled-holds : PacketsAreSettled
PacketsAreSettled-holds p σ τ f i octets good agrees is = record {
  payload = is.payload;
  carries = record {
    size = is.carries.size;
    parts = λ k less. carries_frame-still p σ τ f (i * f.frames + k) ((i + 1) * f.frames) _ good (omega arith) agrees (is.carries.parts k less);
  };
  written = is.written;
}

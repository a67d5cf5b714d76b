-- Frames and packets of streams that agree on what was handed in before are the same.
use Rattle.std.proofs.Common.{◌≡◌, ℕ, zero, suc, ◌+◌, ◌*◌, ◌<◌, ◌≤◌, List, ◌∷◌, ◌++◌, map, flat_map, refl, ap, ◌∙◌, arith}
use Rattle.std.specs.Bool.{one_answer}
use Rattle.std.specs.List.{range_with_len}
use Rattle.carrier_plan.specs.declared.plan.Flow.{Flow}
use Rattle.carrier_plan.specs.declared.plan.Mode.{Mode}
use Rattle.carrier_plan.specs.declared.plan.Mode.TheVariants.{Aware, Bytes, Tunnel}
use Rattle.carrier_plan.specs.declared.plan.Plan.{Plan}
use Rattle.control_words.specs.ControlWord.{word}
use Rattle.hdlc_channel.specs.Bits.{octets_of}
use Rattle.line_code.specs.Line.{characters_from, disparity_after_all, frame_characters, symbols_of}
use Rattle.line_code.specs.declared.characters.Rd.TheVariants.{Minus}
use Rattle.plan_checker.specs.Rules.{IsGood}
use Rattle.plan_checker.specs.WordSize.{iq_bits, word_size}
use Rattle.roe_header.specs.Layout.{packet_octets}
use Rattle.link_sender.specs.Laws.{AgreesBefore}
use Rattle.link_sender.specs.Managed.{managed}
use Rattle.link_sender.specs.Packets.{packet_fields}
use Rattle.link_sender.specs.Stream.{Stream}
use Rattle.link_sender.specs.Whole.{aware_octets, disparity_before, frame_of, is_one, line_octets, packed_symbols, packet_of, part_by, part_of_frame, payload_of}
use Rattle.link_sender.proofs.CarriedOnes.{is_one-decides}
use Rattle.link_sender.proofs.Settled.{agrees_earlier, back, carries_still, managed-same}

-- ---- lists made from numbers

map-same : {X : Type 0} (g h : ℕ → X) (a n : ℕ) → ((k : ℕ) → k < a + n → g k ≡ h k) → map g (range_with_len a n) ≡ map h (range_with_len a n)
map-same g h a zero same = refl
map-same g h a (suc n) same = ap (λ x. x ∷ map g (range_with_len (a + 1) n)) (same a (omega arith)) ∙ ap (λ xs. h a ∷ xs) (map-same g h (a + 1) n (λ k lt. same k (omega arith)))

flat_map-same : (g h : ℕ → List ℕ) (a n : ℕ) → ((k : ℕ) → k < a + n → g k ≡ h k) → flat_map g (range_with_len a n) ≡ flat_map h (range_with_len a n)
flat_map-same g h a zero same = refl
flat_map-same g h a (suc n) same = ap (λ x. x ++ flat_map g (range_with_len (a + 1) n)) (same a (omega arith)) ∙ ap (λ xs. h a ++ xs) (flat_map-same g h (a + 1) n (λ k lt. same k (omega arith)))

-- ---- frames

module _ (p : Plan) (σ τ : Stream) (good : IsGood p) where
  is_one-settled : (n x : ℕ) → AgreesBefore p n σ τ → is_one p τ n x ≡ is_one p σ n x
  is_one-settled n x agrees =
      let first = is_one-decides p τ n x good in
      let second = is_one-decides p σ n x good in
      one_answer (is_one p τ n x) (is_one p σ n x) first
      (λ one. carries_still p σ τ n x good agrees (second.0 one), λ carries. second.1 (carries_still p τ σ n x good (back p σ τ n agrees) carries))

  frame_settled : (n : ℕ) → AgreesBefore p n σ τ → frame_of p τ n ≡ frame_of p σ n
  unfolding frame_of
  frame_settled n agrees =
      let y = word_size p.option in
      let bits = map (is_one p τ n) (range_with_len 0 (iq_bits p.option)) in
      ap (λ a. word y n a (managed y τ n) ++ octets_of bits) agrees.announcement
      ∙ ap (λ octets. word y n σ.announcement octets ++ octets_of bits) (managed-same y n σ τ agrees.announcement agrees.slow agrees.fast)
      ∙ ap (λ all. word y n σ.announcement (managed y σ n) ++ octets_of all) (map-same (is_one p τ n) (is_one p σ n) 0 (iq_bits p.option) (λ x lt. is_one-settled n x agrees))

  -- A frame is the same where the streams agree on all that is handed in before its tick, or more.
  pub frame_of_settled : (n t : ℕ) → n ≤ t → AgreesBefore p t σ τ → frame_of p τ n ≡ frame_of p σ n
  frame_of_settled n t le agrees = frame_settled n (agrees_earlier p t n σ τ good le agrees)

  pub disparity_settled : (n t : ℕ) → n ≤ t → AgreesBefore p t σ τ → disparity_before p τ n ≡ disparity_before p σ n
  disparity_settled n t le agrees =
      ap (λ frames. disparity_after_all Minus (characters_from 0 frames)) (map-same (frame_of p τ) (frame_of p σ) 0 n (λ i lt. frame_of_settled i t (omega arith) agrees))

  pub line_octets_settled : (n t : ℕ) → n ≤ t → AgreesBefore p t σ τ → line_octets p τ n ≡ line_octets p σ n
  unfolding line_octets
  line_octets_settled n t le agrees =
      ap (λ rd. packed_symbols (symbols_of rd (frame_characters n (frame_of p τ n)))) (disparity_settled n t le agrees)
      ∙ ap (λ frame. packed_symbols (symbols_of (disparity_before p σ n) (frame_characters n frame))) (frame_of_settled n t le agrees)

  -- ---- packets

  module _ (f : Flow) where
    part_by_settled : (mode : Mode) (n t : ℕ) → n ≤ t → AgreesBefore p t σ τ → part_by mode p τ f n ≡ part_by mode p σ f n
    part_by_settled Tunnel n t le agrees = line_octets_settled n t le agrees
    part_by_settled Bytes n t le agrees = frame_of_settled n t le agrees
    part_by_settled Aware n t le agrees = ap (aware_octets p f) (frame_of_settled n t le agrees)

    part_settled : (n t : ℕ) → n ≤ t → AgreesBefore p t σ τ → part_of_frame p τ f n ≡ part_of_frame p σ f n
    unfolding part_of_frame
    part_settled n t le agrees = part_by_settled p.mode n t le agrees

    payload_settled : (i t : ℕ) → i * f.frames + f.frames ≤ t + 1 → AgreesBefore p t σ τ → payload_of p τ f i ≡ payload_of p σ f i
    unfolding payload_of
    payload_settled i t le agrees =
        flat_map-same (λ k. part_of_frame p τ f (i * f.frames + k)) (λ k. part_of_frame p σ f (i * f.frames + k)) 0 f.frames
        (λ k lt. part_settled (i * f.frames + k) t (omega (arith, lt, le)) agrees)

    -- A packet is the same where they agree on all that is handed in before the tick of its last frame, or more.
    pub packet_of_settled : (i t : ℕ) → i * f.frames + f.frames ≤ t + 1 → AgreesBefore p t σ τ → packet_of p τ f i ≡ packet_of p σ f i
    unfolding packet_of
    packet_of_settled i t le agrees = ap (λ payload. packet_octets (packet_fields p f i payload)) (payload_settled i t le agrees)

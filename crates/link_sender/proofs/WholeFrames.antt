-- The octets of a frame are those of its control word and its bits.
use Rattle.std.proofs.Common.{◌≡◌, ℕ, ◌+◌, ◌*◌, ◌<◌, Bool, Decides, List, [], ◌++◌, length, drop, map, get_or, eqb, length-append, take-append-drop, sym, ap, ◌∙◌, arith}
use Rattle.std.specs.List.{HoldsAt, range_with_len}
use Rattle.std.proofs.lemmas.Bool.{eq-eqb, eqb-true}
use Rattle.std.proofs.lemmas.List.{length-drop}
use Rattle.std.proofs.lemmas.List.Elements.{All-drop}
use Rattle.std.proofs.lemmas.List.FromFn.{fill_by_all, get_or-map-range_with_len, length-map-range_with_len}
use Rattle.basic_frame.specs.Frames.{iq_bit}
use Rattle.carrier_plan.specs.declared.plan.Plan.{Plan}
use Rattle.control_words.specs.ControlWord.{word}
use Rattle.hdlc_channel.specs.Bits.{octets_of}
use Rattle.plan_checker.specs.Rules.{IsGood}
use Rattle.plan_checker.specs.WordSize.{iq_bits, word_size}
use Rattle.sample_bits.proofs.OctetLemmas.{bit_of-drop}
use Rattle.link_sender.specs.Frames.{CarriesOne, IsFrame}
use Rattle.link_sender.specs.Laws.{FramesAreDetermined}
use Rattle.link_sender.specs.Managed.{managed}
use Rattle.link_sender.specs.Stream.{Stream}
use Rattle.link_sender.specs.Whole.{frame_of, is_one}
use Rattle.link_sender.proofs.CarriedOnes.{is_one-by}
use Rattle.link_sender.proofs.OctetBits.{length-octets_of, octets_of-their_bits}

-- the IQ bits of a frame
abbrev bits : Plan → Stream → ℕ → List Bool
bits p σ n = map (is_one p σ n) (range_with_len 0 (iq_bits p.option))

length-bits : (p : Plan) (σ : Stream) (n : ℕ) → length (bits p σ n) ≡ iq_bits p.option
length-bits p σ n = length-map-range_with_len (is_one p σ n) 0 (iq_bits p.option)

module _ (p : Plan) (σ : Stream) (n : ℕ) (octets : List ℕ) (good : IsGood p) (is : IsFrame p σ n octets) where
  abbrev y : ℕ
  y = word_size p.option

  length-block : length (drop y octets) ≡ 15 * y
  length-block = omega (arith, length-drop y octets, is.size)

  tells_one : (x : ℕ) → x < iq_bits p.option → Decides (eqb (iq_bit y octets x) 1) (CarriesOne p σ n x)
  tells_one x within =
      let both = is.bits x within in
      (λ e. both.0 (eqb-true (iq_bit y octets x) 1 e), λ one. eq-eqb (iq_bit y octets x) 1 (both.1 one))

  block_is : drop y octets ≡ octets_of (bits p σ n)
  block_is =
      octets_of-their_bits (drop y octets) (bits p σ n) (All-drop (λ octet. octet < 256) y octets is.small) (omega (arith, length-bits p σ n, length-block))
      (λ x d lt.
      let within : x < iq_bits p.option = omega (arith, lt, length-bits p σ n) in
      let here : 0 + x ≡ x = omega arith in
      ap (λ bit. eqb bit 1) (bit_of-drop y octets x) ∙ is_one-by p σ n x (iq_bit y octets x) good (tells_one x within)
      ∙ sym (get_or-map-range_with_len (is_one p σ n) 0 (iq_bits p.option) x x d within here))

  frame_is : octets ≡ frame_of p σ n
  unfolding frame_of
  frame_is =
      sym (take-append-drop y octets) ∙ ap (λ first. first ++ drop y octets) is.control
      ∙ ap (λ block. word y n σ.announcement (managed y σ n) ++ block) block_is

pub FramesAreDetermined-holds : FramesAreDetermined
FramesAreDetermined-holds p σ n octets good is = frame_is p σ n octets good is

-- the frames below a frame
pub frames_are : (p : Plan) (σ : Stream) (n : ℕ) (frames : List (List ℕ)) → IsGood p → length frames ≡ n → ((i : ℕ) → i < n → HoldsAt (IsFrame p σ i) frames i)
    → frames ≡ map (frame_of p σ) (range_with_len 0 n)
frames_are p σ n frames good count are = fill_by_all (frame_of p σ) frames n [] count (λ i lt. frame_is p σ i (get_or frames i []) good (are i lt []))

pub length-frame_of : (p : Plan) (σ : Stream) (n : ℕ) → length (frame_of p σ n) ≡ 16 * word_size p.option
unfolding frame_of
length-frame_of p σ n =
    let y : ℕ = word_size p.option in
    let first = word y n σ.announcement (managed y σ n) in
    let block = octets_of (bits p σ n) in
    let both : length (first ++ block) ≡ length first + length block = length-append first block in
    let word_length : length first ≡ y = length-map-range_with_len _ 0 y in
    let block_length = length-octets_of (bits p σ n) in
    omega (arith, both, word_length, block_length, length-bits p σ n)

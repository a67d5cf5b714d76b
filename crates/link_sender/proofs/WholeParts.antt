-- The octets that carry a frame in a packet are determined.
use Rattle.std.proofs.Common.{◌≡◌, ℕ, ◌+◌, ◌-◌, ◌*◌, ◌/◌, ◌<◌, ◌≤◌, ◌==◌, suc, Bool, false, List, [], ◌∷◌, ◌++◌, length, take, drop, get_or, flat_map, All, eqb, length-append, take-append-drop, refl, sym, ap, ◌∙◌, subst, arith, inl, inr}
use Rattle.std.specs.Int.{div_ceil}
use Rattle.std.proofs.lemmas.Bool.{cases_lt, cond_both}
use Rattle.std.proofs.lemmas.List.{get_or-append_right, get_or-map, get_or-replicate, get_or_append_left, length-drop, length-map, length-replicate, length-take-le}
use Rattle.std.proofs.lemmas.List.Elements.{All-drop}
use Rattle.basic_frame.specs.Frames.{iq_bit}
use Rattle.carrier_plan.specs.declared.plan.Flow.{Flow}
use Rattle.carrier_plan.specs.declared.plan.Mode.{Mode}
use Rattle.carrier_plan.specs.declared.plan.Mode.TheVariants.{Aware, Bytes, Tunnel}
use Rattle.carrier_plan.specs.declared.plan.Plan.{Plan}
use Rattle.hdlc_channel.specs.Bits.{low_bits, octets_of}
use Rattle.line_code.proofs.LineLaws.{length-symbols_of}
use Rattle.line_code.specs.Line.{characters_from, disparity_after_all, frame_characters, symbols_of}
use Rattle.line_code.specs.declared.characters.Char.TheVariants.{Octet}
use Rattle.line_code.specs.declared.characters.Rd.TheVariants.{Minus}
use Rattle.link_base.specs.Bits.{bit_of}
use Rattle.plan_checker.specs.Flows.{bits_of_carriers, control_octets, octets_by, octets_of_frame}
use Rattle.plan_checker.specs.Rules.{IsGood}
use Rattle.plan_checker.specs.WordSize.{word_size}
use Rattle.roe_mappers.proofs.AwareParts.{octets_hold_bits}
use Rattle.roe_mappers.proofs.Carried.{length-carried}
use Rattle.roe_mappers.specs.CarriedBits.{carried_bits}
use Rattle.roe_mappers.specs.Parts.{Carries, IsAwarePart}
use Rattle.sample_bits.proofs.OctetLemmas.{bit_of-drop}
use Rattle.link_sender.specs.Packets.{CarriesFrame}
use Rattle.link_sender.specs.Stream.{Stream}
use Rattle.link_sender.specs.Whole.{aware_octets, carried_of, disparity_before, frame_of, line_octets, part_by, part_of_frame, zeros_after}
use Rattle.link_sender.proofs.OctetBits.{length-octets_of, length-symbol_bits, octets_of-their_bits, octets_of-their_symbols}
use Rattle.link_sender.proofs.WholeFrames.{FramesAreDetermined-holds, frames_are, length-frame_of}

-- ---- in mode `aware`

length-carried_of : (p : Plan) (f : Flow) (frame : List ℕ) → length (carried_of p f frame) ≡ length (carried_bits p f)
length-carried_of p f frame = length-map (carried_bits p f) (λ x. iq_bit (word_size p.option) frame x == 1)

-- the bits to the end of the last octet
length-aware_bits : (p : Plan) (f : Flow) (frame : List ℕ) → length (carried_of p f frame ++ zeros_after (length (carried_bits p f))) ≡ 8 * div_ceil (length (carried_bits p f)) 8
length-aware_bits p f frame =
    let count : ℕ = length (carried_bits p f) in
    let room = octets_hold_bits count in
    let zeros = length-replicate {A = Bool} (8 * div_ceil count 8 - count) false in
    length-append (carried_of p f frame) (zeros_after count) ∙ omega (arith, length-carried_of p f frame, zeros, room)

module _ (p : Plan) (f : Flow) (frame part : List ℕ) (size : length part ≡ octets_by Aware p f) (small : All (λ octet. octet < 256) part) (is : IsAwarePart p f frame part) where
  abbrev c : ℕ
  c = control_octets p f

  abbrev count : ℕ
  count = length (carried_bits p f)

  abbrev zeros : ℕ
  zeros = 8 * div_ceil count 8 - count

  rest_size : length (drop c part) ≡ div_ceil count 8
  rest_size =
      let counted : div_ceil (bits_of_carriers p f.carriers) 8 ≡ div_ceil count 8 = ap (λ n. div_ceil n 8) (sym (length-carried p f.carriers)) in
      length-drop c part ∙ ap (λ n. n - c) (size ∙ ap (λ n. c + n) counted) ∙ omega arith

  bit_is : (i : ℕ) (d : Bool) → i < 8 * div_ceil count 8 → eqb (bit_of (drop c part) i) 1 ≡ get_or (carried_of p f frame ++ zeros_after count) i d
  bit_is i d lt = elim (cases_lt i count) [
    | inl carried ↦
        ap (λ bit. eqb bit 1) (bit_of-drop c part i ∙ is.bits i carried)
        ∙ sym (get_or_append_left (carried_of p f frame) (zeros_after count) d i (omega (arith, carried, length-carried_of p f frame)) ∙ get_or-map (λ x. iq_bit (word_size p.option) frame x == 1) (carried_bits p f) i 0 d carried)
    | inr past ↦
        ap (λ bit. eqb bit 1) (bit_of-drop c part i ∙ is.padding (8 * c + i) (omega (arith, past)))
        ∙ sym (get_or-append_right (carried_of p f frame) (zeros_after count) count i d (length-carried_of p f frame) past ∙ get_or-replicate zeros (i - count) false d (omega (arith, lt, past)))
  ]

  rest_is : drop c part ≡ octets_of (carried_of p f frame ++ zeros_after count)
  rest_is =
      let long = length-aware_bits p f frame in
      octets_of-their_bits (drop c part) (carried_of p f frame ++ zeros_after count) (All-drop (λ octet. octet < 256) c part small) (omega (arith, long, rest_size))
      (λ i d lt. bit_is i d (omega (arith, lt, long)))

  aware_is : part ≡ aware_octets p f frame
  aware_is = sym (take-append-drop c part) ∙ ap (λ first. first ++ drop c part) is.control ∙ ap (λ rest. take c frame ++ rest) rest_is

-- ---- in each mode

carried_by : (mode : Mode) (p : Plan) (σ : Stream) (f : Flow) (n : ℕ) (part : List ℕ) → length part ≡ octets_by mode p f → All (λ octet. octet < 256) part
    → Carries mode p f n (disparity_before p σ n) (frame_of p σ n) part → part ≡ part_by mode p σ f n
unfolding line_octets
carried_by Tunnel p σ f n part size small carries = octets_of-their_symbols part small (omega (arith, size)) ∙ ap (λ symbols. octets_of (flat_map (low_bits 10) symbols)) carries
carried_by Bytes p σ f n part size small carries = carries
carried_by Aware p σ f n part size small carries = aware_is p f (frame_of p σ n) part size small carries

pub part_is : (p : Plan) (σ : Stream) (f : Flow) (n : ℕ) (octets : List ℕ) → IsGood p → CarriesFrame p σ f n octets → octets ≡ part_of_frame p σ f n
unfolding part_of_frame
part_is p σ f n octets good is =
    let frame = FramesAreDetermined-holds p σ n is.frame good is.is_frame in
    let before = frames_are p σ n is.before good is.count is.are_frames in
    let carries : Carries p.mode p f n (disparity_before p σ n) (frame_of p σ n) octets =
    subst (λ x. Carries p.mode p f n (disparity_before p σ n) x octets) frame
    (subst (λ frames. Carries p.mode p f n (disparity_after_all Minus (characters_from 0 frames)) is.frame octets) before is.is_part.carries) in
    carried_by p.mode p σ f n octets is.is_part.size is.is_part.small carries

-- ---- how many octets

length-frame_characters : (n : ℕ) (frame : List ℕ) → length (frame_characters n frame) ≡ length frame
length-frame_characters n [] = refl
length-frame_characters n (x ∷ frame) = ap suc (length-map frame Octet)

pub length-line_octets : (p : Plan) (σ : Stream) (n : ℕ) → length (line_octets p σ n) ≡ 20 * word_size p.option
unfolding line_octets
length-line_octets p σ n =
    let chars = frame_characters n (frame_of p σ n) in
    let symbols = symbols_of (disparity_before p σ n) chars in
    let made = length-octets_of (flat_map (low_bits 10) symbols) in
    omega (arith, made, length-symbol_bits symbols, length-symbols_of (disparity_before p σ n) chars, length-frame_characters n (frame_of p σ n), length-frame_of p σ n)

length-aware_octets : (p : Plan) (f : Flow) (frame : List ℕ) → length frame ≡ 16 * word_size p.option → length (aware_octets p f frame) ≡ octets_by Aware p f
length-aware_octets p f frame size =
    let c : ℕ = control_octets p f in
    let count : ℕ = length (carried_bits p f) in
    let rest = octets_of (carried_of p f frame ++ zeros_after count) in
    let few : c ≤ length frame = cond_both f.control (word_size p.option) 0 (λ k. k ≤ length frame) (λ _. omega (arith, size)) (λ _. omega arith) in
    let counted : div_ceil count 8 ≡ div_ceil (bits_of_carriers p f.carriers) 8 = ap (λ n. div_ceil n 8) (length-carried p f.carriers) in
    let rest_length : length rest ≡ div_ceil count 8 = length-octets_of (carried_of p f frame ++ zeros_after count) ∙ ap (λ n. n / 8) (length-aware_bits p f frame) ∙ omega arith in
    length-append (take c frame) rest ∙ ap (λ n. n + length rest) (length-take-le c frame few) ∙ ap (λ n. c + n) (rest_length ∙ counted)

length-part_by : (mode : Mode) (p : Plan) (σ : Stream) (f : Flow) (n : ℕ) → length (part_by mode p σ f n) ≡ octets_by mode p f
length-part_by Tunnel p σ f n = length-line_octets p σ n
length-part_by Bytes p σ f n = length-frame_of p σ n
length-part_by Aware p σ f n = length-aware_octets p f (frame_of p σ n) (length-frame_of p σ n)

pub length-part_of_frame : (p : Plan) (σ : Stream) (f : Flow) (n : ℕ) → length (part_of_frame p σ f n) ≡ octets_of_frame p f
unfolding part_of_frame
length-part_of_frame p σ f n = length-part_by p.mode p σ f n

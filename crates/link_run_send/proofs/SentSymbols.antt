-- The symbols of a frame on the line, and the disparity after it.
use Rattle.std.proofs.Common.{◌≡◌, ◌∙◌, ◌+◌, ◌%◌, ◌<◌, ◌++◌, ◌∷◌, [], Fits, w8, ℕ, List, length, map, get_or, sym, ap, subst, arith}
use Rattle.std.proofs.lemmas.List.{get_or_default, map-append}
use Rattle.std.specs.List.{range_with_len}
use Rattle.std.proofs.lemmas.List.FromFn.{length-map-range_with_len}
use Rattle.carrier_plan.specs.declared.plan.Plan.{Plan}
use Rattle.hex.specs.Hex.{encode_lower}
use Rattle.line_code.proofs.LineLaws.{disparity_after_all-append}
use Rattle.line_code.specs.Line.{characters_from, disparity_after_all, frame_characters, symbols_of}
use Rattle.line_code.specs.Packed.{symbols_in}
use Rattle.line_code.specs.declared.characters.Rd.{Rd}
use Rattle.line_code.specs.declared.characters.Rd.TheVariants.{Minus}
use Rattle.link_sender.proofs.FrameLists.{characters_more}
use Rattle.link_sender.proofs.OctetBits.{octets_of-their_symbols}
use Rattle.link_sender.proofs.WholeFrames.{FramesAreDetermined-holds}
use Rattle.link_sender.specs.Frames.{IsFrame}
use Rattle.link_sender.specs.Stream.{Stream}
use Rattle.link_sender.specs.Whole.{disparity_before, frame_of, line_octets, packed_symbols}
use Rattle.link_text.proofs.GatheredLines.{range_split}
use Rattle.link_text.specs.Printed.{ended}
use Rattle.plan_checker.specs.Rules.{IsGood}
use Rattle.link_run_send.specs.SentText.{symbols_text}

-- octets are those that have their symbols
pub packed_are : (octets : List ℕ) → ((k : ℕ) → Fits w8 (get_or octets k 0)) → length octets % 5 ≡ 0 → octets ≡ packed_symbols (symbols_in octets)
packed_are octets fits whole = octets_of-their_symbols octets (λ k d below. subst (λ x. x < 256) (get_or_default octets k 0 d below) (fits k).fits) whole

module _ (p : Plan) (σ : Stream) (n : ℕ) where
  disparity_more : disparity_before p σ (n + 1) ≡ disparity_after_all (disparity_before p σ n) (frame_characters n (frame_of p σ n))
  disparity_more =
      let frames = map (frame_of p σ) (range_with_len 0 n) in
      let this = frame_of p σ n in
      let here : 0 + n ≡ n = omega arith in
      let all : map (frame_of p σ) (range_with_len 0 (n + 1)) ≡ frames ++ this ∷ [] =
      ap (map (frame_of p σ)) (range_split 0 n 1 ∙ ap (λ k. range_with_len 0 n ++ k ∷ []) here) ∙ map-append (frame_of p σ) (range_with_len 0 n) (n ∷ []) in
      let count : 0 + length frames ≡ n = omega (arith, length-map-range_with_len (frame_of p σ) 0 n) in
      ap (λ made. disparity_after_all Minus (characters_from 0 made)) all
      ∙ ap (disparity_after_all Minus) (characters_more 0 frames this ∙ ap (λ k. characters_from 0 frames ++ frame_characters k this) count)
      ∙ disparity_after_all-append Minus (characters_from 0 frames) (frame_characters n this)

  -- the frame that was made, spelled from the disparity before it
  module _ (rd : Rd) (frame : List ℕ) (good : IsGood p) (is : IsFrame p σ n frame) (before : rd ≡ disparity_before p σ n) where
    pub symbols_are : ended (encode_lower (packed_symbols (symbols_of rd (frame_characters n frame)))) ≡ symbols_text p σ n
    unfolding symbols_text line_octets
    symbols_are =
        ap (λ d. ended (encode_lower (packed_symbols (symbols_of d (frame_characters n frame))))) before
        ∙ ap (λ octets. ended (encode_lower (packed_symbols (symbols_of (disparity_before p σ n) (frame_characters n octets))))) (FramesAreDetermined-holds p σ n frame good is)

    pub disparity_next : disparity_after_all rd (frame_characters n frame) ≡ disparity_before p σ (n + 1)
    disparity_next =
        ap (λ d. disparity_after_all d (frame_characters n frame)) before
        ∙ ap (λ octets. disparity_after_all (disparity_before p σ n) (frame_characters n octets)) (FramesAreDetermined-holds p σ n frame good is) ∙ sym disparity_more

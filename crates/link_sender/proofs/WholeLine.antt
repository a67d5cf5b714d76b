-- The octets of frames on the line, one frame after another.
use Rattle.std.proofs.Common.{◌≡◌, ℕ, ◌+◌, ◌%◌, ◌<◌, List, ◌++◌, length, map, flat_map, All, refl, ap, ◌∙◌, arith}
use Rattle.std.specs.List.{range_with_len}
use Rattle.std.proofs.lemmas.List.FromFn.{length-map-range_with_len, map-range_with_len_more}
use Rattle.carrier_plan.specs.declared.plan.Plan.{Plan}
use Rattle.hdlc_channel.specs.Bits.{low_bits, octets_of}
use Rattle.line_code.proofs.LineLaws.{disparity_after_all-append}
use Rattle.line_code.specs.Line.{characters_from, disparity_after_all, frame_characters, symbols_of}
use Rattle.line_code.specs.Packed.{symbols_in}
use Rattle.line_code.specs.declared.characters.Rd.TheVariants.{Minus}
use Rattle.link_sender.specs.Stream.{Stream}
use Rattle.link_sender.specs.Whole.{disparity_before, frame_of, line_octets}
use Rattle.link_sender.proofs.FrameLists.{characters_more}
use Rattle.link_sender.proofs.OctetBits.{octets_of-their_symbols}

-- Octets that have the symbols of a frame are those of the frame on the line.
pub line_is : (p : Plan) (σ : Stream) (n : ℕ) (octets : List ℕ) → length octets % 5 ≡ 0 → All (λ octet. octet < 256) octets
    → symbols_in octets ≡ symbols_of (disparity_before p σ n) (frame_characters n (frame_of p σ n)) → octets ≡ line_octets p σ n
unfolding line_octets
line_is p σ n octets whole small has = octets_of-their_symbols octets small whole ∙ ap (λ symbols. octets_of (flat_map (low_bits 10) symbols)) has

pub disparity_before-first : (p : Plan) (σ : Stream) → disparity_before p σ 0 ≡ Minus
disparity_before-first p σ = refl

-- The disparity goes on from frame to frame.
pub disparity_before-next : (p : Plan) (σ : Stream) (n : ℕ) → disparity_before p σ (n + 1) ≡ disparity_after_all (disparity_before p σ n) (frame_characters n (frame_of p σ n))
disparity_before-next p σ n =
    let frame : ℕ → List ℕ = frame_of p σ in
    let before = map frame (range_with_len 0 n) in
    let count : 0 + length before ≡ n = omega (arith, length-map-range_with_len frame 0 n) in
    let here : 0 + n ≡ n = omega arith in
    let characters : characters_from 0 (map frame (range_with_len 0 (n + 1))) ≡ characters_from 0 before ++ frame_characters n (frame n) =
    ap (characters_from 0) (map-range_with_len_more frame 0 n n here) ∙ characters_more 0 before (frame n)
    ∙ ap (λ k. characters_from 0 before ++ frame_characters k (frame n)) count in
    ap (disparity_after_all Minus) characters ∙ disparity_after_all-append Minus (characters_from 0 before) (frame_characters n (frame n))

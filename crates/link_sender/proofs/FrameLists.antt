-- The frames that were made, and the disparity after them.
use Rattle.std.proofs.Common.{◌≡◌, ℕ, suc, ◌+◌, List, [], ◌∷◌, ◌++◌, length, length-append, get_or, append_assoc, refl, sym, ap, ◌∙◌, subst, arith, inl, inr}
use Rattle.std.proofs.Math.Seq.{get_or-append_seam}
use Rattle.std.proofs.lemmas.Bool.{cases_lt}
use Rattle.std.proofs.lemmas.List.{append-nil, get_or_append_left}
use Rattle.carrier_plan.specs.declared.plan.Flow.{Flow}
use Rattle.carrier_plan.specs.declared.plan.Mode.{Mode}
use Rattle.carrier_plan.specs.declared.plan.Mode.TheVariants.{Aware, Bytes, Tunnel}
use Rattle.carrier_plan.specs.declared.plan.Plan.{Plan}
use Rattle.line_code.specs.Line.{characters_from, disparity_after_all, frame_characters}
use Rattle.line_code.specs.declared.characters.Rd.{Rd}
use Rattle.line_code.specs.declared.characters.Rd.TheVariants.{Minus}
use Rattle.line_code.proofs.LineLaws.{disparity_after_all-append}
use Rattle.roe_mappers.specs.Parts.{Carries, IsPart, disparity_after_frame}
use Rattle.link_sender.specs.Frames.{IsFrame}
use Rattle.link_sender.specs.Packets.{CarriesFrame}
use Rattle.link_sender.specs.Senders.{StandsForFrames}
use Rattle.link_sender.specs.Stream.{Stream}

pub characters_more : (n : ℕ) (frames : List (List ℕ)) (frame : List ℕ) → characters_from n (frames ++ frame ∷ []) ≡ characters_from n frames ++ frame_characters (n + length frames) frame
characters_more n [] frame = let e : n ≡ n + 0 = omega arith in append-nil (frame_characters n frame) ∙ ap (λ k. frame_characters k frame) e
characters_more n (first ∷ frames) frame =
    let e : n + 1 + length frames ≡ n + suc (length frames) = omega arith in
    ap (λ rest. frame_characters n first ++ rest) (characters_more (n + 1) frames frame) ∙ sym (append_assoc (frame_characters n first) (characters_from (n + 1) frames) (frame_characters (n + 1 + length frames) frame))
    ∙ ap (λ k. (frame_characters n first ++ characters_from (n + 1) frames) ++ frame_characters k frame) e

disparity_by : (mode : Mode) (n : ℕ) (rd : Rd) (frame : List ℕ) → mode ≡ Tunnel → disparity_after_frame mode n rd frame ≡ disparity_after_all rd (frame_characters n frame)
disparity_by mode n rd frame is = ap (λ m. disparity_after_frame m n rd frame) is

-- the disparity counts in mode `tunnel` alone
carries_by : (mode : Mode) (p : Plan) (f : Flow) (n : ℕ) (rd other : Rd) (frame part : List ℕ) → (mode ≡ Tunnel → rd ≡ other) → Carries mode p f n rd frame part → Carries mode p f n other frame part
carries_by Tunnel p f n rd other frame part same carries = subst (λ r. Carries Tunnel p f n r frame part) (same refl) carries
carries_by Bytes p f n rd other frame part same carries = carries
carries_by Aware p f n rd other frame part same carries = carries

module _ (p : Plan) (σ : Stream) (t : ℕ) (last octets : List ℕ) (rd : Rd) (stands : StandsForFrames p σ t last rd) (is : IsFrame p σ t octets) where
  pub frames_more : (after : Rd) → after ≡ disparity_after_frame p.mode t rd octets → StandsForFrames p σ (t + 1) octets after
  frames_more after disparity = record {
    made = stands.made ++ octets ∷ [];
    count = length-append stands.made (octets ∷ []) ∙ omega (arith, stands.count);
    are_frames = λ n less d. elim (cases_lt n t) [
      | inl before ↦ subst (IsFrame p σ n) (sym (get_or_append_left stands.made (octets ∷ []) d n (omega (arith, stands.count)))) (stands.are_frames n before d)
      | inr here ↦
          let same : n ≡ t = omega arith in
          let end : n ≡ length stands.made = omega (arith, stands.count) in
          subst (IsFrame p σ n) (sym (ap (λ k. get_or (stands.made ++ octets ∷ []) k d) end ∙ get_or-append_seam stands.made octets [] d)) (subst (λ k. IsFrame p σ k octets) (sym same) is)
    ];
    disparity = λ tunnel.
        let here : 0 + length stands.made ≡ t = omega (arith, stands.count) in
        let characters : characters_from 0 (stands.made ++ octets ∷ []) ≡ characters_from 0 stands.made ++ frame_characters t octets = characters_more 0 stands.made octets ∙ ap (λ k. characters_from 0 stands.made ++ frame_characters k octets) here in
        disparity ∙ disparity_by p.mode t rd octets tunnel ∙ ap (λ r. disparity_after_all r (frame_characters t octets)) (stands.disparity tunnel)
        ∙ sym (disparity_after_all-append Minus (characters_from 0 stands.made) (frame_characters t octets)) ∙ ap (disparity_after_all Minus) (sym characters);
    none = λ e. absurd (omega arith);
    last = λ n next. let same : n ≡ t = omega arith in subst (λ k. IsFrame p σ k octets) (sym same) is;
  }

  pub carries_part : (f : Flow) (part : List ℕ) → IsPart p f t rd octets part → CarriesFrame p σ f t part
  carries_part f part here = record {
    before = stands.made;
    count = stands.count;
    are_frames = stands.are_frames;
    frame = octets;
    is_frame = is;
    is_part = record {
      size = here.size;
      small = here.small;
      carries = carries_by p.mode p f t rd (disparity_after_all Minus (characters_from 0 stands.made)) octets part stands.disparity here.carries;
    };
  }

-- Lines that follow change nothing of the text of the ticks that are settled before them.
use Rattle.std.proofs.Common.{◌≡◌, ℕ, ◌≤◌, List, [], ◌∷◌, ◌++◌, All, Bool, true, false, Option, None, refl, sym, ap, ◌∙◌, subst, inl, inr, arith, append-nil}
use Rattle.std.specs.Prelude.{◌||◌, ◌⊎◌, if◌then◌else◌}
use Rattle.std.specs.List.{cons_option, filter_map}
use Rattle.std.proofs.lemmas.List.Elements.{All-cons, All-head, All-tail, filter_map-append}
use Rattle.carrier_plan.specs.declared.plan.Plan.{Plan}
use Rattle.link_run_capture.specs.declared.header.Header.{Header}
use Rattle.link_run_capture.specs.declared.header.Version.{Version}
use Rattle.link_run_capture.specs.declared.header.Version.TheVariants.{One, Two}
use Rattle.link_sender.specs.Stream.{Stream}
use Rattle.plan_checker.specs.Rules.{IsGood}
use Rattle.link_run_send.specs.Lacking.{complete_ticks}
use Rattle.link_run_send.specs.SampleFile.{AreLines, IsFrameLine, IsSampleLine, fast_frame, slow_frame, stream_of}
use Rattle.link_run_send.specs.SampleLine.{sample_of}
use Rattle.link_run_send.specs.Sent.{has_samples}
use Rattle.link_run_send.specs.SentText.{text_between}
use Rattle.link_run_send.specs.WholeText.{TextIsSettled, settled_ticks}
use Rattle.link_run_send.specs.declared.run_output.Output.{Output}
use Rattle.link_run_send.proofs.CompleteTicks.{has_enough}
use Rattle.link_run_send.proofs.FrameLines.{fast_is_no_sample, sample_is_not_fast, sample_is_not_slow, slow_is_no_sample}
use Rattle.link_run_send.proofs.HandedStreams.{IsLonger, agrees_longer}
use Rattle.link_run_send.proofs.SampleStreams.{added, announced, fast_of, samples-longer, samples_none, slow_of}
use Rattle.link_run_send.proofs.SettledTexts.{text_none, text_settled}

-- ---- lines of one kind

-- a function that gives nothing of any of these lines
gives_nothing : {X Y : Type 0} (f : X → Option Y) (P : X → Type 0) → ((x : X) → P x → f x ≡ None) → (xs : List X) → All P xs → filter_map f xs ≡ []
gives_nothing f P none [] all = refl
gives_nothing f P none (x ∷ xs) all = ap (λ o. cons_option o (filter_map f xs)) (none x (All-head P x xs all)) ∙ gives_nothing f P none xs (All-tail P x xs all)

pub samples_give_no_slow : (lines : List (List ℕ)) → All IsSampleLine lines → filter_map slow_frame lines ≡ []
samples_give_no_slow lines all = gives_nothing slow_frame IsSampleLine (λ line (v, is). sample_is_not_slow line v is) lines all

pub samples_give_no_fast : (lines : List (List ℕ)) → All IsSampleLine lines → filter_map fast_frame lines ≡ []
samples_give_no_fast lines all = gives_nothing fast_frame IsSampleLine (λ line (v, is). sample_is_not_fast line v is) lines all

frame_is_no_sample : (line : List ℕ) → IsFrameLine line → sample_of line ≡ None
frame_is_no_sample line (frame, inl is) = slow_is_no_sample line frame is
frame_is_no_sample line (frame, inr is) = fast_is_no_sample line frame is

frames_give_no_sample : (lines : List (List ℕ)) → All IsFrameLine lines → filter_map sample_of lines ≡ []
frames_give_no_sample lines all = gives_nothing sample_of IsFrameLine frame_is_no_sample lines all

-- ---- two ways to part a list

data Parted {A : Type 0} (xs ys us vs : List A) : Type 0 where
  longer : (ws : List A) → vs ≡ ws ++ ys → Parted xs ys us vs
  shorter : (ws : List A) → us ≡ xs ++ ws → Parted xs ys us vs

parted : {A : Type 0} (xs ys us vs : List A) → xs ++ ys ≡ us ++ vs → Parted xs ys us vs
parted [] ys us vs is = shorter us refl
parted (x ∷ xs) ys [] vs is = longer (x ∷ xs) (sym is)
parted (x ∷ xs) ys (u ∷ us) vs is =
    let head : x ≡ u = cc in
    let tail : xs ++ ys ≡ us ++ vs = cc in
    by head (parted xs ys us vs tail)
  where
    by : x ≡ u → Parted xs ys us vs → Parted (x ∷ xs) ys (u ∷ us) vs
    by head (longer ws is) = longer ws is
    by head (shorter ws is) = shorter ws (ap (λ e. e ∷ us) (sym head) ∙ ap (λ es. x ∷ es) is)

module _ {A : Type 0} (P : A → Type 0) where
  All-front : (xs ys : List A) → All P (xs ++ ys) → All P xs
  All-front [] ys all = λ k d inside. absurd (omega arith)
  All-front (x ∷ xs) ys all = All-cons P x xs (All-head P x (xs ++ ys) all) (All-front xs ys (All-tail P x (xs ++ ys) all))

  All-back : (xs ys : List A) → All P (xs ++ ys) → All P ys
  All-back [] ys all = all
  All-back (x ∷ xs) ys all = All-back xs ys (All-tail P x (xs ++ ys) all)

-- ---- the ticks that are settled

module _ (p : Plan) (h : ℕ) (σ : Stream) where
  pub settled_at_most : (version : Version) (over : Bool) → settled_ticks version p h σ over ≤ complete_ticks p h σ
  settled_at_most One over = omega arith
  settled_at_most Two over = by (has_samples σ || over)
    where
      by : (b : Bool) → (if b then complete_ticks p h σ else 0) ≤ complete_ticks p h σ
      by true = omega arith
      by false = omega arith

  pub settled_sampled : (version : Version) (over : Bool) → has_samples σ ≡ true → settled_ticks version p h σ over ≡ complete_ticks p h σ
  settled_sampled One over is = refl
  settled_sampled Two over is = ap (λ b. if b || over then complete_ticks p h σ else 0) is

  pub settled_unsampled : (version : Version) → version ≡ Two → has_samples σ ≡ false → settled_ticks version p h σ false ≡ 0
  settled_unsampled version second none = ap (λ v. settled_ticks v p h σ false) second ∙ ap (λ b. if b || false then complete_ticks p h σ else 0) none

module _ (p : Plan) (header : Header) where
  -- samples alone follow a sample, and in version 1 there is nothing else
  follow : (lines more : List (List ℕ)) → AreLines header.version (lines ++ more) → (header.version ≡ One) ⊎ (has_samples (stream_of p header lines) ≡ true) → All IsSampleLine more
  follow lines more are which = by (parted lines more are.frames are.samples are.all) which
    where
      by : Parted lines more are.frames are.samples → (header.version ≡ One) ⊎ (has_samples (stream_of p header lines) ≡ true) → All IsSampleLine more
      by (longer ws is) which = All-back IsSampleLine ws more (subst (All IsSampleLine) is are.are_samples)
      by (shorter ws is) (inl first) =
          let all : lines ++ more ≡ are.samples = are.all ∙ ap (λ frames. frames ++ are.samples) (are.none_before first) in
          All-back IsSampleLine lines more (subst (All IsSampleLine) (sym all) are.are_samples)
      by (shorter ws is) (inr some) =
          let frames = All-front IsFrameLine lines ws (subst (All IsFrameLine) is are.are_frames) in
          absurd (let none = samples_none p header lines (frames_give_no_sample lines frames) in cc)

  pub stream_longer : (lines more : List (List ℕ)) → All IsSampleLine more → IsLonger p (stream_of p header lines) (stream_of p header (lines ++ more))
  stream_longer lines more samples = record {
    announcement = announced p header (lines ++ more) ∙ sym (announced p header lines);
    slow = slow_of p header (lines ++ more) ∙ filter_map-append slow_frame lines more ∙ ap (λ frames. filter_map slow_frame lines ++ frames) (samples_give_no_slow more samples)
        ∙ append-nil (filter_map slow_frame lines) ∙ sym (slow_of p header lines);
    fast = fast_of p header (lines ++ more) ∙ filter_map-append fast_frame lines more ∙ ap (λ frames. filter_map fast_frame lines ++ frames) (samples_give_no_fast more samples)
        ∙ append-nil (filter_map fast_frame lines) ∙ sym (fast_of p header lines);
    more = added p header.run_ticks (filter_map sample_of lines) (filter_map sample_of more);
    samples = samples-longer p header lines more;
  }

  same_text : (output : Output) (lines more : List (List ℕ)) → IsGood p → All IsSampleLine more → (to : ℕ) → to ≤ complete_ticks p header.run_ticks (stream_of p header lines)
      → text_between output p header.run_ticks (stream_of p header (lines ++ more)) 0 to ≡ text_between output p header.run_ticks (stream_of p header lines) 0 to
  same_text output lines more good samples to within =
      text_settled p header.run_ticks (stream_of p header lines) (stream_of p header (lines ++ more)) good to
      (agrees_longer p (stream_of p header lines) (stream_of p header (lines ++ more)) to good (stream_longer lines more samples)
      (λ c inside. has_enough p header.run_ticks (stream_of p header lines) to c within inside))
      output 0 to (omega arith) (omega arith)

pub TextIsSettled-holds : TextIsSettled
TextIsSettled-holds output p header lines more good are = by header.version refl (has_samples (stream_of p header lines)) refl
  where
    sampled : (header.version ≡ One) ⊎ (has_samples (stream_of p header lines) ≡ true)
        → text_between output p header.run_ticks (stream_of p header (lines ++ more)) 0 (settled_ticks header.version p header.run_ticks (stream_of p header lines) false)
        ≡ text_between output p header.run_ticks (stream_of p header lines) 0 (settled_ticks header.version p header.run_ticks (stream_of p header lines) false)
    sampled which =
        same_text p header output lines more good (follow p header lines more are which) (settled_ticks header.version p header.run_ticks (stream_of p header lines) false)
        (settled_at_most p header.run_ticks (stream_of p header lines) header.version false)

    by : (version : Version) → header.version ≡ version → (some : Bool) → has_samples (stream_of p header lines) ≡ some
        → text_between output p header.run_ticks (stream_of p header (lines ++ more)) 0 (settled_ticks header.version p header.run_ticks (stream_of p header lines) false)
        ≡ text_between output p header.run_ticks (stream_of p header lines) 0 (settled_ticks header.version p header.run_ticks (stream_of p header lines) false)
    by One first some is = sampled (inl first)
    by Two second true is = sampled (inr is)
    by Two second false is =
        let none = settled_unsampled p header.run_ticks (stream_of p header lines) header.version second is in
        let nothing : (σ : Stream) → text_between output p header.run_ticks σ 0 (settled_ticks header.version p header.run_ticks (stream_of p header lines) false) ≡ [] =
        λ σ. text_none output p header.run_ticks σ 0 (settled_ticks header.version p header.run_ticks (stream_of p header lines) false) (omega (arith, none)) in
        nothing (stream_of p header (lines ++ more)) ∙ sym (nothing (stream_of p header lines))

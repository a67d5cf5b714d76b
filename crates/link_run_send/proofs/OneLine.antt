-- The symbols of frames that are spelled one after another are those of one line.
use Rattle.std.proofs.Common.{◌≡◌, ℕ, zero, suc, ◌+◌, List, [], ◌++◌, length, map, refl, ap, ◌∙◌, sym, arith, append-nil}
use Rattle.std.specs.List.{flat_map, range_with_len}
use Rattle.std.proofs.lemmas.List.Concat.{flat_map-append}
use Rattle.std.proofs.lemmas.List.FromFn.{length-map-range_with_len, map-range_with_len_more}
use Rattle.carrier_plan.specs.declared.plan.Plan.{Plan}
use Rattle.line_code.proofs.LineLaws.{symbols_of-append}
use Rattle.line_code.specs.Line.{characters_from, frame_characters, line_symbols, symbols_of}
use Rattle.line_code.specs.declared.characters.Rd.TheVariants.{Minus}
use Rattle.link_sender.proofs.FrameLists.{characters_more}
use Rattle.link_sender.specs.Stream.{Stream}
use Rattle.link_sender.specs.Whole.{disparity_before, frame_of, line_octets}
use Rattle.link_text.proofs.GatheredLines.{range_split}
use Rattle.link_run_send.specs.RunText.{SymbolsAreOneLine}

module _ (p : Plan) (σ : Stream) where
  -- the symbols of frame n, from the disparity that the frames before it leave
  frame_symbols : ℕ → List ℕ
  frame_symbols n = symbols_of (disparity_before p σ n) (frame_characters n (frame_of p σ n))

  all_symbols : (n : ℕ) → flat_map frame_symbols (range_with_len 0 n) ≡ line_symbols (map (frame_of p σ) (range_with_len 0 n))
  unfolding frame_symbols
  all_symbols zero = refl
  all_symbols (suc n) =
      let frames = map (frame_of p σ) (range_with_len 0 n) in
      let more : suc n ≡ n + 1 = omega arith in
      let here : 0 + n ≡ n = omega arith in
      let count : 0 + length frames ≡ n = omega (arith, length-map-range_with_len (frame_of p σ) 0 n) in
      ap (λ k. flat_map frame_symbols (range_with_len 0 k)) more ∙ ap (flat_map frame_symbols) (range_split 0 n 1)
      ∙ flat_map-append frame_symbols (range_with_len 0 n) (range_with_len (0 + n) 1)
      ∙ ap (λ symbols. symbols ++ flat_map frame_symbols (range_with_len (0 + n) 1)) (all_symbols n)
      ∙ ap (λ k. line_symbols frames ++ (frame_symbols k ++ [])) here
      ∙ ap (λ symbols. line_symbols frames ++ symbols) (append-nil (frame_symbols n))
      ∙ sym (symbols_of-append Minus (characters_from 0 frames) (frame_characters n (frame_of p σ n)))
      ∙ ap (symbols_of Minus) (ap (λ k. characters_from 0 frames ++ frame_characters k (frame_of p σ n)) (sym count) ∙ sym (characters_more 0 frames (frame_of p σ n)))
      ∙ ap line_symbols (sym (map-range_with_len_more (frame_of p σ) 0 n n here))
      ∙ ap (λ k. line_symbols (map (frame_of p σ) (range_with_len 0 k))) (sym more)

  pub symbols_are_one_line : (n : ℕ) → SymbolsAreOneLine p σ n
  unfolding line_octets frame_symbols
  symbols_are_one_line n = record { symbols = frame_symbols; written = λ k. refl; one_line = all_symbols n }

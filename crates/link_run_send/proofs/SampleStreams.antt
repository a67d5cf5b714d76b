-- The stream of the lines of a file, with one line more and with any that follow.
use Rattle.std.proofs.Common.{◌≡◌, ◌≢◌, ℕ, zero, suc, ◌<◌, List, [], ◌∷◌, ◌++◌, length, drop, get_or, set, map, Bool, true, false, cond, Option, Some, None, refl, sym, ap, ◌∙◌, subst, inl, inr, arith, append-nil, length-set, get_or-set_other, get_or-set_same}
use Rattle.std.specs.Prelude.{◌==◌, filter}
use Rattle.std.specs.List.{cons_option, filter_map, range_with_len, zip}
use Rattle.std.proofs.lemmas.Bool.{cases_eq, cond-false, cond-true, eq-eqb, ne_eqb}
use Rattle.std.proofs.lemmas.List.{length-map, map-append}
use Rattle.std.proofs.lemmas.List.Elements.{filter-append, filter_map-append}
use Rattle.std.proofs.lemmas.List.FromFn.{fill_by_all, get_or-map-range_with_len, length-map-range_with_len}
use Rattle.std.proofs.lemmas.List.Prefix.{front_rest}
use Rattle.carrier_plan.specs.declared.plan.Plan.{Plan}
use Rattle.link_run_capture.specs.declared.header.Header.{Header}
use Rattle.link_sender.specs.HandedIn.{nothing_yet, with_fast, with_samples, with_slow}
use Rattle.link_sender.specs.Stream.{Stream, samples_of}
use Rattle.sample_bits.specs.declared.iq.RawIq.{RawIq}
use Rattle.link_run_send.specs.SampleFile.{carriers_in_order, fast_frame, samples_of_carrier, slow_frame, stream_of}
use Rattle.link_run_send.specs.SampleLine.{sample_of}
use Rattle.link_run_send.specs.Sent.{has_samples}
use Rattle.link_run_send.proofs.FrameLines.{fast_is_no_sample, fast_is_not_slow, sample_is_not_fast, sample_is_not_slow, slow_is_no_sample, slow_is_not_fast}
use Rattle.link_run_send.proofs.HandedStreams.{has_none}
use Rattle.link_run_send.proofs.SampleOrder.{count}

-- ---- samples beside their carriers

zip-none : (carriers : List ℕ) → zip {X = RawIq} carriers [] ≡ []
zip-none [] = refl
zip-none (c ∷ carriers) = refl

zip-append : (carriers : List ℕ) (samples more : List RawIq) → zip carriers (samples ++ more) ≡ zip carriers samples ++ zip (drop (length samples) carriers) more
zip-append [] [] more = refl
zip-append [] (v ∷ samples) more = refl
zip-append (c ∷ carriers) [] more = refl
zip-append (c ∷ carriers) (v ∷ samples) more = ap (λ all. (c, v) ∷ all) (zip-append carriers samples more)

module _ (c : ℕ) where
  abbrev pub is_of : ℕ × RawIq → Bool
  is_of sample = sample.0 == c

  abbrev pub own : List (ℕ × RawIq) → List RawIq
  own all = map (λ (sample : ℕ × RawIq). sample.1) (filter is_of all)

  own-append : (xs ys : List (ℕ × RawIq)) → own (xs ++ ys) ≡ own xs ++ own ys
  own-append xs ys = ap (map (λ (sample : ℕ × RawIq). sample.1)) (filter-append is_of xs ys) ∙ map-append (λ (sample : ℕ × RawIq). sample.1) (filter is_of xs) (filter is_of ys)

  -- as many as carriers come before the rest
  length-own : (before after : List ℕ) (samples : List RawIq) → length before ≡ length samples → length (own (zip (before ++ after) samples)) ≡ count c before
  length-own [] after [] same = ap (λ all. length (own all)) (zip-none after)
  length-own [] after (v ∷ samples) same = absurd (omega (arith, same))
  length-own (b ∷ before) after [] same = absurd (omega (arith, same))
  length-own (b ∷ before) after (v ∷ samples) same = by (b == c) (length-own before after samples (omega (arith, same)))
    where
      by : (t : Bool) → length (own (zip (before ++ after) samples)) ≡ count c before
          → length (map (λ (sample : ℕ × RawIq). sample.1) (cond t ((b, v) ∷ filter is_of (zip (before ++ after) samples)) (filter is_of (zip (before ++ after) samples))))
          ≡ length (cond t (b ∷ filter (λ d. d == c) before) (filter (λ d. d == c) before))
      by true rest = ap suc rest
      by false rest = rest

  own-one : (after : List ℕ) (v : RawIq) → own (zip (c ∷ after) (v ∷ [])) ≡ v ∷ []
  own-one after v =
      ap (λ all. own ((c, v) ∷ all)) (zip-none after) ∙ ap (map (λ (sample : ℕ × RawIq). sample.1)) (cond-true (c == c) ((c, v) ∷ []) [] (eq-eqb c c refl))

  own-other : (d : ℕ) (after : List ℕ) (v : RawIq) → d ≢ c → own (zip (d ∷ after) (v ∷ [])) ≡ []
  own-other d after v other =
      ap (λ all. own ((d, v) ∷ all)) (zip-none after) ∙ ap (map (λ (sample : ℕ × RawIq). sample.1)) (cond-false (d == c) ((d, v) ∷ []) [] (ne_eqb d c other))

module _ (p : Plan) (h : ℕ) where
  -- the samples that later ones add to those of carrier c
  abbrev pub added : List RawIq → List RawIq → ℕ → List RawIq
  added samples more c = own c (zip (drop (length samples) (carriers_in_order p h)) more)

  samples_of_carrier-append : (samples more : List RawIq) (c : ℕ) → samples_of_carrier p h (samples ++ more) c ≡ samples_of_carrier p h samples c ++ added samples more c
  unfolding samples_of_carrier
  samples_of_carrier-append samples more c =
      ap (own c) (zip-append (carriers_in_order p h) samples more) ∙ own-append c (zip (carriers_in_order p h) samples) (zip (drop (length samples) (carriers_in_order p h)) more)

  samples_of_carrier-none : (c : ℕ) → samples_of_carrier p h [] c ≡ []
  unfolding samples_of_carrier
  samples_of_carrier-none c = ap (own c) (zip-none (carriers_in_order p h))

  module _ (before after : List ℕ) (samples : List RawIq) (as_many : length before ≡ length samples) where
    length-samples_of_carrier : (c : ℕ) → carriers_in_order p h ≡ before ++ after → length (samples_of_carrier p h samples c) ≡ count c before
    unfolding samples_of_carrier
    length-samples_of_carrier c order = ap (λ carriers. length (own c (zip carriers samples))) order ∙ length-own c before after samples as_many

    module _ (d : ℕ) (rest : List ℕ) (order : carriers_in_order p h ≡ before ++ d ∷ rest) (v : RawIq) where
      left : drop (length samples) (carriers_in_order p h) ≡ d ∷ rest
      left = ap (λ n. drop n (carriers_in_order p h)) (sym as_many) ∙ front_rest (carriers_in_order p h) before (d ∷ rest) order

      samples_of_carrier-next : samples_of_carrier p h (samples ++ v ∷ []) d ≡ samples_of_carrier p h samples d ++ v ∷ []
      samples_of_carrier-next =
          samples_of_carrier-append samples (v ∷ []) d
          ∙ ap (λ more. samples_of_carrier p h samples d ++ more) (ap (λ carriers. own d (zip carriers (v ∷ []))) left ∙ own-one d rest v)

      samples_of_carrier-beside : (c : ℕ) → c ≢ d → samples_of_carrier p h (samples ++ v ∷ []) c ≡ samples_of_carrier p h samples c
      samples_of_carrier-beside c other =
          samples_of_carrier-append samples (v ∷ []) c
          ∙ ap (λ more. samples_of_carrier p h samples c ++ more) (ap (λ carriers. own c (zip carriers (v ∷ []))) left ∙ own-other c d rest v (λ same. other (sym same)))
          ∙ append-nil (samples_of_carrier p h samples c)

-- no samples of any carrier
pub none_each : {A : Type 0} (xs : List A) (k : ℕ) → get_or (map (λ (x : A). let none : List RawIq = [] in none) xs) k [] ≡ []
none_each [] k = refl
none_each (x ∷ xs) zero = refl
none_each (x ∷ xs) (suc k) = none_each xs k

-- ---- what one line more gives

module _ {X Y : Type 0} (f : X → Option Y) (xs : List X) (x : X) where
  pub gives_none : f x ≡ None → filter_map f (xs ++ x ∷ []) ≡ filter_map f xs
  gives_none is = filter_map-append f xs (x ∷ []) ∙ ap (λ o. filter_map f xs ++ cons_option o []) is ∙ append-nil (filter_map f xs)

  pub gives_one : (y : Y) → f x ≡ Some y → filter_map f (xs ++ x ∷ []) ≡ filter_map f xs ++ y ∷ []
  gives_one y is = filter_map-append f xs (x ∷ []) ∙ ap (λ o. filter_map f xs ++ cons_option o []) is

module _ (p : Plan) (header : Header) where
  abbrev of_samples : List RawIq → List (List RawIq)
  of_samples samples = map (samples_of_carrier p header.run_ticks samples) (range_with_len 0 (length p.carriers))

  abbrev of_parts : List (List RawIq) → List (List ℕ) → List (List ℕ) → Stream
  of_parts samples slow fast = record { samples = samples; announcement = header.announce; slow = slow; fast = fast }

  parts_same : (samples samples' : List (List RawIq)) (slow slow' fast fast' : List (List ℕ)) → samples ≡ samples' → slow ≡ slow' → fast ≡ fast' → of_parts samples slow fast ≡ of_parts samples' slow' fast'
  parts_same samples samples' slow slow' fast fast' first second third =
      ap (λ x. of_parts x slow fast) first ∙ ap (λ x. of_parts samples' x fast) second ∙ ap (λ x. of_parts samples' slow' x) third

  pub stream-none : stream_of p header [] ≡ nothing_yet p header.announce
  unfolding stream_of
  stream-none =
      ap (λ samples. of_parts samples [] [])
      (sym (fill_by_all (samples_of_carrier p header.run_ticks []) (map (λ c. []) p.carriers) (length p.carriers) []
      (length-map p.carriers (λ c. []))
      (λ k inside. none_each p.carriers k ∙ sym (samples_of_carrier-none p header.run_ticks k))))

  pub samples_none : (lines : List (List ℕ)) → filter_map sample_of lines ≡ [] → has_samples (stream_of p header lines) ≡ false
  unfolding stream_of
  samples_none lines none = ap (λ samples. has_samples (of_parts (of_samples samples) [] [])) none ∙ ap has_samples stream-none ∙ has_none p.carriers

  pub samples_of_stream : (lines : List (List ℕ)) (c : ℕ) → c < length p.carriers → samples_of (stream_of p header lines) c ≡ samples_of_carrier p header.run_ticks (filter_map sample_of lines) c
  unfolding stream_of
  samples_of_stream lines c inside = get_or-map-range_with_len (samples_of_carrier p header.run_ticks (filter_map sample_of lines)) 0 (length p.carriers) c c [] inside (omega arith)

  pub length-stream : (lines : List (List ℕ)) → length (stream_of p header lines).samples ≡ length p.carriers
  unfolding stream_of
  length-stream lines = length-map-range_with_len (samples_of_carrier p header.run_ticks (filter_map sample_of lines)) 0 (length p.carriers)

  pub announced : (lines : List (List ℕ)) → (stream_of p header lines).announcement ≡ header.announce
  unfolding stream_of
  announced lines = refl

  pub slow_of : (lines : List (List ℕ)) → (stream_of p header lines).slow ≡ filter_map slow_frame lines
  unfolding stream_of
  slow_of lines = refl

  pub fast_of : (lines : List (List ℕ)) → (stream_of p header lines).fast ≡ filter_map fast_frame lines
  unfolding stream_of
  fast_of lines = refl

  module _ (lines : List (List ℕ)) (line : List ℕ) where
    pub stream-slow : (frame : List ℕ) → slow_frame line ≡ Some frame → stream_of p header (lines ++ line ∷ []) ≡ with_slow (stream_of p header lines) frame
    unfolding stream_of
    stream-slow frame gives =
        parts_same (of_samples (filter_map sample_of (lines ++ line ∷ []))) (of_samples (filter_map sample_of lines)) (filter_map slow_frame (lines ++ line ∷ [])) (filter_map slow_frame lines ++ frame ∷ [])
        (filter_map fast_frame (lines ++ line ∷ [])) (filter_map fast_frame lines)
        (ap of_samples (gives_none sample_of lines line (slow_is_no_sample line frame gives))) (gives_one slow_frame lines line frame gives) (gives_none fast_frame lines line (slow_is_not_fast line frame gives))

    pub stream-fast : (frame : List ℕ) → fast_frame line ≡ Some frame → stream_of p header (lines ++ line ∷ []) ≡ with_fast (stream_of p header lines) frame
    unfolding stream_of
    stream-fast frame gives =
        parts_same (of_samples (filter_map sample_of (lines ++ line ∷ []))) (of_samples (filter_map sample_of lines)) (filter_map slow_frame (lines ++ line ∷ [])) (filter_map slow_frame lines)
        (filter_map fast_frame (lines ++ line ∷ [])) (filter_map fast_frame lines ++ frame ∷ [])
        (ap of_samples (gives_none sample_of lines line (fast_is_no_sample line frame gives))) (gives_none slow_frame lines line (fast_is_not_slow line frame gives)) (gives_one fast_frame lines line frame gives)

    -- the number of samples of a carrier, by the carriers whose samples have come
    pub counted : (before after : List ℕ) (c : ℕ) → c < length p.carriers → carriers_in_order p header.run_ticks ≡ before ++ after → length before ≡ length (filter_map sample_of lines)
        → length (samples_of (stream_of p header lines) c) ≡ count c before
    counted before after c inside order as_many = ap length (samples_of_stream lines c inside) ∙ length-samples_of_carrier p header.run_ticks before after (filter_map sample_of lines) as_many c order

    module _ (v : RawIq) (gives : sample_of line ≡ Some v) (before : List ℕ) (d : ℕ) (rest : List ℕ) (order : carriers_in_order p header.run_ticks ≡ before ++ d ∷ rest)
        (as_many : length before ≡ length (filter_map sample_of lines)) (inside : d < length p.carriers) where
      stream-lists : of_samples (filter_map sample_of lines ++ v ∷ []) ≡ set (of_samples (filter_map sample_of lines)) d (get_or (of_samples (filter_map sample_of lines)) d [] ++ v ∷ [])
      stream-lists =
          let xs = filter_map sample_of lines in
          let own : (k : ℕ) → k < length p.carriers → get_or (of_samples xs) k [] ≡ samples_of_carrier p header.run_ticks xs k =
          λ k below. get_or-map-range_with_len (samples_of_carrier p header.run_ticks xs) 0 (length p.carriers) k k [] below (omega arith) in
          let many = length-map-range_with_len (samples_of_carrier p header.run_ticks xs) 0 (length p.carriers) in
          sym (fill_by_all (samples_of_carrier p header.run_ticks (xs ++ v ∷ [])) (set (of_samples xs) d (get_or (of_samples xs) d [] ++ v ∷ [])) (length p.carriers) []
          (length-set (of_samples xs) d (get_or (of_samples xs) d [] ++ v ∷ []) ∙ many)
          (λ k below. elim (cases_eq k d) [
            | inl here ↦
                subst (λ j. get_or (set (of_samples xs) d (get_or (of_samples xs) d [] ++ v ∷ [])) j [] ≡ samples_of_carrier p header.run_ticks (xs ++ v ∷ []) j) (sym here)
                (get_or-set_same (of_samples xs) d (get_or (of_samples xs) d [] ++ v ∷ []) [] (omega (arith, inside, many)) ∙ ap (λ all. all ++ v ∷ []) (own d inside)
                ∙ sym (samples_of_carrier-next p header.run_ticks before (d ∷ rest) xs as_many d rest order v))
            | inr other ↦
                get_or-set_other (of_samples xs) d k (get_or (of_samples xs) d [] ++ v ∷ []) [] other ∙ own k below
                ∙ sym (samples_of_carrier-beside p header.run_ticks before (d ∷ rest) xs as_many d rest order v k other)
          ]))

      pub stream-sample : stream_of p header (lines ++ line ∷ []) ≡ with_samples (stream_of p header lines) d (v ∷ [])
      unfolding stream_of
      stream-sample =
          parts_same (of_samples (filter_map sample_of (lines ++ line ∷ []))) (set (of_samples (filter_map sample_of lines)) d (get_or (of_samples (filter_map sample_of lines)) d [] ++ v ∷ []))
          (filter_map slow_frame (lines ++ line ∷ [])) (filter_map slow_frame lines) (filter_map fast_frame (lines ++ line ∷ [])) (filter_map fast_frame lines)
          (ap of_samples (gives_one sample_of lines line v gives) ∙ stream-lists)
          (gives_none slow_frame lines line (sample_is_not_slow line v gives)) (gives_none fast_frame lines line (sample_is_not_fast line v gives))

  -- ---- what any lines that follow add

  pub samples-longer : (lines more : List (List ℕ)) (c : ℕ) → c < length p.carriers
      → samples_of (stream_of p header (lines ++ more)) c ≡ samples_of (stream_of p header lines) c ++ added p header.run_ticks (filter_map sample_of lines) (filter_map sample_of more) c
  samples-longer lines more c inside =
      samples_of_stream (lines ++ more) c inside
      ∙ ap (λ samples. samples_of_carrier p header.run_ticks samples c) (filter_map-append sample_of lines more)
      ∙ samples_of_carrier-append p header.run_ticks (filter_map sample_of lines) (filter_map sample_of more) c
      ∙ ap (λ own. own ++ added p header.run_ticks (filter_map sample_of lines) (filter_map sample_of more) c) (sym (samples_of_stream lines c inside))

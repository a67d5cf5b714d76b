-- The lines about the management channels where each control word is as it was sent.
use Rattle.std.proofs.Common.{codes, ◌≡◌, ℕ, zero, suc, ◌+◌, ◌*◌, ◌<◌, ◌≤◌, Bool, List, [], ◌∷◌, ◌++◌, length, take, map, get_or, All, Option, Some, None, refl, sym, ap, ◌∙◌, arith}
use Rattle.std.specs.List.{flat_map, range_with_len}
use Rattle.std.proofs.lemmas.Grind.{flat_map-append}
use Rattle.std.proofs.lemmas.List.{append_cancel_left, map-append}
use Rattle.std.proofs.lemmas.List.FromFn.{get_or-map-range_with_len, length-map-range_with_len, map-range_with_len_more}
use Rattle.control_words.specs.declared.announce.Announce.{Announce}
use Rattle.ethernet_channel.specs.Codes.{idle}
use Rattle.ethernet_channel.specs.Events.{events_at}
use Rattle.ethernet_channel.specs.FastStream as fast
use Rattle.ethernet_channel.proofs.Prefixes.{longer}
use Rattle.hdlc_channel.specs.Bits.{bits_of, octet_bits}
use Rattle.hdlc_channel.specs.SlowLaw.{slow_answers}
use Rattle.hdlc_channel.specs.SlowStream as slow
use Rattle.hdlc_channel.proofs.Contents.{length-bits_of}
use Rattle.hyperframe.specs.Numbering.{frame_x}
use Rattle.link_receiver.specs.Containers.{control_of_frame}
use Rattle.link_run_management.specs.Events.{bit_lines, fast_line, slow_line}
use Rattle.link_run_management.specs.Following.{behind}
use Rattle.link_run_management.specs.Management.{fast_places, frame_lines, given_by, given_lines, octets_in, octets_so_far, run_lines, since_cut, given_from, slow_places}
use Rattle.link_run_management.proofs.Giving.{octets_so_far-push}
use Rattle.link_run_delay.specs.ChannelsArePrefixes.{ChannelsArePrefixes, sent_octets}
use Rattle.link_run_delay.specs.ControlIsSent.{ControlIsSent, sent_word}
use Rattle.link_sender.specs.Managed.{fast_in_word, octets_below, slow_in_word}
use Rattle.link_run_delay.specs.ManagementArrives.{ManagementArrives, arriving_lines, fast_frame_line, fast_frames, slow_frame_line, slow_frames}
use Rattle.link_run_delay.specs.PrefixesAreRead.{Ending, PrefixesAreRead, between, endings, fast_endings, fast_place, places, slow_answer, slow_endings}
use Rattle.link_sender.specs.Stream.{Stream}
use Rattle.plan_checker.specs.Run.{longest_block}
use Rattle.plan_checker.specs.WordSize.{word_size}
use Rattle.link_run_delay.proofs.ChannelOctets.{fast_sent, length-fast_octets, length-slow_octets, sent_more, slow_sent}
use Rattle.link_run_delay.proofs.EndingSteps.{Grows, between-split, pieces}
use Rattle.link_run_delay.proofs.FastLines.{found_lines, place_line, places-append}
use Rattle.link_sender.proofs.ManagedSteps.{octets_below-more}
use Rattle.link_run_delay.proofs.SlowLines.{answer_line, answered}
use Rattle.link_run_delay.proofs.WrittenEndings.{fast_longer, length_idle, slow_longer}

-- ---- the octets of a channel so far

module _ (is_place : ℕ → ℕ → Bool) (Y : ℕ) (σ : Stream) where
  abbrev sent : ℕ → Option (List ℕ)
  sent n = Some (sent_word Y σ n)

  abbrev words : ℕ → List (Option (List ℕ))
  words n = map sent (range_with_len 0 n)

  given_sent : (n k : ℕ) → k ≡ n → given_by is_place Y k (sent n) ≡ Some (octets_in is_place (frame_x n) (sent_word Y σ n))
  unfolding given_by
  given_sent n k same = ap (λ i. Some (octets_in is_place (frame_x i) (sent_word Y σ n))) same

  so_far : (n : ℕ) → octets_so_far is_place Y (words n) ≡ sent_octets is_place Y σ n
  unfolding since_cut given_from
  so_far zero = refl
  so_far (suc n) =
      let e : suc n ≡ n + 1 = omega arith in
      let one : words (suc n) ≡ words n ++ sent n ∷ [] = ap (λ k. map sent (range_with_len 0 k)) e ∙ map-range_with_len_more sent 0 n n (omega arith) in
      let long : length (words n) ≡ n = length-map-range_with_len sent 0 n in
      let octets = octets_in is_place (frame_x n) (sent_word Y σ n) in
      ap (octets_so_far is_place Y) one
      ∙ octets_so_far-push is_place Y (words n) (sent n)
      ∙ ap (behind (octets_so_far is_place Y (words n))) (given_sent n (length (words n)) long)
      ∙ ap (λ os. os ++ octets) (so_far n)
      ∙ sym (sent_more (λ i. octets_in is_place (frame_x i) (sent_word Y σ i)) n)

-- ---- the lines about a frame

module _ (Y : ℕ) (σ : Stream) where
  abbrev a : Announce
  a = σ.announcement

  abbrev slow_bits : ℕ → ℕ
  slow_bits n = 8 * octets_below (slow_in_word Y a) n

  abbrev fast_bits : ℕ → ℕ
  fast_bits n = 8 * octets_below (fast_in_word Y a) n

  slow_grows : Grows slow_bits
  slow_grows n = omega (arith, octets_below-more (slow_in_word Y a) n)

  fast_grows : Grows fast_bits
  fast_grows n = omega (arith, octets_below-more (fast_in_word Y a) n)

  abbrev slow_before : ℕ → List ℕ
  slow_before n = sent_octets (slow_places a) Y σ n

  abbrev fast_before : ℕ → List ℕ
  fast_before n = sent_octets (fast_places a) Y σ n

  length-slow_before : (n : ℕ) → length (bits_of (slow_before n)) ≡ slow_bits n
  length-slow_before n = length-bits_of (slow_before n) ∙ ap (λ k. 8 * k) (ap length (slow_sent Y σ n) ∙ length-slow_octets Y σ 0 (octets_below (slow_in_word Y a) n))

  length-fast_before : (n : ℕ) → length (bits_of (fast_before n)) ≡ fast_bits n
  length-fast_before n = length-bits_of (fast_before n) ∙ ap (λ k. 8 * k) (ap length (fast_sent Y σ n) ∙ length-fast_octets Y σ 0 (octets_below (fast_in_word Y a) n))

  slow_line_of : (tick : ℕ) (all : List Ending) → flat_map (answer_line tick) (map slow_answer all) ≡ flat_map (slow_frame_line tick) (map (λ (e : Ending). e.frame) all)
  slow_line_of tick [] = refl
  slow_line_of tick (e ∷ rest) = ap (λ t. slow_frame_line tick e.frame ++ t) (slow_line_of tick rest)

  fast_line_of : (tick : ℕ) (all : List Ending) → flat_map (place_line tick) (map fast_place all) ≡ flat_map (fast_frame_line tick) (map (λ (e : Ending). e.frame) all)
  fast_line_of tick [] = refl
  fast_line_of tick (e ∷ rest) = ap (λ t. fast_frame_line tick e.frame ++ t) (fast_line_of tick rest)

  -- by what is read of the octets of the frames below each
  module _ (prefixes : ChannelsArePrefixes) (reads : PrefixesAreRead) (n : ℕ) where
    abbrev slow_here : List ℕ
    slow_here = octets_in (slow_places a) (frame_x n) (sent_word Y σ n)

    abbrev fast_here : List ℕ
    fast_here = octets_in (fast_places a) (frame_x n) (sent_word Y σ n)

    slow_text : (tick : ℕ) → All slow.IsFrame σ.slow → bit_lines slow_line tick (bits_of (slow_before n)) (bits_of slow_here) ≡ flat_map (slow_frame_line tick) (slow_frames Y σ n (n + 1))
    slow_text tick each =
        let before = bits_of (slow_before n) in
        let here = bits_of slow_here in
        let after = bits_of (slow_before (suc n)) in
        let next : suc n ≡ n + 1 = omega arith in
        let more = answered before here in
        let whole : before ++ here ≡ after = sym (ap bits_of (sent_more (λ i. octets_in (slow_places a) (frame_x i) (sent_word Y σ i)) n) ∙ flat_map-append octet_bits (slow_before n) slow_here) in
        let ends = slow_endings σ in
        let first = between 0 (slow_bits n) ends in
        let later = between (slow_bits n) (slow_bits (n + 1)) ends in
        let read_before : slow_answers before (length before) ≡ map slow_answer first = reads.slow σ (slow_before n) each (prefixes Y σ n).slow ∙ ap (λ k. map slow_answer (between 0 k ends)) (length-slow_before n) in
        let read_after : slow_answers after (length after) ≡ map slow_answer (between 0 (slow_bits (n + 1)) ends) =
        reads.slow σ (slow_before (suc n)) each (prefixes Y σ (suc n)).slow
        ∙ ap (λ k. map slow_answer (between 0 k ends)) (length-slow_before (suc n) ∙ ap slow_bits next) in
        let split : between 0 (slow_bits (n + 1)) ends ≡ first ++ later = between-split slow.frame_bits 0 slow_longer 0 (slow_bits n) (slow_bits (n + 1)) 8 σ.slow (omega arith) (slow_grows n) in
        let both : map slow_answer first ++ more.answers ≡ map slow_answer first ++ map slow_answer later =
        sym (more.whole ∙ ap (λ xs. xs ++ more.answers) read_before) ∙ ap (λ b. slow_answers b (length b)) whole ∙ read_after
        ∙ ap (map slow_answer) split ∙ map-append slow_answer first later in
        more.lines tick
        ∙ ap (flat_map (answer_line tick)) (append_cancel_left (map slow_answer first) more.answers (map slow_answer later) both)
        ∙ slow_line_of tick later

    fast_text : (tick : ℕ) → All fast.IsFrame σ.fast → bit_lines fast_line tick (bits_of (fast_before n)) (bits_of fast_here) ≡ flat_map (fast_frame_line tick) (fast_frames Y σ n (n + 1))
    fast_text tick each =
        let before = bits_of (fast_before n) in
        let here = bits_of fast_here in
        let after = bits_of (fast_before (suc n)) in
        let next : suc n ≡ n + 1 = omega arith in
        let more = longer before here in
        let whole : before ++ here ≡ after = sym (ap bits_of (sent_more (λ i. octets_in (fast_places a) (frame_x i) (sent_word Y σ i)) n) ∙ flat_map-append octet_bits (fast_before n) fast_here) in
        let ends = fast_endings σ in
        let p = 0 + length (events_at before) in
        let first = between 0 (fast_bits n) ends in
        let later = between (fast_bits n) (fast_bits (n + 1)) ends in
        let read_before : places 0 (events_at before) ≡ map fast_place first = reads.fast σ (fast_before n) each (prefixes Y σ n).fast ∙ ap (λ k. map fast_place (between 0 k ends)) (length-fast_before n) in
        let read_after : places 0 (events_at after) ≡ map fast_place (between 0 (fast_bits (n + 1)) ends) =
        reads.fast σ (fast_before (suc n)) each (prefixes Y σ (suc n)).fast
        ∙ ap (λ k. map fast_place (between 0 k ends)) (length-fast_before (suc n) ∙ ap fast_bits next) in
        let split : between 0 (fast_bits (n + 1)) ends ≡ first ++ later = fast_split (length idle) length_idle in
        let both : map fast_place first ++ places p more.found ≡ map fast_place first ++ map fast_place later =
        ap (λ xs. xs ++ places p more.found) (sym read_before) ∙ sym (ap (places 0) more.whole ∙ places-append 0 (events_at before) more.found)
        ∙ ap (λ b. places 0 (events_at b)) whole ∙ read_after
        ∙ ap (map fast_place) split ∙ map-append fast_place first later in
        found_lines tick p before here
        ∙ ap (flat_map (place_line tick)) (append_cancel_left (map fast_place first) (places p more.found) (map fast_place later) both)
        ∙ fast_line_of tick later
      where
        fast_split : (k : ℕ) → k ≡ 5
            → between 0 (fast_bits (n + 1)) (endings fast.frame_bits k k σ.fast)
            ≡ between 0 (fast_bits n) (endings fast.frame_bits k k σ.fast) ++ between (fast_bits n) (fast_bits (n + 1)) (endings fast.frame_bits k k σ.fast)
        fast_split k five = between-split fast.frame_bits k (λ frame. omega (arith, five, fast_longer frame)) 0 (fast_bits n) (fast_bits (n + 1)) k σ.fast (omega arith) (fast_grows n)

    lines_by : (line : ℕ → List Bool → List ℕ) (missed : List ℕ) (tick : ℕ) (before octets so_far : List ℕ) (given : Option (List ℕ)) → so_far ≡ before → given ≡ Some octets
        → given_lines line missed tick so_far given ≡ bit_lines line tick (bits_of before) (bits_of octets)
    unfolding given_lines
    lines_by line missed tick before octets so_far given same is =
        ap (given_lines line missed tick so_far) is ∙ ap (λ b. bit_lines line tick (bits_of b) (bits_of octets)) same

    abbrev all_sent : ℕ → List (Option (List ℕ))
    all_sent k = map (λ i. Some (sent_word Y σ i)) (range_with_len 0 k)

    pub frame_arrives : (tick : ℕ) → All slow.IsFrame σ.slow → All fast.IsFrame σ.fast
        → frame_lines Y a tick (all_sent n) (Some (sent_word Y σ n)) ≡ arriving_lines Y σ tick n
    unfolding frame_lines arriving_lines
    frame_arrives tick each_slow each_fast =
        let long : length (all_sent n) ≡ n = length-map-range_with_len (λ i. Some (sent_word Y σ i)) 0 n in
        let slow_part =
        lines_by slow_line (codes "slow missed") tick (slow_before n) slow_here (octets_so_far (slow_places a) Y (all_sent n)) (given_by (slow_places a) Y (length (all_sent n)) (Some (sent_word Y σ n)))
        (so_far (slow_places a) Y σ n) (given_sent (slow_places a) Y σ n (length (all_sent n)) long)
        ∙ slow_text tick each_slow in
        let fast_part =
        lines_by fast_line (codes "fast missed") tick (fast_before n) fast_here (octets_so_far (fast_places a) Y (all_sent n)) (given_by (fast_places a) Y (length (all_sent n)) (Some (sent_word Y σ n)))
        (so_far (fast_places a) Y σ n) (given_sent (fast_places a) Y σ n (length (all_sent n)) long)
        ∙ fast_text tick each_fast in
        ap (λ t. t ++ given_lines fast_line (codes "fast missed") tick (octets_so_far (fast_places a) Y (all_sent n)) (given_by (fast_places a) Y (length (all_sent n)) (Some (sent_word Y σ n)))) slow_part
        ∙ ap (λ t. flat_map (slow_frame_line tick) (slow_frames Y σ n (n + 1)) ++ t) fast_part

  -- ---- all frames that become whole

  pub slow_pieces : (n : ℕ) → flat_map (λ i. slow_frames Y σ i (i + 1)) (range_with_len 0 n) ≡ slow_frames Y σ 0 n
  slow_pieces n =
      let e : 0 + n ≡ n = omega arith in
      pieces slow.frame_bits 0 slow_longer 8 σ.slow slow_bits slow_grows 0 n ∙ ap (slow_frames Y σ 0) e

  pub fast_pieces : (n : ℕ) → flat_map (λ i. fast_frames Y σ i (i + 1)) (range_with_len 0 n) ≡ fast_frames Y σ 0 n
  fast_pieces n =
      let e : 0 + n ≡ n = omega arith in
      pieces fast.frame_bits (length idle) (λ frame. omega (arith, length_idle, fast_longer frame)) (length idle) σ.fast fast_bits fast_grows 0 n ∙ ap (fast_frames Y σ 0) e

-- ---- the lines about a run

same_over : {X : Type 0} (f g : ℕ → List X) (k n : ℕ) → ((i : ℕ) → i < k + n → f i ≡ g i) → flat_map f (range_with_len k n) ≡ flat_map g (range_with_len k n)
same_over f g k zero same = refl
same_over f g k (suc n) same =
    ap (λ xs. xs ++ flat_map f (range_with_len (k + 1) n)) (same k (omega arith))
    ∙ ap (λ xs. g k ++ xs) (same_over f g (k + 1) n (λ i lt. same i (omega arith)))

same_words : {X : Type 0} (f g : ℕ → X) (k n : ℕ) → ((i : ℕ) → i < k + n → f i ≡ g i) → map f (range_with_len k n) ≡ map g (range_with_len k n)
same_words f g k zero same = refl
same_words f g k (suc n) same =
    ap (λ x. x ∷ map f (range_with_len (k + 1) n)) (same k (omega arith))
    ∙ ap (λ xs. g k ∷ xs) (same_words f g (k + 1) n (λ i lt. same i (omega arith)))

-- the first words of a run
taken_words : {X : Type 0} (f : ℕ → X) (k n m : ℕ) → n ≤ m → take n (map f (range_with_len k m)) ≡ map f (range_with_len k n)
taken_words f k zero m few = refl
taken_words f k (suc n) zero few = absurd (omega arith)
taken_words f k (suc n) (suc m) few = ap (λ xs. f k ∷ xs) (taken_words f (k + 1) n m (omega arith))

module _ (prefixes : ChannelsArePrefixes) (reads : PrefixesAreRead) (Y : ℕ) (σ : Stream) (each_slow : All slow.IsFrame σ.slow) (each_fast : All fast.IsFrame σ.fast) (control : ℕ → Option (List ℕ)) (frames : ℕ) (is_sent : (n : ℕ) → n < frames → control n ≡ Some (sent_word Y σ n)) where
  abbrev received : ℕ → List (Option (List ℕ))
  received n = map control (range_with_len 0 n)

  pub run_lines_of : (tick n : ℕ) → n < frames → frame_lines Y σ.announcement tick (received n) (control n) ≡ arriving_lines Y σ tick n
  run_lines_of tick n lt =
      let sent_words : received n ≡ map (λ i. Some (sent_word Y σ i)) (range_with_len 0 n) = same_words control (λ i. Some (sent_word Y σ i)) 0 n (λ i less. is_sent i (omega arith)) in
      ap (λ ws. frame_lines Y σ.announcement tick ws (control n)) sent_words
      ∙ ap (frame_lines Y σ.announcement tick (map (λ i. Some (sent_word Y σ i)) (range_with_len 0 n))) (is_sent n lt)
      ∙ frame_arrives Y σ prefixes reads n tick each_slow each_fast

  pub run_text : (playout : ℕ) → run_lines Y σ.announcement playout (received frames) ≡ flat_map (λ n. arriving_lines Y σ (n + playout) n) (range_with_len 0 frames)
  unfolding run_lines
  run_text playout =
      let all = received frames in
      let long : length all ≡ frames = length-map-range_with_len control 0 frames in
      let line = λ (n : ℕ). frame_lines Y σ.announcement (n + playout) (take n all) (get_or all n None) in
      ap (λ k. flat_map line (range_with_len 0 k)) long
      ∙ same_over line (λ n. arriving_lines Y σ (n + playout) n) 0 frames
      (λ n less.
      let lt : n < frames = omega arith in
      ap (λ ws. frame_lines Y σ.announcement (n + playout) ws (get_or all n None)) (taken_words control 0 n frames (omega arith))
      ∙ ap (frame_lines Y σ.announcement (n + playout) (received n)) (get_or-map-range_with_len control 0 frames n n None lt (omega arith))
      ∙ run_lines_of (n + playout) n lt)

pub ManagementArrives-holds : ControlIsSent → ChannelsArePrefixes → PrefixesAreRead → ManagementArrives
ManagementArrives-holds sent prefixes reads p h σ records good plain stream unaltered fresh heard =
    let Y = word_size p.option in
    let frames = h + longest_block p in
    let control = control_of_frame p h records in
    let is_sent : (n : ℕ) → n < frames → control n ≡ Some (sent_word Y σ n) = λ n lt. sent p h σ records n good plain stream unaltered fresh (heard n lt) in
    record {
      lines = λ tick n lt. run_lines_of prefixes reads Y σ stream.slow_frames stream.fast_frames control frames is_sent tick n lt;
      text = run_text prefixes reads Y σ stream.slow_frames stream.fast_frames control frames is_sent p.playout;
      slow = slow_pieces Y σ frames;
      fast = fast_pieces Y σ frames;
    }

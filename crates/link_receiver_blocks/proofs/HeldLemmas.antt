-- The containers that are held, and the samples that are read from them.
use Rattle.std.proofs.Common.{◌≡◌, ◌==◌, ℕ, zero, suc, ◌+◌, ◌-◌, ◌*◌, ◌/◌, ◌<◌, ◌≤◌, ◌^◌, Bool, true, false, cond, List, [], ◌∷◌, ◌++◌, length, map, get_or, Option, Some, None, refl, sym, ap, subst, ◌∙◌, arith}
use Rattle.std.specs.Int.{bit_at}
use Rattle.std.specs.List.{HoldsAt, list_any, range_with_len}
use Rattle.std.specs.Option.{is_none}
use Rattle.std.proofs.lemmas.Bool.{eqb-true, lt-ltb, eq-eqb, ne_eqb, false_from_ne_true}
use Rattle.std.proofs.lemmas.List.{get_or_append_left}
use Rattle.std.proofs.lemmas.List.Folds.{list_any_at, list_any_none}
use Rattle.std.proofs.lemmas.List.FromFn.{length-range_with_len, get_or-range_with_len, get_or-map-range_with_len, length-map-range_with_len, map-range_with_len_more}
use Rattle.std.proofs.lemmas.Nat.{mul-le}
use Rattle.std.proofs.lemmas.Nat.Bits.{bit_at_above}
use Rattle.std.proofs.lemmas.Option.{slice_get-get_or}
use Rattle.carrier_plan.specs.declared.plan.Piece.{Piece}
use Rattle.link_base.specs.Bits.{bit_of}
use Rattle.plan_checker.specs.Container.{pieces_size}
use Rattle.plan_checker.specs.Place.{iq_bit}
use Rattle.sample_bits.specs.BlockPlace.{bit_in_block}
use Rattle.sample_bits.specs.Blocks.{sample_in_block}
use Rattle.sample_bits.specs.SampleOfBits.{sample_of_bits}
use Rattle.sample_bits.specs.SampleRate.{IsSampleRate, IsSampleWidth}
use Rattle.sample_bits.specs.declared.iq.RawIq.{RawIq}
use Rattle.sample_bits.proofs.SampleOfBits.{sample_of_bits-same}
use Rattle.link_receiver_blocks.specs.declared.mapping.Mapping.{Mapping}
use Rattle.link_receiver_blocks.specs.Containers.{Container, bit_at_place, container_in, container_played, in_hand_after, LeavesSamples, bit_of_container, container_at, container_bits, container_by, is_marked, place_of_bit, sample_of_block, samples_left, unless_marked}
use Rattle.link_receiver_blocks.specs.Held.{container_held, containers_held, is_missed}
use Rattle.link_receiver_blocks.specs.View.{BlockView}
use Rattle.link_receiver_blocks.proofs.Blocks.{LeaveBetween, in_time, inside, left_below}
use Rattle.link_receiver_blocks.proofs.Masks.{with_bit, with_bit-below, with_bit-there}
use Rattle.link_receiver_blocks.proofs.Spans.{missed_by}

-- ---- numbers one after another

pub list_any-same : (p q : ℕ → Bool) (a n : ℕ) → ((b : ℕ) → a ≤ b → b < a + n → p b ≡ q b) → list_any p (range_with_len a n) ≡ list_any q (range_with_len a n)
list_any-same p q a zero same = refl
list_any-same p q a (suc n) same =
    let first = same a (omega arith) (omega arith) in
    let rest = list_any-same p q (a + 1) n (λ b from below. same b (omega arith) (omega arith)) in
    cc

pub map-same : {A : Type 0} (f g : ℕ → A) (a n : ℕ) → ((b : ℕ) → a ≤ b → b < a + n → f b ≡ g b) → map f (range_with_len a n) ≡ map g (range_with_len a n)
map-same f g a zero same = refl
map-same f g a (suc n) same =
    let first = same a (omega arith) (omega arith) in
    let rest = map-same f g (a + 1) n (λ b from below. same b (omega arith) (omega arith)) in
    cc

-- ---- a container that is held

pub length-containers_held : (size : ℕ) (octets : List ℕ) (missed n : ℕ) → length (containers_held size octets missed n) ≡ n
unfolding containers_held
length-containers_held size octets missed n = length-map-range_with_len (container_held size octets missed) 0 n

container_by-get : (containers : List Container) (p : ℕ) (d : Container) → p < length containers → container_at containers p ≡ get_or containers p d
container_by-get containers p d within = ap container_by (slice_get-get_or containers p d within)

pub container_at-held : (size : ℕ) (octets : List ℕ) (missed n p : ℕ) → p < n → container_at (containers_held size octets missed n) p ≡ container_held size octets missed p
unfolding containers_held
container_at-held size octets missed n p within =
    let f = container_held size octets missed in
    container_by-get (map f (range_with_len 0 n)) p None (omega (arith, length-map-range_with_len f 0 n))
    ∙ get_or-map-range_with_len f 0 n p p None within (omega arith)

is_none-cond : {A : Type 0} (c : Bool) (x : A) → is_none (cond c None (Some x)) ≡ c
is_none-cond true x = refl
is_none-cond false x = refl

-- its bits, where its frame was not missed
held_bit : (size : ℕ) (octets : List ℕ) (missed p x : ℕ) → bit_at missed p == 1 ≡ false → x < size → bit_of_container (container_held size octets missed p) x ≡ bit_of octets (p * size + x)
held_bit size octets missed p x there within =
    let f : ℕ → ℕ = λ b. bit_of octets (p * size + b) in
    ap (λ c. bit_of_container (cond c None (Some (map f (range_with_len 0 size)))) x) there
    ∙ get_or-map-range_with_len f 0 size x x 0 within (omega arith)

-- ---- the samples of a block

joined : (c : Bool) (v sample : RawIq) → (c ≡ false → v ≡ sample) → unless_marked (cond c 1 0) v ≡ cond c None (Some sample)
joined true v sample same = refl
joined false v sample same = ap Some (same refl)

-- A sample whose bits stand in these containers is as they are read, or marked.
module _ (w : Mapping) (containers : List Container) (octets : List ℕ) (start n r : ℕ) (missed : Bool)
    (width : IsSampleWidth w.m) (rate : IsSampleRate w.s w.k) (within : n ≤ w.k) (early : r < samples_left w n)
    (marked : is_marked w containers r ≡ missed)
    (read : missed ≡ false → (p x b : ℕ) → b < 2 * w.m → (place_of_bit w r b).phase ≡ p → p < n → x < container_bits w
    → bit_of_container (container_at containers p) x ≡ bit_of octets (start + (p * container_bits w + x))) where
  pub sample_read : (v : RawIq) → v ≡ sample_in_block w.m (container_bits w) (place_of_bit w r) octets start → unless_marked (cond missed 1 0) v ≡ sample_of_block w containers r
  unfolding sample_of_block
  sample_read v is =
      joined missed v (sample_of_bits w.m (λ b. bit_at_place containers (place_of_bit w r b)))
      (λ there. is ∙ sample_of_bits-same w.m (λ b. bit_of octets (start + bit_in_block (container_bits w) (place_of_bit w r b))) (λ b. bit_at_place containers (place_of_bit w r b))
      (λ b small.
      let place = place_of_bit w r b in
      let all = left_below w n (omega (arith, within, early, rate.some_samples)) within in
      sym (read there place.phase place.bit b small refl (in_time w n r b width rate within early small) (inside w r b width rate (omega arith) small))))
      ∙ ap (λ c. cond c None (Some (sample_of_bits w.m (λ b. bit_at_place containers (place_of_bit w r b))))) (sym marked)

-- Whether a sample is marked that leaves with the containers that are held.
is_marked-held : (w : Mapping) (octets : List ℕ) (missed n r : ℕ) → IsSampleWidth w.m → IsSampleRate w.s w.k → n ≤ w.k → r < samples_left w n
    → is_marked w (containers_held (container_bits w) octets missed n) r ≡ is_missed w missed r
unfolding is_missed
is_marked-held w octets missed n r width rate within early =
    let size = container_bits w in
    let held = containers_held size octets missed n in
    list_any-same (λ b. is_none (container_at held (place_of_bit w r b).phase)) (λ b. bit_at missed (place_of_bit w r b).phase == 1) 0 (2 * w.m)
    (λ b from below.
    let p = (place_of_bit w r b).phase in
    ap is_none (container_at-held size octets missed n p (in_time w n r b width rate within early (omega arith)))
    ∙ is_none-cond (bit_at missed p == 1) (map (λ x. bit_of octets (p * size + x)) (range_with_len 0 size)))

false_not_true : (c : Bool) → c ≡ false → c ≡ true → ⊥
false_not_true c f t = cc

pub held_sample : (w : Mapping) (octets : List ℕ) (missed n r : ℕ) (v : RawIq) → IsSampleWidth w.m → IsSampleRate w.s w.k → n ≤ w.k → r < samples_left w n
    → v ≡ sample_in_block w.m (container_bits w) (place_of_bit w r) octets 0
    → unless_marked (cond (is_missed w missed r) 1 0) v ≡ sample_of_block w (containers_held (container_bits w) octets missed n) r
held_sample w octets missed n r v width rate within early is =
    let size = container_bits w in
    let held = containers_held size octets missed n in
    sample_read w held octets 0 n r (is_missed w missed r) width rate within early (is_marked-held w octets missed n r width rate within early)
    (λ whole p x b small here below inside.
    ap (λ c. bit_of_container c x) (container_at-held size octets missed n p below)
    ∙ held_bit size octets missed p x (false_from_ne_true _ (λ one. false_not_true (is_missed w missed r) whole (missed_by w missed r b small (ap (bit_at missed) here ∙ eqb-true _ 1 one)))) inside
    ∙ ap (bit_of octets) (omega arith))
    v is

-- ---- one more container

pub containers_held-more : (size : ℕ) (octets : List ℕ) (missed n : ℕ) → containers_held size octets missed (n + 1) ≡ containers_held size octets missed n ++ container_held size octets missed n ∷ []
unfolding containers_held
containers_held-more size octets missed n = map-range_with_len_more (container_held size octets missed) 0 n n (omega arith)

-- those before it stay where their bits and those of the mask do
pub containers_held-same : (size : ℕ) (old new : List ℕ) (missed mask n : ℕ) → ((p : ℕ) → p < n → bit_at mask p ≡ bit_at missed p) → ((x : ℕ) → x < n * size → bit_of new x ≡ bit_of old x)
    → containers_held size new mask n ≡ containers_held size old missed n
unfolding containers_held
containers_held-same size old new missed mask n masks bits =
    map-same (container_held size new mask) (container_held size old missed) 0 n
    (λ p from below.
    let early : p < n = omega arith in
    let rows = mul-le (p + 1) size n size (omega arith) (omega arith) in
    ap (λ c. cond (c == 1) None (Some (map (λ b. bit_of new (p * size + b)) (range_with_len 0 size)))) (masks p early)
    ∙ ap (λ (c : List ℕ). cond (bit_at missed p == 1) None (Some c)) (map-same (λ b. bit_of new (p * size + b)) (λ b. bit_of old (p * size + b)) 0 size (λ b low high. bits (p * size + b) (omega arith))))

-- the container of the next frame, whose pieces were copied behind those of the frames before it
pub container_taken : (size : ℕ) (frame : List ℕ) (route : List Piece) (old new : List ℕ) (missed n : ℕ) → pieces_size route ≡ size → missed < 2 ^ n
    → ((b : ℕ) → b < pieces_size route → bit_of new (n * size + b) ≡ bit_of frame (iq_bit route b)) → ((x : ℕ) → x < n * size → bit_of new x ≡ bit_of old x)
    → containers_held size new missed (n + 1) ≡ containers_held size old missed n ++ Some (container_in frame route) ∷ []
container_taken size frame route old new missed n sized small copied before =
    let before_it = containers_held-same size old new missed missed n (λ p _. refl) before in
    let put : ℕ → ℕ = λ b. bit_of new (n * size + b) in
    let bits : map put (range_with_len 0 size) ≡ container_in frame route =
    map-same put (λ b. bit_of frame (iq_bit route b)) 0 size (λ b from below. copied b (omega arith))
    ∙ ap (λ k. map (λ b. bit_of frame (iq_bit route b)) (range_with_len 0 k)) (sym sized) in
    let there : container_held size new missed n ≡ Some (container_in frame route) =
    ap (λ b. cond (b == 1) None (Some (map put (range_with_len 0 size)))) (bit_at_above missed n n small (omega arith)) ∙ ap Some bits in
    containers_held-more size new missed n
    ∙ ap (λ cs. cs ++ container_held size new missed n ∷ []) before_it
    ∙ ap (λ c. containers_held size old missed n ++ c ∷ []) there

-- and that of a frame that was missed
pub container_missed : (size : ℕ) (octets : List ℕ) (missed n : ℕ) → missed < 2 ^ n → n < 128
    → containers_held size octets (with_bit 128 missed 1 n) (n + 1) ≡ containers_held size octets missed n ++ None ∷ []
container_missed size octets missed n small short =
    let mask = with_bit 128 missed 1 n in
    let before_it = containers_held-same size octets octets missed mask n (λ p early. with_bit-below 128 missed 1 n small (omega arith) short p early) (λ x _. refl) in
    let there : container_held size octets mask n ≡ None =
    ap (λ b. cond (b == 1) None (Some (map (λ b. bit_of octets (n * size + b)) (range_with_len 0 size)))) (with_bit-there 128 missed 1 n small (omega arith) short) in
    containers_held-more size octets mask n
    ∙ ap (λ cs. cs ++ container_held size octets mask n ∷ []) before_it
    ∙ ap (λ c. containers_held size octets missed n ++ c ∷ []) there

-- ---- the containers in hand

pub containers_held-none : (size : ℕ) (octets : List ℕ) (missed : ℕ) → containers_held size octets missed 0 ≡ []
unfolding containers_held
containers_held-none size octets missed = refl

pub in_hand_after-whole : (k : ℕ) (containers : List Container) → length containers ≡ k → in_hand_after k containers ≡ []
in_hand_after-whole k containers same = ap (λ b. cond b [] containers) (eq-eqb (length containers) k same)

pub in_hand_after-part : (k : ℕ) (containers : List Container) → (length containers ≡ k → ⊥) → in_hand_after k containers ≡ containers
in_hand_after-part k containers other = ap (λ b. cond b [] containers) (ne_eqb (length containers) k other)

-- ---- a block of one frame, in one piece

module _ (w : Mapping) (piece : Piece) (r : ℕ) (width : IsSampleWidth w.m) (rate : IsSampleRate w.s w.k) (one : w.k ≡ 1) (within : r < w.s) where
  early : r < samples_left w 1
  early = let all : samples_left w 1 ≡ w.s = ap (λ k. 1 * w.s / k) one ∙ omega arith in omega arith

  first_frame : (b : ℕ) → b < 2 * w.m → (place_of_bit w r b).phase ≡ 0
  first_frame b small = let below = in_time w 1 r b width rate (omega arith) early small in omega arith

  pub sample_in_frame : (frame : List ℕ) (v : RawIq) → piece.size ≡ container_bits w → v ≡ sample_in_block w.m (container_bits w) (place_of_bit w r) frame piece.start
      → unless_marked 0 v ≡ sample_of_block w (Some (container_in frame (piece ∷ [])) ∷ []) r
  sample_in_frame frame v sized is =
      let containers : List Container = Some (container_in frame (piece ∷ [])) ∷ [] in
      let numbers = range_with_len 0 (2 * w.m) in
      let marked : is_marked w containers r ≡ false =
      list_any_none (λ b. is_none (container_at containers (place_of_bit w r b).phase)) numbers
      (λ i d h.
      let small : i < 2 * w.m = omega (arith, length-range_with_len 0 (2 * w.m)) in
      ap (λ b. is_none (container_at containers (place_of_bit w r b).phase)) (get_or-range_with_len 0 (2 * w.m) i d small ∙ omega arith)
      ∙ ap (λ p. is_none (container_at containers p)) (first_frame i small)) in
      sample_read w containers frame piece.start 1 r false width rate (omega arith) early marked
      (λ whole p x b small here below inside.
      let zeroth : p ≡ 0 = omega arith in
      let own : x < piece.size = omega arith in
      let place : piece.start + x ≡ piece.start + (p * container_bits w + x) = omega (arith, ap (λ n. n * container_bits w) zeroth) in
      ap (λ n. bit_of_container (container_at containers n) x) zeroth
      ∙ get_or-map-range_with_len (λ c. bit_of frame (iq_bit (piece ∷ []) c)) 0 (pieces_size (piece ∷ [])) x x 0 (omega arith) (omega arith)
      ∙ ap (λ c. bit_of frame (cond c (piece.start + x) (x - piece.size))) (lt-ltb x piece.size own)
      ∙ ap (bit_of frame) place)
      v is

  pub sample_not_there : sample_of_block w (None ∷ []) r ≡ None
  unfolding sample_of_block
  sample_not_there =
      let numbers = range_with_len 0 (2 * w.m) in
      let marked : is_marked w (None ∷ []) r ≡ true =
      list_any_at (λ b. is_none (container_at (None ∷ []) (place_of_bit w r b).phase)) numbers 0 0 (omega (arith, length-range_with_len 0 (2 * w.m)))
      (ap (λ b. is_none (container_at (None ∷ []) (place_of_bit w r b).phase)) (get_or-range_with_len 0 (2 * w.m) 0 0 (omega arith) ∙ omega arith)
      ∙ ap (λ p. is_none (container_at (None ∷ []) p)) (first_frame 0 (omega arith))) in
      ap (λ c. cond c None (Some (sample_of_bits w.m (λ b. bit_at_place (None ∷ []) (place_of_bit w r b))))) marked

-- ---- the samples that leave

pub leaves : (w : Mapping) (containers : List Container) (n first count room marks : ℕ) (out rest : List RawIq) → length containers ≡ n + 1
    → first ≡ samples_left w n → first + count ≡ samples_left w (n + 1) → count ≤ 32 → room ≡ count → length out ≡ room
    → ((i : ℕ) → i < room → HoldsAt (λ v. unless_marked (bit_at marks i) v ≡ sample_of_block w containers (first + i)) out i)
    → marks < 2 ^ room
    → LeavesSamples w containers (record { first = first; count = count; marks = marks }) (out ++ rest)
leaves w containers n first count room marks out rest many begin end few whole long read no_others =
    let before : length containers - 1 ≡ n = omega arith in
    record {
      first = begin ∙ ap (samples_left w) (sym before);
      count = end ∙ ap (samples_left w) (sym many);
      few = few;
      read = λ i h d.
          let within : i < length out = omega arith in
          subst (λ v. unless_marked (bit_at marks i) v ≡ sample_of_block w containers (first + i)) (sym (get_or_append_left out rest d i within)) (read i (omega arith) d);
      no_other_marks = subst (λ k. marks < 2 ^ k) whole no_others;
    }

-- the view of a block of one frame, which is whole with each frame
pub none_in_hand : (k size : ℕ) (octets : List ℕ) (missed played : ℕ) → k ≡ 1 → played < k → containers_held size octets missed played ≡ []
none_in_hand k size octets missed played one under_way =
    let none : played ≡ 0 = omega arith in
    ap (containers_held size octets missed) none ∙ containers_held-none size octets missed

pub whole_again : (w : Mapping) (size : ℕ) (octets : List ℕ) (missed played : ℕ) (next : Container) → w.k ≡ 1 → played < w.k
    → let before = containers_held size octets missed played in
    let v : BlockView = record { mapping = w; containers = before } in v ≡ record { mapping = w; containers = in_hand_after w.k (before ++ next ∷ []) }
whole_again w size octets missed played next one under_way =
    let none = none_in_hand w.k size octets missed played one under_way in
    let one_more : length (containers_held size octets missed played ++ next ∷ []) ≡ w.k = ap (λ cs. length (cs ++ next ∷ [])) none ∙ sym one in
    let shown : List Container → BlockView = λ cs. record { mapping = w; containers = cs } in
    ap shown (none ∙ sym (in_hand_after-whole w.k (containers_held size octets missed played ++ next ∷ []) one_more))

-- Samples that are read from the containers with the one that was taken are those that leave with it.
pub leaves_gathered : (w : Mapping) (size : ℕ) (octets lent new : List ℕ) (missed mask played first end room marks : ℕ) (next : Container) (out rest : List RawIq)
    → size ≡ container_bits w → lent ≡ octets → LeaveBetween w played first end
    → containers_held size new mask (played + 1) ≡ containers_held size lent missed played ++ next ∷ []
    → room ≡ end - first → length out ≡ room
    → ((i : ℕ) → i < room → HoldsAt (λ v. unless_marked (bit_at marks i) v ≡ sample_of_block w (containers_held (container_bits w) new mask (played + 1)) (first + i)) out i)
    → marks < 2 ^ room
    → LeavesSamples w (containers_held size octets missed played ++ next ∷ []) (record { first = first; count = end - first; marks = marks }) (out ++ rest)
leaves_gathered w size octets lent new missed mask played first end room marks next out rest sized same between taken whole long read no_others =
    let after = containers_held size new mask (played + 1) in
    let is : containers_held (container_bits w) new mask (played + 1) ≡ containers_held size octets missed played ++ next ∷ [] =
    ap (λ n. containers_held n new mask (played + 1)) (sym sized) ∙ taken ∙ ap (λ l. containers_held size l missed played ++ next ∷ []) same in
    let many = length-containers_held (container_bits w) new mask (played + 1) in
    let order = between.order in
    let few = between.few in
    subst (λ cs. LeavesSamples w cs (record { first = first; count = end - first; marks = marks }) (out ++ rest)) is
    (leaves w (containers_held (container_bits w) new mask (played + 1)) played first (end - first) room marks out rest many between.first_is
    (let e : first + (end - first) ≡ end = omega arith in e ∙ between.end_is) (omega arith) whole long read no_others)

-- The same of the only container of a block, that is read where it lies.
pub leaves_in_place : (w : Mapping) (size : ℕ) (octets : List ℕ) (missed played first end room marks : ℕ) (frame : Option (List ℕ)) (piece : Piece) (route : List Piece) (out rest : List RawIq)
    → w.k ≡ 1 → played < w.k → LeaveBetween w played first end → piece ∷ [] ≡ route
    → room ≡ end - first → length out ≡ room
    → ((i : ℕ) → i < room → HoldsAt (λ v. unless_marked (bit_at marks i) v ≡ sample_of_block w (container_played frame (piece ∷ []) ∷ []) i) out i)
    → marks < 2 ^ room
    → LeavesSamples w (containers_held size octets missed played ++ container_played frame route ∷ []) (record { first = first; count = end - first; marks = marks }) (out ++ rest)
leaves_in_place w size octets missed played first end room marks frame piece route out rest one under_way between only whole long read no_others =
    let alone : List Container = container_played frame (piece ∷ []) ∷ [] in
    let is : alone ≡ containers_held size octets missed played ++ container_played frame route ∷ [] =
    ap (λ p. container_played frame p ∷ []) only ∙ ap (λ cs. cs ++ container_played frame route ∷ []) (sym (none_in_hand w.k size octets missed played one under_way)) in
    let begin : played ≡ 0 = omega arith in
    let zeroth : first ≡ 0 = between.first_is ∙ ap (λ n. n * w.s / w.k) begin ∙ ap (λ k. 0 * w.s / k) one ∙ omega arith in
    let many : 1 ≡ played + 1 = omega arith in
    let order = between.order in
    let few = between.few in
    subst (λ cs. LeavesSamples w cs (record { first = first; count = end - first; marks = marks }) (out ++ rest)) is
    (leaves w alone played first (end - first) room marks out rest many between.first_is
    (let e : first + (end - first) ≡ end = omega arith in e ∙ between.end_is) (omega arith) whole long
    (λ i h d.
    let place : i ≡ first + i = omega arith in
    subst (λ r. unless_marked (bit_at marks i) (get_or out i d) ≡ sample_of_block w alone r) place (read i h d))
    no_others)

-- Each test of the plain program decides what its rule says.
use Rattle.std.proofs.Common.{◌≡◌, ◌≢◌, ℕ, ◌+◌, ◌-◌, ◌<◌, ◌≤◌, ◌*◌, ◌/◌, ◌%◌, IsTrue, All, count_by, slice_index, Bool, true, false, not, ◌&&◌, ◌||◌, nat_le, List, [], ◌∷◌, length, zero, suc, arith, refl, sym, subst, ◌∙◌, Decides, inl, inr}
use Rattle.std.specs.Int.{◌∣◌}
use Rattle.std.specs.List.{HoldsAt, AllWithin, AllPairs, list_all, range_with_len}
use Rattle.std.specs.List.Sorted.{IsStrictlyIncreasing}
use Rattle.std.proofs.lemmas.Bool.{cases_lt, false≢true}
use Rattle.std.proofs.lemmas.Bool.Decides.{Decides-eqb, Decides-ltb, Decides-and, Decides-by_and, Decides-like, Decides-not, leb_tells}
use Rattle.std.proofs.lemmas.Nat.Gcd.{dvd-zero, dvd_of_mod-eq-zero, mod-eq-zero_of_dvd, le_of_dvd}
use Rattle.carrier_plan.specs.declared.plan.Carrier.{Carrier}
use Rattle.carrier_plan.specs.declared.plan.Flow.{Flow}
use Rattle.carrier_plan.specs.declared.plan.Mode.{Mode}
use Rattle.carrier_plan.specs.declared.plan.Mode.TheVariants.{Tunnel, Bytes, Aware}
use Rattle.carrier_plan.specs.declared.plan.Piece.{Piece}
use Rattle.carrier_plan.specs.declared.plan.Plan.{Plan}
use Rattle.plan_checker.specs.WordSize.{iq_bits}
use Rattle.sample_bits.specs.SampleRate.{IsCoprime}
use Rattle.plan_checker.specs.SampleRate.{HasSampleRate, HasSampleWidth}
use Rattle.plan_checker.specs.Container.{IsInPiece, SharesNoBit, SharesNoPiece, HasPrescribedSize, HasSeparateBits, LiesWithin, container_size, prescribed_size}
use Rattle.link_base.specs.Window.{most_held}
use Rattle.plan_checker.specs.Flows.{CarriesWholeFrames, IsOneWholeFlow, SharesOutCarriers, HasPayload, lists, octets_of_frame}
use Rattle.plan_checker.specs.Timing.{HasWindow, IsPlayedInTime, HasSequenceNumbers, HasRoom}
use Rattle.plan_checker.specs.Rules.{Rule, HasCounts, Holds, IsMetBelow, number_of, item_count}
use Rattle.plan_checker.specs.Rules.Rule.{LineOption, Counts, WholeFrames, SampleRate, SampleWidth, ContainerSize, ContainerEnd, SeparateBits, SharedOut, PayloadSize, ArrivalWindow, PlayedInTime, SequenceNumbers, BufferRoom}
use Rattle.plan_checker.specs.Verdict.{all_below, test_at, divides, is_coprime, has_sample_rate, has_sample_width, has_prescribed_size, lies_within, is_in_piece, shares_no_bit, has_separate_pieces, shares_no_piece, has_separate_bits, has_counts, is_count_to, is_one_whole_flow, carries_whole_frames, has_distinct_ids, is_ascending, shares_out_carriers, has_payload, has_window, is_played_in_time, has_sequence_numbers, has_room, holds}
use Rattle.plan_checker.proofs.Counting.{range-from_places, places-from_range}
use Rattle.plan_checker.proofs.Held.{IsMostHeld-quotient}

up_to_suc : (P : ℕ → Type 0) (n : ℕ) → P n → ((k : ℕ) → k < n → P k) → (k : ℕ) → k < suc n → P k
up_to_suc P n here below k lt =
    elim (cases_lt k n) [
      | inl less ↦ below k less
      | inr more ↦ let same : n ≡ k = omega arith in subst P same here
    ]

pub Decides-all_below : (test : ℕ → Bool) (P : ℕ → Type 0) (n : ℕ) → ((k : ℕ) → k < n → Decides (test k) (P k)) → Decides (all_below test n) ((k : ℕ) → k < n → P k)
Decides-all_below test P zero each = (λ e k lt. absurd (omega arith), λ h. refl)
Decides-all_below test P (suc n) each =
    let here = each n (omega arith) in
    let below = Decides-all_below test P n (λ k lt. each k (omega arith)) in
    Decides-like _ (λ h. up_to_suc P n h.0 h.1) (λ h. (h n (omega arith), λ k lt. h k (omega arith))) (Decides-and (test n) (all_below test n) here below)

pub Decides-leb : (a b : ℕ) → Decides (nat_le a b) (a ≤ b)
Decides-leb a b =
    elim (leb_tells a b) [
      | inl h ↦ (λ _. h.1, λ _. h.0)
      | inr h ↦ (λ e. absurd (false≢true (sym h.0 ∙ e)), λ le. absurd (omega arith))
    ]

Decides-implies : {P Q R : Type 0} (x y z : Bool) → Decides x P → Decides y Q → Decides z R → Decides (not (x && y) || z) (P → Q → R)
Decides-implies true true true p q r = (λ _ _ _. r.0 refl, λ _. refl)
Decides-implies true true false p q r = (λ e. absurd (false≢true e), λ h. r.1 (h (p.0 refl) (q.0 refl)))
Decides-implies true false z p q r = (λ _ _ yes. absurd (false≢true (q.1 yes)), λ _. refl)
Decides-implies false y z p q r = (λ _ yes. absurd (false≢true (p.1 yes)), λ _. refl)

Decides-not_both : {P Q : Type 0} (x y : Bool) → Decides x P → Decides y Q → Decides (not (x && y)) (P → ¬ Q)
Decides-not_both true true p q = (λ e. absurd (false≢true e), λ h. absurd (h (p.0 refl) (q.0 refl)))
Decides-not_both true false p q = (λ _ _ yes. false≢true (q.1 yes), λ _. refl)
Decides-not_both false y p q = (λ _ yes. absurd (false≢true (p.1 yes)), λ _. refl)

pub Decides-test_at : {A : Type 0} (test : A → Bool) (P : A → Type 0) → ((x : A) → Decides (test x) (P x)) → (xs : List A) (i : ℕ) → i < length xs → Decides (test_at test xs i) (HoldsAt P xs i)
Decides-test_at test P each [] i lt = absurd (omega arith)
Decides-test_at test P each (x ∷ xs) zero lt = (λ e d. (each x).0 e, λ h. (each x).1 (h x))
Decides-test_at test P each (x ∷ xs) (suc i) lt = Decides-test_at test P each xs i (omega arith)

-- the same of the item at the place alone
Decides-test_there : {A : Type 0} (test : A → Bool) (P : A → Type 0) (xs : List A) (i : ℕ) → i < length xs → ((x : A) → HoldsAt (λ y. y ≡ x) xs i → Decides (test x) (P x)) → Decides (test_at test xs i) (HoldsAt P xs i)
Decides-test_there test P [] i lt each = absurd (omega arith)
Decides-test_there test P (x ∷ xs) zero lt each = let here = each x (λ d. refl) in (λ e d. here.0 e, λ h. here.1 (h x))
Decides-test_there test P (x ∷ xs) (suc i) lt each = Decides-test_there test P xs i (omega arith) each

Decides-divides : (d n : ℕ) → Decides (divides d n) (d ∣ n)
Decides-divides d n = Decides-like _ (dvd_of_mod-eq-zero d) (mod-eq-zero_of_dvd d) (Decides-eqb (n % d) 0)

-- a common divisor is not above both numbers, unless both are 0
abbrev BoundedCoprime : ℕ → ℕ → Type 0
BoundedCoprime a b = (d : ℕ) → d < a + b + 1 → d ∣ a → d ∣ b → d ≡ 1

coprime_from_bounded : (a b : ℕ) → BoundedCoprime a b → IsCoprime a b
coprime_from_bounded zero zero h d in_a in_b = absurd (let e = h 0 (omega arith) (dvd-zero 0) (dvd-zero 0) in omega arith)
coprime_from_bounded zero (suc b) h d in_a in_b = h d (let le = le_of_dvd {m = d} {n = suc b} (omega arith) in_b in omega arith) in_a in_b
coprime_from_bounded (suc a) b h d in_a in_b = h d (let le = le_of_dvd {m = d} {n = suc a} (omega arith) in_a in omega arith) in_a in_b

pub Decides-is_coprime : (a b : ℕ) → Decides (is_coprime a b) (IsCoprime a b)
Decides-is_coprime a b =
    Decides-like _ (coprime_from_bounded a b) (λ h d _. h d) (Decides-all_below _ (λ d. d ∣ a → d ∣ b → d ≡ 1) (a + b + 1) (λ d _. Decides-implies _ _ _ (Decides-divides d a) (Decides-divides d b) (Decides-eqb d 1)))

pub Decides-has_sample_rate : (c : Carrier) → Decides (has_sample_rate c) (HasSampleRate c)
Decides-has_sample_rate c =
    Decides-like _
    (λ h. record { divides = h.0; short = h.1.0; some_samples = h.1.1.0; slow = h.1.1.1.0; lowest_terms = h.1.1.1.1 })
    (λ h. (h.divides, (h.short, (h.some_samples, (h.slow, h.lowest_terms)))))
    (Decides-and _ _ (Decides-divides c.k 38_400) (Decides-and _ _ (Decides-leb c.k 96) (Decides-and _ _ (Decides-leb 1 c.s) (Decides-and _ _ (Decides-leb c.s (32 * c.k)) (Decides-is_coprime c.s c.k)))))

pub Decides-has_sample_width : (c : Carrier) → Decides (has_sample_width c) (HasSampleWidth c)
Decides-has_sample_width c = Decides-and _ _ (Decides-leb 4 c.m) (Decides-leb c.m 20)

Decides-is_in_piece : (x : ℕ) (p : Piece) → Decides (is_in_piece x p) (IsInPiece x p)
Decides-is_in_piece x p = Decides-and _ _ (Decides-leb p.start x) (Decides-ltb x (p.start + p.size))

pub Decides-shares_no_bit : (a b : Piece) → Decides (shares_no_bit a b) (SharesNoBit a b)
Decides-shares_no_bit a b =
    Decides-like _
    (λ h. record { apart = λ x in_a in_b. h x in_a.1 in_a in_b })
    (λ h x _. h.apart x)
    (Decides-all_below _ (λ x. IsInPiece x a → ¬ IsInPiece x b) (a.start + a.size) (λ x _. Decides-not_both _ _ (Decides-is_in_piece x a) (Decides-is_in_piece x b)))

pub Decides-list_all : {X : Type 0} (test : X → Bool) (P : X → Type 0) → ((x : X) → Decides (test x) (P x)) → (xs : List X) → Decides (list_all test xs) (All P xs)
Decides-list_all test P each xs = Decides-by_and test P (list_all test) each refl (λ _ _. refl) xs

AllPairs-cons : {X : Type 0} (R : X → X → Type 0) (x : X) (xs : List X) → All (R x) xs → AllPairs R xs → AllPairs R (x ∷ xs)
AllPairs-cons R x xs here rest zero zero d lt in_range = absurd (omega arith)
AllPairs-cons R x xs here rest zero (suc j) d lt in_range = here j d (omega arith)
AllPairs-cons R x xs here rest (suc i) zero d lt in_range = absurd (omega arith)
AllPairs-cons R x xs here rest (suc i) (suc j) d lt in_range = rest i j d (omega arith) (omega arith)

Decides-has_prescribed_size : (c : Carrier) → Decides (has_prescribed_size c) (HasPrescribedSize c)
Decides-has_prescribed_size c =
    Decides-like _
    (λ h. record { some_pieces = h.0; few_pieces = h.1.0; no_empty_piece = h.1.1.0; prescribed = h.1.1.1 })
    (λ h. (h.some_pieces, (h.few_pieces, (h.no_empty_piece, h.prescribed))))
    (Decides-and _ _ (Decides-leb 1 (length c.pieces)) (Decides-and _ _ (Decides-leb (length c.pieces) 4) (Decides-and _ _
    (Decides-list_all _ (λ (p : Piece). 1 ≤ p.size) (λ p. Decides-leb 1 p.size) c.pieces)
    (Decides-eqb (container_size c) (prescribed_size c)))))

Decides-lies_within : (n : ℕ) (c : Carrier) → Decides (lies_within n c) (LiesWithin n c)
Decides-lies_within n c = Decides-list_all _ (λ (p : Piece). p.start + p.size ≤ n) (λ p. Decides-leb (p.start + p.size) n) c.pieces

Decides-has_separate_pieces : (ps : List Piece) → Decides (has_separate_pieces ps) (AllPairs SharesNoBit ps)
Decides-has_separate_pieces [] = (λ _ i j d lt in_range. absurd (omega arith), λ _. refl)
Decides-has_separate_pieces (p ∷ ps) =
    Decides-like _
    (λ h. AllPairs-cons SharesNoBit p ps h.0 h.1)
    (λ h. (λ j d lt. h 0 (suc j) d (omega arith) (omega arith), λ i j d lt in_range. h (suc i) (suc j) d (omega arith) (omega arith)))
    (Decides-and _ _ (Decides-list_all _ (SharesNoBit p) (Decides-shares_no_bit p) ps) (Decides-has_separate_pieces ps))

Decides-shares_no_piece : (earlier pieces : List Piece) → Decides (shares_no_piece earlier pieces) (SharesNoPiece earlier pieces)
Decides-shares_no_piece earlier pieces =
    Decides-like _
    (λ h. record { apart = h })
    (λ h. h.apart)
    (Decides-list_all _ (λ a. All (SharesNoBit a) pieces) (λ a. Decides-list_all _ (SharesNoBit a) (Decides-shares_no_bit a) pieces) earlier)

Decides-apart : (cs : List Carrier) (c : Carrier) (i : ℕ) → i < length cs → Decides (all_below (λ j. test_at (λ earlier. shares_no_piece earlier.pieces c.pieces) cs j) i) (AllWithin (λ earlier. SharesNoPiece earlier.pieces c.pieces) cs 0 i)
Decides-apart cs c i lt =
    Decides-like _
    (λ h k d _ below. h k below d)
    (λ h k below d. h k d (omega arith) below)
    (Decides-all_below _ (HoldsAt (λ earlier. SharesNoPiece earlier.pieces c.pieces) cs) i (λ k below. Decides-test_at _ (λ earlier. SharesNoPiece earlier.pieces c.pieces) (λ earlier. Decides-shares_no_piece earlier.pieces c.pieces) cs k (omega arith)))

Decides-has_separate_bits : (cs : List Carrier) (i : ℕ) → i < length cs → (c : Carrier) → Decides (has_separate_bits cs i c) (HasSeparateBits cs i c)
Decides-has_separate_bits cs i lt c =
    Decides-like _
    (λ h. record { own = h.0; others = h.1 })
    (λ h. (h.own, h.others))
    (Decides-and _ _ (Decides-has_separate_pieces c.pieces) (Decides-apart cs c i lt))

Decides-has_counts : (p : Plan) → Decides (has_counts p) (HasCounts p)
Decides-has_counts p =
    Decides-like _
    (λ h. record { some_carriers = h.0; few_carriers = h.1.0; some_flows = h.1.1.0; few_flows = h.1.1.1 })
    (λ h. (h.some_carriers, (h.few_carriers, (h.some_flows, h.few_flows))))
    (Decides-and _ _ (Decides-leb 1 (length p.carriers)) (Decides-and _ _ (Decides-leb (length p.carriers) 64) (Decides-and _ _ (Decides-leb 1 (length p.flows)) (Decides-leb (length p.flows) 8))))

Decides-itself : (b : Bool) → Decides b (IsTrue b)
Decides-itself b = (λ e. e, λ e. e)

Decides-is_count_to : (n : ℕ) (numbers : List ℕ) → Decides (is_count_to n numbers) (numbers ≡ range_with_len 0 n)
Decides-is_count_to n numbers =
    Decides-like _
    (λ h. range-from_places numbers n h.0 h.1)
    (λ e. places-from_range numbers n e)
    (Decides-and _ _ (Decides-eqb (length numbers) n) (Decides-all_below _ (λ k. slice_index numbers k ≡ k) n (λ k _. Decides-eqb (slice_index numbers k) k)))

Decides-is_one_whole_flow : (flows : List Flow) (n : ℕ) → Decides (is_one_whole_flow flows n) (IsOneWholeFlow flows n)
Decides-is_one_whole_flow flows n =
    Decides-like _
    (λ h. record { one = h.0; control = h.1.0; whole = h.1.1 })
    (λ h. (h.one, (h.control, h.whole)))
    (Decides-and _ _ (Decides-eqb (length flows) 1) (Decides-and _ _
    (Decides-list_all _ (λ f. IsTrue f.control) (λ f. Decides-itself f.control) flows)
    (Decides-list_all _ (λ f. f.carriers ≡ range_with_len 0 n) (λ f. Decides-is_count_to n f.carriers) flows)))

Decides-carries_whole_frames : (mode : Mode) (flows : List Flow) (n : ℕ) → Decides (carries_whole_frames mode flows n) (CarriesWholeFrames mode flows n)
Decides-carries_whole_frames Tunnel flows n = Decides-is_one_whole_flow flows n
Decides-carries_whole_frames Bytes flows n = Decides-is_one_whole_flow flows n
Decides-carries_whole_frames Aware flows n = (λ _. tt, λ _. refl)

Decides-has_distinct_ids : (flows : List Flow) → Decides (has_distinct_ids flows) (AllPairs (λ f g. f.id ≢ g.id) flows)
Decides-has_distinct_ids [] = (λ _ i j d lt in_range. absurd (omega arith), λ _. refl)
Decides-has_distinct_ids (f ∷ fs) =
    Decides-like _
    (λ h. AllPairs-cons (λ a b. a.id ≢ b.id) f fs h.0 h.1)
    (λ h. (λ j d lt. h 0 (suc j) d (omega arith) (omega arith), λ i j d lt in_range. h (suc i) (suc j) d (omega arith) (omega arith)))
    (Decides-and _ _
    (Decides-list_all _ (λ (g : Flow). f.id ≢ g.id) (λ g. Decides-not _ (Decides-eqb f.id g.id)) fs)
    (Decides-has_distinct_ids fs))

Decides-is_ascending : (numbers : List ℕ) → Decides (is_ascending numbers) (IsStrictlyIncreasing numbers)
Decides-is_ascending numbers =
    Decides-like _
    (λ h k lt. h k (omega arith))
    (λ h k lt. h k (omega arith))
    (Decides-all_below _ (λ k. slice_index numbers k < slice_index numbers (k + 1)) (length numbers - 1) (λ k _. Decides-ltb (slice_index numbers k) (slice_index numbers (k + 1))))

Decides-shares_out_carriers : (flows : List Flow) (n : ℕ) → Decides (shares_out_carriers flows n) (SharesOutCarriers flows n)
Decides-shares_out_carriers flows n =
    Decides-like _
    (λ h. record { small_ids = h.0; distinct_ids = h.1.0; ascending = h.1.1.0; known = h.1.1.1.0; one_flow = h.1.1.1.1.0; one_control = h.1.1.1.1.1 })
    (λ h. (h.small_ids, (h.distinct_ids, (h.ascending, (h.known, (h.one_flow, h.one_control))))))
    (Decides-and _ _ (Decides-list_all _ (λ (f : Flow). f.id ≤ 255) (λ f. Decides-leb f.id 255) flows)
    (Decides-and _ _ (Decides-has_distinct_ids flows)
    (Decides-and _ _ (Decides-list_all _ (λ (f : Flow). IsStrictlyIncreasing f.carriers) (λ f. Decides-is_ascending f.carriers) flows)
    (Decides-and _ _ (Decides-list_all _ (λ (f : Flow). All (λ c. c < n) f.carriers) (λ f. Decides-list_all _ (λ c. c < n) (λ c. Decides-ltb c n) f.carriers) flows)
    (Decides-and _ _ (Decides-all_below _ (λ c. count_by (lists c) flows ≡ 1) n (λ c _. Decides-eqb (count_by (lists c) flows) 1))
    (Decides-eqb (count_by (λ (f : Flow). f.control) flows) 1))))))

Decides-has_payload : (p : Plan) (f : Flow) → Decides (has_payload p f) (HasPayload p f)
Decides-has_payload p f =
    let octets = f.frames * octets_of_frame p f in
    Decides-like _
    (λ h. record { some_frames = h.0; few_frames = h.1.0; some_octets = h.1.1.0; few_octets = h.1.1.1 })
    (λ h. (h.some_frames, (h.few_frames, (h.some_octets, h.few_octets))))
    (Decides-and _ _ (Decides-leb 1 f.frames) (Decides-and _ _ (Decides-leb f.frames 64) (Decides-and _ _ (Decides-leb 1 octets) (Decides-leb octets 1_492))))

Decides-has_window : (f : Flow) → Decides (has_window f) (HasWindow f)
Decides-has_window f = Decides-and _ _ (Decides-leb f.lmin f.lmax) (Decides-leb f.lmax 100_000)

Decides-is_played_in_time : (playout : ℕ) (f : Flow) → Decides (is_played_in_time playout f) (IsPlayedInTime playout f)
Decides-is_played_in_time playout f = Decides-and _ _ (Decides-leb (f.frames - 1 + f.lmax) playout) (Decides-leb playout 200_000)

Decides-has_sequence_numbers : (f : Flow) → Decides (has_sequence_numbers f) (HasSequenceNumbers f)
Decides-has_sequence_numbers f =
    Decides-like _
    (λ h. record { some_p = h.0; small_p = h.1.0; some_q = h.1.1.0; small_q = h.1.1.1.0; enough = h.1.1.1.1 })
    (λ h. (h.some_p, (h.small_p, (h.some_q, (h.small_q, h.enough)))))
    (Decides-and _ _ (Decides-leb 1 f.p) (Decides-and _ _ (Decides-leb f.p 65_536) (Decides-and _ _ (Decides-leb 1 f.q) (Decides-and _ _ (Decides-leb f.q 65_536) (Decides-ltb ((f.lmax - f.lmin) / f.frames) (f.p * f.q))))))

-- of a flow with frames whose packets may arrive before they are played
pub Decides-has_room : (playout : ℕ) (f : Flow) → 1 ≤ f.frames → f.lmin ≤ playout → Decides (has_room playout f) (HasRoom playout f)
Decides-has_room playout f frames order =
    let most = IsMostHeld-quotient f.frames f.lmin playout frames order in
    Decides-like _
    (λ h. record { some = h.0; small = h.1.0; enough = λ t n c. let bound = most.bound t n c in let room = h.1.1 in omega arith })
    (λ h. (h.some, (h.small, h.enough most.reached_at (most_held f.frames f.lmin playout) most.reached)))
    (Decides-and _ _ (Decides-leb 1 f.cap) (Decides-and _ _ (Decides-leb f.cap 4_096) (Decides-leb (most_held f.frames f.lmin playout) f.cap)))

-- the same at a place in a plan that meets the rules before
Decides-room_at : (p : Plan) → IsMetBelow p 14 → (i : ℕ) → i < length p.flows → Decides (test_at (has_room p.playout) p.flows i) (HoldsAt (HasRoom p.playout) p.flows i)
Decides-room_at p met i lt =
    Decides-test_there (has_room p.playout) (HasRoom p.playout) p.flows i lt (λ f at.
    let payload : HasPayload p f = subst (HasPayload p) (at f) (met PayloadSize (omega arith) i lt f) in
    let window : HasWindow f = subst HasWindow (at f) (met ArrivalWindow (omega arith) i lt f) in
    let played : IsPlayedInTime p.playout f = subst (IsPlayedInTime p.playout) (at f) (met PlayedInTime (omega arith) i lt f) in
    Decides-has_room p.playout f payload.some_frames (omega (arith, window.0, played.0)))

-- the test of a rule decides it where the rules before hold
pub Decides-holds : (p : Plan) (r : Rule) → IsMetBelow p (number_of r) → (i : ℕ) → i < item_count p r → Decides (holds p r i) (Holds p r i)
Decides-holds p LineOption met i lt = Decides-and _ _ (Decides-leb 1 p.option) (Decides-leb p.option 7)
Decides-holds p Counts met i lt = Decides-has_counts p
Decides-holds p WholeFrames met i lt = Decides-carries_whole_frames p.mode p.flows (length p.carriers)
Decides-holds p SampleRate met i lt = Decides-test_at has_sample_rate HasSampleRate Decides-has_sample_rate p.carriers i lt
Decides-holds p SampleWidth met i lt = Decides-test_at has_sample_width HasSampleWidth Decides-has_sample_width p.carriers i lt
Decides-holds p ContainerSize met i lt = Decides-test_at has_prescribed_size HasPrescribedSize Decides-has_prescribed_size p.carriers i lt
Decides-holds p ContainerEnd met i lt = Decides-test_at _ (LiesWithin (iq_bits p.option)) (Decides-lies_within (iq_bits p.option)) p.carriers i lt
Decides-holds p SeparateBits met i lt = Decides-test_at _ (HasSeparateBits p.carriers i) (Decides-has_separate_bits p.carriers i lt) p.carriers i lt
Decides-holds p SharedOut met i lt = Decides-shares_out_carriers p.flows (length p.carriers)
Decides-holds p PayloadSize met i lt = Decides-test_at _ (HasPayload p) (Decides-has_payload p) p.flows i lt
Decides-holds p ArrivalWindow met i lt = Decides-test_at _ HasWindow Decides-has_window p.flows i lt
Decides-holds p PlayedInTime met i lt = Decides-test_at _ (IsPlayedInTime p.playout) (Decides-is_played_in_time p.playout) p.flows i lt
Decides-holds p SequenceNumbers met i lt = Decides-test_at _ HasSequenceNumbers Decides-has_sequence_numbers p.flows i lt
Decides-holds p BufferRoom met i lt = Decides-room_at p met i lt

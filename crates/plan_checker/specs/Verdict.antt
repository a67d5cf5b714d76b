-- The rules as tests that compute: a plain program that gives the verdict on a plan.
use Rattle.std.specs.Prelude.{ℕ, zero, suc, ◌+◌, ◌*◌, ◌%◌, ◌==◌, nat_le, nat_lt, Bool, true, not, ◌&&◌, ◌||◌, cond, List, [], ◌∷◌, length, count_by, slice_index, ◌-◌, ◌/◌, Option, Some, None}
use Rattle.std.specs.Option.{option_or}
use Rattle.std.specs.List.{list_all}
use Rattle.carrier_plan.specs.declared.plan.Carrier.{Carrier}
use Rattle.carrier_plan.specs.declared.plan.Flow.{Flow}
use Rattle.carrier_plan.specs.declared.plan.Mode.{Mode}
use Rattle.carrier_plan.specs.declared.plan.Mode.TheVariants.{Tunnel, Bytes, Aware}
use Rattle.carrier_plan.specs.declared.plan.Piece.{Piece}
use Rattle.carrier_plan.specs.declared.plan.Plan.{Plan}
use Rattle.plan_checker.specs.WordSize.{iq_bits}
use Rattle.plan_checker.specs.Container.{container_size, prescribed_size}
use Rattle.plan_checker.specs.Flows.{lists, octets_of_frame}
use Rattle.link_base.specs.Window.{most_held}
use Rattle.plan_checker.specs.Rules.{Rule, number_of, item_count}
use Rattle.plan_checker.specs.Rules.Rule.{LineOption, Counts, WholeFrames, SampleRate, SampleWidth, ContainerSize, ContainerEnd, SeparateBits, SharedOut, PayloadSize, ArrivalWindow, PlayedInTime, SequenceNumbers, BufferRoom}

-- what `check` says: every rule holds, or the number of the first rule that fails and the item that it fails at
pub data Verdict : Type 0 where
  Good : Verdict
  Fails : (number item : ℕ) → Verdict

-- the test passes at each number below n
abbrev pub all_below : (ℕ → Bool) → ℕ → Bool
all_below test zero = true
all_below test (suc n) = test n && all_below test n

-- the least number below n at which the test does not pass
abbrev pub first_false : (ℕ → Bool) → ℕ → Option ℕ
first_false test zero = None
first_false test (suc n) = option_or (first_false test n) (cond (test n) None (Some n))

-- the test passes at the carrier or flow in place i
abbrev pub test_at : {A : Type 0} → (A → Bool) → List A → ℕ → Bool
test_at test [] i = true
test_at test (x ∷ xs) zero = test x
test_at test (x ∷ xs) (suc i) = test_at test xs i

abbrev pub divides : ℕ → ℕ → Bool
divides d n = n % d == 0

abbrev pub is_coprime : ℕ → ℕ → Bool
is_coprime a b = all_below (λ d. not (divides d a && divides d b) || d == 1) (a + b + 1)

abbrev pub has_sample_rate : Carrier → Bool
has_sample_rate c = divides c.k 38_400 && (nat_le c.k 96 && (nat_le 1 c.s && (nat_le c.s (32 * c.k) && is_coprime c.s c.k)))

abbrev pub has_sample_width : Carrier → Bool
has_sample_width c = nat_le 4 c.m && nat_le c.m 20

abbrev pub has_prescribed_size : Carrier → Bool
has_prescribed_size c = nat_le 1 (length c.pieces) && (nat_le (length c.pieces) 4 && (list_all (λ p. nat_le 1 p.size) c.pieces && container_size c == prescribed_size c))

abbrev pub lies_within : ℕ → Carrier → Bool
lies_within n c = list_all (λ p. nat_le (p.start + p.size) n) c.pieces

abbrev pub is_in_piece : ℕ → Piece → Bool
is_in_piece x p = nat_le p.start x && nat_lt x (p.start + p.size)

abbrev pub shares_no_bit : Piece → Piece → Bool
shares_no_bit a b = all_below (λ x. not (is_in_piece x a && is_in_piece x b)) (a.start + a.size)

abbrev pub has_separate_pieces : List Piece → Bool
has_separate_pieces [] = true
has_separate_pieces (p ∷ ps) = list_all (shares_no_bit p) ps && has_separate_pieces ps

abbrev pub shares_no_piece : List Piece → List Piece → Bool
shares_no_piece earlier pieces = list_all (λ a. list_all (shares_no_bit a) pieces) earlier

abbrev pub has_separate_bits : List Carrier → ℕ → Carrier → Bool
has_separate_bits carriers i c = has_separate_pieces c.pieces && all_below (λ j. test_at (λ earlier. shares_no_piece earlier.pieces c.pieces) carriers j) i

abbrev pub has_counts : Plan → Bool
has_counts p = nat_le 1 (length p.carriers) && (nat_le (length p.carriers) 64 && (nat_le 1 (length p.flows) && nat_le (length p.flows) 8))

-- the list is 0 to n - 1
abbrev pub is_count_to : ℕ → List ℕ → Bool
is_count_to n numbers = length numbers == n && all_below (λ i. slice_index numbers i == i) n

abbrev pub is_one_whole_flow : List Flow → ℕ → Bool
is_one_whole_flow flows n = length flows == 1 && (list_all (λ f. f.control) flows && list_all (λ f. is_count_to n f.carriers) flows)

abbrev pub carries_whole_frames : Mode → List Flow → ℕ → Bool
carries_whole_frames Tunnel flows n = is_one_whole_flow flows n
carries_whole_frames Bytes flows n = is_one_whole_flow flows n
carries_whole_frames Aware flows n = true

abbrev pub has_distinct_ids : List Flow → Bool
has_distinct_ids [] = true
has_distinct_ids (f ∷ fs) = list_all (λ g. not (f.id == g.id)) fs && has_distinct_ids fs

abbrev pub is_ascending : List ℕ → Bool
is_ascending numbers = all_below (λ k. nat_lt (slice_index numbers k) (slice_index numbers (k + 1))) (length numbers - 1)

abbrev pub shares_out_carriers : List Flow → ℕ → Bool
shares_out_carriers flows n =
    list_all (λ f. nat_le f.id 255) flows && (has_distinct_ids flows && (list_all (λ f. is_ascending f.carriers) flows && (list_all (λ f. list_all (λ c. nat_lt c n) f.carriers) flows && (all_below (λ c. count_by (lists c) flows == 1) n && count_by (λ f. f.control) flows == 1))))

abbrev pub has_payload : Plan → Flow → Bool
has_payload p f = nat_le 1 f.frames && (nat_le f.frames 64 && (nat_le 1 (f.frames * octets_of_frame p f) && nat_le (f.frames * octets_of_frame p f) 1_492))

abbrev pub has_window : Flow → Bool
has_window f = nat_le f.lmin f.lmax && nat_le f.lmax 100_000

abbrev pub is_played_in_time : ℕ → Flow → Bool
is_played_in_time playout f = nat_le (f.frames - 1 + f.lmax) playout && nat_le playout 200_000

abbrev pub has_sequence_numbers : Flow → Bool
has_sequence_numbers f = nat_le 1 f.p && (nat_le f.p 65_536 && (nat_le 1 f.q && (nat_le f.q 65_536 && nat_lt ((f.lmax - f.lmin) / f.frames) (f.p * f.q))))

abbrev pub has_room : ℕ → Flow → Bool
has_room playout f = nat_le 1 f.cap && (nat_le f.cap 4_096 && nat_le (most_held f.frames f.lmin playout) f.cap)

-- whether a rule holds at its item i, where the rules with smaller numbers hold
abbrev pub holds : Plan → Rule → ℕ → Bool
holds p LineOption i = nat_le 1 p.option && nat_le p.option 7
holds p Counts i = has_counts p
holds p WholeFrames i = carries_whole_frames p.mode p.flows (length p.carriers)
holds p SampleRate i = test_at has_sample_rate p.carriers i
holds p SampleWidth i = test_at has_sample_width p.carriers i
holds p ContainerSize i = test_at has_prescribed_size p.carriers i
holds p ContainerEnd i = test_at (lies_within (iq_bits p.option)) p.carriers i
holds p SeparateBits i = test_at (has_separate_bits p.carriers i) p.carriers i
holds p SharedOut i = shares_out_carriers p.flows (length p.carriers)
holds p PayloadSize i = test_at (has_payload p) p.flows i
holds p ArrivalWindow i = test_at has_window p.flows i
holds p PlayedInTime i = test_at (is_played_in_time p.playout) p.flows i
holds p SequenceNumbers i = test_at has_sequence_numbers p.flows i
holds p BufferRoom i = test_at (has_room p.playout) p.flows i

-- the verdict where rule r fails first at an item, and else the verdict by the later rules
abbrev pub failing_or : ℕ → Option ℕ → Verdict → Verdict
failing_or number None later = later
failing_or number (Some item) later = Fails number item

abbrev pub verdict_by : Plan → List Rule → Verdict
verdict_by p [] = Good
verdict_by p (r ∷ rs) = failing_or (number_of r) (first_false (holds p r) (item_count p r)) (verdict_by p rs)

abbrev pub all_rules : List Rule
all_rules =
    LineOption ∷ Counts ∷ WholeFrames ∷ SampleRate ∷ SampleWidth ∷ ContainerSize ∷ ContainerEnd ∷ SeparateBits ∷ SharedOut ∷ PayloadSize ∷ ArrivalWindow ∷ PlayedInTime ∷ SequenceNumbers ∷ BufferRoom ∷ []

unfoldable pub verdict_of : Plan → Verdict
verdict_of p = verdict_by p all_rules

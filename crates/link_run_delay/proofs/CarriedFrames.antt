-- What octets that carry a frame of a stream give back of it.
use Rattle.std.proofs.Common.{◌≡◌, ℕ, zero, suc, ◌*◌, ◌/◌, ◌%◌, ◌<◌, ◌≤◌, List, [], ◌∷◌, take, Contains, Some, slice_get, eqb, ℤ, pos, negsuc, IsTrue, refl, ap, ◌∙◌, subst, arith}
use Rattle.std.proofs.lemmas.Bool.{cond_both}
use Rattle.std.proofs.lemmas.Bool.Decides.{nat_tests}
use Rattle.std.proofs.lemmas.Nat.Bits.{bit_at-lt}
use Rattle.basic_frame.specs.Frames.{iq_bit}
use Rattle.carrier_plan.specs.declared.plan.Carrier.{Carrier}
use Rattle.carrier_plan.specs.declared.plan.Flow.{Flow}
use Rattle.carrier_plan.specs.declared.plan.Plan.{Plan}
use Rattle.control_words.specs.ControlWord.{octet_of, word}
use Rattle.control_words.specs.declared.announce.Announce.{Announce}
use Rattle.link_sender.specs.Frames.{CarriesOne, IsFrame, StandsAt}
use Rattle.link_sender.specs.Packets.{CarriesFrame}
use Rattle.link_sender.specs.Stream.{Stream, sample_at}
use Rattle.plan_checker.specs.Flows.{lists}
use Rattle.plan_checker.specs.Laws.{EachBitHasOneSample}
use Rattle.plan_checker.specs.Place.{place_of}
use Rattle.plan_checker.specs.Rules.{IsGood}
use Rattle.plan_checker.specs.Rules.Rule.{LineOption}
use Rattle.plan_checker.specs.WordSize.{IsLineOption, iq_bits, word_size}
use Rattle.roe_mappers.specs.Laws as mappers
use Rattle.roe_mappers.specs.Parts.{part_bit}
use Rattle.sample_bits.specs.declared.iq.RawIq.{RawIq}
use Rattle.sample_bits.specs.Samples.{int_bit, sample_bit}
use Rattle.link_run_delay.proofs.BitPlaces.{bit_within, container_bit, container_bit-lt, one_bit}
use Rattle.link_run_delay.proofs.CarryingFlows.{contains-lists}

-- ---- bits

int_bit-le : (z : ℤ) (j : ℕ) → int_bit z j ≤ 1
int_bit-le (pos n) j = omega (arith, bit_at-lt n j)
int_bit-le (negsuc n) j = omega (arith, bit_at-lt n j)

pub sample_bit-le : (s : RawIq) (k : ℕ) → sample_bit s k ≤ 1
sample_bit-le s k = cond_both (eqb (k % 2) 0) (int_bit s.i (k / 2)) (int_bit s.q (k / 2)) (λ x. x ≤ 1) (λ _. int_bit-le s.i (k / 2)) (λ _. int_bit-le s.q (k / 2))

-- bits that are 1 together are the same
same_bits : (a b : ℕ) → a ≤ 1 → b ≤ 1 → (a ≡ 1 → b ≡ 1) → (b ≡ 1 → a ≡ 1) → a ≡ b
same_bits zero zero a_bit b_bit ab ba = refl
same_bits zero (suc b) a_bit b_bit ab ba = let e = ba (omega arith) in absurd (omega arith)
same_bits (suc a) zero a_bit b_bit ab ba = let e = ab (omega arith) in absurd (omega arith)
same_bits (suc a) (suc b) a_bit b_bit ab ba = omega arith

-- ---- the first octet

-- a word has an octet
pub some_octets : (option : ℕ) → IsLineOption option → 1 ≤ word_size option
some_octets option known =
    let low = known.0 in
    let high = known.1 in
    grind (arith, nat_tests)

octet_of-comma : (z bfn : ℕ) (a : Announce) (managed : List ℕ) → octet_of 0 z bfn a managed 0 ≡ 188
unfolding octet_of
octet_of-comma z bfn a managed = refl

-- the first octet of the first word of a hyperframe
first_octet : (y n : ℕ) (a : Announce) (managed frame : List ℕ) → 1 ≤ y → n % 256 ≡ 0 → take y frame ≡ word y n a managed → slice_get frame 0 ≡ Some 188
first_octet zero n a managed frame some first control = absurd (omega arith)
first_octet (suc y) n a managed [] some first control = cc
first_octet (suc y) n a managed (x ∷ xs) some first control =
    let is : x ≡ octet_of (n % 256) (n / 256 % 150) (n / 38400 % 4096) a managed 0 = cc in
    ap Some (is ∙ ap (λ k. octet_of k (n / 256 % 150) (n / 38400 % 4096) a managed 0) first ∙ octet_of-comma (n / 256 % 150) (n / 38400 % 4096) a managed)

-- a frame of a stream is such as the mappers carry
IsFrame-stream : (p : Plan) (σ : Stream) (n : ℕ) (frame : List ℕ) → IsGood p → IsFrame p σ n frame → mappers.IsFrame p n frame
IsFrame-stream p σ n frame good is = record {
  size = is.size;
  small = is.small;
  comma = λ first. first_octet (word_size p.option) n σ.announcement _ frame (some_octets p.option (good LineOption 0 (omega arith))) first is.control;
}

-- ---- what is given back

pub given_back : mappers.PartsAreGivenBack → (p : Plan) (σ : Stream) (f : Flow) (n : ℕ) (part : List ℕ) → IsGood p → Contains p.flows f → (carries : CarriesFrame p σ f n part)
    → mappers.IsGivenBack p f n carries.frame part
given_back law p σ f n part good listed carries = law p f n _ carries.frame part good listed (IsFrame-stream p σ n carries.frame good carries.is_frame) carries.is_part

-- where one bit alone stands at a place, the frame has that bit there
bit_in_frame : EachBitHasOneSample → (p : Plan) (σ : Stream) (n x c j b : ℕ) (octets : List ℕ) → IsGood p → IsFrame p σ n octets → x < iq_bits p.option → StandsAt p n x c j b
    → iq_bit (word_size p.option) octets x ≡ sample_bit (sample_at σ c j) b
bit_in_frame law p σ n x c j b octets good frame within stands =
    let here = iq_bit (word_size p.option) octets x in
    let there = sample_bit (sample_at σ c j) b in
    let carried : CarriesOne p σ n x → there ≡ 1 =
    λ one.
    let same = one_bit law p n x one.carrier one.number one.place c j b good one.stands stands in
    let P : ℕ → ℕ → ℕ → Type 0 = λ d i a. sample_bit (sample_at σ d i) a ≡ 1 in
    subst (P c j) same.place (subst (λ i. P c i one.place) same.number (subst (λ d. P d one.number one.place) same.carrier one.one)) in
    same_bits here there (omega (arith, bit_at-lt)) (sample_bit-le (sample_at σ c j) b)
    (λ one. carried ((frame.bits x within).0 one))
    (λ one. (frame.bits x within).1 (record { carrier = c; number = j; place = b; stands = stands; one = one }))

-- The octets that carry the frame in which bit b of sample j stands give the bit back.
pub sample_bit-given : EachBitHasOneSample → mappers.PartsAreGivenBack
    → (p : Plan) (σ : Stream) (f : Flow) (c : ℕ) (carrier : Carrier) (j b : ℕ) (part : List ℕ) → IsGood p → Contains p.flows f → IsTrue (lists c f)
    → slice_get p.carriers c ≡ Some carrier → b < 2 * carrier.m → CarriesFrame p σ f (place_of carrier j b).frame part
    → part_bit p f part (place_of carrier j b).bit ≡ sample_bit (sample_at σ c j) b
sample_bit-given one law p σ f c carrier j b part good listed lists_it read bit carries =
    let n = (place_of carrier j b).frame in
    let x = (place_of carrier j b).bit in
    let back = given_back law p σ f n part good listed carries in
    let stands : StandsAt p n x c j b = record { carrier = carrier; at = read; within = bit; frame = refl; bit = refl } in
    back.containers c (container_bit p c carrier good read j b bit) carrier (contains-lists f c lists_it) read (container_bit-lt p c carrier good read j b bit)
    ∙ bit_in_frame one p σ n x c j b carries.frame good carries.is_frame (bit_within p c carrier good read j b bit) stands

-- The octets of a part in mode `aware`: the control word, and the containers after it.
use Rattle.std.proofs.Common.{◌≡◌, ℕ, ◌+◌, ◌-◌, ◌*◌, ◌<◌, ◌≤◌, Bool, true, false, cond, eqb, ltb, IsTrue, Some, None, List, [], ◌++◌, length, take, drop, get_or, Contains, refl, sym, ap, subst, ◌∙◌, arith, length-drop, append-nil}
use Rattle.std.specs.Int.{div_ceil}
use Rattle.std.proofs.Math.Seq.{take-append_seam}
use Rattle.std.proofs.lemmas.Bool.{eq-eqb, lt-ltb, ne_eqb}
use Rattle.std.proofs.lemmas.List.{drop_all, get_or_default, length-take-le}
use Rattle.std.proofs.lemmas.List.Sums.{position_or_len_is}
use Rattle.std.proofs.lemmas.Nat.{mul-le}
use borrow.Rule.Slice.PartMut.{put_mid}
use Rattle.basic_frame.specs.Frames.{iq_bit}
use Rattle.carrier_plan.specs.declared.plan.Flow.{Flow}
use Rattle.carrier_plan.specs.declared.plan.Mode.TheVariants.{Aware}
use Rattle.carrier_plan.specs.declared.plan.Plan.{Plan}
use Rattle.link_base.specs.Bits.{bit_of}
use Rattle.plan_checker.specs.Flows.{HasPayload, bits_of_carriers, control_octets, octets_by, octets_of_frame}
use Rattle.plan_checker.specs.Rules.{IsGood}
use Rattle.plan_checker.specs.Rules.Rule.{PayloadSize}
use Rattle.plan_checker.specs.WordSize.{word_size}
use Rattle.sample_bits.proofs.OctetLemmas.{bit_of-append_right, bit_of-drop}
use Rattle.roe_mappers.specs.CarriedBits.{carried_bits}
use Rattle.roe_mappers.specs.FrameAfter.{PutsContainers}
use Rattle.roe_mappers.specs.MovedBits.{AreContainers, GivesBits}
use Rattle.roe_mappers.specs.Parts.{IsAwarePart, first_place, or_zero, part_bit, part_control, place_by, spelled}
use Rattle.roe_mappers.proofs.Carried.{distinct_of_flow, of_flow}
use Rattle.roe_mappers.proofs.PieceBits.{AreDistinct}

-- ---- how many octets

pub few_octets : (p : Plan) (f : Flow) → IsGood p → Contains p.flows f → octets_of_frame p f ≤ 1_492
few_octets p f good h =
    let payload : HasPayload p f = of_flow (HasPayload p) p.flows f (λ k d lt. good PayloadSize k lt d) h in
    let once = mul-le 1 (octets_of_frame p f) f.frames (octets_of_frame p f) payload.some_frames (omega arith) in
    omega (arith, once, payload.few_octets)

pub octets_of_aware : (p : Plan) (f : Flow) → p.mode ≡ Aware → octets_of_frame p f ≡ control_octets p f + div_ceil (bits_of_carriers p f.carriers) 8
octets_of_aware p f mode = ap (λ m. octets_by m p f) mode

pub octets_hold_bits : (n : ℕ) → n ≤ 8 * div_ceil n 8
octets_hold_bits n = omega arith

-- the rest of a list after a place is replaced
pub put_rest : (a : ℕ) (xs ys : List ℕ) → put_mid a (length xs - a) xs ys ≡ take a xs ++ ys
put_rest a xs ys =
    let none : drop (length xs - a) (drop a xs) ≡ [] = drop_all (length xs - a) (drop a xs) (omega (arith, length-drop a xs)) in
    ap (λ zs. take a xs ++ (ys ++ zs)) none ∙ ap (λ zs. take a xs ++ zs) (append-nil ys)

-- ---- a part that was written

pub IsAwarePart-from : (p : Plan) (f : Flow) (y n : ℕ) (frame word rest : List ℕ) → word_size p.option ≡ y → control_octets p f ≡ n
    → length word ≡ n → word ≡ take n frame → AreContainers p f y frame rest → IsAwarePart p f frame (word ++ rest)
IsAwarePart-from p f y n frame word rest size octets long front containers =
    let first : take n (word ++ rest) ≡ take n frame = subst (λ m. take m (word ++ rest) ≡ take n frame) long (take-append_seam word rest ∙ front) in
    record {
      control = subst (λ m. take m (word ++ rest) ≡ take m frame) (sym octets) first;
      bits = λ i lt.
          let back : 8 * control_octets p f + i - 8 * n ≡ i = omega arith in
          bit_of-append_right word rest n (8 * control_octets p f + i) long (omega arith) ∙ ap (bit_of rest) back ∙ containers.bits i lt
          ∙ ap (λ m. iq_bit m frame (get_or (carried_bits p f) i 0)) (sym size);
      padding = λ k le. bit_of-append_right word rest n k long (omega arith) ∙ containers.padding (k - 8 * n) (omega arith);
    }

-- ---- a part that is read

pub first_place-distinct : (xs : List ℕ) (k : ℕ) → AreDistinct xs → k < length xs → first_place xs (get_or xs k 0) ≡ k
first_place-distinct xs k distinct lt =
    let x = get_or xs k 0 in
    let is = λ (z : ℕ). eqb z x in
    let before = λ (i : ℕ) (below : i < k). ne_eqb (get_or xs i 0) x (λ e. let same : i ≡ k = distinct.distinct i k (omega arith) lt e in omega arith) in
    let place = position_or_len_is is xs k 0 (omega arith) before (λ _. eq-eqb x x refl) in
    ap (λ n. or_zero (cond (ltb n (length xs)) (Some n) None)) place ∙ (rw (lt-ltb k (length xs) lt) refl)

-- a bit that the flow's carriers have, by the part
pub part_bit-aware : (p : Plan) (f : Flow) (part : List ℕ) (k : ℕ) → IsGood p → Contains p.flows f → p.mode ≡ Aware → k < length (carried_bits p f)
    → part_bit p f part (get_or (carried_bits p f) k 0) ≡ bit_of part (8 * control_octets p f + k)
unfolding part_bit
part_bit-aware p f part k good h mode lt =
    let x = get_or (carried_bits p f) k 0 in
    ap (λ m. bit_of (spelled m part) (place_by m p f x)) mode
    ∙ ap (λ n. bit_of part (8 * control_octets p f + n)) (first_place-distinct (carried_bits p f) k (distinct_of_flow p f good h) lt)

pub part_control-aware : (p : Plan) (part : List ℕ) → p.mode ≡ Aware → part_control p part ≡ take (word_size p.option) part
unfolding part_control
part_control-aware p part mode = ap (λ m. take (word_size p.option) (spelled m part)) mode

-- an IQ bit of a frame whose control word was replaced
iq_bit-behind : (y : ℕ) (word frame : List ℕ) (x : ℕ) → length word ≡ y → iq_bit y (word ++ drop y frame) x ≡ iq_bit y frame x
iq_bit-behind y word frame x long =
    let back : 8 * y + x - 8 * y ≡ x = omega arith in
    bit_of-append_right word (drop y frame) y (8 * y + x) long (omega arith) ∙ ap (bit_of (drop y frame)) back ∙ bit_of-drop y frame x

-- what was read of the containers, and then of the control word
module _ (p : Plan) (f : Flow) (y n : ℕ) (part old mid new : List ℕ) (size : word_size p.option ≡ y) (octets : control_octets p f ≡ n) (whole : n ≤ length part)
    (with_control : IsTrue f.control → new ≡ take n part ++ drop y mid) (without : f.control ≡ false → new ≡ mid) where
  all_of_word : IsTrue f.control → n ≡ y
  all_of_word h = sym octets ∙ ap (λ b. cond b (word_size p.option) 0) h ∙ size

  length-word : IsTrue f.control → length (take n part) ≡ y
  length-word h = length-take-le n part whole ∙ all_of_word h

  same_iq_bit-by : (b : Bool) → f.control ≡ b → (x : ℕ) → iq_bit y new x ≡ iq_bit y mid x
  same_iq_bit-by true h x = ap (λ frame. iq_bit y frame x) (with_control h) ∙ iq_bit-behind y (take n part) mid x (length-word h)
  same_iq_bit-by false h x = ap (λ frame. iq_bit y frame x) (without h)

  same_iq_bit : (x : ℕ) → iq_bit y new x ≡ iq_bit y mid x
  same_iq_bit x = same_iq_bit-by f.control refl x

  pub PutsContainers-from : IsGood p → Contains p.flows f → p.mode ≡ Aware → GivesBits y (drop n part) 0 (carried_bits p f) old mid → PutsContainers p f part old new
  PutsContainers-from good h mode gives =
      record {
        control = λ has.
            let seam : take y (take n part ++ drop y mid) ≡ take n part = subst (λ m. take m (take n part ++ drop y mid) ≡ take n part) (length-word has) (take-append_seam (take n part) (drop y mid)) in
            let front : take y new ≡ take y part = ap (take y) (with_control has) ∙ seam ∙ ap (λ m. take m part) (all_of_word has) in
            subst (λ m. take m new ≡ take m part) (sym size) front ∙ sym (part_control-aware p part mode);
        no_control = λ has k lt. ap (λ frame. bit_of frame k) (without has) ∙ gives.control k (omega arith);
        carried = λ x there.
            let k = there.0 in
            let lt = there.1 in
            let is : get_or (carried_bits p f) k 0 ≡ x = get_or_default (carried_bits p f) k 0 x lt ∙ there.2 in
            let bit : iq_bit y new (get_or (carried_bits p f) k 0) ≡ part_bit p f part (get_or (carried_bits p f) k 0) =
            same_iq_bit (get_or (carried_bits p f) k 0) ∙ gives.given k lt ∙ bit_of-drop n part (0 + k) ∙ ap (bit_of part) (omega arith) ∙ sym (part_bit-aware p f part k good h mode lt) in
            subst (λ m. iq_bit m new x ≡ part_bit p f part x) (sym size) (subst (λ z. iq_bit y new z ≡ part_bit p f part z) is bit);
        others = λ x absent. subst (λ m. iq_bit m new x ≡ iq_bit m old x) (sym size) (same_iq_bit x ∙ gives.others x absent);
      }

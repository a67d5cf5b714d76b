-- The part of a frame, written into its packet.
use Rattle.std.proofs.Common.{◌≡◌, ◌==◌, ℕ, ◌+◌, ◌*◌, ◌/◌, ◌%◌, ◌≤◌, cond, List, length, take, drop, sym, ap, ◌∙◌, subst, arith, inl, inr}
use Rattle.std.proofs.lemmas.Bool.{cases_lt}
use Rattle.std.proofs.lemmas.List.{drop-drop}
use Rattle.std.proofs.lemmas.Nat.{mod_below, mul-le}
use Rattle.std.proofs.lemmas.Slice.{take-put_mid_below}
use borrow.Rule.Slice.PartMut.{put_mid}
use Rattle.carrier_plan.specs.declared.plan.Flow.{Flow}
use Rattle.carrier_plan.specs.declared.plan.Plan.{Plan}
use Rattle.line_code.specs.declared.characters.Rd.{Rd}
use Rattle.plan_checker.specs.Flows.{octets_of_frame}
use Rattle.plan_checker.specs.Packets.{sequence_of}
use Rattle.roe_header.specs.Layout.{four_octets}
use Rattle.roe_mappers.specs.Parts.{IsPart}
use Rattle.link_sender.specs.Rings.{WritesPart, end_of, front_of, order_of, part_of, payload_octets}
use Rattle.link_sender.proofs.Slots.{at_mid, before_mid, behind_mid, length-mid}

module _ (p : Plan) (f : Flow) (n : ℕ) (rd : Rd) (frame old mid out : List ℕ) (some : 1 ≤ f.frames) (room : 22 + payload_octets p f ≤ length old) (same_length : length mid ≡ length old)
    (front : front_of mid ≡ front_of old)
    (order : order_of mid ≡ cond (n % f.frames == 0) (four_octets (sequence_of f (n / f.frames))) (order_of old))
    (rest : drop 22 mid ≡ drop 22 old) (part : IsPart p f n rd frame out) where
  abbrev size : ℕ
  size = octets_of_frame p f

  abbrev from : ℕ
  from = 22 + n % f.frames * size

  abbrev new : List ℕ
  new = put_mid from size mid out

  inside : from + size ≤ length mid
  inside =
      let low = mod_below n f.frames some in
      let most = mul-le (n % f.frames + 1) size f.frames size (omega arith) (omega arith) in
      omega (arith, most)

  rest_from : (m : ℕ) → drop (22 + m) mid ≡ drop (22 + m) old
  rest_from m = sym (drop-drop m 22 mid) ∙ ap (drop m) rest ∙ drop-drop m 22 old

  pub writes_part : WritesPart p f n rd frame old new
  unfolding front_of order_of part_of end_of
  writes_part = record {
    same_length = length-mid from size mid out inside part.size ∙ same_length;
    front = take-put_mid_below from size mid out 18 (omega arith) (omega (arith, inside)) ∙ front;
    end =
        let low = mod_below n f.frames some in
        let most = mul-le (n % f.frames + 1) size f.frames size (omega arith) (omega arith) in
        behind_mid from size mid out inside part.size (22 + payload_octets p f) (omega (arith, most)) ∙ rest_from (payload_octets p f);
    order = before_mid from size mid out inside part.size 18 4 (omega arith) ∙ order;
    part = subst (IsPart p f n rd frame) (sym (at_mid from size mid out inside part.size)) part;
    others = λ k less other.
        elim (cases_lt k (n % f.frames)) [
          | inl before ↦
              let most = mul-le (k + 1) size (n % f.frames) size (omega arith) (omega arith) in
              before_mid from size mid out inside part.size (22 + k * size) size (omega (arith, most)) ∙ ap (take size) (rest_from (k * size))
          | inr behind ↦
              let more = mul-le (n % f.frames + 1) size k size (omega (arith, other)) (omega arith) in
              ap (take size) (behind_mid from size mid out inside part.size (22 + k * size) (omega (arith, more)) ∙ rest_from (k * size))
        ];
  }

-- The parts of a frame, written for one flow after another.
use Rattle.std.proofs.Common.{◌≡◌, ℕ, ◌+◌, ◌<◌, ◌≤◌, List, length, get_or, set, slice_get, Some, length-set, get_or-set_other, get_or-set_same, sym, ap, ◌∙◌, subst, arith, inl, inr}
use Rattle.std.specs.List.{HoldsAt}
use Rattle.std.proofs.lemmas.Bool.{cases_eq}
use Rattle.std.proofs.lemmas.List.{get_or_default}
use Rattle.carrier_plan.specs.declared.plan.Flow.{Flow}
use Rattle.carrier_plan.specs.declared.plan.Plan.{Plan}
use Rattle.line_code.specs.declared.characters.Rd.{Rd}
use Rattle.plan_checker.proofs.Places.{at_place}
use Rattle.link_sender.specs.Rings.{AreRings, IsRing, PutsPart}
use Rattle.link_sender.specs.declared.packet_ring.PacketRing.{PacketRing}

module _ (p : Plan) (n : ℕ) (rd : Rd) (frame : List ℕ) (first rings : List PacketRing) (i : ℕ) (h new : PacketRing) (inside : i < length rings) (are : AreRings p rings)
    (ring : HoldsAt (λ f. IsRing p f new) p.flows i) (part : HoldsAt (λ f. PutsPart p f n rd frame (get_or rings i h) new) p.flows i)
    (left : (j : ℕ) (d : PacketRing) → i ≤ j → get_or rings j d ≡ get_or first j d)
    (done : (j : ℕ) (f : Flow) (d : PacketRing) → j < i → slice_get p.flows j ≡ Some f → PutsPart p f n rd frame (get_or first j d) (get_or rings j d)) where
  pub rings_more : AreRings p (set rings i new)
  rings_more = record {
    as_many = length-set rings i new ∙ are.as_many;
    each = λ j f read d. elim (cases_eq j i) [
      | inl here ↦
          let at_i : slice_get p.flows i ≡ Some f = subst (λ k. slice_get p.flows k ≡ Some f) here read in
          let value : get_or (set rings i new) j d ≡ new = ap (λ k. get_or (set rings i new) k d) here ∙ get_or-set_same rings i new d inside in
          subst (IsRing p f) (sym value) (at_place (λ (x : Flow). IsRing p x new) p.flows i f at_i ring)
      | inr other ↦ subst (IsRing p f) (sym (get_or-set_other rings i j new d other)) (are.each j f read d)
    ];
  }

  pub done_more : (j : ℕ) (f : Flow) (d : PacketRing) → j < i + 1 → slice_get p.flows j ≡ Some f → PutsPart p f n rd frame (get_or first j d) (get_or (set rings i new) j d)
  done_more j f d less read = elim (cases_eq j i) [
    | inl here ↦
        let at_i : slice_get p.flows i ≡ Some f = subst (λ k. slice_get p.flows k ≡ Some f) here read in
        let value : get_or (set rings i new) j d ≡ new = ap (λ k. get_or (set rings i new) k d) here ∙ get_or-set_same rings i new d inside in
        let before : get_or rings i h ≡ get_or first j d = get_or_default rings i h d inside ∙ left i d (omega arith) ∙ ap (λ k. get_or first k d) (sym here) in
        subst (λ (x : PacketRing). PutsPart p f n rd frame x (get_or (set rings i new) j d)) before
        (subst (PutsPart p f n rd frame (get_or rings i h)) (sym value) (at_place (λ (x : Flow). PutsPart p x n rd frame (get_or rings i h) new) p.flows i f at_i part))
    | inr other ↦ subst (PutsPart p f n rd frame (get_or first j d)) (sym (get_or-set_other rings i j new d other)) (done j f d (omega (arith, other)) read)
  ]

  pub left_more : (j : ℕ) (d : PacketRing) → i + 1 ≤ j → get_or (set rings i new) j d ≡ get_or first j d
  left_more j d more = get_or-set_other rings i j new d (λ e. omega arith) ∙ left j d (omega arith)

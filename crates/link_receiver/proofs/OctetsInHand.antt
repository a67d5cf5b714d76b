-- The octets of a frame in hand.
use Rattle.std.proofs.Common.{◌≡◌, ◌≢◌, ◌⊎◌, Bool, true, false, inl, inr, ℕ, ◌+◌, ◌<◌, ◌≤◌, zero, suc, List, [], ◌∷◌, length, get_or, cond, is_some, Option, Some, None, slice_get, refl, sym, ap, ◌∙◌, subst, arith}
use Rattle.std.proofs.lemmas.Bool.{false≢true}
use Rattle.std.proofs.lemmas.Option.{slice_get-get_or}
use Rattle.carrier_plan.specs.declared.plan.Flow.{Flow}
use Rattle.carrier_plan.specs.declared.plan.Mode.{Mode}
use Rattle.carrier_plan.specs.declared.plan.Mode.TheVariants.{Tunnel, Bytes, Aware}
use Rattle.carrier_plan.specs.declared.plan.Plan.{Plan}
use Rattle.plan_checker.specs.Flows.{CarriesWholeFrames, control_octets, octets_by, octets_of_frame}
use Rattle.plan_checker.specs.Rules.{IsGood}
use Rattle.plan_checker.specs.Rules.Rule.{Counts, WholeFrames}
use Rattle.plan_checker.specs.Run.{frame_octets_of}
use Rattle.plan_checker.specs.WordSize.{word_size}
use Rattle.std.proofs.lemmas.List.{get_or-map}
use Rattle.playout_buffer.specs.Held.{part_in}
use Rattle.roe_mappers.specs.Parts.{spelled, spelled_octets}
use Rattle.roe_mappers.specs.Symbols.{bad_symbol}
use Rattle.link_receiver.specs.Containers.{octets_if_good}
use Rattle.link_receiver.specs.Playing.{KeepFlows, octets_in_hand, part_of_kept}
use Rattle.link_receiver.specs.Sessions.{KeepsFlow}
use Rattle.link_receiver.specs.declared.flow_in_hand.FlowInHand.{FlowInHand}

-- an item of a list, at a place of it
abbrev pub item : {A : Type 0} (xs : List A) (i : ℕ) → i < length xs → A
item [] i inside = absurd (omega arith)
item (x ∷ xs) zero inside = x
item (x ∷ xs) (suc i) inside = item xs i (omega arith)

pub item_at : {A : Type 0} (xs : List A) (i : ℕ) (inside : i < length xs) → slice_get xs i ≡ Some (item xs i inside)
item_at [] i inside = absurd (omega arith)
item_at (x ∷ xs) zero inside = refl
item_at (x ∷ xs) (suc i) inside = item_at xs i (omega arith)

module _ (p : Plan) (h n f : ℕ) (flows : List FlowInHand) (keep : KeepFlows p h (n + p.playout) flows) (inside : f < length p.flows) where
  abbrev flow_at : Flow → Flow
  flow_at d = get_or p.flows f d

  keeps : (d : Flow) (e : FlowInHand) → KeepsFlow p h (n + p.playout) (get_or p.flows f d) (get_or flows f e)
  keeps d e = keep.each f (get_or p.flows f d) (slice_get-get_or p.flows f d inside) e

  pub is_played : (e : FlowInHand) → n + (get_or flows f e).playout.window.playout ≡ (get_or flows f e).playout.tick
  is_played e =
      let kept = keep.each f (item p.flows f inside) (item_at p.flows f inside) e in
      ap (λ w. n + w.playout) kept.window ∙ sym kept.tick

  pub octets_kept : (d : Flow) (e : FlowInHand) → (get_or flows f e).playout.window.octets ≡ octets_of_frame p (get_or p.flows f d)
  octets_kept d e = ap (λ w. w.octets) (keeps d e).window

  held_at : (e : FlowInHand) → slice_get flows f ≡ Some (get_or flows f e)
  held_at e = let many = keep.as_many in slice_get-get_or flows f e (omega (arith, many, inside))

-- in the modes that carry no symbols no part is bad
good_by : (mode : Mode) (p : Plan) (n : ℕ) (part : Option (List ℕ)) → p.mode ≡ mode → mode ≢ Tunnel → octets_if_good p n part ≡ part
good_by mode p n None is other = refl
good_by Tunnel p n (Some part) is other = absurd (other refl)
good_by Bytes p n (Some part) is other =
    ap (λ m. cond (is_some (bad_symbol m n part)) None (Some (spelled m part))) is
good_by Aware p n (Some part) is other =
    ap (λ m. cond (is_some (bad_symbol m n part)) None (Some (spelled m part))) is

pub octets_plain : (p : Plan) (h n f : ℕ) (flows : List FlowInHand) (e : FlowInHand) → KeepFlows p h (n + p.playout) flows → f < length p.flows → p.mode ≢ Tunnel
    → octets_in_hand p flows f n ≡ part_in (get_or flows f e).playout.window (get_or flows f e).playout.held n
octets_plain p h n f flows e keep inside other =
    ap (λ o. octets_if_good p n (part_of_kept o n)) (held_at p h n f flows keep inside e)
    ∙ good_by p.mode p n (part_in (get_or flows f e).playout.window (get_or flows f e).playout.held n) refl other

length_by : (mode : Mode) (p : Plan) (f : Flow) → p.mode ≡ mode → mode ≢ Tunnel → octets_of_frame p f ≡ spelled_octets mode p f
length_by Tunnel p f is other = absurd (other refl)
length_by Bytes p f is other = ap (λ m. octets_by m p f) is
length_by Aware p f is other = refl

-- the octets of a part that is itself of the frame
pub length_plain : (p : Plan) (h n f : ℕ) (flows : List FlowInHand) (d : Flow) (e : FlowInHand) → KeepFlows p h (n + p.playout) flows → f < length p.flows → p.mode ≢ Tunnel
    → (get_or flows f e).playout.window.octets ≡ spelled_octets p.mode p (get_or p.flows f d)
length_plain p h n f flows d e keep inside other = octets_kept p h n f flows keep inside d e ∙ length_by p.mode p (get_or p.flows f d) refl other

-- in mode `tunnel` there is one flow
pub one_flow : (p : Plan) (f : ℕ) → IsGood p → p.mode ≡ Tunnel → f < length p.flows → f ≡ 0
one_flow p f good mode inside =
    let whole = subst (λ m. CarriesWholeFrames m p.flows (length p.carriers)) mode (good WholeFrames 0 (omega arith)) in
    let one = whole.one in
    omega (arith, one, inside)

abbrev is_tunnel : Mode → Bool
is_tunnel Tunnel = true
is_tunnel Bytes = false
is_tunnel Aware = false

-- the modes that carry no symbols
pub no_symbols : (mode : Mode) → (mode ≡ Bytes) ⊎ (mode ≡ Aware) → mode ≢ Tunnel
no_symbols mode (inl is) tunnel = false≢true (sym (ap is_tunnel is) ∙ ap is_tunnel tunnel)
no_symbols mode (inr is) tunnel = false≢true (sym (ap is_tunnel is) ∙ ap is_tunnel tunnel)

-- ---- the control word

control_fits : (mode : Mode) (p : Plan) (f : Flow) → p.mode ≡ mode → f.control ≡ true → word_size p.option ≤ spelled_octets mode p f
control_fits Tunnel p f is has = omega arith
control_fits Bytes p f is has = omega arith
control_fits Aware p f is has =
    let octets : octets_of_frame p f ≡ octets_by Aware p f = ap (λ m. octets_by m p f) is in
    let word : control_octets p f ≡ word_size p.option = ap (λ b. cond b (word_size p.option) 0) has in
    omega (arith, octets, word)

pub word_fits : (p : Plan) (f n : ℕ) (d : Flow) → (get_or p.flows f d).control ≡ true → n ≡ spelled_octets p.mode p (get_or p.flows f d) → word_size p.option ≤ n
word_fits p f n d has is = let fits = control_fits p.mode p (get_or p.flows f d) refl has in omega (arith, fits, is)

-- ---- in mode `tunnel`

pub some_flow : (p : Plan) → IsGood p → 0 < length p.flows
some_flow p good = let counts = good Counts 0 (omega arith) in let some = counts.some_flows in omega (arith, some)

-- the part of the one flow is what its buffer holds
part_at : (p : Plan) (h n : ℕ) (flows : List FlowInHand) (e : FlowInHand) → KeepFlows p h (n + p.playout) flows → 0 < length p.flows
    → octets_in_hand p flows 0 n ≡ octets_if_good p n (part_in (get_or flows 0 e).playout.window (get_or flows 0 e).playout.held n)
part_at p h n flows e keep inside = ap (λ o. octets_if_good p n (part_of_kept o n)) (held_at p h n 0 flows keep inside e)

pub spelled_good : (p : Plan) (h n : ℕ) (flows : List FlowInHand) (e : FlowInHand) (part frame : List ℕ) → KeepFlows p h (n + p.playout) flows → 0 < length p.flows → p.mode ≡ Tunnel
    → Some part ≡ part_in (get_or flows 0 e).playout.window (get_or flows 0 e).playout.held n → bad_symbol p.mode n part ≡ None → frame ≡ spelled Tunnel part
    → octets_in_hand p flows 0 n ≡ Some frame
spelled_good p h n flows e part frame keep inside mode held good is =
    part_at p h n flows e keep inside ∙ ap (octets_if_good p n) (sym held)
    ∙ ap (λ bad. cond (is_some bad) None (Some (spelled p.mode part))) good
    ∙ ap (λ m. Some (spelled m part)) mode ∙ ap Some (sym is)

pub spelled_bad : (p : Plan) (h n : ℕ) (flows : List FlowInHand) (e : FlowInHand) (part : List ℕ) (place : ℕ) → KeepFlows p h (n + p.playout) flows → 0 < length p.flows
    → Some part ≡ part_in (get_or flows 0 e).playout.window (get_or flows 0 e).playout.held n → bad_symbol p.mode n part ≡ Some place
    → octets_in_hand p flows 0 n ≡ None
spelled_bad p h n flows e part place keep inside held bad =
    part_at p h n flows e keep inside ∙ ap (octets_if_good p n) (sym held)
    ∙ ap (λ o. cond (is_some o) None (Some (spelled p.mode part))) bad

pub spelled_none : (p : Plan) (h n : ℕ) (flows : List FlowInHand) (e : FlowInHand) → KeepFlows p h (n + p.playout) flows → 0 < length p.flows
    → None ≡ part_in (get_or flows 0 e).playout.window (get_or flows 0 e).playout.held n → octets_in_hand p flows 0 n ≡ None
spelled_none p h n flows e keep inside held = part_at p h n flows e keep inside ∙ ap (octets_if_good p n) (sym held)

-- the octets that the mapper asks for
pub octets_asked : (p : Plan) (h n : ℕ) (flows : List FlowInHand) (e : FlowInHand) → KeepFlows p h (n + p.playout) flows → 0 < length p.flows
    → (get_or flows 0 e).playout.window.octets ≡ frame_octets_of p 0
octets_asked p h n flows e keep inside =
    let f = item p.flows 0 inside in
    let at = item_at p.flows 0 inside in
    octets_kept p h n 0 flows keep inside f e ∙ sym (get_or-map (octets_of_frame p) p.flows 0 f 0 inside)

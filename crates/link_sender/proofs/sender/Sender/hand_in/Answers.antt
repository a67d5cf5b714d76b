use Rattle.std.proofs.Common.{◌≡◌, ℕ, ◌+◌, All, length, get_or, set, slice_get, slice_index, pos, Option, Some, None, refl, sym, ap, ◌∙◌, subst, arith}
use Rattle.std.specs.Option.{MatchOption}
use Rattle.std.proofs.lemmas.List.{get_or_default}
use Rattle.std.proofs.lemmas.Option.{slice_get_within}
use Rattle.carrier_plan.specs.declared.plan.Carrier.{Carrier}
use Rattle.carrier_plan.specs.declared.plan.Plan.{Plan}
use Rattle.link_sender_blocks.specs.InHand.{SamplesView}
use Rattle.plan_checker.specs.Rules.Rule.{Counts}
use Rattle.plan_checker.specs.Run.{samples_before, samples_due}
use Rattle.sample_bits.specs.Samples.{IsWithin}
use Rattle.sample_bits.specs.declared.iq.RawIq.{RawIq}
use Rattle.link_sender_blocks.specs.Containers.{IsFirstOutside}
use Rattle.link_sender.specs.HandedIn.{with_samples}
use Rattle.link_sender.specs.Senders.{IsSender, SenderView, StandsFor, TakesOn}
use Rattle.link_sender.proofs.GoodCarriers.{good_carrier}
use Rattle.link_sender.proofs.HandSteps.{are_due, fits_in_hand, is_with_hand, stands_with_hand, with_hand, with_taken}
use Rattle.link_sender.proofs.sender.Sender.hand_in.Goals as goal

pub first_outside-requires : goal.first_outside-requires
first_outside-requires g c =
    let s : SenderView = record {
      plan = c.self.inside.checked;
      frames = c.self.inside.frames;
      announcement = c.self.inside.announce;
      tick = c.self.inside.next;
      handed = c.self.inside.handed.items;
      carriers = c.self.inside.carriers.items;
      slow = c.self.inside.channels.slow;
      fast = c.self.inside.channels.fast;
      frame = c.self.inside.frame;
      octets = c.self.inside.octets.items;
      rd = c.self.inside.rd;
      rings = c.self.inside.rings.items;
    } in
    let is = c.self.invariant.0 in
    let carrier = c.at.result.now in
    let read = subst (λ (p : Plan). slice_get p.carriers c.args.c ≡ Some carrier) c.plan.ensures.same c.at.ensures in
    (good_carrier s.plan c.args.c carrier is.good read).width

pub overflow_cast-result : goal.overflow_cast-result
overflow_cast-result g c =
    let s : SenderView = record {
      plan = c.self.inside.checked;
      frames = c.self.inside.frames;
      announcement = c.self.inside.announce;
      tick = c.self.inside.next;
      handed = c.self.inside.handed.items;
      carriers = c.self.inside.carriers.items;
      slow = c.self.inside.channels.slow;
      fast = c.self.inside.channels.fast;
      frame = c.self.inside.frame;
      octets = c.self.inside.octets.items;
      rd = c.self.inside.rd;
      rings = c.self.inside.rings.items;
    } in
    let is = c.self.invariant.0 in
    let carrier = c.at.result.now in
    let read = subst (λ (p : Plan). slice_get p.carriers c.args.c ≡ Some carrier) c.plan.ensures.same c.at.ensures in
    let inside = slice_get_within s.plan.carriers c.args.c carrier read in
    let counts = is.good Counts 0 (omega arith) in
    record { fits = omega (arith, inside, counts.few_carriers) }

pub overflow_add-result : goal.overflow_add-result
overflow_add-result g c =
    let s : SenderView = record {
      plan = c.self.inside.checked;
      frames = c.self.inside.frames;
      announcement = c.self.inside.announce;
      tick = c.self.inside.next;
      handed = c.self.inside.handed.items;
      carriers = c.self.inside.carriers.items;
      slow = c.self.inside.channels.slow;
      fast = c.self.inside.channels.fast;
      frame = c.self.inside.frame;
      octets = c.self.inside.octets.items;
      rd = c.self.inside.rd;
      rings = c.self.inside.rings.items;
    } in
    let is = c.self.invariant.0 in
    let carrier = c.at.result.now in
    let read = subst (λ (p : Plan). slice_get p.carriers c.args.c ≡ Some carrier) c.plan.ensures.same c.at.ensures in
    let n : ℕ = slice_index s.handed c.args.c in
    let once : n ≡ samples_before s.plan c.args.c s.tick = subst (λ (v : SenderView). slice_index v.handed c.args.c ≡ samples_before v.plan c.args.c v.tick) (sym c.self.view_is) c.requires.once in
    let many : length c.args.samples.now ≡ samples_due s.plan c.args.c s.tick = subst (λ (v : SenderView). length c.args.samples.now ≡ samples_due v.plan c.args.c v.tick) (sym c.self.view_is) c.requires.due in
    let due = are_due s.plan s.tick c.args.c n (length c.args.samples.now) carrier (good_carrier s.plan c.args.c carrier is.good read) once many in
    let inside = slice_get_within s.plan.carriers c.args.c carrier read in
    let number : c.index.result.now ≡ n = c.index.ensures ∙ get_or_default s.handed c.args.c c.index.result.now 0 (omega (arith, inside, is.as_many_numbers)) in
    let small = due.small in
    let present = is.present in
    let low = c.in-Some.ensures.inside in
    record { fits = omega (arith, number, small, present, low) }

pub take-requires : goal.take-requires
take-requires g c =
    let s : SenderView = record {
      plan = c.self.inside.checked;
      frames = c.self.inside.frames;
      announcement = c.self.inside.announce;
      tick = c.self.inside.next;
      handed = c.self.inside.handed.items;
      carriers = c.self.inside.carriers.items;
      slow = c.self.inside.channels.slow;
      fast = c.self.inside.channels.fast;
      frame = c.self.inside.frame;
      octets = c.self.inside.octets.items;
      rd = c.self.inside.rd;
      rings = c.self.inside.rings.items;
    } in
    let is = c.self.invariant.0 in
    let carrier = c.at.result.now in
    let read = subst (λ (p : Plan). slice_get p.carriers c.args.c ≡ Some carrier) c.plan.ensures.same c.at.ensures in
    let n : ℕ = slice_index s.handed c.args.c in
    let once : n ≡ samples_before s.plan c.args.c s.tick = subst (λ (v : SenderView). slice_index v.handed c.args.c ≡ samples_before v.plan c.args.c v.tick) (sym c.self.view_is) c.requires.once in
    let many : length c.args.samples.now ≡ samples_due s.plan c.args.c s.tick = subst (λ (v : SenderView). length c.args.samples.now ≡ samples_due v.plan c.args.c v.tick) (sym c.self.view_is) c.requires.due in
    let due = are_due s.plan s.tick c.args.c n (length c.args.samples.now) carrier (good_carrier s.plan c.args.c carrier is.good read) once many in
    let inside = slice_get_within s.plan.carriers c.args.c carrier read in
    let h : SamplesView = c.index_mut.result.now in
    let hand : get_or s.carriers c.args.c h ≡ h = sym c.index_mut.ensures.value in
    fits_in_hand s is c.args.c n carrier c.args.samples.now h read hand refl due

pub overflow_add-index_mut : goal.overflow_add-index_mut
overflow_add-index_mut g c =
    let s : SenderView = record {
      plan = c.self.inside.checked;
      frames = c.self.inside.frames;
      announcement = c.self.inside.announce;
      tick = c.self.inside.next;
      handed = c.self.inside.handed.items;
      carriers = c.self.inside.carriers.items;
      slow = c.self.inside.channels.slow;
      fast = c.self.inside.channels.fast;
      frame = c.self.inside.frame;
      octets = c.self.inside.octets.items;
      rd = c.self.inside.rd;
      rings = c.self.inside.rings.items;
    } in
    let is = c.self.invariant.0 in
    let carrier = c.at.result.now in
    let read = subst (λ (p : Plan). slice_get p.carriers c.args.c ≡ Some carrier) c.plan.ensures.same c.at.ensures in
    let n : ℕ = slice_index s.handed c.args.c in
    let once : n ≡ samples_before s.plan c.args.c s.tick = subst (λ (v : SenderView). slice_index v.handed c.args.c ≡ samples_before v.plan c.args.c v.tick) (sym c.self.view_is) c.requires.once in
    let many : length c.args.samples.now ≡ samples_due s.plan c.args.c s.tick = subst (λ (v : SenderView). length c.args.samples.now ≡ samples_due v.plan c.args.c v.tick) (sym c.self.view_is) c.requires.due in
    let due = are_due s.plan s.tick c.args.c n (length c.args.samples.now) carrier (good_carrier s.plan c.args.c carrier is.good read) once many in
    let inside = slice_get_within s.plan.carriers c.args.c carrier read in
    let h : SamplesView = c.index_mut.result.now in
    let hand : get_or s.carriers c.args.c h ≡ h = sym c.index_mut.ensures.value in
    let number : c.index_mut-2.result.now ≡ n = c.index_mut-2.ensures.value ∙ get_or_default s.handed c.args.c c.index_mut-2.result.now 0 (omega (arith, inside, is.as_many_numbers)) in
    let same : with_hand s c.args.c (n + length c.args.samples.now) (with_taken h c.args.samples.now) ≡ with_hand s c.args.c (c.index_mut-2.result.now + length c.args.samples.now) c.take.new.self =
    ap (λ m. with_hand s c.args.c (m + length c.args.samples.now) (with_taken h c.args.samples.now)) (sym number) ∙ ap (with_hand s c.args.c (c.index_mut-2.result.now + length c.args.samples.now)) (sym c.take.ensures) in
    let small = due.small in
    let present = is.present in
    record { fits = omega (arith, number, small, present) }

pub invariant_of-self : goal.invariant_of-self
invariant_of-self g c =
    let s : SenderView = record {
      plan = c.self.inside.checked;
      frames = c.self.inside.frames;
      announcement = c.self.inside.announce;
      tick = c.self.inside.next;
      handed = c.self.inside.handed.items;
      carriers = c.self.inside.carriers.items;
      slow = c.self.inside.channels.slow;
      fast = c.self.inside.channels.fast;
      frame = c.self.inside.frame;
      octets = c.self.inside.octets.items;
      rd = c.self.inside.rd;
      rings = c.self.inside.rings.items;
    } in
    let is = c.self.invariant.0 in
    let carrier = c.at.result.now in
    let read = subst (λ (p : Plan). slice_get p.carriers c.args.c ≡ Some carrier) c.plan.ensures.same c.at.ensures in
    let n : ℕ = slice_index s.handed c.args.c in
    let once : n ≡ samples_before s.plan c.args.c s.tick = subst (λ (v : SenderView). slice_index v.handed c.args.c ≡ samples_before v.plan c.args.c v.tick) (sym c.self.view_is) c.requires.once in
    let many : length c.args.samples.now ≡ samples_due s.plan c.args.c s.tick = subst (λ (v : SenderView). length c.args.samples.now ≡ samples_due v.plan c.args.c v.tick) (sym c.self.view_is) c.requires.due in
    let due = are_due s.plan s.tick c.args.c n (length c.args.samples.now) carrier (good_carrier s.plan c.args.c carrier is.good read) once many in
    let inside = slice_get_within s.plan.carriers c.args.c carrier read in
    let h : SamplesView = c.index_mut.result.now in
    let hand : get_or s.carriers c.args.c h ≡ h = sym c.index_mut.ensures.value in
    let number : c.index_mut-2.result.now ≡ n = c.index_mut-2.ensures.value ∙ get_or_default s.handed c.args.c c.index_mut-2.result.now 0 (omega (arith, inside, is.as_many_numbers)) in
    let same : with_hand s c.args.c (n + length c.args.samples.now) (with_taken h c.args.samples.now) ≡ with_hand s c.args.c (c.index_mut-2.result.now + length c.args.samples.now) c.take.new.self =
    ap (λ m. with_hand s c.args.c (m + length c.args.samples.now) (with_taken h c.args.samples.now)) (sym number) ∙ ap (with_hand s c.args.c (c.index_mut-2.result.now + length c.args.samples.now)) (sym c.take.ensures) in
    (subst IsSender same (is_with_hand s is c.args.c n carrier c.args.samples.now h read hand refl due), c.self.invariant.1)

-- what holds where nothing was found
not_found : (r : Option ℕ) (P : Type 0) (Q : ℕ → Type 0) → MatchOption r P Q → ((x : ℕ) → r ≡ Some x → ⊥) → P
not_found None P Q holds none = holds
not_found (Some x) P Q holds none = absurd (none x refl)

-- the carrier at a place
one_carrier : (p : Plan) (i : ℕ) (x y : Carrier) → slice_get p.carriers i ≡ Some x → slice_get p.carriers i ≡ Some y → x ≡ y
one_carrier p i x y first second = let same : Some x ≡ Some y = sym first ∙ second in cc

pub returns-clause-range : goal.returns-clause-range
returns-clause-range g c other there =
    let s : SenderView = record {
      plan = c.self.inside.checked;
      frames = c.self.inside.frames;
      announcement = c.self.inside.announce;
      tick = c.self.inside.next;
      handed = c.self.inside.handed.items;
      carriers = c.self.inside.carriers.items;
      slow = c.self.inside.channels.slow;
      fast = c.self.inside.channels.fast;
      frame = c.self.inside.frame;
      octets = c.self.inside.octets.items;
      rd = c.self.inside.rd;
      rings = c.self.inside.rings.items;
    } in
    let is = c.self.invariant.0 in
    let carrier = c.at.result.now in
    let read = subst (λ (p : Plan). slice_get p.carriers c.args.c ≡ Some carrier) c.plan.ensures.same c.at.ensures in
    let same = one_carrier s.plan c.args.c carrier other read (subst (λ (v : SenderView). slice_get v.plan.carriers c.args.c ≡ Some other) (sym c.self.view_is) there) in
    let m : Carrier → ℕ = λ x. x.m in
    subst (λ w. All (IsWithin w) c.args.samples.now) (ap m same)
    (not_found c.first_outside.result (All (IsWithin carrier.m) c.args.samples.now) (λ r. IsFirstOutside carrier.m c.args.samples.now r) c.first_outside.ensures c.in_default.not-Some)

pub returns-in-Some-clause-range : goal.returns-in-Some-clause-range
returns-in-Some-clause-range g c other there =
    let s : SenderView = record {
      plan = c.self.inside.checked;
      frames = c.self.inside.frames;
      announcement = c.self.inside.announce;
      tick = c.self.inside.next;
      handed = c.self.inside.handed.items;
      carriers = c.self.inside.carriers.items;
      slow = c.self.inside.channels.slow;
      fast = c.self.inside.channels.fast;
      frame = c.self.inside.frame;
      octets = c.self.inside.octets.items;
      rd = c.self.inside.rd;
      rings = c.self.inside.rings.items;
    } in
    let is = c.self.invariant.0 in
    let carrier = c.at.result.now in
    let read = subst (λ (p : Plan). slice_get p.carriers c.args.c ≡ Some carrier) c.plan.ensures.same c.at.ensures in
    let inside = slice_get_within s.plan.carriers c.args.c carrier read in
    let same = one_carrier s.plan c.args.c carrier other read (subst (λ (v : SenderView). slice_get v.plan.carriers c.args.c ≡ Some other) (sym c.self.view_is) there) in
    let m : Carrier → ℕ = λ x. x.m in
    let number : c.index.result.now ≡ slice_index s.handed c.args.c = c.index.ensures ∙ get_or_default s.handed c.args.c c.index.result.now 0 (omega (arith, inside, is.as_many_numbers)) in
    let handed : slice_index s.handed c.args.c ≡ slice_index c.args.self.now.handed c.args.c = ap (λ (v : SenderView). slice_index v.handed c.args.c) c.self.view_is in
    let zero : RawIq = record { i = pos 0; q = pos 0 } in
    record {
      place = c.in-Some.place;
      outside = subst (λ w. IsFirstOutside w c.args.samples.now c.in-Some.place) (ap m same) c.in-Some.ensures;
      carrier = refl;
      number = ap (λ x. x + c.in-Some.place) (number ∙ handed ∙ c.requires.once);
      value = λ d. get_or_default c.args.samples.now c.in-Some.place zero d c.in-Some.ensures.inside;
    }

pub returns-clause-ok : goal.returns-clause-ok
returns-clause-ok g c =
    let s : SenderView = record {
      plan = c.self.inside.checked;
      frames = c.self.inside.frames;
      announcement = c.self.inside.announce;
      tick = c.self.inside.next;
      handed = c.self.inside.handed.items;
      carriers = c.self.inside.carriers.items;
      slow = c.self.inside.channels.slow;
      fast = c.self.inside.channels.fast;
      frame = c.self.inside.frame;
      octets = c.self.inside.octets.items;
      rd = c.self.inside.rd;
      rings = c.self.inside.rings.items;
    } in
    let is = c.self.invariant.0 in
    let carrier = c.at.result.now in
    let read = subst (λ (p : Plan). slice_get p.carriers c.args.c ≡ Some carrier) c.plan.ensures.same c.at.ensures in
    let n : ℕ = slice_index s.handed c.args.c in
    let once : n ≡ samples_before s.plan c.args.c s.tick = subst (λ (v : SenderView). slice_index v.handed c.args.c ≡ samples_before v.plan c.args.c v.tick) (sym c.self.view_is) c.requires.once in
    let many : length c.args.samples.now ≡ samples_due s.plan c.args.c s.tick = subst (λ (v : SenderView). length c.args.samples.now ≡ samples_due v.plan c.args.c v.tick) (sym c.self.view_is) c.requires.due in
    let due = are_due s.plan s.tick c.args.c n (length c.args.samples.now) carrier (good_carrier s.plan c.args.c carrier is.good read) once many in
    let inside = slice_get_within s.plan.carriers c.args.c carrier read in
    let h : SamplesView = c.index_mut.result.now in
    let hand : get_or s.carriers c.args.c h ≡ h = sym c.index_mut.ensures.value in
    let number : c.index_mut-2.result.now ≡ n = c.index_mut-2.ensures.value ∙ get_or_default s.handed c.args.c c.index_mut-2.result.now 0 (omega (arith, inside, is.as_many_numbers)) in
    let same : with_hand s c.args.c (n + length c.args.samples.now) (with_taken h c.args.samples.now) ≡ with_hand s c.args.c (c.index_mut-2.result.now + length c.args.samples.now) c.take.new.self =
    ap (λ m. with_hand s c.args.c (m + length c.args.samples.now) (with_taken h c.args.samples.now)) (sym number) ∙ ap (with_hand s c.args.c (c.index_mut-2.result.now + length c.args.samples.now)) (sym c.take.ensures) in
    let on : TakesOn s (with_hand s c.args.c (c.index_mut-2.result.now + length c.args.samples.now) c.take.new.self) c.args.c = record {
      plan = refl;
      frames = refl;
      announcement = refl;
      tick = refl;
      handed = ap (set s.handed c.args.c) (ap (λ m. m + length c.args.samples.now) number ∙ due.next);
    } in
    subst (λ (v : SenderView). TakesOn v (with_hand s c.args.c (c.index_mut-2.result.now + length c.args.samples.now) c.take.new.self) c.args.c) c.self.view_is on

pub returns-clause-stands : goal.returns-clause-stands
returns-clause-stands g c σ stands =
    let s : SenderView = record {
      plan = c.self.inside.checked;
      frames = c.self.inside.frames;
      announcement = c.self.inside.announce;
      tick = c.self.inside.next;
      handed = c.self.inside.handed.items;
      carriers = c.self.inside.carriers.items;
      slow = c.self.inside.channels.slow;
      fast = c.self.inside.channels.fast;
      frame = c.self.inside.frame;
      octets = c.self.inside.octets.items;
      rd = c.self.inside.rd;
      rings = c.self.inside.rings.items;
    } in
    let is = c.self.invariant.0 in
    let carrier = c.at.result.now in
    let read = subst (λ (p : Plan). slice_get p.carriers c.args.c ≡ Some carrier) c.plan.ensures.same c.at.ensures in
    let n : ℕ = slice_index s.handed c.args.c in
    let once : n ≡ samples_before s.plan c.args.c s.tick = subst (λ (v : SenderView). slice_index v.handed c.args.c ≡ samples_before v.plan c.args.c v.tick) (sym c.self.view_is) c.requires.once in
    let many : length c.args.samples.now ≡ samples_due s.plan c.args.c s.tick = subst (λ (v : SenderView). length c.args.samples.now ≡ samples_due v.plan c.args.c v.tick) (sym c.self.view_is) c.requires.due in
    let due = are_due s.plan s.tick c.args.c n (length c.args.samples.now) carrier (good_carrier s.plan c.args.c carrier is.good read) once many in
    let inside = slice_get_within s.plan.carriers c.args.c carrier read in
    let h : SamplesView = c.index_mut.result.now in
    let hand : get_or s.carriers c.args.c h ≡ h = sym c.index_mut.ensures.value in
    let number : c.index_mut-2.result.now ≡ n = c.index_mut-2.ensures.value ∙ get_or_default s.handed c.args.c c.index_mut-2.result.now 0 (omega (arith, inside, is.as_many_numbers)) in
    let same : with_hand s c.args.c (n + length c.args.samples.now) (with_taken h c.args.samples.now) ≡ with_hand s c.args.c (c.index_mut-2.result.now + length c.args.samples.now) c.take.new.self =
    ap (λ m. with_hand s c.args.c (m + length c.args.samples.now) (with_taken h c.args.samples.now)) (sym number) ∙ ap (with_hand s c.args.c (c.index_mut-2.result.now + length c.args.samples.now)) (sym c.take.ensures) in
    subst (λ (v : SenderView). StandsFor v (with_samples σ c.args.c c.args.samples.now)) same
    (stands_with_hand s is c.args.c n carrier c.args.samples.now h read hand refl due σ (subst (λ (v : SenderView). StandsFor v σ) (sym c.self.view_is) stands))

-- What is kept of a carrier after a tick.
use Rattle.std.proofs.Common.{◌≡◌, ◌⊎◌, cond, ℕ, zero, suc, ◌+◌, ◌-◌, ◌*◌, ◌/◌, ◌%◌, ◌<◌, ◌≤◌, min, List, [], ◌∷◌, ◌++◌, find, length, Option, Some, slice_get, refl, sym, ap, ◌∙◌, subst, arith, inl, inr}
use Rattle.std.proofs.lemmas.Bool.{cases_eq, cases_lt, eq-eqb, ne_eqb}
use Rattle.std.proofs.lemmas.Option.{same_Some}
use Rattle.std.proofs.lemmas.List.FromFn.{length-map-range_with_len}
use Rattle.std.proofs.lemmas.Nat.{div-add-mod', mod-mul-add, mod_below}
use Rattle.std.proofs.Math.Nat.{min-eq_left, min-eq_right}
use Rattle.carrier_plan.specs.declared.plan.Carrier.{Carrier}
use Rattle.carrier_plan.specs.declared.plan.Flow.{Flow}
use Rattle.carrier_plan.specs.declared.plan.Plan.{Plan}
use Rattle.link_base.specs.Record.{Record}
use Rattle.link_receiver_blocks.specs.Containers.{Container, container_played, in_hand_after, mapping_of, samples_left}
use Rattle.link_receiver_blocks.specs.View.{BlockView}
use Rattle.plan_checker.specs.Flows.{lists}
use Rattle.plan_checker.specs.Rules.{IsGood}
use Rattle.plan_checker.specs.Run.{delay_of, samples_before}
use Rattle.roe_mappers.specs.Routes.{IsRoute}
use Rattle.link_receiver_blocks.specs.declared.mapping.Mapping.{Mapping}
use Rattle.link_receiver.specs.Containers.{container_by, container_of_frame, containers_in_hand, octets_if_good}
use Rattle.link_receiver.specs.Playing.{Plays}
use Rattle.link_receiver.specs.Received.{part_of_frame}
use Rattle.link_receiver.specs.Runs.{KeepsLeaving, entries_of_before, entries_of_kept, entry_of_run}
use Rattle.link_receiver.specs.Sessions.{KeepsCarrier, StandsForCarrier}
use Rattle.link_receiver.specs.declared.carrier_in_hand.CarrierInHand.{CarrierInHand}
use Rattle.link_receiver.proofs.Blocks.{containers_with, in_hand_after-next}
use Rattle.link_receiver.proofs.Entries.{entries_of-after, entries_of-before, entries_of-unplayed, entries_of_kept-leaving, entries_of_kept-none}
use Rattle.link_receiver.proofs.Places.{IsGoodCarrier, delay_of-carrier, good_carrier, samples_before-carrier, samples_shift}
use Rattle.link_receiver.proofs.Routes.{container_played-route}

unfold_container : (p : Plan) (f : Flow) (h : ℕ) (records : List Record) (carrier : Carrier) (n : ℕ) → container_by p f carrier n (part_of_frame p f h records n) ≡ container_of_frame p f h records carrier n
unfolding container_of_frame
unfold_container p f h records carrier n = refl

suc-more : (t : ℕ) → suc t ≡ t + 1
suc-more t = omega arith

entries_of_before-suc : (p : Plan) (h : ℕ) (records : List Record) (t c : ℕ) (kept : CarrierInHand) → entries_of_kept t c kept ≡ entries_of_before p h records (suc t) c
    → entries_of_kept (t + 1 - 1) c kept ≡ entries_of_before p h records (t + 1) c
entries_of_before-suc p h records t c kept same =
    let back : t + 1 - 1 ≡ t = omega arith in
    ap (λ u. entries_of_kept u c kept) back ∙ same ∙ ap (λ u. entries_of_before p h records u c) (suc-more t)

length-push : {A : Type 0} (xs : List A) (x : A) → length (xs ++ x ∷ []) ≡ length xs + 1
length-push [] x = refl
length-push (y ∷ xs) x = let rest = length-push xs x in omega arith

-- ---- where the next samples begin

module _ (p : Plan) (h c : ℕ) (carrier : Carrier) (good : IsGood p) (read : slice_get p.carriers c ≡ Some carrier) where
  abbrev is : IsGoodCarrier p c carrier
  is = good_carrier p c carrier good read

  delay : delay_of p c ≡ p.playout + carrier.k
  delay = delay_of-carrier p c carrier is

  -- with the samples that leave in frame n those of one tick more have left
  due-next : (n count : ℕ) → carrier.k ≤ n → n % carrier.k * carrier.s / carrier.k + count ≡ (n % carrier.k + 1) * carrier.s / carrier.k
      → samples_before p c (n - carrier.k) + count ≡ samples_before p c (n + 1 - carrier.k)
  due-next n count after counted_here =
      let k = carrier.k in
      let b = (n - k) / k in
      let φ = (n - k) % k in
      let split = div-add-mod' (n - k) k in
      let whole : n ≡ (b + 1) * k + φ = omega (arith, split) in
      let low = mod_below (n - k) k is.some_frames in
      let phase : n % k ≡ φ = ap (λ x. x % k) whole ∙ mod-mul-add (b + 1) k φ low in
      let counted : φ * carrier.s / k + count ≡ (φ + 1) * carrier.s / k = subst (λ x. x * carrier.s / k + count ≡ (x + 1) * carrier.s / k) phase counted_here in
      let here : samples_before p c (n - k) ≡ b * carrier.s + φ * carrier.s / k
      = ap (samples_before p c) (sym split) ∙ samples_before-carrier p c carrier (b * k + φ) is ∙ samples_shift b φ carrier.s k is.some_frames in
      let more : n + 1 - k ≡ b * k + (φ + 1) = omega (arith, split) in
      let next : samples_before p c (n + 1 - k) ≡ b * carrier.s + (φ + 1) * carrier.s / k
      = ap (samples_before p c) more ∙ samples_before-carrier p c carrier (b * k + (φ + 1)) is ∙ samples_shift b (φ + 1) carrier.s k is.some_frames in
      omega (arith, counted, here, next)

  module _ (t n : ℕ) (at : t ≡ n + p.playout) (kept kept' : CarrierInHand) (octets : Option (List ℕ)) (keeps : KeepsCarrier p h t c carrier kept) (plays : Plays kept kept' octets n h) where
    abbrev with_frame : List Container
    with_frame = kept.block.containers ++ container_played octets kept.route ∷ []

    long : length with_frame ≡ n % carrier.k + 1
    long =
        let now : t - p.playout ≡ n = omega arith in
        length-push kept.block.containers (container_played octets kept.route) ∙ ap (λ x. x + 1) (keeps.phase ∙ ap (λ x. x % carrier.k) now)

    leaving : carrier.k ≤ n → n < carrier.k + h → KeepsLeaving (mapping_of carrier) with_frame kept'
    leaving after inside =
        let frames = keeps.block_frames in
        subst (λ w. KeepsLeaving w with_frame kept') keeps.mapping (plays.leaves (omega arith) (omega arith))

    pub number-first : carrier.k ≤ n → n < carrier.k + h → kept'.number ≡ samples_before p c (n - carrier.k)
    number-first after inside =
        let gap : t - delay_of p c ≡ n - carrier.k = omega (arith, delay) in
        plays.number ∙ keeps.next ∙ ap (λ x. samples_before p c (min x h)) gap ∙ ap (samples_before p c) (min-eq_left (omega arith))

    counted : carrier.k ≤ n → n < carrier.k + h → n % carrier.k * carrier.s / carrier.k + kept'.count ≡ (n % carrier.k + 1) * carrier.s / carrier.k
    counted after inside =
        let less : length with_frame - 1 ≡ n % carrier.k = omega (arith, long) in
        ap (λ x. samples_left (mapping_of carrier) x + kept'.count) (sym less) ∙ (leaving after inside).count ∙ ap (samples_left (mapping_of carrier)) long

    next-leaving : carrier.k ≤ n → n < carrier.k + h → kept'.number + kept'.count ≡ samples_before p c (min (t + 1 - delay_of p c) h)
    next-leaving after inside =
        let gap : t + 1 - delay_of p c ≡ n + 1 - carrier.k = omega (arith, delay) in
        ap (λ x. x + kept'.count) (number-first after inside) ∙ due-next n kept'.count after (counted after inside)
        ∙ sym (ap (λ x. samples_before p c (min x h)) gap ∙ ap (samples_before p c) (min-eq_left (omega arith)))

    next-early : n < carrier.k → kept'.number + kept'.count ≡ samples_before p c (min (t + 1 - delay_of p c) h)
    next-early before =
        let frames = keeps.block_frames in
        let none = plays.early (omega arith) in
        let now : t - delay_of p c ≡ 0 = omega (arith, delay) in
        let then : t + 1 - delay_of p c ≡ 0 = omega (arith, delay) in
        let first = plays.number ∙ keeps.next ∙ ap (λ x. samples_before p c (min x h)) now in
        let sum : kept'.number + kept'.count ≡ kept'.number = omega (arith, none) in
        sum ∙ first ∙ ap (λ x. samples_before p c (min x h)) (sym then)

    next-late : carrier.k + h ≤ n → kept'.number + kept'.count ≡ samples_before p c (min (t + 1 - delay_of p c) h)
    next-late past =
        let frames = keeps.block_frames in
        let none = plays.late (omega arith) in
        let sum : kept'.number + kept'.count ≡ kept'.number = omega (arith, none) in
        sum ∙ plays.number ∙ keeps.next ∙ ap (samples_before p c) (min-eq_right (omega (arith, delay)) ∙ sym (min-eq_right (omega (arith, delay))))

    next : kept'.number + kept'.count ≡ samples_before p c (min (t + 1 - delay_of p c) h)
    next = elim (cases_lt n carrier.k) [
      | inl before ↦ next-early before
      | inr after ↦ elim (cases_lt n (carrier.k + h)) [
        | inl inside ↦ next-leaving after inside
        | inr past ↦ next-late past
      ]
    ]

    few : kept'.count ≤ 32
    few = elim (cases_lt n carrier.k) [
      | inl before ↦ let frames = keeps.block_frames in let none = plays.early (omega arith) in omega arith
      | inr after ↦ elim (cases_lt n (carrier.k + h)) [
        | inl inside ↦ (leaving after inside).few
        | inr past ↦ let frames = keeps.block_frames in let none = plays.late (omega arith) in omega arith
      ]
    ]

    phase-next : (n % carrier.k + 1 ≡ carrier.k) ⊎ (n % carrier.k + 1 < carrier.k) → length (in_hand_after carrier.k with_frame) ≡ (n + 1) % carrier.k
    phase-next (inl last) =
        let split = div-add-mod' n carrier.k in
        let whole : n + 1 ≡ (n / carrier.k + 1) * carrier.k + 0 = omega (arith, split, last) in
        ap (λ b. length (cond b [] with_frame)) (eq-eqb (length with_frame) carrier.k (long ∙ last))
        ∙ sym (ap (λ x. x % carrier.k) whole ∙ mod-mul-add (n / carrier.k + 1) carrier.k 0 is.some_frames)
    phase-next (inr inside) =
        let split = div-add-mod' n carrier.k in
        let whole : n + 1 ≡ n / carrier.k * carrier.k + (n % carrier.k + 1) = omega (arith, split) in
        ap (λ b. length (cond b [] with_frame)) (ne_eqb (length with_frame) carrier.k (λ e. absurd (omega (arith, long, e))))
        ∙ long ∙ sym (ap (λ x. x % carrier.k) whole ∙ mod-mul-add (n / carrier.k) carrier.k (n % carrier.k + 1) inside)

    phase-cases : (n % carrier.k + 1 ≡ carrier.k) ⊎ (n % carrier.k + 1 < carrier.k)
    phase-cases =
        let low = mod_below n carrier.k is.some_frames in
        elim (cases_eq (n % carrier.k + 1) carrier.k) [
          | inl last ↦ inl last
          | inr other ↦ inr (omega arith)
        ]

    pub keeps-played : KeepsCarrier p h (t + 1) c carrier kept'
    keeps-played =
        let now : t + 1 - p.playout ≡ n + 1 = omega arith in
        let k = ap (λ (w : Mapping). w.k) keeps.mapping in record {
          flow = keeps.flow;
          at = ap (slice_get p.flows) plays.flow ∙ keeps.at;
          listed = keeps.listed;
          block_frames = plays.block_frames ∙ keeps.block_frames;
          route = subst (IsRoute p keeps.flow carrier) (sym plays.route) keeps.route;
          mapping = ap (λ (b : BlockView). b.mapping) plays.block ∙ keeps.mapping;
          room = plays.room;
          few = few;
          next = next;
          phase = ap (λ (b : BlockView). length b.containers) plays.block ∙ ap (λ x. length (in_hand_after x with_frame)) k
              ∙ phase-next phase-cases ∙ ap (λ x. x % carrier.k) (sym now);
        }

  pub keeps-unplayed : (t : ℕ) (kept : CarrierInHand) → t < p.playout → KeepsCarrier p h t c carrier kept → KeepsCarrier p h (t + 1) c carrier kept
  keeps-unplayed t kept early keeps =
      let now : t - delay_of p c ≡ t + 1 - delay_of p c = omega (arith, delay) in
      let frame : t - p.playout ≡ t + 1 - p.playout = omega arith in record {
        flow = keeps.flow;
        at = keeps.at;
        listed = keeps.listed;
        block_frames = keeps.block_frames;
        route = keeps.route;
        mapping = keeps.mapping;
        room = keeps.room;
        few = keeps.few;
        next = keeps.next ∙ ap (λ x. samples_before p c (min x h)) now;
        phase = keeps.phase ∙ ap (λ x. x % carrier.k) frame;
      }

-- ---- what it stands for

module _ (p : Plan) (f : Flow) (h : ℕ) (records : List Record) (c : ℕ) (carrier : Carrier) (good : IsGood p) (read : slice_get p.carriers c ≡ Some carrier) (found : find (lists c) p.flows ≡ Some f) where
  module _ (t n : ℕ) (at : t ≡ n + p.playout) (kept kept' : CarrierInHand) (keeps : KeepsCarrier p h t c carrier kept)
      (plays : Plays kept kept' (octets_if_good p n (part_of_frame p f h records n)) n h) (stands : StandsForCarrier p h t records c carrier f kept) where
    same_flow : keeps.flow ≡ f
    same_flow = same_Some keeps.flow f (sym keeps.listed ∙ found)

    played : kept.block.containers ++ container_played (octets_if_good p n (part_of_frame p f h records n)) kept.route ∷ [] ≡ containers_with p f h records carrier n
    played =
        let now : t - p.playout ≡ n = omega arith in
        let route = subst (λ g. IsRoute p g carrier kept.route) same_flow keeps.route in
        ap (λ xs. xs ++ container_played (octets_if_good p n (part_of_frame p f h records n)) kept.route ∷ []) (stands.containers ∙ ap (containers_in_hand p f h records carrier) now)
        ∙ ap (λ x. containers_in_hand p f h records carrier n ++ x ∷ []) (container_played-route p f carrier kept.route n (part_of_frame p f h records n) route ∙ unfold_container p f h records carrier n)

    leaving_with : carrier.k ≤ n → n < carrier.k + h → KeepsLeaving (mapping_of carrier) (containers_with p f h records carrier n) kept'
    leaving_with after inside =
        let frames = keeps.block_frames in
        subst (λ xs. KeepsLeaving (mapping_of carrier) xs kept') played
        (subst (λ w. KeepsLeaving w (kept.block.containers ++ container_played (octets_if_good p n (part_of_frame p f h records n)) kept.route ∷ []) kept') keeps.mapping
        (plays.leaves (omega arith) (omega arith)))

    entries : entries_of_kept t c kept' ≡ entries_of_before p h records (suc t) c
    entries = elim (cases_lt n carrier.k) [
      | inl before ↦
          let frames = keeps.block_frames in
          entries_of_kept-none t c kept' (plays.early (omega arith)) ∙ sym (entries_of-before p h records t c carrier good read n at before)
      | inr after ↦ elim (cases_lt n (carrier.k + h)) [
        | inl inside ↦ entries_of_kept-leaving p h records t c carrier good read n f kept' at found after inside (leaving_with after inside)
            (number-first p h c carrier good read t n at kept kept' (octets_if_good p n (part_of_frame p f h records n)) keeps plays after inside)
        | inr past ↦
            let frames = keeps.block_frames in
            entries_of_kept-none t c kept' (plays.late (omega arith)) ∙ sym (entries_of-after p h records t c carrier good read n at past)
      ]
    ]

    pub stands-played : StandsForCarrier p h (t + 1) records c carrier f kept'
    stands-played =
        let now : t + 1 - p.playout ≡ n + 1 = omega arith in
        let k = ap (λ (w : Mapping). w.k) keeps.mapping in record {
          containers = ap (λ (b : BlockView). b.containers) plays.block
              ∙ ap (λ x. in_hand_after x (kept.block.containers ++ container_played (octets_if_good p n (part_of_frame p f h records n)) kept.route ∷ [])) k
              ∙ ap (in_hand_after carrier.k) played
              ∙ in_hand_after-next p f h records carrier n (good_carrier p c carrier good read).some_frames
              ∙ ap (containers_in_hand p f h records carrier) (sym now);
          entries = entries_of_before-suc p h records t c kept' entries;
        }

  -- ---- before the first frame is played

  count-none : (t : ℕ) (kept : CarrierInHand) → entries_of_kept t c kept ≡ [] → kept.count ≡ 0
  count-none t kept none =
      let long = length-map-range_with_len (entry_of_run t c kept.number kept.marks kept.samples.items) 0 kept.count in
      sym long ∙ ap length none

  nothing-before : (t : ℕ) → t ≤ p.playout → entries_of_before p h records t c ≡ []
  nothing-before zero early = refl
  nothing-before (suc t) early = entries_of-unplayed p h records t c carrier good read (omega arith)

  module _ (t : ℕ) (early : t < p.playout) (kept : CarrierInHand) where
    pub stands-unplayed : StandsForCarrier p h t records c carrier f kept → StandsForCarrier p h (t + 1) records c carrier f kept
    stands-unplayed stands =
        let now : t - p.playout ≡ t + 1 - p.playout = omega arith in
        let none = count-none (t - 1) kept (stands.entries ∙ nothing-before t (omega arith)) in record {
          containers = stands.containers ∙ ap (containers_in_hand p f h records carrier) now;
          entries = entries_of_before-suc p h records t c kept (entries_of_kept-none t c kept none ∙ sym (nothing-before (suc t) (omega arith)));
        }

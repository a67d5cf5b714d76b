-- What a capture of a stream's packets brings for a packet: the packet's payload, or nothing where the packet is lost.
use Rattle.std.proofs.Common.{◌≡◌, ℕ, zero, suc, ◌*◌, ◌/◌, ◌^◌, ◌<◌, true, ◌&&◌, List, [], ◌∷◌, length, All, Contains, Option, Some, None, Ok, slice_get, get_or, eqb, sym, refl, ap, ◌∙◌, subst, arith}
use Rattle.std.specs.List.{HoldsAt, cons_option, filter_map}
use Rattle.std.proofs.lemmas.Bool.{and_from, eq-eqb, cond-true}
use Rattle.std.proofs.lemmas.List.{append-nil}
use Rattle.std.proofs.lemmas.List.Elements.{All-nil, All-cons, All-contains, Contains-get_or}
use Rattle.std.proofs.lemmas.Nat.{mod_below}
use Rattle.std.proofs.lemmas.Option.{cond_some, none-some, same_Some}
use Rattle.carrier_plan.specs.declared.plan.Flow.{Flow}
use Rattle.carrier_plan.specs.declared.plan.Mode.{Mode}
use Rattle.carrier_plan.specs.declared.plan.Mode.TheVariants.{Tunnel, Bytes, Aware}
use Rattle.carrier_plan.specs.declared.plan.Plan.{Plan}
use Rattle.link_base.specs.Record.{Record}
use Rattle.link_base.specs.Window.{IsOpen}
use Rattle.link_receiver.specs.Records.{arrival_by, arrival_of, arrivals_of, fits, window_of}
use Rattle.link_receiver.specs.Received.{received}
use Rattle.link_sender.specs.Packets.{IsPacket, IsPayload, packet_fields}
use Rattle.link_sender.specs.Stream.{Stream}
use Rattle.plan_checker.specs.Flows.{HasPayload, octets_of_frame}
use Rattle.plan_checker.specs.Packets.{run_packets, sequence_of, subtype_of}
use Rattle.plan_checker.specs.Rules.{IsGood}
use Rattle.plan_checker.specs.Rules.Rule.{PayloadSize, SequenceNumbers}
use Rattle.plan_checker.specs.Timing.{HasSequenceNumbers}
use Rattle.playout_buffer.proofs.Candidates.{candidate_from, candidate_parts}
use Rattle.playout_buffer.specs.Candidate.{IsCandidate, is_candidate}
use Rattle.playout_buffer.specs.Received.{Arrival, payload_for}
use Rattle.playout_buffer.specs.declared.window.Window.{Window}
use Rattle.roe_header.specs.Layout.{IsWritable, is_subtype, packet_octets, parsed}
use Rattle.roe_header.proofs.RoundTrip.{read_back}
use Rattle.link_run_delay.specs.Delay.{AreFresh, IsLost, IsPlain}

-- ---- the first of the values that items bring

-- an item that brings a value is in the list
abbrev Brought : {X Y : Type 0} → (X → Option Y) → List X → Y → Type 0
Brought {X} brings xs y = (x : X) × Contains xs x × (brings x ≡ Some y)

later : {X : Type 0} (x y : X) (xs : List X) → Contains xs y → Contains (x ∷ xs) y
later x y xs h = (suc h.0, omega (arith, h.1), h.2)

first_from_head : {X Y : Type 0} (brings : X → Option Y) (x : X) (xs : List X) (y : Y) (brought : Option Y) → brings x ≡ brought
    → (slice_get (filter_map brings xs) 0 ≡ Some y → Brought brings xs y)
    → slice_get (cons_option brought (filter_map brings xs)) 0 ≡ Some y → Brought brings (x ∷ xs) y
first_from_head brings x xs y None e rest h = let found = rest h in (found.0, later x found.0 xs found.1, found.2)
first_from_head brings x xs y (Some z) e rest h = (x, (0, omega arith, refl), e ∙ h)

first_brought : {X Y : Type 0} (brings : X → Option Y) (xs : List X) (y : Y) → slice_get (filter_map brings xs) 0 ≡ Some y → Brought brings xs y
first_brought brings [] y h = absurd (none-some y h)
first_brought brings (x ∷ xs) y h = first_from_head brings x xs y (brings x) refl (first_brought brings xs y) h

none_from_head : {X Y : Type 0} (brings : X → Option Y) (x : X) (xs : List X) (brought : Option Y) → brings x ≡ brought
    → (slice_get (filter_map brings xs) 0 ≡ None → All (λ z. brings z ≡ None) xs)
    → slice_get (cons_option brought (filter_map brings xs)) 0 ≡ None → All (λ z. brings z ≡ None) (x ∷ xs)
none_from_head brings x xs None e rest h = All-cons (λ z. brings z ≡ None) x xs e (rest h)
none_from_head brings x xs (Some z) e rest h = absurd (none-some z (sym h))

none_brought : {X Y : Type 0} (brings : X → Option Y) (xs : List X) → slice_get (filter_map brings xs) 0 ≡ None → All (λ z. brings z ≡ None) xs
none_brought brings [] h = All-nil (λ z. brings z ≡ None)
none_brought brings (x ∷ xs) h = none_from_head brings x xs (brings x) refl (none_brought brings xs) h

-- ---- the values that items bring

-- an item of a list is its first or one of the others
contained_cases : {X : Type 0} (P : X → Type 0) (x y : X) (xs : List X) → (x ≡ y → P y) → (Contains xs y → P y) → Contains (x ∷ xs) y → P y
contained_cases P x y xs first others h = contained_at P x y xs first others h.0 h.1 h.2
  where
    contained_at : {X : Type 0} (P : X → Type 0) (x y : X) (xs : List X) → (x ≡ y → P y) → (Contains xs y → P y) → (k : ℕ) → k < length (x ∷ xs) → get_or (x ∷ xs) k y ≡ y → P y
    contained_at P x y xs first others zero lt e = first e
    contained_at P x y xs first others (suc k) lt e = others (k, omega arith, e)

from_head : {X Y : Type 0} (brings : X → Option Y) (x : X) (xs : List X) (y : Y) (brought : Option Y) → brings x ≡ brought
    → (Contains (filter_map brings xs) y → Brought brings xs y) → Contains (cons_option brought (filter_map brings xs)) y → Brought brings (x ∷ xs) y
from_head brings x xs y None e rest h = let found = rest h in (found.0, later x found.0 xs found.1, found.2)
from_head brings x xs y (Some z) e rest h =
    contained_cases (Brought brings (x ∷ xs)) z y (filter_map brings xs)
    (λ same. (x, (0, omega arith, refl), e ∙ ap Some same))
    (λ others. let found = rest others in (found.0, later x found.0 xs found.1, found.2)) h

-- a value that is brought is brought by an item
brought_by : {X Y : Type 0} (brings : X → Option Y) (xs : List X) (y : Y) → Contains (filter_map brings xs) y → Brought brings xs y
brought_by brings [] y h = absurd (omega (arith, h.1))
brought_by brings (x ∷ xs) y h = from_head brings x xs y (brings x) refl (brought_by brings xs y) h

among_others : {Y : Type 0} (brought : Option Y) (ys : List Y) (y : Y) → Contains ys y → Contains (cons_option brought ys) y
among_others None ys y h = h
among_others (Some z) ys y h = later z y ys h

among_first : {Y : Type 0} (brought : Option Y) (ys : List Y) (y : Y) → brought ≡ Some y → Contains (cons_option brought ys) y
among_first None ys y h = absurd (none-some y h)
among_first (Some z) ys y h = (0, omega arith, same_Some z y h)

-- and what an item brings is brought
brought_in : {X Y : Type 0} (brings : X → Option Y) (xs : List X) (x : X) (y : Y) → brings x ≡ Some y → Contains xs x → Contains (filter_map brings xs) y
brought_in brings [] x y e h = absurd (omega (arith, h.1))
brought_in brings (z ∷ xs) x y e h =
    contained_cases (λ a. brings a ≡ Some y → Contains (cons_option (brings z) (filter_map brings xs)) y) z x xs
    (λ same is. among_first (brings z) (filter_map brings xs) y (ap brings same ∙ is))
    (λ others is. among_others (brings z) (filter_map brings xs) y (brought_in brings xs x y is others)) h e

-- ---- packets that are written are read again

is_subtype-of : (mode : Mode) → is_subtype (subtype_of mode) ≡ true
is_subtype-of Tunnel = refl
is_subtype-of Bytes = refl
is_subtype-of Aware = refl

pub sequence_of-lt : (f : Flow) (i : ℕ) → HasSequenceNumbers f → sequence_of f i < 2 ^ 32
sequence_of-lt f i numbers =
    let low = mod_below i f.p numbers.some_p in
    let high = mod_below (i / f.p) f.q numbers.some_q in
    omega (arith, numbers.small_p, numbers.small_q)

pub at_contained : {A : Type 0} (P : A → Type 0) (xs : List A) (x : A) → ((i : ℕ) → i < length xs → HoldsAt P xs i) → Contains xs x → P x
at_contained P xs x each h = subst P h.2 (each h.0 h.1 x)

module _ (p : Plan) (h : ℕ) (σ : Stream) (f : Flow) (good : IsGood p) (plain : IsPlain p) (listed : Contains p.flows f) where
  IsWritable-packet : (i : ℕ) (payload : List ℕ) → length payload ≡ f.frames * octets_of_frame p f → IsWritable (packet_fields p f i payload)
  IsWritable-packet i payload size =
      let bounds = at_contained (HasPayload p) p.flows f (good PayloadSize) listed in
      record {
        dst = All-contains (λ (g : Flow). length g.dst ≡ 6) p.flows f plain.dst listed;
        src = All-contains (λ (g : Flow). length g.src ≡ 6) p.flows f plain.src listed;
        sub = is_subtype-of p.mode;
        seq = sequence_of-lt f i (at_contained HasSequenceNumbers p.flows f (good SequenceNumbers) listed);
        payload = omega (arith, bounds.few_octets);
      }

  parsed-packet : (i : ℕ) (octets : List ℕ) → (packet : IsPacket p σ f i octets) → parsed octets ≡ Ok (packet_fields p f i packet.payload)
  parsed-packet i octets packet =
      let fields = packet_fields p f i packet.payload in
      ap parsed (packet.written ∙ sym (append-nil (packet_octets fields)))
      ∙ read_back fields [] (IsWritable-packet i packet.payload packet.carries.size)

  fits-packet : (i : ℕ) (payload : List ℕ) → length payload ≡ f.frames * octets_of_frame p f → fits p f (packet_fields p f i payload) ≡ true
  fits-packet i payload size =
      and_from (eqb (subtype_of p.mode) (subtype_of p.mode) && eqb f.id f.id) (eqb (length payload) (f.frames * octets_of_frame p f))
      (and_from (eqb (subtype_of p.mode) (subtype_of p.mode)) (eqb f.id f.id) (eq-eqb (subtype_of p.mode) (subtype_of p.mode) refl) (eq-eqb f.id f.id refl))
      (eq-eqb (length payload) (f.frames * octets_of_frame p f) size)

  -- what a packet of the stream is as a payload that arrives
  abbrev pub arrival : (t i : ℕ) → List ℕ → Arrival
  arrival t i payload = record { tick = t; seq = sequence_of f i; payload = payload }

  pub arrival_of-packet : (i : ℕ) (r : Record) → (packet : IsPacket p σ f i r.octets) → arrival_of p f r ≡ Some (arrival r.tick i packet.payload)
  arrival_of-packet i r packet =
      let fields = packet_fields p f i packet.payload in
      ap (arrival_by p f r.tick) (parsed-packet i r.octets packet)
      ∙ cond-true (fits p f fields) (Some (arrival r.tick i packet.payload)) None (fits-packet i packet.payload packet.carries.size)

-- ---- what is brought for a packet

payload_for-candidate : (w : Window) (i : ℕ) (a : Arrival) → IsCandidate w a.tick a.seq i → payload_for w i a ≡ Some a.payload
unfolding payload_for
payload_for-candidate w i a candidate = cond-true (is_candidate w a.tick a.seq i) (Some a.payload) None (candidate_from w a.tick a.seq i candidate)

-- an arrival that brings a payload for a packet
record BringsFor (w : Window) (i : ℕ) (a : Arrival) (payload : List ℕ) : Type 0 where
  candidate : IsCandidate w a.tick a.seq i
  same : a.payload ≡ payload

BringsFor-payload_for : (w : Window) (i : ℕ) (a : Arrival) (payload : List ℕ) → payload_for w i a ≡ Some payload → BringsFor w i a payload
unfolding payload_for
BringsFor-payload_for w i a payload brought =
    let parts = cond_some (is_candidate w a.tick a.seq i) a.payload payload brought in
    record { candidate = candidate_parts w a.tick a.seq i parts.0; same = parts.1 }

module _ (p : Plan) (h : ℕ) (σ : Stream) (f : Flow) (good : IsGood p) (plain : IsPlain p) (listed : Contains p.flows f) (records : List Record) (i : ℕ) where
  abbrev w : Window
  w = window_of p f h

  -- where nothing is received, the packet is lost
  pub received-none : i < run_packets p f h → received p f h records i ≡ None → IsLost p σ f records i
  received-none within none k d lt open' packet =
      let r = get_or records k d in
      let a = arrival p h σ f good plain listed r.tick i packet.payload in
      let here = Contains-get_or records k d lt in
      let arrives = brought_in (arrival_of p f) records r a (arrival_of-packet p h σ f good plain listed i r packet) here in
      let nothing = at_contained (λ b. payload_for w i b ≡ None) (arrivals_of p f records) a (λ j less b. none_brought (payload_for w i) (arrivals_of p f records) none j b less) arrives in
      let brought = payload_for-candidate w i a (record { within = within; number = refl; arrives = open' }) in
      none-some packet.payload (sym nothing ∙ brought)

  -- what was read of a record that brings the payload that is received
  record IsFirst (payload : List ℕ) : Type 0 where
    first : Record
    there : Contains records first
    arrived : Arrival
    arrives : arrival_of p f first ≡ Some arrived
    brings : BringsFor w i arrived payload

  first_of-received : (payload : List ℕ) → received p f h records i ≡ Some payload → IsFirst payload
  first_of-received payload found =
      let arrived = first_brought (payload_for w i) (arrivals_of p f records) payload found in
      let first = brought_by (arrival_of p f) records arrived.0 arrived.1 in
      record { first = first.0; there = first.1; arrived = arrived.0; arrives = first.2; brings = BringsFor-payload_for w i arrived.0 payload arrived.2 }

  module _ (payload : List ℕ) (fresh : AreFresh p h σ records) (found : received p f h records i ≡ Some payload) where
    abbrev is_first : IsFirst payload
    is_first = first_of-received payload found

    packet : IsPacket p σ f i is_first.first.octets
    packet =
        at_contained (λ r. (a : Arrival) → arrival_of p f r ≡ Some a → IsCandidate w a.tick a.seq i → IsPacket p σ f i r.octets) records is_first.first
        (λ k lt d a arrives candidate. fresh k d lt f i a listed arrives candidate) is_first.there is_first.arrived is_first.arrives is_first.brings.candidate

    same_arrival : arrival p h σ f good plain listed is_first.first.tick i packet.payload ≡ is_first.arrived
    same_arrival =
        same_Some (arrival p h σ f good plain listed is_first.first.tick i packet.payload) is_first.arrived
        (sym (arrival_of-packet p h σ f good plain listed i is_first.first packet) ∙ is_first.arrives)

    -- where a payload is received, it is the packet's
    pub received-payload : IsPayload p σ f i payload
    received-payload = subst (IsPayload p σ f i) (ap (λ (a : Arrival). a.payload) same_arrival ∙ is_first.brings.same) packet.carries

    -- and the packet is not lost
    pub received-not_lost : ¬ IsLost p σ f records i
    received-not_lost lost =
        let is_lost = at_contained (λ r. IsOpen f.frames f.lmin f.lmax r.tick i → ¬ IsPacket p σ f i r.octets) records is_first.first (λ k lt d. lost k d lt) is_first.there in
        let opened : IsOpen f.frames f.lmin f.lmax is_first.first.tick i = subst (λ (a : Arrival). IsOpen f.frames f.lmin f.lmax a.tick i) (sym same_arrival) is_first.brings.candidate.arrives in
        is_lost opened packet

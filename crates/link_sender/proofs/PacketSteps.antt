-- The packets of a flow, from tick to tick and when they are ready.
use Rattle.std.proofs.Common.{◌≡◌, ◌≢◌, ◌==◌, ℕ, ◌+◌, ◌-◌, ◌*◌, ◌/◌, ◌%◌, ◌<◌, ◌≤◌, cond, List, [], ◌∷◌, ◌++◌, length, length-drop, take, drop, replicate, length-append, sym, ap, ◌∙◌, subst, arith, inl, inr}
use Rattle.std.proofs.lemmas.Bool.{cases_eq, cases_lt, eq-eqb, ne_eqb}
use Rattle.std.proofs.lemmas.List.{drop-drop, drop-take, length-replicate, length-take-le, take-append-drop, take-take}
use Rattle.std.proofs.lemmas.Nat.{div-add-mod', div_below, le-div, mod_below, mul-le}
use Rattle.carrier_plan.specs.declared.plan.Flow.{Flow}
use Rattle.carrier_plan.specs.declared.plan.Plan.{Plan}
use Rattle.line_code.specs.declared.characters.Rd.{Rd}
use Rattle.link_base.specs.Window.{last_frame}
use Rattle.plan_checker.specs.Flows.{octets_of_frame}
use Rattle.plan_checker.specs.Packets.{sequence_of, subtype_of}
use Rattle.roe_header.specs.Layout.{Fields, four_octets, header, two_octets}
use Rattle.roe_mappers.specs.Parts.{IsPart}
use Rattle.link_sender.specs.Packets.{CarriesFrame, IsPacket, IsPayload, packet_fields}
use Rattle.link_sender.specs.Rings.{IsRing, PutsPart, blank_fields, end_of, front_of, order_of, part_of, payload_octets, slot_at, slot_of}
use Rattle.link_sender.specs.Senders.{StandsForPackets}
use Rattle.link_sender.specs.Stream.{Stream}
use Rattle.link_sender.specs.declared.packet_ring.PacketRing.{PacketRing}
use Rattle.link_sender.proofs.PacketOctets.{drop_payload, front, front_of-packet, length-header, whole, zeros}
use Rattle.link_sender.proofs.RingSteps.{length-slot, room_in}

-- numbers that are less than n apart have different rests
apart : (i j n : ℕ) → 1 ≤ n → i < j → j < i + n → i % n ≢ j % n
apart i j n some less near same =
    let one = div-add-mod' i n in
    let other = div-add-mod' j n in
    elim (cases_lt (i / n) (j / n)) [
      | inl above ↦ let product = mul-le (i / n + 1) n (j / n) n (omega arith) (omega arith) in omega (arith, one, other, product)
      | inr below ↦ let product = mul-le (j / n) n (i / n) n below (omega arith) in omega (arith, one, other, product)
    ]

module _ (p : Plan) (σ : Stream) (t : ℕ) (f : Flow) (rd : Rd) (frame : List ℕ) (old new : PacketRing) (some : 1 ≤ f.frames) (is : IsRing p f old) (puts : PutsPart p f t rd frame old new)
    (stands : StandsForPackets p σ t f old) (carries : (part : List ℕ) → IsPart p f t rd frame part → CarriesFrame p σ f t part) where
  abbrev frames : ℕ
  frames = f.frames

  split : t / frames * frames + t % frames ≡ t
  split = div-add-mod' t frames

  -- the number of a packet that is begun
  number_le : (i : ℕ) → i * frames < t + 1 → i ≤ t / frames
  number_le i less = le-div i t frames some (omega arith)

  fresh_before : (i : ℕ) → t + 1 ≤ (i + new.count) * frames → t ≤ (i + old.count) * frames
  fresh_before i fresh = let same : (i + new.count) * frames ≡ (i + old.count) * frames = ap (λ c. (i + c) * frames) puts.count in omega (arith, same)

  -- the slot of an earlier packet stays
  slot_stays : (i : ℕ) → i < t / frames → t + 1 ≤ (i + new.count) * frames → slot_of new i ≡ slot_of old i
  slot_stays i less fresh =
      let same : (i + new.count) * frames ≡ (i + old.count) * frames = ap (λ c. (i + c) * frames) puts.count in
      let near : t / frames < i + old.count = div_below t frames (i + old.count) some (omega (arith, same)) in
      ap (λ c. slot_at new (i % c)) puts.count ∙ puts.others (i % old.count) (mod_below i old.count is.some) (apart i (t / frames) old.count is.some less near)

  earlier : (i k : ℕ) → i < t / frames → k < frames → i * frames + k < t
  earlier i k less low = let product = mul-le (i + 1) frames (t / frames) frames (omega arith) (omega arith) in omega (arith, product, split)

  order_more : (i : ℕ) → i * frames < t + 1 → t + 1 ≤ (i + new.count) * frames → order_of (slot_of new i) ≡ four_octets (sequence_of f i)
  order_more i less fresh = elim (cases_eq i (t / frames)) [
    | inl here ↦
        let slot : slot_of new i ≡ slot_of new (t / frames) = ap (slot_of new) here in
        let number : four_octets (sequence_of f (t / frames)) ≡ four_octets (sequence_of f i) = ap (λ n. four_octets (sequence_of f n)) (sym here) in
        let choice : order_of (slot_of new i) ≡ cond (t % frames == 0) (four_octets (sequence_of f (t / frames))) (order_of (slot_of old (t / frames))) = ap order_of slot ∙ puts.slot.order in
        elim (cases_eq (t % frames) 0) [
          | inl first ↦ choice ∙ ap (λ b. cond b (four_octets (sequence_of f (t / frames))) (order_of (slot_of old (t / frames)))) (eq-eqb (t % frames) 0 first) ∙ number
          | inr later ↦
              let product : i * frames ≡ t / frames * frames = ap (λ n. n * frames) here in
              choice ∙ ap (λ b. cond b (four_octets (sequence_of f (t / frames))) (order_of (slot_of old (t / frames)))) (ne_eqb (t % frames) 0 later)
              ∙ ap (λ n. order_of (slot_of old n)) (sym here) ∙ stands.order i (omega (arith, split, product, later)) (fresh_before i fresh)
        ]
    | inr other ↦
        let below : i < t / frames = let le = number_le i less in omega (arith, le, other) in
        ap order_of (slot_stays i below fresh) ∙ stands.order i (let first = earlier i 0 below (omega arith) in omega (arith, first)) (fresh_before i fresh)
  ]

  parts_more : (i k : ℕ) → k < frames → i * frames + k < t + 1 → t + 1 ≤ (i + new.count) * frames → CarriesFrame p σ f (i * frames + k) (part_of p f k (slot_of new i))
  parts_more i k low less fresh = elim (cases_eq i (t / frames)) [
    | inl here ↦
        let slot : slot_of new i ≡ slot_of new (t / frames) = ap (slot_of new) here in
        let product : i * frames ≡ t / frames * frames = ap (λ n. n * frames) here in
        elim (cases_eq k (t % frames)) [
          | inl last ↦
              let number : t ≡ i * frames + k = omega (arith, split, product, last) in
              let part : part_of p f (t % frames) (slot_of new (t / frames)) ≡ part_of p f k (slot_of new i) = ap (λ n. part_of p f n (slot_of new (t / frames))) (sym last) ∙ ap (part_of p f k) (sym slot) in
              subst (λ n. CarriesFrame p σ f n (part_of p f k (slot_of new i))) number
              (subst (CarriesFrame p σ f t) part (carries (part_of p f (t % frames) (slot_of new (t / frames))) puts.slot.part))
          | inr before ↦
              let same : part_of p f k (slot_of old i) ≡ part_of p f k (slot_of new i) = ap (λ n. part_of p f k (slot_of old n)) here ∙ sym (puts.slot.others k low before) ∙ ap (part_of p f k) (sym slot) in
              subst (CarriesFrame p σ f (i * frames + k)) same (stands.parts i k low (omega (arith, split, product, before)) (fresh_before i fresh))
        ]
    | inr other ↦
        let below : i < t / frames = let le = number_le i (omega arith) in omega (arith, le, other) in
        subst (CarriesFrame p σ f (i * frames + k)) (ap (part_of p f k) (sym (slot_stays i below fresh))) (stands.parts i k low (earlier i k below low) (fresh_before i fresh))
  ]

  pub packets_more : StandsForPackets p σ (t + 1) f new
  packets_more = record { order = order_more; parts = parts_more }

-- ---- a packet that is ready

module _ (p : Plan) (σ : Stream) (t : ℕ) (f : Flow) (ring : PacketRing) (i : ℕ) (some : 1 ≤ f.frames) (is : IsRing p f ring) (stands : StandsForPackets p σ t f ring)
    (opens : last_frame f.frames i + f.lmin + 1 ≡ t) where
  abbrev slot : List ℕ
  slot = slot_of ring i

  abbrev size : ℕ
  size = octets_of_frame p f

  abbrev count : ℕ
  count = payload_octets p f

  abbrev payload : List ℕ
  payload = take count (drop 22 slot)

  made : (i + 1) * f.frames ≤ t
  made = let least = mul-le 1 f.frames (i + 1) f.frames (omega arith) (omega arith) in omega (arith, opens, least)

  fresh : t ≤ (i + ring.count) * f.frames
  fresh = let least = mul-le 1 f.frames (i + 1) f.frames (omega arith) (omega arith) in omega (arith, opens, least, is.enough)

  long : 22 + count ≤ length slot
  long = let room = room_in p f ring is in let same = length-slot p f ring (i % ring.count) is (mod_below i ring.count is.some) in omega (arith, room, same)

  length-payload : length payload ≡ count
  length-payload = let left = length-drop 22 slot in length-take-le count (drop 22 slot) (omega (arith, long, left))

  part_is : (k : ℕ) → k < f.frames → part_of p f k slot ≡ take size (drop (k * size) payload)
  unfolding part_of
  part_is k low =
      let most = mul-le (k + 1) size f.frames size (omega arith) (omega arith) in
      let m : ℕ = count - k * size in
      let all : count ≡ k * size + m = omega (arith, most) in
      sym (ap (take size) (ap (λ n. drop (k * size) (take n (drop 22 slot))) all ∙ drop-take (k * size) m (drop 22 slot))
      ∙ take-take size m (drop (k * size) (drop 22 slot)) (omega (arith, most)) ∙ ap (take size) (drop-drop (k * size) 22 slot))

  IsPayload-slot : IsPayload p σ f i payload
  IsPayload-slot = record {
    size = length-payload;
    parts = λ k low.
        subst (CarriesFrame p σ f (i * f.frames + k)) (part_is k low) (stands.parts i k low (omega (arith, made)) fresh);
  }

  abbrev blank : Fields
  blank = blank_fields p f

  abbrev fields : Fields
  fields = packet_fields p f i payload

  blank_length : length {A = ℕ} (replicate count 0) ≡ count
  blank_length = length-replicate {A = ℕ} count 0

  same_front : front_of slot ≡ front fields
  same_front =
      let begun = is.begun (i % ring.count) (mod_below i ring.count is.some) in
      begun.front ∙ front_of-packet blank is.dst is.src
      ∙ ap (λ n. f.dst ++ f.src ++ two_octets 64573 ++ subtype_of p.mode ∷ f.id ∷ [] ++ two_octets n) (blank_length ∙ sym length-payload)

  same_zeros : zeros blank ≡ zeros fields
  same_zeros =
      let one = length-append (header blank) (replicate count 0) in
      let other = length-append (header fields) payload in
      let first = length-header blank is.dst is.src in
      let second = length-header fields is.dst is.src in
      let same : length (header blank ++ replicate count 0) ≡ length (header fields ++ payload) = omega (arith, one, other, first, second, blank_length, length-payload) in
      ap (λ n. replicate (60 - n) 0) same

  same_end : end_of p f slot ≡ zeros fields
  unfolding end_of
  same_end =
      let begun = is.begun (i % ring.count) (mod_below i ring.count is.some) in
      begun.end ∙ drop_payload blank is.dst is.src count (sym blank_length) ∙ same_zeros

  same_order : order_of slot ≡ four_octets (sequence_of f i)
  same_order = let low = mul-le (i + 1) f.frames (i + 1) f.frames (omega arith) (omega arith) in stands.order i (omega (arith, made)) fresh

  pub IsPacket-slot : IsPacket p σ f i slot
  unfolding front_of order_of end_of
  IsPacket-slot =
      let behind : drop 4 (drop 18 slot) ≡ drop 22 slot = drop-drop 4 18 slot in
      let past : drop count (drop 22 slot) ≡ drop (22 + count) slot = drop-drop count 22 slot in
      let rest : drop 22 slot ≡ payload ++ zeros fields = sym (take-append-drop count (drop 22 slot)) ∙ ap (λ end. payload ++ end) (past ∙ same_end) in
      let middle : drop 18 slot ≡ four_octets (sequence_of f i) ++ (payload ++ zeros fields) = sym (take-append-drop 4 (drop 18 slot)) ∙ ap (λ order. order ++ drop 4 (drop 18 slot)) same_order ∙ ap (λ end. four_octets (sequence_of f i) ++ end) (behind ∙ rest) in
      record {
        payload = payload;
        carries = IsPayload-slot;
        written = sym (take-append-drop 18 slot) ∙ ap (λ first. first ++ drop 18 slot) same_front ∙ ap (λ end. front fields ++ end) middle ∙ sym (whole fields is.dst is.src);
      }

-- The part of a frame, written into the slot of its packet.
use Rattle.std.proofs.Common.{◌≡◌, ◌≢◌, ℕ, ◌+◌, ◌*◌, ◌/◌, ◌%◌, ◌^◌, ◌<◌, ◌≤◌, List, length, length-drop, take, drop, sym, ap, ◌∙◌, subst, arith, inl, inr}
use Rattle.std.specs.Int.{div_ceil}
use Rattle.std.proofs.lemmas.Bool.{cases_eq}
use Rattle.std.proofs.lemmas.List.{length-replicate, length-take-le}
use Rattle.std.proofs.lemmas.Nat.{mod_below, mul-le}
use borrow.Rule.Slice.PartMut.{put_mid}
use Rattle.carrier_plan.specs.declared.plan.Flow.{Flow}
use Rattle.carrier_plan.specs.declared.plan.Plan.{Plan}
use Rattle.line_code.specs.declared.characters.Rd.{Rd}
use Rattle.plan_checker.specs.Flows.{octets_of_frame}
use Rattle.sample_bits.proofs.RateLemmas.{div_ceil-enough, div_ceil-le}
use Rattle.link_sender.specs.Rings.{IsBegun, IsBlank, IsRing, PutsPart, WritesPart, blank_fields, blank_packet, end_of, front_of, payload_octets, slot_at, slot_of}
use Rattle.link_sender.specs.declared.packet_ring.PacketRing.{PacketRing}
use Rattle.link_sender.proofs.PacketOctets.{length-packet}
use Rattle.link_sender.proofs.Slots.{length-mid, slot_stays, slot_written}

-- a slot ends within the octets
pub slot_end : (p : Plan) (f : Flow) (ring : PacketRing) (j : ℕ) → IsRing p f ring → j < ring.count → j * ring.size + ring.size ≤ length ring.octets.items
slot_end p f ring j is less =
    let most = mul-le (j + 1) ring.size ring.count ring.size (omega arith) (omega arith) in
    omega (arith, most, is.whole)

pub length-slot : (p : Plan) (f : Flow) (ring : PacketRing) (j : ℕ) → IsRing p f ring → j < ring.count → length (slot_at ring j) ≡ ring.size
unfolding slot_at
length-slot p f ring j is less =
    let end = slot_end p f ring j is less in
    let left = length-drop (j * ring.size) ring.octets.items in
    length-take-le ring.size (drop (j * ring.size) ring.octets.items) (omega arith)

module _ (p : Plan) (f : Flow) (n : ℕ) (rd : Rd) (frame packet : List ℕ) (old new : PacketRing) (is : IsRing p f old)
    (size : new.size ≡ old.size) (count : new.count ≡ old.count) where
  abbrev j0 : ℕ
  j0 = n / f.frames % old.count

  module _ (written : new.octets.items ≡ put_mid (j0 * old.size) old.size old.octets.items packet) (part : WritesPart p f n rd frame (slot_of old (n / f.frames)) packet) where
    low : j0 < old.count
    low = mod_below (n / f.frames) old.count is.some

    long : length packet ≡ old.size
    long = part.same_length ∙ length-slot p f old j0 is low

    same_place : (j : ℕ) → slot_at new j ≡ take old.size (drop (j * old.size) (put_mid (j0 * old.size) old.size old.octets.items packet))
    unfolding slot_at
    same_place j = ap (λ s. take s (drop (j * s) new.octets.items)) size ∙ ap (λ octets. take old.size (drop (j * old.size) octets)) written

    there : slot_at new j0 ≡ packet
    there = same_place j0 ∙ slot_written old.size j0 old.octets.items packet (slot_end p f old j0 is low) long

    others : (j : ℕ) → j ≢ j0 → slot_at new j ≡ slot_at old j
    unfolding slot_at
    others j other = same_place j ∙ slot_stays old.size j0 old.octets.items packet (slot_end p f old j0 is low) long j other

    same_slot : slot_of new (n / f.frames) ≡ slot_at new j0
    same_slot = ap (λ c. slot_at new (n / f.frames % c)) count

    pub puts_part : PutsPart p f n rd frame old new
    puts_part = record {
      size = size;
      count = count;
      slot = subst (WritesPart p f n rd frame (slot_of old (n / f.frames))) (sym (same_slot ∙ there)) part;
      others = λ j less other. others j other;
    }

    begun_slot : IsBegun p f packet
    begun_slot =
        let before = is.begun j0 low in
        record { size = part.same_length ∙ before.size; front = part.front ∙ before.front; end = part.end ∙ before.end }

    pub stays_ring : IsRing p f new
    stays_ring = record {
      dst = is.dst;
      src = is.src;
      some = omega (arith, is.some, count);
      few = omega (arith, is.few, count);
      enough = subst (λ c. f.lmin + f.frames ≤ c * f.frames) (sym count) is.enough;
      size = size ∙ is.size;
      whole =
          ap length written ∙ length-mid (j0 * old.size) old.size old.octets.items packet (slot_end p f old j0 is low) long ∙ is.whole
          ∙ ap (λ c. c * old.size) (sym count) ∙ ap (λ s. new.count * s) (sym size);
      begun = λ j less. elim (cases_eq j j0) [
        | inl same ↦ subst (IsBegun p f) (sym (ap (slot_at new) same ∙ there)) begun_slot
        | inr other ↦ subst (IsBegun p f) (sym (others j other)) (is.begun j (omega (arith, count)))
      ];
    }

-- the same where the slot is found by equal numbers
pub record IsWritten (p : Plan) (f : Flow) (n : ℕ) (rd : Rd) (frame : List ℕ) (old new : PacketRing) : Type 0 where
  pub ring : IsRing p f new
  pub part : PutsPart p f n rd frame old new

pub written_at : (p : Plan) (f : Flow) (n : ℕ) (rd : Rd) (frame packet xs : List ℕ) (at width : ℕ) (old new : PacketRing) → IsRing p f old
    → at ≡ n / f.frames % old.count * old.size → width ≡ old.size → xs ≡ old.octets.items → new.size ≡ old.size → new.count ≡ old.count
    → new.octets.items ≡ put_mid at width xs packet → WritesPart p f n rd frame (take width (drop at xs)) packet → IsWritten p f n rd frame old new
unfolding slot_at
written_at p f n rd frame packet xs at width old new is place long same size count written part =
    let here : ℕ = n / f.frames % old.count * old.size in
    let items = old.octets.items in
    let put = written ∙ ap (λ a. put_mid a width xs packet) place ∙ ap (λ w. put_mid here w xs packet) long ∙ ap (λ zs. put_mid here old.size zs packet) same in
    let slot : take width (drop at xs) ≡ slot_of old (n / f.frames) =
    ap (λ a. take width (drop a xs)) place ∙ ap (λ w. take w (drop here xs)) long ∙ ap (λ zs. take old.size (drop here zs)) same in
    let whole = subst (λ s. WritesPart p f n rd frame s packet) slot part in
    record { ring = stays_ring p f n rd frame packet old new is size count put whole; part = puts_part p f n rd frame packet old new is size count put whole }

-- a packet has room for its payload
pub room_in : (p : Plan) (f : Flow) (ring : PacketRing) → IsRing p f ring → 22 + payload_octets p f ≤ ring.size
room_in p f ring is =
    let blank = blank_fields p f in
    let long = length-packet blank is.dst is.src in
    let zeros = length-replicate {A = ℕ} (payload_octets p f) 0 in
    omega (arith, long.0, zeros, is.size)

-- a slot's place, and where it ends
pub record IsSlot (at size long : ℕ) : Type 0 where
  pub within : at + size ≤ long
  pub few : at + size < 2 ^ 40

pub slot_place : (p : Plan) (f : Flow) (ring : PacketRing) (i frames long : ℕ) → IsRing p f ring → f.frames * octets_of_frame p f ≤ 1492 → long ≡ length ring.octets.items
    → IsSlot (i % ring.count * ring.size) ring.size long
slot_place p f ring i frames long is few same =
    let blank = blank_fields p f in
    let low = mod_below i ring.count is.some in
    let end = slot_end p f ring (i % ring.count) is low in
    let most = length-packet blank is.dst is.src in
    let zeros = length-replicate {A = ℕ} (payload_octets p f) 0 in
    let size : ring.size ≤ 1552 = omega (arith, most.1, zeros, is.size) in
    let product = mul-le (i % ring.count) ring.size 100001 1552 (omega (arith, is.few)) size in
    record { within = omega (arith, end, same); few = omega (arith, product, size) }

-- ---- slots before the first frame

pub few_slots : (lmin frames : ℕ) → 1 ≤ frames → lmin ≤ 100000 → div_ceil lmin frames + 1 ≤ 100001
few_slots lmin frames some few =
    let product = mul-le 100000 1 100000 frames (omega arith) some in
    let most = div_ceil-le lmin frames 100000 some (omega arith) in
    omega arith

pub ring_begun : (p : Plan) (f : Flow) (ring : PacketRing) (blank octets : List ℕ) → IsBlank p f blank → octets ≡ blank → 1 ≤ f.frames → f.lmin ≤ 100000
    → ring.size ≡ length blank → ring.count ≡ div_ceil f.lmin f.frames + 1 → length ring.octets.items ≡ ring.count * length octets
    → ((j : ℕ) → j < ring.count → take (length octets) (drop (j * length octets) ring.octets.items) ≡ octets)
    → IsRing p f ring
unfolding slot_at
ring_begun p f ring blank octets is same some few size count long each =
    let wide : ring.size ≡ length octets = size ∙ ap length (sym same) in
    let most = few_slots f.lmin f.frames some few in
    let enough = div_ceil-enough f.lmin f.frames some in
    let product : (div_ceil f.lmin f.frames + 1) * f.frames ≡ ring.count * f.frames = ap (λ c. c * f.frames) (sym count) in
    record {
      dst = is.dst;
      src = is.src;
      some = omega (arith, count);
      few = omega (arith, count, most);
      enough = omega (arith, enough, product);
      size = size ∙ ap length is.is;
      whole = long ∙ ap (λ s. ring.count * s) (sym wide);
      begun = λ j less.
          let slot : slot_at ring j ≡ blank_packet p f = ap (λ s. take s (drop (j * s) ring.octets.items)) wide ∙ each j less ∙ same ∙ is.is in
          record { size = ap length slot; front = ap front_of slot; end = ap (end_of p f) slot };
    }

-- What is held after each step of the slots.
use Rattle.std.proofs.Common.{◌≡◌, ◌≢◌, ◌==◌, ◌&&◌, ℕ, ◌+◌, ◌-◌, ◌*◌, ◌/◌, ◌%◌, ◌<◌, ◌≤◌, ◌^◌, Bool, true, false, cond, List, length, get_or, set, take, drop, replicate, Option, Some, None, Fits, w64, arith, sym, ap, subst, ◌∙◌, inl, inr}
use Rattle.std.specs.Cmp.{nat_cmp_total, unsigned_tied}
use Rattle.std.specs.FinMap.{empty, get, get-empty, get-insert, get-retain_keys, insert, nat_cmp-IsAntisymmetric, retain_keys, same_map}
use Rattle.std.specs.Option.{is_some, option_map}
use Rattle.std.specs.Ordering.{nat_cmp, eq_by_cmp}
use Rattle.std.proofs.lemmas.Bool.{cases_eq, eq-eqb, ne_eqb, eqb-true, leb-true, and_left, and_parts, and_right, false_from_ne_true}
use Rattle.std.proofs.lemmas.List.{length-set, length-replicate, get_or-set_same, get_or-set_other, get_or-replicate, get_or_read, drop-drop, drop-take, take-take}
use Rattle.std.proofs.lemmas.Nat.{mul-le, mod_below}
use Rattle.link_base.specs.Window.{last_frame}
use Rattle.playout_buffer.specs.Candidate.{IsCandidate, candidate_of}
use Rattle.playout_buffer.specs.Conditions.{IsWindow, payload_octets}
use Rattle.playout_buffer.specs.declared.put.Put.TheVariants.{Taken, Repeat}
use Rattle.playout_buffer.specs.declared.window.Window.{Window}
use Rattle.playout_buffer.specs.Held.{Payloads, is_awaited, part_of, part_in, payloads_with, put_answer}
use Rattle.playout_buffer.specs.Slots.{AreSlots, held_in, payload_at}
use Rattle.playout_buffer.specs.View.{PlayoutView}
use Rattle.playout_buffer.proofs.Awaited.{candidate_held, candidate_awaited, frame_awaited, still_awaited}
use Rattle.playout_buffer.proofs.Candidates.{candidate_of-is}
use Rattle.playout_buffer.proofs.Lookups.{get-held_in, in_own_slot}
use Rattle.playout_buffer.proofs.Room.{own_slots}
use Rattle.playout_buffer.proofs.Written.{written, length-written, piece_written, others_written}

-- two maps that answer alike are equal
same_payloads : (m n : Payloads) → ((q : ℕ) → get m q ≡ get n q) → m ≡ n
same_payloads m n alike = same_map nat_cmp_total nat_cmp-IsAntisymmetric m n alike

abbrev pub shown : Window → (t : ℕ) → (numbers octets : List ℕ) → PlayoutView
shown w t numbers octets = record { window = w; tick = t; held = held_in w t numbers octets }

-- one more than its number fits a word
pub candidate_small : (w : Window) (t seq i : ℕ) → IsWindow w → candidate_of w t seq ≡ Some i → Fits w64 (i + 1)
candidate_small w t seq i is found = let within = (candidate_of-is w t seq i found).within in let few = is.few_packets in omega arith

-- ---- the beginning

empty_slot : (n slot : ℕ) → slot < n → get_or (replicate {A = ℕ} n 0) slot 0 ≡ 0
empty_slot n slot less = get_or-replicate n slot 0 0 less

no_slots : (w : Window) → IsWindow w → (octets : List ℕ) → length octets ≡ w.cap * payload_octets w → AreSlots w 0 (replicate w.cap 0) octets
no_slots w is octets long = record {
  window = is;
  present = omega arith;
  numbered = length-replicate w.cap 0;
  long = long;
  placed = λ slot i less same. absurd (omega (arith, same, empty_slot w.cap slot less));
}

pub begun : (w : Window) → IsWindow w → (numbers octets : List ℕ) → numbers ≡ replicate w.cap 0 → octets ≡ replicate (w.cap * payload_octets w) 0
    → AreSlots w 0 numbers octets × (shown w 0 numbers octets ≡ record { window = w; tick = 0; held = empty })
begun w is numbers octets numbered long =
    let none = no_slots w is octets (ap length long ∙ length-replicate (w.cap * payload_octets w) 0) in
    let are : AreSlots w 0 numbers octets = subst (λ ns. AreSlots w 0 ns octets) (sym numbered) none in
    let some = is.some_room in
    let alike : (q : ℕ) → get (held_in w 0 numbers octets) q ≡ get (empty {R = nat_cmp}) q =
    λ q.
    let own : q % w.cap < w.cap = mod_below q w.cap (omega arith) in
    let empty : get_or numbers (q % w.cap) 0 ≡ 0 = ap (λ ns. get_or ns (q % w.cap) 0) numbered ∙ empty_slot w.cap (q % w.cap) own in
    get-held_in w 0 numbers octets are q
    ∙ ap (λ b. cond b (Some (payload_at w octets (q % w.cap))) None) (and_left (get_or numbers (q % w.cap) 0 == q + 1) (is_awaited w 0 q) (ne_eqb (get_or numbers (q % w.cap) 0) (q + 1) (λ e. absurd (omega arith))))
    ∙ sym (get-empty nat_cmp q) in
    (are, ap (λ held. record { window = w; tick = 0; held = held }) (same_payloads _ _ alike))

module _ (w : Window) (t : ℕ) (numbers octets : List ℕ) (are : AreSlots w t numbers octets) where
  abbrev pub held : Payloads
  held = held_in w t numbers octets

  abbrev pub number_at : ℕ → ℕ
  number_at q = get_or numbers (q % w.cap) 0

  own_slot : (q : ℕ) → q % w.cap < w.cap
  own_slot q = mod_below q w.cap (let some = are.window.some_room in omega arith)

  -- the number of a slot, as it was read
  pub slot_number : (q x : ℕ) → x ≡ get_or numbers (q % w.cap) x → number_at q ≡ x
  slot_number q x read = let own = own_slot q in let many = are.numbered in sym (get_or_read numbers (q % w.cap) x (omega arith) read 0)

  -- what is held of a packet that is awaited, by the number of its slot
  pub kept : (i : ℕ) → is_awaited w t i ≡ true → number_at i ≡ i + 1 → get held i ≡ Some (payload_at w octets (i % w.cap))
  kept i awaited same =
      get-held_in w t numbers octets are i
      ∙ ap (λ b. cond (b && is_awaited w t i) (Some (payload_at w octets (i % w.cap))) None) (eq-eqb (number_at i) (i + 1) same)
      ∙ ap (λ b. cond b (Some (payload_at w octets (i % w.cap))) None) awaited

  pub not_kept : (i : ℕ) → number_at i ≢ i + 1 → get held i ≡ None
  not_kept i other =
      get-held_in w t numbers octets are i
      ∙ ap (λ b. cond b (Some (payload_at w octets (i % w.cap))) None) (and_left (number_at i == i + 1) (is_awaited w t i) (ne_eqb (number_at i) (i + 1) other))

  -- ---- the next tick

  pub advanced_slots : t < 2 ^ 41 → AreSlots w (t + 1) numbers octets
  advanced_slots small = record {
    window = are.window;
    present = omega arith;
    numbered = are.numbered;
    long = are.long;
    placed = λ slot i less same. let before = are.placed slot i less same in (before.0, omega arith);
  }

  let_go : (q : ℕ) (same next : Bool) (x : Option (List ℕ)) → is_awaited w (t + 1) q ≡ next → cond (same && is_awaited w (t + 1) q) x None ≡ cond next (cond (same && is_awaited w t q) x None) None
  let_go q same true x later =
      ap (λ b. cond (same && b) x None) later ∙ sym (ap (λ b. cond (same && b) x None) (still_awaited w t q later))
  let_go q same false x later = ap (λ b. cond b x None) (and_right same (is_awaited w (t + 1) q) later)

  pub advanced : t < 2 ^ 41 → shown w (t + 1) numbers octets ≡ record { window = w; tick = t + 1; held = retain_keys held (is_awaited w (t + 1)) }
  advanced small =
      let alike : (q : ℕ) → get (held_in w (t + 1) numbers octets) q ≡ get (retain_keys held (is_awaited w (t + 1))) q =
      λ q.
      get-held_in w (t + 1) numbers octets (advanced_slots small) q
      ∙ let_go q (number_at q == q + 1) (is_awaited w (t + 1) q) (Some (payload_at w octets (q % w.cap))) (λ _. is_awaited w (t + 1) q)
      ∙ ap (λ x. cond (is_awaited w (t + 1) q) x None) (sym (get-held_in w t numbers octets are q))
      ∙ sym (get-retain_keys held (is_awaited w (t + 1)) q (λ x tied. ap (is_awaited w (t + 1)) (sym (nat_cmp-IsAntisymmetric q x tied)))) in
      ap (λ m. record { window = w; tick = t + 1; held = m }) (same_payloads _ _ alike)

  -- ---- a payload

  module _ (seq i : ℕ) (found : candidate_of w t seq ≡ Some i) (payload : List ℕ) where
    the_candidate : IsCandidate w t seq i
    the_candidate = candidate_of-is w t seq i found

    awaited : is_awaited w t i ≡ true
    awaited = candidate_awaited w t seq i are.window the_candidate

    -- a repeat
    pub repeat_answer : number_at i ≡ i + 1 → Repeat i ≡ put_answer held (candidate_of w t seq)
    repeat_answer same = sym (ap (put_answer held) found ∙ ap (λ o. cond (is_some o) (Repeat i) (Taken i)) (kept i awaited same))

    pub repeat_shown : number_at i ≡ i + 1 → shown w t numbers octets ≡ record { window = w; tick = t; held = payloads_with held (candidate_of w t seq) payload }
    repeat_shown same =
        ap (λ m. record { window = w; tick = t; held = m })
        (sym (ap (λ o. payloads_with held o payload) found ∙ ap (λ o. cond (is_some o) held (insert held i payload)) (kept i awaited same)))

    -- a payload that is kept
    pub taken_answer : number_at i ≢ i + 1 → Taken i ≡ put_answer held (candidate_of w t seq)
    taken_answer other = sym (ap (put_answer held) found ∙ ap (λ o. cond (is_some o) (Repeat i) (Taken i)) (not_kept i other))

    abbrev pub start : ℕ
    start = i % w.cap * length payload

    pub payload_fits : length payload ≡ payload_octets w → start + length payload ≤ length octets
    payload_fits long =
        let own = own_slot i in
        let product : (i % w.cap + 1) * length payload ≤ w.cap * payload_octets w = mul-le (i % w.cap + 1) (length payload) w.cap (payload_octets w) (omega arith) (omega arith) in
        let all = are.long in
        omega (arith, product)

    module _ (long : length payload ≡ payload_octets w) where
      abbrev pub numbers' : List ℕ
      numbers' = set numbers (i % w.cap) (i + 1)

      abbrev pub octets' : List ℕ
      octets' = written octets payload start (payload_fits long)

      placed_after : (slot j : ℕ) → slot < w.cap → get_or numbers' slot 0 ≡ j + 1 → (j % w.cap ≡ slot) × (last_frame w.frames j + w.lmin ≤ t)
      placed_after slot j less same =
          let own = own_slot i in
          let many = are.numbered in
          elim (cases_eq slot (i % w.cap)) [
            | inl here ↦
                let put : get_or numbers' slot 0 ≡ i + 1 = ap (λ k. get_or numbers' k 0) here ∙ get_or-set_same numbers (i % w.cap) (i + 1) 0 (omega arith) in
                let equal : i ≡ j = omega arith in
                (ap (λ k. k % w.cap) (sym equal) ∙ sym here, subst (λ k. last_frame w.frames k + w.lmin ≤ t) equal the_candidate.arrives.0)
            | inr other ↦ are.placed slot j less (sym (get_or-set_other numbers (i % w.cap) slot (i + 1) 0 other) ∙ same)
          ]

      pub taken_slots : AreSlots w t numbers' octets'
      taken_slots = record {
        window = are.window;
        present = are.present;
        numbered = length-set numbers (i % w.cap) (i + 1) ∙ are.numbered;
        long = length-written octets payload start (payload_fits long) ∙ are.long;
        placed = placed_after;
      }

      put_here : payload_at w octets' (i % w.cap) ≡ payload
      put_here =
          ap (λ n. take n (drop (i % w.cap * n) octets')) (sym long)
          ∙ piece_written octets payload start (payload_fits long)

      others_stay : (slot : ℕ) → slot ≢ i % w.cap → payload_at w octets' slot ≡ payload_at w octets slot
      others_stay slot other =
          ap (λ n. take n (drop (slot * n) octets')) (sym long)
          ∙ others_written octets payload (i % w.cap) slot (payload_fits long) other
          ∙ ap (λ n. take n (drop (slot * n) octets)) long

      -- no other packet that is awaited has the slot
      own_alone : (q : ℕ) → q ≢ i → q % w.cap ≡ i % w.cap → get held q ≡ None
      own_alone q other alike =
          let own = own_slot q in
          get-held_in w t numbers octets are q
          ∙ ap (λ b. cond b (Some (payload_at w octets (q % w.cap))) None)
          (false_from_ne_true _ (λ both.
          let parts = and_parts (number_at q == q + 1) (is_awaited w t q) both in
          let opened = are.placed (q % w.cap) q own (eqb-true (number_at q) (q + 1) parts.0) in
          let late = leb-true t (last_frame w.frames q + w.playout) parts.1 in
          other (own_slots w t q i are.window (opened.1, late) (candidate_held w t seq i are.window the_candidate) alike)))

      lookup_after : (q : ℕ) → in_own_slot w t numbers' octets' q ≡ cond (eq_by_cmp nat_cmp q i) (Some payload) (get held q)
      lookup_after q =
          let own = own_slot i in
          let many = are.numbered in
          let set_here : get_or numbers' (i % w.cap) 0 ≡ i + 1 = get_or-set_same numbers (i % w.cap) (i + 1) 0 (omega arith) in
          elim (cases_eq q i) [
            | inl same ↦
                ap (in_own_slot w t numbers' octets') same
                ∙ ap (λ b. cond (b && is_awaited w t i) (Some (payload_at w octets' (i % w.cap))) None) (eq-eqb (get_or numbers' (i % w.cap) 0) (i + 1) set_here)
                ∙ ap (λ b. cond b (Some (payload_at w octets' (i % w.cap))) None) awaited
                ∙ ap Some put_here
                ∙ sym (ap (λ b. cond b (Some payload) (get held q)) (unsigned_tied q i ∙ eq-eqb q i same))
            | inr other ↦
                (elim (cases_eq (q % w.cap) (i % w.cap)) [
                  | inl alike ↦
                      ap (λ b. cond b (Some (payload_at w octets' (q % w.cap))) None)
                      (and_left (get_or numbers' (q % w.cap) 0 == q + 1) (is_awaited w t q) (ne_eqb (get_or numbers' (q % w.cap) 0) (q + 1)
                      (λ e. other (let here : get_or numbers' (q % w.cap) 0 ≡ i + 1 = ap (λ k. get_or numbers' k 0) alike ∙ set_here in omega arith))))
                      ∙ sym (own_alone q other alike)
                  | inr apart ↦
                      ap (λ n. cond (n == q + 1 && is_awaited w t q) (Some (payload_at w octets' (q % w.cap))) None) (get_or-set_other numbers (i % w.cap) (q % w.cap) (i + 1) 0 apart)
                      ∙ ap (λ p. cond (number_at q == q + 1 && is_awaited w t q) (Some p) None) (others_stay (q % w.cap) apart)
                      ∙ sym (get-held_in w t numbers octets are q)
                ])
                ∙ sym (ap (λ b. cond b (Some payload) (get held q)) (unsigned_tied q i ∙ ne_eqb q i other))
          ]

      pub taken_shown : number_at i ≢ i + 1 → shown w t numbers' octets' ≡ record { window = w; tick = t; held = payloads_with held (candidate_of w t seq) payload }
      taken_shown other =
          let alike : (q : ℕ) → get (held_in w t numbers' octets') q ≡ get (insert held i payload) q =
          λ q. get-held_in w t numbers' octets' taken_slots q ∙ lookup_after q ∙ sym (get-insert nat_cmp_total held i payload q) in
          ap (λ m. record { window = w; tick = t; held = m })
          (same_payloads _ _ alike
          ∙ sym (ap (λ o. payloads_with held o payload) found ∙ ap (λ o. cond (is_some o) held (insert held i payload)) (not_kept i other)))

  -- ---- a frame

  module _ (n : ℕ) (played : n + w.playout ≡ t) where
    abbrev pub packet : ℕ
    packet = n / w.frames

    pub no_part : number_at packet ≢ packet + 1 → None ≡ part_in w held n
    no_part other = sym (ap (option_map (part_of w n)) (not_kept packet other))

    -- where the frame stands among all octets
    abbrev pub part_start : ℕ
    part_start = (packet % w.cap * w.frames + n % w.frames) * w.octets

    pub part_fits : part_start + w.octets ≤ length octets
    part_fits =
        let some = are.window.some_frames in
        let own = own_slot packet in
        let small : n % w.frames < w.frames = mod_below n w.frames (omega arith) in
        let all = are.long in
        let rows : (packet % w.cap + 1) * w.frames ≤ w.cap * w.frames = mul-le (packet % w.cap + 1) w.frames w.cap w.frames (omega arith) (omega arith) in
        let columns : (packet % w.cap * w.frames + n % w.frames + 1) * w.octets ≤ w.cap * w.frames * w.octets
        = mul-le (packet % w.cap * w.frames + n % w.frames + 1) w.octets (w.cap * w.frames) w.octets (omega (arith, rows)) (omega arith) in
        omega (arith, columns)

    pub the_part : number_at packet ≡ packet + 1 → Some (take w.octets (drop part_start octets)) ≡ part_in w held n
    the_part same =
        let some = are.window.some_frames in
        let small : n % w.frames < w.frames = mod_below n w.frames (omega arith) in
        let slot = packet % w.cap * payload_octets w in
        let inner = n % w.frames * w.octets in
        let within : (n % w.frames + 1) * w.octets ≤ payload_octets w = mul-le (n % w.frames + 1) w.octets w.frames w.octets (omega arith) (omega arith) in
        let where_it_is : part_start ≡ slot + inner = omega arith in
        let whole : inner + (payload_octets w - inner) ≡ payload_octets w = omega (arith, within) in
        let cut : drop inner (take (payload_octets w) (drop slot octets)) ≡ take (payload_octets w - inner) (drop inner (drop slot octets))
        = ap (λ k. drop inner (take k (drop slot octets))) (sym whole) ∙ drop-take inner (payload_octets w - inner) (drop slot octets) in
        let part : take w.octets (drop inner (payload_at w octets (packet % w.cap))) ≡ take w.octets (drop part_start octets)
        = ap (take w.octets) cut ∙ take-take w.octets (payload_octets w - inner) (drop inner (drop slot octets)) (omega (arith, within))
        ∙ ap (take w.octets) (drop-drop inner slot octets ∙ ap (λ k. drop k octets) (sym where_it_is)) in
        ap Some (sym part) ∙ sym (ap (option_map (part_of w n)) (kept packet (frame_awaited w t n are.window played) same))

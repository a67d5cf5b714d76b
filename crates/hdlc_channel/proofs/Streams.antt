-- The stream goes on behind the bits that were given.
use Rattle.std.proofs.Common.{◌≡◌, ℕ, zero, suc, ◌+◌, ◌-◌, ◌*◌, ◌<◌, ◌≤◌, nat_lt, Bool, true, false, List, [], ◌∷◌, ◌++◌, length, take, drop, flat_map, refl, sym, ap, ◌∙◌, subst, arith, inl, inr, append_assoc}
use Rattle.std.specs.List.{repeat}
use Rattle.std.proofs.lemmas.Bool.{cond-true, cond-false, cases_Bool, lt-ltb, le-ltb, ltb-true, ltb-false}
use Rattle.std.proofs.lemmas.List.{length-append, append-nil, take-append-le, take-append-drop, take_at, length-take-le}
use Rattle.std.proofs.Math.Seq.{take-append-add, drop-append-add}
use Rattle.hdlc_channel.specs.Bits.{bits_of}
use Rattle.hdlc_channel.specs.SlowText.{flag}
use Rattle.hdlc_channel.specs.SlowStream.{Channel, frame_bits, content_of, stuffed, slow_stream, next_item, after_eight}
use Rattle.hdlc_channel.specs.Outgoing.{filled}

flags : ℕ → List Bool
flags n = repeat n flag

length-repeat : (n : ℕ) → length (repeat n flag) ≡ 8 * n
length-repeat zero = refl
length-repeat (suc n) = let h = length-repeat n in omega arith

repeat-add : (n k : ℕ) → repeat (n + k) flag ≡ repeat n flag ++ repeat k flag
repeat-add zero k = let e : 0 + k ≡ k = omega arith in ap (λ n. repeat n flag) e
repeat-add (suc n) k =
    let e : suc n + k ≡ suc (n + k) = omega arith in
    ap (λ m. repeat m flag) e ∙ ap (λ xs. flag ++ xs) (repeat-add n k)

-- more flags than are taken make no difference
more_flags : (n k : ℕ) (xs : List Bool) → take n (xs ++ repeat (n + k) flag) ≡ take n (xs ++ repeat n flag)
more_flags n k xs =
    let l = length-repeat n in
    ap (λ r. take n (xs ++ r)) (repeat-add n k) ∙ ap (take n) (sym (append_assoc xs (repeat n flag) (repeat k flag)))
    ∙ take-append-le n (xs ++ repeat n flag) (repeat k flag) (omega (arith, l, length-append xs (repeat n flag)))

-- ---- with the next item begun

-- the bits of a channel, with n flags at their end
whole : Channel → ℕ → List Bool
whole c n = c.rest ++ (flat_map frame_bits c.queue ++ repeat n flag)

abbrev pub begun_item : Channel → Channel
begun_item c = record { rest = c.rest ++ next_item c.queue; queue = drop 1 c.queue }

pub filled-short : (c : Channel) → nat_lt (length c.rest) 8 ≡ true → filled c ≡ begun_item c
unfolding filled
filled-short c h = cond-true (nat_lt (length c.rest) 8) _ c h

pub filled-long : (c : Channel) → nat_lt (length c.rest) 8 ≡ false → filled c ≡ c
unfolding filled
filled-long c h = cond-false (nat_lt (length c.rest) 8) (record { rest = c.rest ++ next_item c.queue; queue = drop 1 c.queue }) c h

next_item-length : (queue : List (List ℕ)) → 8 ≤ length (next_item queue)
unfolding frame_bits
next_item-length [] = omega arith
next_item-length (frame ∷ queue) = omega (arith, length-append (stuffed 0 (bits_of (content_of frame))) flag)

filled-length : (c : Channel) → 8 ≤ length (filled c).rest
filled-length c =
    elim (cases_Bool (nat_lt (length c.rest) 8)) [
      | inl on ↦ subst (λ (x : Channel). 8 ≤ length x.rest) (sym (filled-short c on)) (omega (arith, length-append c.rest (next_item c.queue), next_item-length c.queue))
      | inr off ↦ subst (λ (x : Channel). 8 ≤ length x.rest) (sym (filled-long c off)) (ltb-false (length c.rest) 8 off)
    ]

-- so many flags are left at the end of the same bits
record Leaves (c f : Channel) (n : ℕ) : Type 0 where
  pub flags : ℕ
  pub same : whole c (8 + n) ≡ whole f (n + flags)

begun_whole : (rest : List Bool) (queue : List (List ℕ)) (n : ℕ) → Leaves (record { rest = rest; queue = queue }) (begun_item (record { rest = rest; queue = queue })) n
unfolding whole
begun_whole rest [] n =
    let e : 8 + n ≡ suc (n + 7) = omega arith in
    record { flags = 7; same = ap (λ k. rest ++ repeat k flag) e ∙ sym (append_assoc rest flag (repeat (n + 7) flag)) }
begun_whole rest (frame ∷ queue) n =
    let e : 8 + n ≡ n + 8 = omega arith in
    record {
      flags = 8;
      same = ap (λ k. rest ++ ((frame_bits frame ++ flat_map frame_bits queue) ++ repeat k flag)) e
          ∙ ap (λ xs. rest ++ xs) (append_assoc (frame_bits frame) (flat_map frame_bits queue) (repeat (n + 8) flag))
          ∙ sym (append_assoc rest (frame_bits frame) (flat_map frame_bits queue ++ repeat (n + 8) flag));
    }

filled_whole : (c : Channel) (n : ℕ) → Leaves c (filled c) n
filled_whole c n =
    elim (cases_Bool (nat_lt (length c.rest) 8)) [
      | inl on ↦ subst (λ (x : Channel). Leaves c x n) (sym (filled-short c on)) (begun_whole c.rest c.queue n)
      | inr off ↦ subst (λ (x : Channel). Leaves c x n) (sym (filled-long c off)) (record { flags = 8; same = let e : 8 + n ≡ n + 8 = omega arith in ap (whole c) e })
    ]

pub after_eight-is : (c : Channel) → after_eight c ≡ record { rest = drop 8 (filled c).rest; queue = (filled c).queue }
unfolding after_eight
after_eight-is c =
    elim (cases_Bool (nat_lt (length c.rest) 8)) [
      | inl on ↦
          let few : length c.rest < 8 = ltb-true (length c.rest) 8 on in
          let e : 8 ≡ length c.rest + (8 - length c.rest) = omega arith in
          let cut : drop 8 (c.rest ++ next_item c.queue) ≡ drop (8 - length c.rest) (next_item c.queue) =
          ap (λ n. drop n (c.rest ++ next_item c.queue)) e ∙ drop-append-add c.rest (next_item c.queue) (8 - length c.rest) in
          cond-true (nat_lt (length c.rest) 8) (record { rest = drop (8 - length c.rest) (next_item c.queue); queue = drop 1 c.queue }) _ on
          ∙ ap (λ r. record { rest = r; queue = drop 1 c.queue }) (sym cut)
          ∙ ap (λ (x : Channel). record { rest = drop 8 x.rest; queue = x.queue }) (sym (filled-short c on))
      | inr off ↦
          cond-false (nat_lt (length c.rest) 8) _ (record { rest = drop 8 c.rest; queue = c.queue }) off
          ∙ ap (λ (x : Channel). record { rest = drop 8 x.rest; queue = x.queue }) (sym (filled-long c off))
    ]

-- the bits behind the first eight
behind : (front rest : List Bool) (queue : List (List ℕ)) (n k : ℕ) → length front ≡ 8 → take (8 + n) ((front ++ rest) ++ (flat_map frame_bits queue ++ repeat (n + k) flag)) ≡ front ++ slow_stream (record { rest = rest; queue = queue }) n
unfolding slow_stream
behind front rest queue n k eight =
    let e : 8 + n ≡ length front + n = omega arith in
    let items = flat_map frame_bits queue in
    ap (λ m. take m ((front ++ rest) ++ (items ++ repeat (n + k) flag))) e
    ∙ ap (take (length front + n)) (append_assoc front rest (items ++ repeat (n + k) flag))
    ∙ take-append-add front (rest ++ (items ++ repeat (n + k) flag)) n
    ∙ ap (λ xs. front ++ take n xs) (sym (append_assoc rest items (repeat (n + k) flag)))
    ∙ ap (λ xs. front ++ xs) (more_flags n k (rest ++ items))
    ∙ ap (λ xs. front ++ take n xs) (append_assoc rest items (repeat n flag))

-- eight bits are given, and the others are those of the channel that is left
pub stream_on : (c : Channel) (n : ℕ) → slow_stream c (8 + n) ≡ take 8 (filled c).rest ++ slow_stream (after_eight c) n
unfolding slow_stream whole
stream_on c n =
    let f = filled c in
    let leaves = filled_whole c n in
    let eight : length (take 8 f.rest) ≡ 8 = length-take-le 8 f.rest (filled-length c) in
    ap (take (8 + n)) leaves.same
    ∙ ap (λ r. take (8 + n) (r ++ (flat_map frame_bits f.queue ++ repeat (n + leaves.flags) flag))) (sym (take-append-drop 8 f.rest))
    ∙ behind (take 8 f.rest) (drop 8 f.rest) f.queue n leaves.flags eight
    ∙ ap (λ x. take 8 f.rest ++ slow_stream x n) (sym (after_eight-is c))

pub stream_eight : (c : Channel) → slow_stream c 8 ≡ take 8 (filled c).rest
unfolding slow_stream
stream_eight c = stream_on c 0 ∙ append-nil (take 8 (filled c).rest)

pub goes_on : (c : Channel) (n : ℕ) → slow_stream c (8 + n) ≡ slow_stream c 8 ++ slow_stream (after_eight c) n
goes_on c n = stream_on c n ∙ ap (λ xs. xs ++ slow_stream (after_eight c) n) (sym (stream_eight c))

-- ---- what the code does

pub filled_already : (c : Channel) → 8 ≤ length c.rest → c ≡ filled c
filled_already c h = sym (filled-long c (le-ltb (length c.rest) 8 h))

pub filled_item : (ready later : List Bool) (queue : List (List ℕ)) → length ready < 8 → later ≡ [] → record { rest = ready ++ next_item queue; queue = drop 1 queue } ≡ filled (record { rest = ready ++ later; queue = queue })
filled_item ready later queue few none =
    let same : ready ++ later ≡ ready = ap (λ xs. ready ++ xs) none ∙ append-nil ready in
    sym (ap (λ r. filled (record { rest = r; queue = queue })) same ∙ filled-short (record { rest = ready; queue = queue }) (lt-ltb (length ready) 8 few))

-- the octet that is taken
pub taken_first : (c f : Channel) (front rest : List Bool) → f ≡ filled c → f.rest ≡ front ++ rest → length front ≡ 8 → front ≡ slow_stream c 8
taken_first c f front rest same split eight =
    sym (stream_eight c ∙ ap (λ (x : Channel). take 8 x.rest) (sym same) ∙ ap (take 8) split ∙ take_at front rest 8 eight)

pub taken_left : (c f : Channel) (front rest : List Bool) → f ≡ filled c → f.rest ≡ front ++ rest → length front ≡ 8 → record { rest = rest; queue = f.queue } ≡ after_eight c
taken_left c f front rest same split eight =
    let e : 8 ≡ length front + 0 = omega arith in
    let left : drop 8 f.rest ≡ rest = ap (drop 8) split ∙ ap (λ n. drop n (front ++ rest)) e ∙ drop-append-add front rest 0 in
    sym (after_eight-is c ∙ ap (λ (x : Channel). record { rest = drop 8 x.rest; queue = x.queue }) (sym same) ∙ ap (λ r. record { rest = r; queue = f.queue }) left)

-- Sequence numbers, and packets with the same one.
use Rattle.std.proofs.Common.{◌≡◌, ℕ, ◌+◌, ◌-◌, ◌*◌, ◌/◌, ◌%◌, ◌<◌, ◌≤◌, arith, sym, ◌∙◌, ap, inl, inr}
use Rattle.std.proofs.lemmas.Bool.{cases_lt}
use Rattle.std.proofs.lemmas.Nat.{mul-le, le-div, div-add-mod', mod_below, mod-mul-add, div-mul-add}
use Rattle.std.proofs.Math.Arith.{mod-mul}
use Rattle.link_base.specs.Window.{last_frame}
use Rattle.playout_buffer.specs.Candidate.{sequence_number}
use Rattle.playout_buffer.specs.Conditions.{IsWindow}
use Rattle.playout_buffer.specs.declared.window.Window.{Window}

-- the packets that have the sequence number of packet i have its remainder
abbrev pub modulus : Window → ℕ
modulus w = w.q * w.p

-- a number of which a remainder is known is no less than the next lower one plus the modulus
pub next_alike : (n i j : ℕ) → 1 ≤ n → i % n ≡ j % n → j < i → j + n ≤ i
next_alike n i j some alike less =
    let a = div-add-mod' i n in
    let b = div-add-mod' j n in
    elim (cases_lt (j / n) (i / n)) [
      | inl up ↦
          let product : (j / n + 1) * n ≤ i / n * n = mul-le (j / n + 1) n (i / n) n (omega arith) (omega arith) in
          omega (arith, a, b, product, alike)
      | inr down ↦
          let product : i / n * n ≤ j / n * n = mul-le (i / n) n (j / n) n down (omega arith) in
          absurd (omega (arith, a, b, product, alike))
    ]

-- the digits of a number to the base 65,536
low_digit : (a b : ℕ) → b < 65536 → (65536 * a + b) % 65536 ≡ b
low_digit a b small = omega arith

high_digit : (a b : ℕ) → b < 65536 → (65536 * a + b) / 65536 ≡ a
high_digit a b small = omega arith

module _ (w : Window) (is : IsWindow w) where
  pub some_modulus : 1 ≤ modulus w
  some_modulus = let product : 1 * 1 ≤ w.q * w.p = mul-le 1 1 w.q w.p is.some_q is.some_p in omega arith

  -- what a sequence number says of the packet
  pub low_half : (i : ℕ) → sequence_number w i % 65536 ≡ i % w.p
  low_half i =
      let small : i % w.p < w.p = mod_below i w.p is.some_p in
      low_digit (i / w.p % w.q) (i % w.p) (let most = is.small_p in omega arith)

  pub high_half : (i : ℕ) → sequence_number w i / 65536 ≡ i / w.p % w.q
  high_half i =
      let small : i % w.p < w.p = mod_below i w.p is.some_p in
      high_digit (i / w.p % w.q) (i % w.p) (let most = is.small_p in omega arith)

  pub remainder_of : (i seq : ℕ) → sequence_number w i ≡ seq → i % modulus w ≡ seq / 65536 * w.p + seq % 65536
  remainder_of i seq number =
      let low : i % w.p ≡ seq % 65536 = sym (low_half i) ∙ ap (λ n. n % 65536) number in
      let high : i / w.p % w.q ≡ seq / 65536 = sym (high_half i) ∙ ap (λ n. n / 65536) number in
      mod-mul i is.some_q is.some_p ∙ ap (λ n. n * w.p + i % w.p) high ∙ ap (λ n. seq / 65536 * w.p + n) low

  pub alike_from_number : (i j : ℕ) → sequence_number w i ≡ sequence_number w j → i % modulus w ≡ j % modulus w
  alike_from_number i j same =
      remainder_of i (sequence_number w j) same ∙ sym (remainder_of j (sequence_number w j) (λ _. sequence_number w j))

  -- and the packets with a remainder have its sequence number
  pub number_from_remainder : (i seq : ℕ) → seq % 65536 < w.p → i % modulus w ≡ seq / 65536 * w.p + seq % 65536 → sequence_number w i ≡ seq
  number_from_remainder i seq small alike =
      let a = i / w.p % w.q in
      let b = i % w.p in
      let less : b < w.p = mod_below i w.p is.some_p in
      let both : a * w.p + b ≡ seq / 65536 * w.p + seq % 65536 = sym (mod-mul i is.some_q is.some_p) ∙ alike in
      let low : b ≡ seq % 65536 = sym (mod-mul-add a w.p b less) ∙ ap (λ n. n % w.p) both ∙ mod-mul-add (seq / 65536) w.p (seq % 65536) small in
      let high : a ≡ seq / 65536 = sym (div-mul-add a w.p b less) ∙ ap (λ n. n / w.p) both ∙ div-mul-add (seq / 65536) w.p (seq % 65536) small in
      omega arith

  -- the windows of two packets with the same number are further apart than a window is long
  pub wide_numbers : w.lmax < w.lmin + modulus w * w.frames
  wide_numbers =
      elim (cases_lt w.lmax (w.lmin + modulus w * w.frames)) [
        | inl less ↦ less
        | inr le ↦
            let most = le-div (modulus w) (w.lmax - w.lmin) w.frames is.some_frames (omega (arith, le)) in
            let enough = is.enough_numbers in
            absurd (omega arith)
      ]

  -- the first frame number of a later packet with the same number
  pub later_by_numbers : (i j : ℕ) → i % modulus w ≡ j % modulus w → j < i → last_frame w.frames j + modulus w * w.frames ≤ last_frame w.frames i
  later_by_numbers i j alike less =
      let gap = next_alike (modulus w) i j some_modulus alike less in
      let product : (j + 1 + modulus w) * w.frames ≤ (i + 1) * w.frames = mul-le (j + 1 + modulus w) w.frames (i + 1) w.frames (omega arith) (omega arith) in
      let first : 1 * w.frames ≤ (j + 1) * w.frames = mul-le 1 w.frames (j + 1) w.frames (omega arith) (omega arith) in
      let some = is.some_frames in
      omega (arith, product, first)

-- A reader over bits that it takes without an answer.
use Rattle.std.proofs.Common.{◌≡◌, ℕ, zero, suc, ◌+◌, ◌<◌, ◌≤◌, ◌==◌, min, Bool, true, false, List, [], ◌∷◌, ◌++◌, length, Option, Some, None, refl, sym, ap, ◌∙◌, subst, arith, inl, inr, append_assoc}
use Rattle.std.proofs.lemmas.Bool.{cond-true, cond-false, cases_Bool, eqb-true, eqb-false}
use Rattle.std.proofs.lemmas.List.{length-append, append-nil, take_all}
use Rattle.hdlc_channel.specs.SlowText.{slow_at}
use Rattle.hdlc_channel.specs.Reader.{SlowView, StandsFor, step}
use Rattle.hdlc_channel.specs.Octet.{TakesBits}
use Rattle.hdlc_channel.specs.Quiet.{with_bit, quiet_bits}
use Rattle.hdlc_channel.proofs.Places.{slow_at-append}
use Rattle.hdlc_channel.proofs.ReaderCases.{collecting_room, collecting_shut, other_one, zero_stuffed, zero_collected}
use Rattle.hdlc_channel.proofs.StepLaw.{step_keeps}

-- after these bits, none of which has an answer, a reader that kept v keeps w
pub record QuietTo (v w : SlowView) (bits : List Bool) : Type 0 where
  pub stands : (pre : List Bool) → StandsFor v pre → StandsFor w (pre ++ bits)
  pub quiet : (pre : List Bool) → StandsFor v pre → (k : ℕ) → k < length bits → slow_at (pre ++ bits) (length pre + k) ≡ None

quiet_nil : (v : SlowView) → QuietTo v v []
quiet_nil v = record {
  stands = λ pre stands. subst (StandsFor v) (sym (append-nil pre)) stands;
  quiet = λ pre stands k h. absurd (omega arith);
}

quiet_cons : (v x w : SlowView) (b : Bool) (bits : List Bool) → step v b ≡ (x, None) → QuietTo x w bits → QuietTo v w (b ∷ bits)
quiet_cons v x w b bits e rest =
    let after : (pre : List Bool) → StandsFor v pre → StandsFor x (pre ++ b ∷ []) = λ (pre : List Bool) (stands : StandsFor v pre).
    subst (λ (y : SlowView). StandsFor y (pre ++ b ∷ [])) (ap (λ r. r.0) e) (step_keeps v pre b stands).1 in
    record {
      stands = λ pre stands. subst (StandsFor w) (append_assoc pre (b ∷ []) bits) (rest.stands (pre ++ b ∷ []) (after pre stands));
      quiet = λ pre stands k h. at_place pre stands after k h;
    } where
      at_place : (pre : List Bool) → StandsFor v pre → ((p : List Bool) → StandsFor v p → StandsFor x (p ++ b ∷ [])) → (k : ℕ) → k < length (b ∷ bits) → slow_at (pre ++ b ∷ bits) (length pre + k) ≡ None
      at_place pre stands after zero h =
          let first : None ≡ slow_at (pre ++ b ∷ []) (length pre) = sym (ap (λ r. r.1) e) ∙ (step_keeps v pre b stands).0 in
          let place : length pre + 0 ≡ length pre = omega arith in
          ap (slow_at (pre ++ b ∷ bits)) place ∙ ap (λ xs. slow_at xs (length pre)) (sym (append_assoc pre (b ∷ []) bits))
          ∙ slow_at-append (pre ++ b ∷ []) bits (length pre) (omega (arith, length-append pre (b ∷ []))) ∙ sym first
      at_place pre stands after (suc k) h =
          let place : length pre + suc k ≡ length (pre ++ b ∷ []) + k = omega (arith, length-append pre (b ∷ [])) in
          ap (slow_at (pre ++ b ∷ bits)) place ∙ ap (λ xs. slow_at xs (length (pre ++ b ∷ []) + k)) (sym (append_assoc pre (b ∷ []) bits))
          ∙ rest.quiet (pre ++ b ∷ []) (after pre stands) k (omega arith)

-- with a bit before them, the others were quiet too
without_bit : (b : Bool) (o : Option (ℕ × List Bool)) (ones : ℕ) (kept : List Bool) → with_bit b o ≡ Some (ones, kept) → (rest : List Bool) × (o ≡ Some (ones, rest)) × (kept ≡ b ∷ rest)
without_bit b None ones kept e = cc
without_bit b (Some (n, rest)) ones kept e =
    let pair : ◌≡◌ {A = ℕ × List Bool} (n, b ∷ rest) (ones, kept) = cc in
    (rest, ap (λ k. Some (k, rest)) (ap (λ p. p.0) pair), sym (ap (λ p. p.1) pair))

-- a view with so many 1s, and with what was collected where a frame is open
abbrev pub kept_view : Bool → ℕ → List Bool → List ℕ → SlowView
kept_view in_frame ones collected frame = record { ones = ones; in_frame = in_frame; collected = collected; frame = frame }

-- ---- in a frame

pub quiet_open : (frame : List ℕ) (bits collected : List Bool) (ones n : ℕ) (kept : List Bool) → quiet_bits ones bits ≡ Some (n, kept) → length collected + length bits ≤ 12023
    → QuietTo (kept_view true ones collected frame) (kept_view true n (collected ++ kept) frame) bits
unfolding quiet_bits
quiet_open frame [] collected ones n kept e room =
    let pair : ◌≡◌ {A = ℕ × List Bool} (ones, []) (n, kept) = cc in
    subst (λ k. QuietTo (kept_view true ones collected frame) (kept_view true k (collected ++ kept) frame) []) (ap (λ p. p.0) pair)
    (subst (λ xs. QuietTo (kept_view true ones collected frame) (kept_view true ones (collected ++ xs) frame) []) (ap (λ p. p.1) pair)
    (subst (λ xs. QuietTo (kept_view true ones collected frame) (kept_view true ones xs frame) []) (sym (append-nil collected)) (quiet_nil (kept_view true ones collected frame))))
quiet_open frame (true ∷ bits) collected ones n kept e room =
    let v = kept_view true ones collected frame in
    let longer = length-append collected (true ∷ []) in
    elim (cases_Bool (ones == 6)) [
      | inl on ↦ let wrong : ◌≡◌ {A = Option (ℕ × List Bool)} None (Some (n, kept)) = sym (cond-true (ones == 6) None _ on) ∙ e in cc
      | inr off ↦
          let rest = without_bit true (quiet_bits (min 7 (ones + 1)) bits) n kept (sym (cond-false (ones == 6) None _ off) ∙ e) in
          let one : step v true ≡ (kept_view true (min 7 (ones + 1)) (collected ++ true ∷ []) frame, None) =
          sym (other_one v (eqb-false ones 6 off)) ∙ sym (collecting_room (kept_view true (min 7 (ones + 1)) collected frame) true refl (λ full. absurd (omega arith))) in
          subst (λ xs. QuietTo v (kept_view true n (collected ++ xs) frame) (true ∷ bits)) (sym rest.2)
          (subst (λ xs. QuietTo v (kept_view true n xs frame) (true ∷ bits)) (append_assoc collected (true ∷ []) rest.0)
          (quiet_cons v (kept_view true (min 7 (ones + 1)) (collected ++ true ∷ []) frame) _ true bits one
          (quiet_open frame bits (collected ++ true ∷ []) (min 7 (ones + 1)) n rest.0 rest.1 (omega arith))))
    ]
quiet_open frame (false ∷ bits) collected ones n kept e room =
    let v = kept_view true ones collected frame in
    let longer = length-append collected (false ∷ []) in
    elim (cases_Bool (ones == 5)) [
      | inl on ↦
          quiet_cons v (kept_view true 0 collected frame) _ false bits (sym (zero_stuffed v (eqb-true ones 5 on)))
          (quiet_open frame bits collected 0 n kept (sym (cond-true (ones == 5) (quiet_bits 0 bits) _ on) ∙ e) (omega arith))
      | inr off ↦ elim (cases_Bool (ones == 6)) [
        | inl six ↦ let wrong : ◌≡◌ {A = Option (ℕ × List Bool)} None (Some (n, kept)) = sym (cond-false (ones == 5) (quiet_bits 0 bits) _ off ∙ cond-true (ones == 6) None _ six) ∙ e in cc
        | inr other ↦
            let rest = without_bit false (quiet_bits 0 bits) n kept (sym (cond-false (ones == 5) (quiet_bits 0 bits) _ off ∙ cond-false (ones == 6) None _ other) ∙ e) in
            let one : step v false ≡ (kept_view true 0 (collected ++ false ∷ []) frame, None) =
            sym (zero_collected v (eqb-false ones 5 off) (eqb-false ones 6 other)) ∙ sym (collecting_room (kept_view true 0 collected frame) false refl (λ full. absurd (omega arith))) in
            subst (λ xs. QuietTo v (kept_view true n (collected ++ xs) frame) (false ∷ bits)) (sym rest.2)
            (subst (λ xs. QuietTo v (kept_view true n xs frame) (false ∷ bits)) (append_assoc collected (false ∷ []) rest.0)
            (quiet_cons v (kept_view true 0 (collected ++ false ∷ []) frame) _ false bits one
            (quiet_open frame bits (collected ++ false ∷ []) 0 n rest.0 rest.1 (omega arith))))
      ]
    ]

-- ---- in no frame

pub quiet_shut : (frame : List ℕ) (collected : List Bool) (bits : List Bool) (ones n : ℕ) (kept : List Bool) → quiet_bits ones bits ≡ Some (n, kept)
    → QuietTo (kept_view false ones collected frame) (kept_view false n collected frame) bits
unfolding quiet_bits
quiet_shut frame collected [] ones n kept e =
    let pair : ◌≡◌ {A = ℕ × List Bool} (ones, []) (n, kept) = cc in
    subst (λ k. QuietTo (kept_view false ones collected frame) (kept_view false k collected frame) []) (ap (λ p. p.0) pair) (quiet_nil (kept_view false ones collected frame))
quiet_shut frame collected (true ∷ bits) ones n kept e =
    let v = kept_view false ones collected frame in
    elim (cases_Bool (ones == 6)) [
      | inl on ↦ let wrong : ◌≡◌ {A = Option (ℕ × List Bool)} None (Some (n, kept)) = sym (cond-true (ones == 6) None _ on) ∙ e in cc
      | inr off ↦
          let rest = without_bit true (quiet_bits (min 7 (ones + 1)) bits) n kept (sym (cond-false (ones == 6) None _ off) ∙ e) in
          let one : step v true ≡ (kept_view false (min 7 (ones + 1)) collected frame, None) =
          sym (other_one v (eqb-false ones 6 off)) ∙ sym (collecting_shut (kept_view false (min 7 (ones + 1)) collected frame) true refl) in
          quiet_cons v (kept_view false (min 7 (ones + 1)) collected frame) _ true bits one (quiet_shut frame collected bits (min 7 (ones + 1)) n rest.0 rest.1)
    ]
quiet_shut frame collected (false ∷ bits) ones n kept e =
    let v = kept_view false ones collected frame in
    elim (cases_Bool (ones == 5)) [
      | inl on ↦
          quiet_cons v (kept_view false 0 collected frame) _ false bits (sym (zero_stuffed v (eqb-true ones 5 on)))
          (quiet_shut frame collected bits 0 n kept (sym (cond-true (ones == 5) (quiet_bits 0 bits) _ on) ∙ e))
      | inr off ↦ elim (cases_Bool (ones == 6)) [
        | inl six ↦ let wrong : ◌≡◌ {A = Option (ℕ × List Bool)} None (Some (n, kept)) = sym (cond-false (ones == 5) (quiet_bits 0 bits) _ off ∙ cond-true (ones == 6) None _ six) ∙ e in cc
        | inr other ↦
            let rest = without_bit false (quiet_bits 0 bits) n kept (sym (cond-false (ones == 5) (quiet_bits 0 bits) _ off ∙ cond-false (ones == 6) None _ other) ∙ e) in
            let one : step v false ≡ (kept_view false 0 collected frame, None) =
            sym (zero_collected v (eqb-false ones 5 off) (eqb-false ones 6 other)) ∙ sym (collecting_shut (kept_view false 0 collected frame) false refl) in
            quiet_cons v (kept_view false 0 collected frame) _ false bits one (quiet_shut frame collected bits 0 n rest.0 rest.1)
      ]
    ]

-- ---- eight bits at once

pub takes_eight : (v w : SlowView) (given bits : List Bool) → length given ≡ 8 → QuietTo v w given → StandsFor v bits → TakesBits given 8 None w bits
takes_eight v w given bits eight q stands = record {
  quiet = λ k h. q.quiet bits stands k (omega arith);
  last = q.quiet bits stands 7 (omega arith);
  stands = subst (λ xs. StandsFor w (bits ++ xs)) (sym (take_all 8 given (omega arith))) (q.stands bits stands);
}

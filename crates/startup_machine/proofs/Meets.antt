-- The order of offers.
use Rattle.std.proofs.Common.{◌≡◌, ℕ, true, ◌==◌, ◌||◌, min, max, sym, ◌∙◌, ap, arith}
use Rattle.std.specs.Prelude.{if◌then◌else◌}
use Rattle.std.proofs.lemmas.Bool.Decides.{nat_tests}
use Rattle.startup_machine.specs.declared.offer.Offer.{Offer}
use Rattle.startup_machine.specs.Offers.{meet, IsAtOrBelow, is_same_offer}

-- the pointer of a meet
abbrev pointer_of : ℕ → ℕ → ℕ
pointer_of p q = if p == 0 || q == 0 then 0 else max p q

pointer_of-same : (p : ℕ) → pointer_of p p ≡ p
pointer_of-same p = grind (arith, nat_tests)

pointer_of-comm : (p q : ℕ) → pointer_of p q ≡ pointer_of q p
pointer_of-comm p q = grind (arith, nat_tests)

pointer_of-assoc : (p q r : ℕ) → pointer_of (pointer_of p q) r ≡ pointer_of p (pointer_of q r)
pointer_of-assoc p q r = grind (arith, nat_tests)

min-same : (p : ℕ) → min p p ≡ p
min-same p = omega arith

min-comm : (p q : ℕ) → min p q ≡ min q p
min-comm p q = omega arith

min-assoc : (p q r : ℕ) → min (min p q) r ≡ min p (min q r)
min-assoc p q r = omega arith

-- offers with the same parts
pub same_parts : (a b : Offer) → a.hdlc ≡ b.hdlc → a.pointer ≡ b.pointer → a ≡ b
same_parts a b h p =
    ap (λ (x : ℕ). record { hdlc = x; pointer = a.pointer }) h ∙ ap (λ (x : ℕ). record { hdlc = b.hdlc; pointer = x }) p

pub meet-same : (a : Offer) → meet a a ≡ a
meet-same a = same_parts (meet a a) a (min-same a.hdlc) (pointer_of-same a.pointer)

pub meet-comm : (a b : Offer) → meet a b ≡ meet b a
meet-comm a b = same_parts (meet a b) (meet b a) (min-comm a.hdlc b.hdlc) (pointer_of-comm a.pointer b.pointer)

pub meet-assoc : (a b c : Offer) → meet (meet a b) c ≡ meet a (meet b c)
meet-assoc a b c =
    same_parts (meet (meet a b) c) (meet a (meet b c)) (min-assoc a.hdlc b.hdlc c.hdlc) (pointer_of-assoc a.pointer b.pointer c.pointer)

pub below_itself : (a : Offer) → IsAtOrBelow a a
below_itself a = meet-same a

-- the meet is at or below its first part
pub meet_below : (a b : Offer) → IsAtOrBelow (meet a b) a
meet_below a b = meet-comm (meet a b) a ∙ sym (meet-assoc a a b) ∙ ap (λ (x : Offer). meet x b) (meet-same a)

pub below_trans : (a b c : Offer) → IsAtOrBelow a b → IsAtOrBelow b c → IsAtOrBelow a c
below_trans a b c ab bc =
    ap (λ (x : Offer). meet x c) (sym ab) ∙ meet-assoc a b c ∙ ap (λ (x : Offer). meet a x) bc ∙ ab

pub below_both_ways : (a b : Offer) → IsAtOrBelow a b → IsAtOrBelow b a → a ≡ b
below_both_ways a b ab ba = sym ab ∙ meet-comm a b ∙ ba

-- the test of sameness
pub same_from_test : (a b : Offer) → is_same_offer a b ≡ true → a ≡ b
same_from_test a b h = same_parts a b (grind (arith, nat_tests)) (grind (arith, nat_tests))

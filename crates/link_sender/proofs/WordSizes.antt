-- The words of a good plan.
use Rattle.std.proofs.Common.{◌≡◌, ◌≢◌, ℕ, zero, suc, ◌≤◌, refl, ◌∙◌, arith}
use Rattle.carrier_plan.specs.declared.plan.Plan.{Plan}
use Rattle.link_base.specs.WordSize.{IsWordSize}
use Rattle.plan_checker.specs.Rules.{IsGood}
use Rattle.plan_checker.specs.Rules.Rule.{LineOption}
use Rattle.plan_checker.specs.WordSize.{word_size}

word_size-is : (option : ℕ) → 1 ≤ option → option ≤ 7 → IsWordSize (word_size option)
word_size-is zero low high = absurd (omega arith)
word_size-is (suc zero) low high = refl
word_size-is (suc (suc zero)) low high = refl
word_size-is (suc (suc (suc zero))) low high = refl
word_size-is (suc (suc (suc (suc zero)))) low high = refl
word_size-is (suc (suc (suc (suc (suc zero))))) low high = refl
word_size-is (suc (suc (suc (suc (suc (suc zero)))))) low high = refl
word_size-is (suc (suc (suc (suc (suc (suc (suc zero))))))) low high = refl
word_size-is (suc (suc (suc (suc (suc (suc (suc (suc option)))))))) low high = absurd (omega arith)

pub good_word_size : (p : Plan) → IsGood p → IsWordSize (word_size p.option)
good_word_size p good = let line = good LineOption 0 (omega arith) in word_size-is p.option line.0 line.1

-- the word size that is none of the smaller ones
last_word : (option : ℕ) → 1 ≤ option → option ≤ 7 → word_size option ≢ 1 → word_size option ≢ 2 → word_size option ≢ 4 → word_size option ≢ 5 → word_size option ≢ 8 → word_size option ≢ 10
    → 16 ≡ word_size option
last_word zero low high one two four five eight ten = absurd (omega arith)
last_word (suc zero) low high one two four five eight ten = absurd (one refl)
last_word (suc (suc zero)) low high one two four five eight ten = absurd (two refl)
last_word (suc (suc (suc zero))) low high one two four five eight ten = absurd (four refl)
last_word (suc (suc (suc (suc zero)))) low high one two four five eight ten = absurd (five refl)
last_word (suc (suc (suc (suc (suc zero))))) low high one two four five eight ten = absurd (eight refl)
last_word (suc (suc (suc (suc (suc (suc zero)))))) low high one two four five eight ten = absurd (ten refl)
last_word (suc (suc (suc (suc (suc (suc (suc zero))))))) low high one two four five eight ten = refl
last_word (suc (suc (suc (suc (suc (suc (suc (suc option)))))))) low high one two four five eight ten = absurd (omega arith)

pub last_word_size : (p : Plan) (word : ℕ) → IsGood p → word ≡ word_size p.option → word ≢ 1 → word ≢ 2 → word ≢ 4 → word ≢ 5 → word ≢ 8 → word ≢ 10 → 16 ≡ word_size p.option
last_word_size p word good is one two four five eight ten =
    let line = good LineOption 0 (omega arith) in
    last_word p.option line.0 line.1 (λ e. one (is ∙ e)) (λ e. two (is ∙ e)) (λ e. four (is ∙ e)) (λ e. five (is ∙ e)) (λ e. eight (is ∙ e)) (λ e. ten (is ∙ e))

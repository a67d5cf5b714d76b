-- Decimals by groups of three digits.
use Rattle.std.proofs.Common.{◌≡◌, ◌∙◌, ℕ, ◌+◌, ◌-◌, ◌*◌, ◌/◌, ◌%◌, ◌^◌, ◌<◌, ◌≤◌, ◌==◌, nat_lt, if◌then◌else◌, true, false, [], ◌∷◌, ◌++◌, refl, sym, ap, inl, inr, arith, append_assoc, decimal}
use Rattle.std.proofs.lemmas.Bool.{cond-true, cond-false, cases_lt}
use Rattle.std.proofs.lemmas.Bool.Decides.{nat_tests}
use Rattle.std.proofs.lemmas.Fmt.{decimal_digit, decimal_step}
use Rattle.link_run_entries.specs.Groups.{digit, three_digits, short_digits, group_text}
use Rattle.link_run_entries.specs.Fronts.{tens_text}

is_lt : (a b : ℕ) → a < b → nat_lt a b ≡ true
is_lt a b h = grind (arith, nat_tests)

is_not_lt : (a b : ℕ) → b ≤ a → nat_lt a b ≡ false
is_not_lt a b h = grind (arith, nat_tests)

is_not_eq : (a b : ℕ) → b < a → (a == b) ≡ false
is_not_eq a b h = grind (arith, nat_tests)

two_digits : (n : ℕ) → 10 ≤ n → n < 100 → decimal n ≡ digit (n / 10) ∷ digit (n % 10) ∷ []
two_digits n low high =
    decimal_step n low (omega arith) ∙ ap (λ t. t ++ digit (n % 10) ∷ []) (decimal_digit (n / 10) (omega arith))

-- three digits behind a number
behind_three : (n : ℕ) → 1000 ≤ n → n < 2 ^ 64 → decimal n ≡ decimal (n / 1000) ++ three_digits (n % 1000)
unfolding three_digits
behind_three n low high =
    let one : n / 10 / 10 / 10 ≡ n / 1000 = omega arith in
    let hundreds : n / 10 / 10 % 10 ≡ n % 1000 / 100 = omega arith in
    let tens : n / 10 % 10 ≡ n % 1000 / 10 % 10 = omega arith in
    let ones : n % 10 ≡ n % 1000 % 10 = omega arith in
    decimal_step n (omega arith) high
    ∙ ap (λ t. t ++ digit (n % 10) ∷ []) (decimal_step (n / 10) (omega arith) (omega arith))
    ∙ ap (λ t. t ++ digit (n / 10 % 10) ∷ [] ++ digit (n % 10) ∷ []) (decimal_step (n / 10 / 10) (omega arith) (omega arith))
    ∙ append_assoc (decimal (n / 10 / 10 / 10) ++ digit (n / 10 / 10 % 10) ∷ []) (digit (n / 10 % 10) ∷ []) (digit (n % 10) ∷ [])
    ∙ append_assoc (decimal (n / 10 / 10 / 10)) (digit (n / 10 / 10 % 10) ∷ []) (digit (n / 10 % 10) ∷ digit (n % 10) ∷ [])
    ∙ ap (λ m. decimal m ++ digit (n / 10 / 10 % 10) ∷ digit (n / 10 % 10) ∷ digit (n % 10) ∷ []) one
    ∙ ap (λ d. decimal (n / 1000) ++ digit d ∷ digit (n / 10 % 10) ∷ digit (n % 10) ∷ []) hundreds
    ∙ ap (λ d. decimal (n / 1000) ++ digit (n % 1000 / 100) ∷ digit d ∷ digit (n % 10) ∷ []) tens
    ∙ ap (λ d. decimal (n / 1000) ++ digit (n % 1000 / 100) ∷ digit (n % 1000 / 10 % 10) ∷ digit d ∷ []) ones

three_alone : (n : ℕ) → 100 ≤ n → n < 1000 → decimal n ≡ three_digits n
unfolding three_digits
three_alone n low high =
    let hundreds : n / 10 / 10 ≡ n / 100 = omega arith in
    decimal_step n (omega arith) (omega arith)
    ∙ ap (λ t. t ++ digit (n % 10) ∷ []) (two_digits (n / 10) (omega arith) (omega arith))
    ∙ ap (λ d. digit d ∷ digit (n / 10 % 10) ∷ digit (n % 10) ∷ []) hundreds

short_is : (n : ℕ) → n < 1000 → short_digits n ≡ decimal n
unfolding short_digits
short_is n high =
    elim (cases_lt n 10) [
      | inl one ↦ cond-true (nat_lt n 10) _ _ (is_lt n 10 one) ∙ sym (decimal_digit n one)
      | inr more ↦
          cond-false (nat_lt n 10) _ _ (is_not_lt n 10 more)
          ∙ elim (cases_lt n 100) [
            | inl two ↦ cond-true (nat_lt n 100) _ _ (is_lt n 100 two) ∙ sym (two_digits n more two)
            | inr three ↦ cond-false (nat_lt n 100) _ _ (is_not_lt n 100 three) ∙ sym (three_alone n three high)
          ]
    ]

-- ---- the entries of the table

pub first_group : (n : ℕ) → 0 < n → n < 1000 → group_text n ≡ decimal n
unfolding group_text
first_group n some high =
    cond-false (n == 0) _ _ (is_not_eq n 0 some) ∙ cond-true (nat_lt n 1000) _ _ (is_lt n 1000 high) ∙ short_is n high

pub no_group : group_text 0 ≡ []
unfolding group_text
no_group = refl

pub lone_group : (n : ℕ) → n < 1000 → group_text (1000 + n) ≡ decimal n
unfolding group_text
lone_group n high =
    let m = 1000 + n in let e : m - 1000 ≡ n = omega arith in
    cond-false (m == 0) _ _ (is_not_eq m 0 (omega arith)) ∙ cond-false (nat_lt m 1000) _ _ (is_not_lt m 1000 (omega arith))
    ∙ cond-true (nat_lt m 2000) _ _ (is_lt m 2000 (omega arith)) ∙ ap short_digits e ∙ short_is n high

pub group_behind : (n : ℕ) → n < 1000 → group_text (2000 + n) ≡ three_digits n
unfolding group_text
group_behind n high =
    let m = 2000 + n in let e : m - 2000 ≡ n = omega arith in
    cond-false (m == 0) _ _ (is_not_eq m 0 (omega arith)) ∙ cond-false (nat_lt m 1000) _ _ (is_not_lt m 1000 (omega arith))
    ∙ cond-false (nat_lt m 2000) _ _ (is_not_lt m 2000 (omega arith)) ∙ ap three_digits e

-- a number of at most six digits in two groups, the second one at a place that depends on the first
pub two_groups : (n place : ℕ) → n < 1000000 → place ≡ (if n / 1000 == 0 then 1000 else 2000) + n % 1000 → group_text (n / 1000) ++ group_text place ≡ decimal n
two_groups n place high is =
    elim (cases_lt n 1000) [
      | inl small ↦
          let none : n / 1000 ≡ 0 = omega arith in
          let same : n % 1000 ≡ n = omega arith in
          let at : place ≡ 1000 + n = is ∙ ap (λ k. (if k == 0 then 1000 else 2000) + n % 1000) none ∙ ap (λ k. 1000 + k) same in
          ap (λ k. group_text k ++ group_text place) none ∙ ap (λ t. t ++ group_text place) no_group
          ∙ ap group_text at ∙ lone_group n small
      | inr large ↦
          let at : place ≡ 2000 + n % 1000 = is ∙ ap (λ k. k + n % 1000) (cond-false (n / 1000 == 0) 1000 2000 (is_not_eq (n / 1000) 0 (omega arith))) in
          ap (λ t. t ++ group_text place) (first_group (n / 1000) (omega arith) (omega arith))
          ∙ ap (λ k. decimal (n / 1000) ++ group_text k) at
          ∙ ap (λ t. decimal (n / 1000) ++ t) (group_behind (n % 1000) (omega arith))
          ∙ sym (behind_three n large (omega arith))
    ]

-- six digits behind a number
pub six_behind : (n : ℕ) → 1000000 ≤ n → n < 2 ^ 64 → decimal (n / 1000000) ++ (three_digits (n % 1000000 / 1000) ++ three_digits (n % 1000000 % 1000)) ≡ decimal n
six_behind n low high =
    let whole : n / 1000 / 1000 ≡ n / 1000000 = omega arith in
    let upper : n / 1000 % 1000 ≡ n % 1000000 / 1000 = omega arith in
    let lower : n % 1000 ≡ n % 1000000 % 1000 = omega arith in
    sym (
    behind_three n (omega arith) high
    ∙ ap (λ t. t ++ three_digits (n % 1000)) (behind_three (n / 1000) (omega arith) (omega arith))
    ∙ append_assoc (decimal (n / 1000 / 1000)) (three_digits (n / 1000 % 1000)) (three_digits (n % 1000))
    ∙ ap (λ k. decimal k ++ (three_digits (n / 1000 % 1000) ++ three_digits (n % 1000))) whole
    ∙ ap (λ k. decimal (n / 1000000) ++ (three_digits k ++ three_digits (n % 1000))) upper
    ∙ ap (λ k. decimal (n / 1000000) ++ (three_digits (n % 1000000 / 1000) ++ three_digits k)) lower
    )

-- the last digit behind the others
pub last_behind : (n tens last : ℕ) → n ≡ 10 * tens + last → last < 10 → n < 2 ^ 64 → tens_text tens ++ digit last ∷ [] ≡ decimal n
unfolding tens_text
last_behind n tens last is small high =
    let above : n / 10 ≡ tens = omega arith in
    let rest : n % 10 ≡ last = omega arith in
    elim (cases_lt 0 tens) [
      | inl some ↦
          ap (λ t. t ++ digit last ∷ []) (cond-false (tens == 0) [] (decimal tens) (is_not_eq tens 0 some))
          ∙ sym (decimal_step n (omega arith) high ∙ ap (λ k. decimal k ++ digit (n % 10) ∷ []) above ∙ ap (λ k. decimal tens ++ digit k ∷ []) rest)
      | inr none ↦
          let zero_tens : tens ≡ 0 = omega arith in
          let alone : last ≡ n = omega arith in
          ap (λ k. (if k == 0 then [] else decimal k) ++ digit last ∷ []) zero_tens ∙ ap (λ k. digit k ∷ []) alone ∙ sym (decimal_digit n (omega arith))
    ]

pub no_tens : (tens : ℕ) → tens ≡ 0 → [] ≡ tens_text tens
unfolding tens_text
no_tens tens e = ap (λ k. if k == 0 then [] else decimal k) (sym e)

pub some_tens : (tens : ℕ) → 0 < tens → decimal tens ≡ tens_text tens
unfolding tens_text
some_tens tens some = sym (cond-false (tens == 0) [] (decimal tens) (is_not_eq tens 0 some))

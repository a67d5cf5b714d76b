use Rattle.std.proofs.Common.{◌≡◌, ◌≤◌, ◌<◌, ◌-◌, ◌++◌, ◌/◌, ◌%◌, true, false, List, ℕ, length, take, drop, replicate, Some, subst, sym, ap, ◌∙◌, arith, length-append, length-drop}
use Rattle.std.proofs.lemmas.List.{take-take}
use Rattle.std.specs.List.{AllPass}
use Rattle.hex.specs.Hex.{is_hex_digit}
use Rattle.link_text.specs.Hexadecimal.{spelled_octets}
use Rattle.link_run_inspect.proofs.FewDigits.{spelled_front, spelled_none, rest_passes}
use Rattle.link_run_inspect.proofs.inspector.few_octets.Goals as goal

pub returns-in-Some-clause-some : goal.returns-in-Some-clause-some
returns-in-Some-clause-some c =
    let digits = c.args.digits.now in
    let rest = drop (length digits) (replicate 64 48) in
    let found = take c.in-Some.field-0 c.octets.new.out in
    let long : length rest ≡ 64 - length digits = length-drop (length digits) (replicate 64 48) in
    let even : length rest % 2 ≡ 0 = omega (arith, long) in
    let whole : spelled_octets (digits ++ rest) ≡ Some found =
    subst (λ (l : List ℕ). spelled_octets (l ++ rest) ≡ Some found) c.copy_from_slice.ensures.after c.in-Some.ensures.value in
    let all : c.in-Some.field-0 ≡ length (c.copy_from_slice.new.self ++ rest) / 2 = c.in-Some.ensures.count in
    let within : length digits / 2 ≤ c.in-Some.field-0 =
    omega (arith, all, length-append c.copy_from_slice.new.self rest, ap length c.copy_from_slice.ensures.after, long) in
    spelled_front digits rest found c.requires.some c.requires.pairs even whole
    ∙ ap Some (take-take (length digits / 2) c.in-Some.field-0 c.octets.new.out within)

not_true : false ≡ true → ⊥
not_true e = cc

pub returns-in-None-clause-none : goal.returns-in-None-clause-none
returns-in-None-clause-none c =
    let digits = c.args.digits.now in
    let rest = drop (length digits) (replicate 64 48) in
    let filled = c.copy_from_slice.new.self ++ rest in
    let long : length rest ≡ 64 - length digits = length-drop (length digits) (replicate 64 48) in
    let whole : length filled ≡ 64 =
    omega (arith, length-append c.copy_from_slice.new.self rest, ap length c.copy_from_slice.ensures.after, long) in
    let some : 0 < length filled = omega (arith, whole) in
    let even : length filled % 2 ≡ 0 = omega (arith, whole) in
    spelled_none digits rest (rest_passes (length digits)) (λ all.
    let pass : AllPass is_hex_digit filled = subst (λ (l : List ℕ). AllPass is_hex_digit (l ++ rest)) (sym c.copy_from_slice.ensures.after) all in
    not_true (c.in-None.ensures.found.1 (some, even, pass)))

use Rattle.std.proofs.Common.{◌≡◌, ℕ, ◌-◌, ◌++◌, cond, List, length, take, drop, arith, sym, subst, ap, ◌∙◌, length-append, length-drop}
use Rattle.std.proofs.lemmas.List.{length-take-le, take-take}
use Rattle.std.proofs.Math.Seq.{take-append_seam}
use Rattle.plan_checker.specs.Flows.{bits_of_carriers, control_octets}
use Rattle.roe_mappers.specs.Parts.{IsAwarePart}
use Rattle.roe_mappers.proofs.AwareParts.{IsAwarePart-from, few_octets, octets_hold_bits, octets_of_aware, put_rest}
use Rattle.roe_mappers.proofs.mapping.map_aware.Goals as goal

-- a rest of a list is as long as what its front leaves
length-rest : (n : ℕ) (xs : List ℕ) → length (take (length xs - n) (drop n xs)) ≡ length xs - n
length-rest n xs = length-take-le (length xs - n) (drop n xs) (omega (arith, length-drop n xs))

pub fill_containers-requires : goal.fill_containers-requires
fill_containers-requires g c =
    let p = c.args.plan.now in
    let f = c.args.flow.now in
    let out = c.args.out.now in
    let n = c.control_octets-control.result in
    let w = c.copy_from_slice.new.self in
    let octets : control_octets p f ≡ n = ap (λ y. cond f.control y 0) c.requires.word ∙ sym c.control_octets-control.ensures.value in
    let room = c.requires.room ∙ octets_of_aware p f c.requires.mode in
    let long : length w ≡ n = c.copy_from_slice.ensures.len ∙ length-take-le n out (omega arith) in
    let both = length-append w (drop n out) in
    let rest = length-rest n (w ++ drop n out) in
    let hold = octets_hold_bits (bits_of_carriers p f.carriers) in
    let few = few_octets p f c.requires.good c.requires.flow in
    (omega arith, (c.requires.good, (c.requires.flow, (c.requires.word, (omega (arith, rest, both, long, room, octets, hold, length-drop n out), omega (arith, rest, both, long, room, length-drop n out, few, c.requires.room))))))

pub returns : goal.returns
returns g c =
    let p = c.args.plan.now in
    let f = c.args.flow.now in
    let out = c.args.out.now in
    let n = c.control_octets-control.result in
    let w = c.copy_from_slice.new.self in
    let out1 = w ++ drop n out in
    let octets : control_octets p f ≡ n = ap (λ y. cond f.control y 0) c.requires.word ∙ sym c.control_octets-control.ensures.value in
    let room = c.requires.room ∙ octets_of_aware p f c.requires.mode in
    let long : length w ≡ n = c.copy_from_slice.ensures.len ∙ length-take-le n out (omega arith) in
    let front : w ≡ take n c.args.frame.now = c.copy_from_slice.ensures.after ∙ ap (take n) c.control.ensures.value ∙ take-take n g.row.Y c.args.frame.now c.control_octets-control.ensures.within in
    let kept : take n out1 ≡ w = subst (λ m. take m out1 ≡ w) long (take-append_seam w (drop n out)) in
    let is = put_rest n out1 c.fill_containers.new.octets ∙ ap (λ xs. xs ++ c.fill_containers.new.octets) kept in
    subst (IsAwarePart p f c.args.frame.now) (sym is)
    (IsAwarePart-from p f g.row.Y n c.args.frame.now w c.fill_containers.new.octets c.requires.word octets long front c.fill_containers.ensures)

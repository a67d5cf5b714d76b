use Rattle.std.proofs.Common.{◌≡◌, ◌-◌, cond, length, drop, arith, sym, subst, ap, ◌∙◌, length-drop}
use Rattle.std.proofs.lemmas.List.{length-take-le, take_all}
use Rattle.plan_checker.specs.Flows.{bits_of_carriers, control_octets}
use Rattle.roe_mappers.specs.CarriedBits.{carried_bits}
use Rattle.roe_mappers.specs.MovedBits.{GivesBits}
use Rattle.roe_mappers.proofs.AwareParts.{PutsContainers-from, few_octets, octets_hold_bits, octets_of_aware}
use Rattle.roe_mappers.proofs.unmapping.unmap_aware.Goals as goal

pub put_containers-requires : goal.put_containers-requires
put_containers-requires g c =
    let p = c.args.plan.now in
    let f = c.args.flow.now in
    let n = c.control_octets-control.result in
    let octets : control_octets p f ≡ n = ap (λ y. cond f.control y 0) c.requires.word ∙ sym c.control_octets-control.ensures.value in
    let whole = c.requires.whole ∙ octets_of_aware p f c.requires.mode in
    let rest = length-take-le (length c.args.part.now - n) (drop n c.args.part.now) (omega (arith, length-drop n c.args.part.now)) in
    let hold = octets_hold_bits (bits_of_carriers p f.carriers) in
    let few = few_octets p f c.requires.good c.requires.flow in
    (omega arith, (c.requires.good, (c.requires.flow, (c.requires.word, (omega (arith, rest, whole, octets, hold), omega (arith, rest, few, c.requires.whole))))))

pub put_control-requires : goal.put_control-requires
put_control-requires g c =
    let p = c.args.plan.now in
    let f = c.args.flow.now in
    let n = c.control_octets-control.result in
    let octets : control_octets p f ≡ n = ap (λ y. cond f.control y 0) c.requires.word ∙ sym c.control_octets-control.ensures.value in
    let whole = c.requires.whole ∙ octets_of_aware p f c.requires.mode in
    (omega arith, λ has. length-take-le n c.args.part.now (omega arith) ∙ c.control_octets-control.ensures.value ∙ ap (λ b. cond b g.row.Y 0) has)

pub returns : goal.returns
returns g c =
    let p = c.args.plan.now in
    let f = c.args.flow.now in
    let part = c.args.part.now in
    let n = c.control_octets-control.result in
    let octets : control_octets p f ≡ n = ap (λ y. cond f.control y 0) c.requires.word ∙ sym c.control_octets-control.ensures.value in
    let whole = c.requires.whole ∙ octets_of_aware p f c.requires.mode in
    let rest = take_all (length part - n) (drop n part) (omega (arith, length-drop n part)) in
    let gives = subst (λ xs. GivesBits g.row.Y xs 0 (carried_bits p f) c.args.frame.now c.put_containers.new.frame) rest c.put_containers.ensures in
    PutsContainers-from p f g.row.Y n part c.args.frame.now c.put_containers.new.frame c.put_control.new.frame c.requires.word octets (omega arith)
    c.put_control.ensures.control c.put_control.ensures.no_control c.requires.good c.requires.flow c.requires.mode gives

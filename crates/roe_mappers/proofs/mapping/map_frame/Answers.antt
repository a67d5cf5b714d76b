use Rattle.std.proofs.Common.{◌≡◌, ◌*◌, get_or, refl, sym, ap, subst, ◌∙◌, arith}
use Rattle.carrier_plan.specs.declared.plan.Flow.{Flow}
use Rattle.carrier_plan.specs.declared.plan.Mode.TheVariants.{Tunnel, Bytes, Aware}
use Rattle.carrier_plan.specs.declared.plan.Plan.{Plan}
use Rattle.line_code.specs.Line.{disparity_after_all, frame_characters, symbols_of}
use Rattle.plan_checker.specs.WordSize.{word_size}
use Rattle.plan_checker.proofs.Places.{flow_holds, octets_number}
use Rattle.roe_mappers.specs.Parts.{IsAwarePart, disparity_after_frame}
use Rattle.roe_mappers.proofs.Carried.{flow_at}
use Rattle.roe_mappers.proofs.WholeParts.{carries_in, octets_in_mode, part_holds}
use Rattle.roe_mappers.proofs.mapping.map_frame.Goals as goal

pub spell-requires-clause-room : goal.spell-requires-clause-room
spell-requires-clause-room g c =
    let p = c.args.checked.now in
    let mode : p.mode ≡ Tunnel = ap (λ (q : Plan). q.mode) (sym c.plan-plan.ensures.same) ∙ c.in-Tunnel.is in
    let octets = octets_in_mode p c.args.f Tunnel (20 * word_size p.option) c.requires.flow mode (λ f. refl) in
    omega (arith, octets, c.requires.room, c.requires.word, c.octets.ensures.length)

pub copy_from_slice-requires : goal.copy_from_slice-requires
copy_from_slice-requires g c =
    let p = c.args.checked.now in
    let mode : p.mode ≡ Bytes = ap (λ (q : Plan). q.mode) (sym c.plan-plan.ensures.same) ∙ c.in-Bytes.is in
    let octets = octets_in_mode p c.args.f Bytes (16 * word_size p.option) c.requires.flow mode (λ f. refl) in
    omega (arith, octets, c.requires.room, c.requires.word, c.octets-in-Bytes.ensures.length)

pub map_aware-requires : goal.map_aware-requires
map_aware-requires g c =
    let p = c.plan-plan.result.now in
    let same = c.plan-plan.ensures.same in
    let word = ap (λ (q : Plan). word_size q.option) same ∙ c.requires.word in
    let room = c.requires.room ∙ sym (octets_number p c.args.checked.now same c.args.f c.at.result.now c.at.ensures) in
    (omega arith, (c.plan-plan.ensures.good, (flow_at p.flows c.args.f c.at.result.now c.at.ensures, (c.in-Aware.is, (word, room)))))

pub returns-in-Tunnel-clause-part : goal.returns-in-Tunnel-clause-part
returns-in-Tunnel-clause-part g c =
    let p = c.args.checked.now in
    let n = c.args.n in
    let frame = c.args.frame.now in
    let mode : p.mode ≡ Tunnel = ap (λ (q : Plan). q.mode) (sym c.plan-plan.ensures.same) ∙ c.in-Tunnel.is in
    let spelled = c.spell.ensures.symbols ∙ ap (λ xs. symbols_of c.args.rd (frame_characters n xs)) c.octets.ensures.value in
    part_holds p c.args.f n c.args.rd frame c.spell.new.out c.requires.flow (c.spell.auto.out ∙ c.requires.room) c.type_inv.out
    (λ d. carries_in p (get_or p.flows c.args.f d) Tunnel n c.args.rd frame c.spell.new.out mode spelled)

pub returns-in-Tunnel-clause-disparity : goal.returns-in-Tunnel-clause-disparity
returns-in-Tunnel-clause-disparity g c =
    let p = c.args.checked.now in
    let mode : p.mode ≡ Tunnel = ap (λ (q : Plan). q.mode) (sym c.plan-plan.ensures.same) ∙ c.in-Tunnel.is in
    c.spell.ensures.disparity ∙ ap (λ xs. disparity_after_all c.args.rd (frame_characters c.args.n xs)) c.octets.ensures.value
    ∙ ap (λ m. disparity_after_frame m c.args.n c.args.rd c.args.frame.now) (sym mode)

pub returns-in-Aware-clause-part : goal.returns-in-Aware-clause-part
returns-in-Aware-clause-part g c =
    let q = c.plan-plan.result.now in
    let p = c.args.checked.now in
    let n = c.args.n in
    let frame = c.args.frame.now in
    let out = c.map_aware.new.out in
    let f = c.at.result.now in
    let mode : p.mode ≡ Aware = ap (λ (r : Plan). r.mode) (sym c.plan-plan.ensures.same) ∙ c.in-Aware.is in
    let here = subst (λ r. IsAwarePart r f frame out) c.plan-plan.ensures.same c.map_aware.ensures in
    let there = flow_holds q p c.plan-plan.ensures.same (λ (x : Flow). IsAwarePart p x frame out) c.args.f f c.at.ensures here in
    part_holds p c.args.f n c.args.rd frame out c.requires.flow (c.map_aware.auto.out ∙ c.requires.room) c.type_inv.out
    (λ d. carries_in p (get_or p.flows c.args.f d) Aware n c.args.rd frame out mode (there d))

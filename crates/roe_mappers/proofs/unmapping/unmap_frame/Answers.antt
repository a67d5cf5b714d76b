use Rattle.std.proofs.Common.{◌≡◌, ◌*◌, get_or, refl, sym, ap, subst, ◌∙◌, arith}
use Rattle.carrier_plan.specs.declared.plan.Flow.{Flow}
use Rattle.carrier_plan.specs.declared.plan.Mode.TheVariants.{Tunnel, Bytes, Aware}
use Rattle.carrier_plan.specs.declared.plan.Plan.{Plan}
use Rattle.plan_checker.specs.Rules.{IsGood}
use Rattle.plan_checker.specs.WordSize.{word_size}
use Rattle.plan_checker.proofs.Places.{flow_holds, octets_number}
use Rattle.roe_mappers.specs.FrameAfter.{PutsContainers}
use Rattle.roe_mappers.specs.Symbols.{bad_symbol}
use Rattle.roe_mappers.proofs.Carried.{flow_at}
use Rattle.roe_mappers.proofs.WholeParts.{IsFrameAfter-symbols, octets_in_mode, puts_in, some_words, word_size_small}
use Rattle.roe_mappers.proofs.unmapping.unmap_frame.Goals as goal

pub unmap_symbols-requires : goal.unmap_symbols-requires
unmap_symbols-requires g c =
    let p = c.args.checked.now in
    let mode : p.mode ≡ Tunnel = ap (λ (q : Plan). q.mode) (sym c.plan-plan.ensures.same) ∙ c.in-Tunnel.is in
    let octets = octets_in_mode p c.args.f Tunnel (20 * word_size p.option) c.requires.flow mode (λ f. refl) ∙ ap (λ y. 20 * y) c.requires.word in
    let good : IsGood p = subst IsGood c.plan-plan.ensures.same c.plan-plan.ensures.good in
    let some = some_words p c.args.f g.row.Y good c.requires.flow octets in
    (omega arith, (some, (omega (arith, word_size_small p.option, c.requires.word), c.requires.whole ∙ octets)))

pub set_octets-requires : goal.set_octets-requires
set_octets-requires g c =
    let p = c.args.checked.now in
    let mode : p.mode ≡ Bytes = ap (λ (q : Plan). q.mode) (sym c.plan-plan.ensures.same) ∙ c.in-Bytes.is in
    let octets = octets_in_mode p c.args.f Bytes (16 * word_size p.option) c.requires.flow mode (λ f. refl) ∙ ap (λ y. 16 * y) c.requires.word in
    (omega arith, c.requires.whole ∙ octets)

pub unmap_aware-requires : goal.unmap_aware-requires
unmap_aware-requires g c =
    let p = c.plan-plan.result.now in
    let same = c.plan-plan.ensures.same in
    let word = ap (λ (q : Plan). word_size q.option) same ∙ c.requires.word in
    let whole = c.requires.whole ∙ sym (octets_number p c.args.checked.now same c.args.f c.at.result.now c.at.ensures) in
    (omega arith, (c.plan-plan.ensures.good, (flow_at p.flows c.args.f c.at.result.now c.at.ensures, (c.in-Aware.is, (word, whole)))))

pub returns-in-Tunnel-clause-symbols : goal.returns-in-Tunnel-clause-symbols
returns-in-Tunnel-clause-symbols g c =
    let p = c.args.checked.now in
    let mode : p.mode ≡ Tunnel = ap (λ (q : Plan). q.mode) (sym c.plan-plan.ensures.same) ∙ c.in-Tunnel.is in
    ap (λ m. bad_symbol m c.args.n c.args.part.now) mode ∙ c.unmap_symbols.ensures.symbols

pub returns-in-Tunnel-clause-frame : goal.returns-in-Tunnel-clause-frame
returns-in-Tunnel-clause-frame g c = λ d.
    let p = c.args.checked.now in
    let mode : p.mode ≡ Tunnel = ap (λ (q : Plan). q.mode) (sym c.plan-plan.ensures.same) ∙ c.in-Tunnel.is in
    IsFrameAfter-symbols c.unmap_symbols.result p (get_or p.flows c.args.f d) c.args.part.now c.args.frame.now c.unmap_symbols.new.frame mode c.unmap_symbols.ensures.frame

pub returns-in-Aware-clause-frame : goal.returns-in-Aware-clause-frame
returns-in-Aware-clause-frame g c =
    let q = c.plan-plan.result.now in
    let p = c.args.checked.now in
    let part = c.args.part.now in
    let old = c.args.frame.now in
    let new = c.unmap_aware.new.frame in
    let f = c.at.result.now in
    let mode : p.mode ≡ Aware = ap (λ (r : Plan). r.mode) (sym c.plan-plan.ensures.same) ∙ c.in-Aware.is in
    let here = subst (λ r. PutsContainers r f part old new) c.plan-plan.ensures.same c.unmap_aware.ensures in
    let there = flow_holds q p c.plan-plan.ensures.same (λ (x : Flow). PutsContainers p x part old new) c.args.f f c.at.ensures here in
    λ d. puts_in p (get_or p.flows c.args.f d) Aware part old new mode (there d)

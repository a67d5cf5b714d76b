use Rattle.std.proofs.Common.{get_or, sym, ap, ◌∙◌, subst, arith}
use Rattle.std.specs.Option.{option_copied}
use Rattle.carrier_plan.specs.declared.plan.Flow.{Flow}
use Rattle.carrier_plan.specs.declared.plan.Mode.{Mode}
use Rattle.roe_mappers.specs.FrameAfter.{Puts}
use Rattle.link_receiver.proofs.OctetsInHand.{is_played, item, octets_asked, some_flow, spelled_bad, spelled_good, spelled_none}
use Rattle.link_receiver.proofs.parts.spell_symbols.Goals as goal

pub bounds-flows-0 : goal.bounds-flows-0
bounds-flows-0 g c = let some = some_flow c.args.checked.now c.requires.good in let many = c.requires.flows.1.as_many in omega (arith, some, many)

pub frame-requires : goal.frame-requires
frame-requires g c = is_played c.args.checked.now c.requires.flows.0 c.args.n 0 c.args.flows.now c.requires.flows.1 (some_flow c.args.checked.now c.requires.good) c.index-flows-0.result

pub unmap_frame-requires : goal.unmap_frame-requires
unmap_frame-requires g c =
    let some = some_flow c.args.checked.now c.requires.good in (
      omega arith,
      (
        sym c.requires.words,
        (
          some,
          c.frame.ensures.length c.in-Some.part c.in-Some.is ∙ octets_asked c.args.checked.now c.requires.flows.0 c.args.n c.args.flows.now c.index-flows-0.result c.requires.flows.1 some,
        ),
      ),
    )

pub returns-in-Good : goal.returns-in-Good
returns-in-Good g c =
    let p = c.args.checked.now in
    let some = some_flow p c.requires.good in
    let d : Flow = item p.flows 0 some in
    spelled_good p c.requires.flows.0 c.args.n c.args.flows.now c.index-flows-0.result c.in-Some.part.now c.unmap_frame.new.frame c.requires.flows.1 some c.requires.mode
    (ap option_copied (sym c.in-Some.is) ∙ c.frame.ensures.octets) c.in-Good.ensures.symbols
    (subst (λ (m : Mode). Puts m p (get_or p.flows 0 d) c.in-Some.part.now c.args.frame.now c.unmap_frame.new.frame) c.requires.mode (c.in-Good.ensures.frame d))

pub returns-in-BadSymbol : goal.returns-in-BadSymbol
returns-in-BadSymbol g c =
    let p = c.args.checked.now in
    let some = some_flow p c.requires.good in
    spelled_bad p c.requires.flows.0 c.args.n c.args.flows.now c.index-flows-0.result c.in-Some.part.now c.in-BadSymbol.place c.requires.flows.1 some
    (ap option_copied (sym c.in-Some.is) ∙ c.frame.ensures.octets) c.in-BadSymbol.ensures.symbols

pub returns-in-None : goal.returns-in-None
returns-in-None g c =
    let p = c.args.checked.now in
    let some = some_flow p c.requires.good in
    spelled_none p c.requires.flows.0 c.args.n c.args.flows.now c.index-flows-0.result c.requires.flows.1 some
    (ap option_copied (sym c.in-None.is) ∙ c.frame.ensures.octets)

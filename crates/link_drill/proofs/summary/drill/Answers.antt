use Rattle.std.proofs.Common.{◌≡◌, ◌+◌, ◌*◌, ◌%◌, ◌∙◌, ℕ, List, All, length, refl, sym, ap, subst, arith}
use Rattle.carrier_plan.specs.declared.plan.Plan.{Plan}
use Rattle.plan_checker.specs.WordSize.{word_size}
use Rattle.sample_bits.specs.Samples.{IsWithin}
use Rattle.sample_bits.specs.declared.iq.RawIq.{RawIq}
use Rattle.link_drill.specs.Draws.{drawn_samples}
use Rattle.link_drill.specs.DrillPlan.{drill_plan}
use Rattle.link_drill.specs.Fates.{fates_of}
use Rattle.link_drill.specs.Summary.{entries_by, option_of, summary_by, summary_of}
use Rattle.link_drill.specs.declared.fates.Fate.{Fate}
use Rattle.link_drill.specs.declared.summary.Summary.{Summary}
use Rattle.link_drill.proofs.DrawSteps.{drawn_samples-within, length-drawn_samples}
use Rattle.link_drill.proofs.FateSteps.{length-fates_of}
use Rattle.link_drill.proofs.PlanFacts.{drill_plan-option}
use Rattle.link_drill.proofs.SummarySteps.{ok_more, summary_is}
use Rattle.link_drill.proofs.summary.drill.Goals as goal

pub checked_plan-requires-clause-some : goal.checked_plan-requires-clause-some
checked_plan-requires-clause-some c = omega arith

pub checked_plan-requires-clause-known : goal.checked_plan-requires-clause-known
checked_plan-requires-clause-known c = omega arith

pub summarize-requires-clause-plan : goal.summarize-requires-clause-plan
summarize-requires-clause-plan c =
    let option : ℕ = 1 + c.draw.result % 7 in
    let same = ap (λ (p : Plan). p.option) c.in_ok-checked.ensures ∙ drill_plan-option option in
    c.in_ok-checked.ensures ∙ ap drill_plan (sym same)

pub summarize-requires-clause-known : goal.summarize-requires-clause-known
summarize-requires-clause-known c =
    let option : ℕ = 1 + c.draw.result % 7 in
    let same = ap (λ (p : Plan). p.option) c.in_ok-checked.ensures ∙ drill_plan-option option in
    (omega (arith, same), omega (arith, same))

pub summarize-requires-clause-drawn : goal.summarize-requires-clause-drawn
summarize-requires-clause-drawn c =
    let at = c.draw.ensures.next c.args.number 0 c.new-generator.ensures in
    let items = c.in_ok-drawn.ensures.value c.args.number at in
    ap (λ (xs : List RawIq). length xs) (c.deref.ensures.value ∙ items) ∙ length-drawn_samples c.args.number (4 * (256 * c.word_octets.result))
    ∙ ap (λ n. 4 * (256 * n)) c.word_octets.ensures

pub summarize-requires-clause-widths : goal.summarize-requires-clause-widths
summarize-requires-clause-widths c =
    let at = c.draw.ensures.next c.args.number 0 c.new-generator.ensures in
    let items = c.in_ok-drawn.ensures.value c.args.number at in
    subst (λ (xs : List RawIq). All (IsWithin 15) xs) (sym (c.deref.ensures.value ∙ items)) (drawn_samples-within c.args.number (4 * (256 * c.word_octets.result)))

pub summarize-requires-clause-fates : goal.summarize-requires-clause-fates
summarize-requires-clause-fates c =
    let number = c.args.number in
    let first : ℕ = 1 + 2 * (4 * (256 * c.word_octets.result)) in
    let at = c.draw.ensures.next number 0 c.new-generator.ensures in
    let items = c.in_ok-fates.ensures number first (c.in_ok-drawn.ensures.next number at) in
    ap (λ (xs : List Fate). length xs) (c.deref-2.ensures.value ∙ items) ∙ length-fates_of number first 65

pub returns : goal.returns
returns c =
    let number = c.args.number in
    let p : Plan = c.in_ok-checked.checked in
    let Y = word_size p.option in
    let option : ℕ = 1 + c.draw.result % 7 in
    let first : ℕ = 1 + 2 * (4 * (256 * c.word_octets.result)) in
    let drawn : List RawIq = c.deref.result.now in
    let fates : List Fate = c.deref-2.result.now in
    let at = c.draw.ensures.next number 0 c.new-generator.ensures in
    let same = ap (λ (q : Plan). q.option) c.in_ok-checked.ensures ∙ drill_plan-option option in
    let e_option : p.option ≡ option_of number = same ∙ ap (λ d. 1 + d % 7) (c.draw.ensures.value number 0 c.new-generator.ensures) in
    let e_plan : p ≡ drill_plan p.option = c.in_ok-checked.ensures ∙ ap drill_plan (sym same) in
    let e_drawn : drawn ≡ drawn_samples number (4 * (256 * Y)) =
    c.deref.ensures.value ∙ c.in_ok-drawn.ensures.value number at ∙ ap (λ n. drawn_samples number (4 * (256 * n))) c.word_octets.ensures in
    let e_fates : fates ≡ fates_of number (1 + 2 * (4 * (256 * Y))) 65 =
    c.deref-2.ensures.value ∙ c.in_ok-fates.ensures number first (c.in_ok-drawn.ensures.next number at)
    ∙ ap (λ n. fates_of number (1 + 2 * (4 * (256 * n))) 65) c.word_octets.ensures in
    ok_more (λ (s : Summary). s ≡ summary_by p.option Y drawn fates (entries_by p Y drawn fates)) (λ (s : Summary). s ≡ summary_of number) c.summarize.result
    (λ s given. summary_is number p.option Y p drawn fates s e_option e_plan refl e_drawn e_fates given) c.summarize.ensures

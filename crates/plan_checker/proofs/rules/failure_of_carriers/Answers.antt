use Rattle.plan_checker.specs.Rules.{IsMetBelow}
use Rattle.plan_checker.specs.Rules.Rule.{SampleRate, SampleWidth, ContainerSize, ContainerEnd, SeparateBits}
use Rattle.plan_checker.proofs.Failures.{carrier_place, first_at, met_below_next}
use Rattle.plan_checker.proofs.rules.failure_of_carriers.Goals as goal

pub returns-in-Some : goal.returns-in-Some
returns-in-Some c =
    let p = c.args.plan.now in
    let says = c.at.ensures in
    first_at p SampleRate _ _ _ c.in-Some.ensures c.requires says.number says.place

pub returns-in-Some-wrong_width : goal.returns-in-Some-wrong_width
returns-in-Some-wrong_width c =
    let p = c.args.plan.now in
    let below_5 : IsMetBelow p 5 = met_below_next p SampleRate c.requires c.in_default.ensures in
    let says = c.at-in-Some-wrong_width.ensures in
    first_at p SampleWidth _ _ _ c.in-Some-wrong_width.ensures below_5 says.number says.place

pub returns-in-Some-wrong_size : goal.returns-in-Some-wrong_size
returns-in-Some-wrong_size c =
    let p = c.args.plan.now in
    let below_5 : IsMetBelow p 5 = met_below_next p SampleRate c.requires c.in_default.ensures in
    let below_6 : IsMetBelow p 6 = met_below_next p SampleWidth below_5 c.in_default-wrong_width.ensures in
    let says = c.at-in-Some-wrong_size.ensures in
    first_at p ContainerSize _ _ _ c.in-Some-wrong_size.ensures below_6 says.number says.place

pub returns-in-Some-wrong_end : goal.returns-in-Some-wrong_end
returns-in-Some-wrong_end c =
    let p = c.args.plan.now in
    let below_5 : IsMetBelow p 5 = met_below_next p SampleRate c.requires c.in_default.ensures in
    let below_6 : IsMetBelow p 6 = met_below_next p SampleWidth below_5 c.in_default-wrong_width.ensures in
    let below_7 : IsMetBelow p 7 = met_below_next p ContainerSize below_6 c.in_default-wrong_size.ensures in
    let says = c.at-in-Some-wrong_end.ensures in
    first_at p ContainerEnd _ _ _ c.in-Some-wrong_end.ensures below_7 says.number says.place

pub returns-in-Some-shared_bits : goal.returns-in-Some-shared_bits
returns-in-Some-shared_bits c =
    let p = c.args.plan.now in
    let below_5 : IsMetBelow p 5 = met_below_next p SampleRate c.requires c.in_default.ensures in
    let below_6 : IsMetBelow p 6 = met_below_next p SampleWidth below_5 c.in_default-wrong_width.ensures in
    let below_7 : IsMetBelow p 7 = met_below_next p ContainerSize below_6 c.in_default-wrong_size.ensures in
    let below_8 : IsMetBelow p 8 = met_below_next p ContainerEnd below_7 c.in_default-wrong_end.ensures in
    let says = c.at-in-Some-shared_bits.ensures in
    first_at p SeparateBits _ _ _ c.in-Some-shared_bits.ensures below_8 says.number says.place

pub returns : goal.returns
returns c =
    let p = c.args.plan.now in
    let below_5 : IsMetBelow p 5 = met_below_next p SampleRate c.requires c.in_default.ensures in
    let below_6 : IsMetBelow p 6 = met_below_next p SampleWidth below_5 c.in_default-wrong_width.ensures in
    let below_7 : IsMetBelow p 7 = met_below_next p ContainerSize below_6 c.in_default-wrong_size.ensures in
    let below_8 : IsMetBelow p 8 = met_below_next p ContainerEnd below_7 c.in_default-wrong_end.ensures in
    let below_9 : IsMetBelow p 9 = met_below_next p SeparateBits below_8 c.in_default-shared_bits.ensures in
    below_9

pub at-requires : goal.at-requires
at-requires c = carrier_place c.args.plan.now _ c.requires c.in-Some.ensures.in_range

pub at-requires-in-Some-wrong_width : goal.at-requires-in-Some-wrong_width
at-requires-in-Some-wrong_width c = carrier_place c.args.plan.now _ c.requires c.in-Some-wrong_width.ensures.in_range

pub at-requires-in-Some-wrong_size : goal.at-requires-in-Some-wrong_size
at-requires-in-Some-wrong_size c = carrier_place c.args.plan.now _ c.requires c.in-Some-wrong_size.ensures.in_range

pub at-requires-in-Some-wrong_end : goal.at-requires-in-Some-wrong_end
at-requires-in-Some-wrong_end c = carrier_place c.args.plan.now _ c.requires c.in-Some-wrong_end.ensures.in_range

pub at-requires-in-Some-shared_bits : goal.at-requires-in-Some-shared_bits
at-requires-in-Some-shared_bits c = carrier_place c.args.plan.now _ c.requires c.in-Some-shared_bits.ensures.in_range

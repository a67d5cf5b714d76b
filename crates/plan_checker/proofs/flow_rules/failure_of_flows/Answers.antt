use Rattle.std.proofs.Common.{arith, refl}
use Rattle.std.proofs.lemmas.Bool.Decides.{not_from_Decides}
use Rattle.plan_checker.specs.Rules.{IsMetBelow}
use Rattle.plan_checker.specs.Rules.Rule.{SharedOut, PayloadSize, ArrivalWindow, PlayedInTime, SequenceNumbers, BufferRoom}
use Rattle.plan_checker.proofs.Failures.{flow_place, fails_at_0, met_at_0, first_at, met_below_next, good_from_met}
use Rattle.plan_checker.proofs.flow_rules.failure_of_flows.Goals as goal

pub returns-then-not-shares_out_carriers : goal.returns-then-not-shares_out_carriers
returns-then-not-shares_out_carriers c =
    let p = c.args.plan.now in
    first_at p SharedOut 0 9 0 (fails_at_0 p SharedOut (omega arith) (not_from_Decides _ c.shares_out_carriers.ensures c.if-not-shares_out_carriers.true)) c.requires refl refl

pub returns-in-Some : goal.returns-in-Some
returns-in-Some c =
    let p = c.args.plan.now in
    let below_10 : IsMetBelow p 10 = met_below_next p SharedOut c.requires (met_at_0 p SharedOut refl (c.shares_out_carriers.ensures.0 c.if-not-shares_out_carriers.false)) in
    let says = c.at.ensures in
    first_at p PayloadSize _ _ _ c.in-Some.ensures below_10 says.number says.place

pub returns-in-Some-wrong_window : goal.returns-in-Some-wrong_window
returns-in-Some-wrong_window c =
    let p = c.args.plan.now in
    let below_10 : IsMetBelow p 10 = met_below_next p SharedOut c.requires (met_at_0 p SharedOut refl (c.shares_out_carriers.ensures.0 c.if-not-shares_out_carriers.false)) in
    let below_11 : IsMetBelow p 11 = met_below_next p PayloadSize below_10 c.in_default.ensures in
    let says = c.at-in-Some-wrong_window.ensures in
    first_at p ArrivalWindow _ _ _ c.in-Some-wrong_window.ensures below_11 says.number says.place

pub returns-in-Some-wrong_playout : goal.returns-in-Some-wrong_playout
returns-in-Some-wrong_playout c =
    let p = c.args.plan.now in
    let below_10 : IsMetBelow p 10 = met_below_next p SharedOut c.requires (met_at_0 p SharedOut refl (c.shares_out_carriers.ensures.0 c.if-not-shares_out_carriers.false)) in
    let below_11 : IsMetBelow p 11 = met_below_next p PayloadSize below_10 c.in_default.ensures in
    let below_12 : IsMetBelow p 12 = met_below_next p ArrivalWindow below_11 c.in_default-wrong_window.ensures in
    let says = c.at-in-Some-wrong_playout.ensures in
    first_at p PlayedInTime _ _ _ c.in-Some-wrong_playout.ensures below_12 says.number says.place

pub returns-in-Some-wrong_numbers : goal.returns-in-Some-wrong_numbers
returns-in-Some-wrong_numbers c =
    let p = c.args.plan.now in
    let below_10 : IsMetBelow p 10 = met_below_next p SharedOut c.requires (met_at_0 p SharedOut refl (c.shares_out_carriers.ensures.0 c.if-not-shares_out_carriers.false)) in
    let below_11 : IsMetBelow p 11 = met_below_next p PayloadSize below_10 c.in_default.ensures in
    let below_12 : IsMetBelow p 12 = met_below_next p ArrivalWindow below_11 c.in_default-wrong_window.ensures in
    let below_13 : IsMetBelow p 13 = met_below_next p PlayedInTime below_12 c.in_default-wrong_playout.ensures in
    let says = c.at-in-Some-wrong_numbers.ensures in
    first_at p SequenceNumbers _ _ _ c.in-Some-wrong_numbers.ensures below_13 says.number says.place

pub returns-in-Some-wrong_room : goal.returns-in-Some-wrong_room
returns-in-Some-wrong_room c =
    let p = c.args.plan.now in
    let below_10 : IsMetBelow p 10 = met_below_next p SharedOut c.requires (met_at_0 p SharedOut refl (c.shares_out_carriers.ensures.0 c.if-not-shares_out_carriers.false)) in
    let below_11 : IsMetBelow p 11 = met_below_next p PayloadSize below_10 c.in_default.ensures in
    let below_12 : IsMetBelow p 12 = met_below_next p ArrivalWindow below_11 c.in_default-wrong_window.ensures in
    let below_13 : IsMetBelow p 13 = met_below_next p PlayedInTime below_12 c.in_default-wrong_playout.ensures in
    let below_14 : IsMetBelow p 14 = met_below_next p SequenceNumbers below_13 c.in_default-wrong_numbers.ensures in
    let says = c.at-in-Some-wrong_room.ensures in
    first_at p BufferRoom _ _ _ c.in-Some-wrong_room.ensures below_14 says.number says.place

pub returns : goal.returns
returns c =
    let p = c.args.plan.now in
    let below_10 : IsMetBelow p 10 = met_below_next p SharedOut c.requires (met_at_0 p SharedOut refl (c.shares_out_carriers.ensures.0 c.if-not-shares_out_carriers.false)) in
    let below_11 : IsMetBelow p 11 = met_below_next p PayloadSize below_10 c.in_default.ensures in
    let below_12 : IsMetBelow p 12 = met_below_next p ArrivalWindow below_11 c.in_default-wrong_window.ensures in
    let below_13 : IsMetBelow p 13 = met_below_next p PlayedInTime below_12 c.in_default-wrong_playout.ensures in
    let below_14 : IsMetBelow p 14 = met_below_next p SequenceNumbers below_13 c.in_default-wrong_numbers.ensures in
    let below_15 : IsMetBelow p 15 = met_below_next p BufferRoom below_14 c.in_default-wrong_room.ensures in
    good_from_met p below_15

pub at-requires : goal.at-requires
at-requires c = flow_place c.args.plan.now _ c.requires c.in-Some.ensures.in_range

pub at-requires-in-Some-wrong_window : goal.at-requires-in-Some-wrong_window
at-requires-in-Some-wrong_window c = flow_place c.args.plan.now _ c.requires c.in-Some-wrong_window.ensures.in_range

pub at-requires-in-Some-wrong_playout : goal.at-requires-in-Some-wrong_playout
at-requires-in-Some-wrong_playout c = flow_place c.args.plan.now _ c.requires c.in-Some-wrong_playout.ensures.in_range

pub at-requires-in-Some-wrong_numbers : goal.at-requires-in-Some-wrong_numbers
at-requires-in-Some-wrong_numbers c = flow_place c.args.plan.now _ c.requires c.in-Some-wrong_numbers.ensures.in_range

pub at-requires-in-Some-wrong_room : goal.at-requires-in-Some-wrong_room
at-requires-in-Some-wrong_room c = flow_place c.args.plan.now _ c.requires c.in-Some-wrong_room.ensures.in_range

pub wrong_numbers-requires : goal.wrong_numbers-requires
wrong_numbers-requires c =
    let p = c.args.plan.now in
    let below_10 : IsMetBelow p 10 = met_below_next p SharedOut c.requires (met_at_0 p SharedOut refl (c.shares_out_carriers.ensures.0 c.if-not-shares_out_carriers.false)) in
    let below_11 : IsMetBelow p 11 = met_below_next p PayloadSize below_10 c.in_default.ensures in
    let below_12 : IsMetBelow p 12 = met_below_next p ArrivalWindow below_11 c.in_default-wrong_window.ensures in
    let below_13 : IsMetBelow p 13 = met_below_next p PlayedInTime below_12 c.in_default-wrong_playout.ensures in
    below_13

pub wrong_room-requires : goal.wrong_room-requires
wrong_room-requires c =
    let p = c.args.plan.now in
    let below_10 : IsMetBelow p 10 = met_below_next p SharedOut c.requires (met_at_0 p SharedOut refl (c.shares_out_carriers.ensures.0 c.if-not-shares_out_carriers.false)) in
    let below_11 : IsMetBelow p 11 = met_below_next p PayloadSize below_10 c.in_default.ensures in
    let below_12 : IsMetBelow p 12 = met_below_next p ArrivalWindow below_11 c.in_default-wrong_window.ensures in
    let below_13 : IsMetBelow p 13 = met_below_next p PlayedInTime below_12 c.in_default-wrong_playout.ensures in
    let below_14 : IsMetBelow p 14 = met_below_next p SequenceNumbers below_13 c.in_default-wrong_numbers.ensures in
    below_14

-- The control word of a frame that is not missed is the one that was sent.
use Rattle.std.proofs.Common.{◌≡◌, ℕ, false, List, Some, None, sym, ap, ◌∙◌}
use Rattle.std.proofs.lemmas.Bool.{cond-false}
use Rattle.carrier_plan.specs.declared.plan.Plan.{Plan}
use Rattle.link_base.specs.Record.{Record}
use Rattle.link_receiver.specs.Containers.{control_by, control_in, control_of_frame}
use Rattle.link_receiver.specs.Received.{is_missed, is_missed_by}
use Rattle.link_sender.specs.Stream.{Stream}
use Rattle.plan_checker.specs.Rules.{IsGood}
use Rattle.plan_checker.specs.WordSize.{word_size}
use Rattle.roe_mappers.specs.Laws.{PartsAreGivenBack}
use Rattle.roe_mappers.specs.Parts.{part_control}
use Rattle.link_run_delay.specs.ControlIsSent.{ControlIsSent, sent_word}
use Rattle.link_run_delay.specs.Delay.{AreFresh, IsPlain}
use Rattle.link_run_delay.proofs.CarriedFrames.{given_back}
use Rattle.link_run_delay.proofs.CarryingFlows.{HasControlFlow, control_flow}
use Rattle.link_run_delay.proofs.SampleValues.{IsKept, kept_if_not_missed}

module _ (law : PartsAreGivenBack) (p : Plan) (h : ℕ) (σ : Stream) (records : List Record) (n : ℕ) (good : IsGood p) (plain : IsPlain p) (fresh : AreFresh p h σ records) (has : HasControlFlow p) (kept : is_missed p has.flow h records n ≡ false) where
  abbrev part : IsKept p σ has.flow h records n
  part = kept_if_not_missed law p h σ records good plain fresh has.flow has.listed n kept

  control_is : control_of_frame p h records n ≡ Some (sent_word (word_size p.option) σ n)
  unfolding control_of_frame
  control_is =
      let octets = part.part in
      let not_missed : is_missed_by p n (Some octets) ≡ false = ap (is_missed_by p n) (sym part.received) ∙ kept in
      let back = given_back law p σ has.flow n octets good has.listed part.carries in
      ap (control_in p h records n) has.found
      ∙ ap (control_by p n) part.received
      ∙ cond-false (is_missed_by p n (Some octets)) None (Some (part_control p octets)) not_missed
      ∙ ap Some (back.control has.control ∙ part.carries.is_frame.control)

pub ControlIsSent-holds : PartsAreGivenBack → ControlIsSent
ControlIsSent-holds law p h σ records n good plain stream unaltered fresh heard =
    let has = control_flow p good in
    control_is law p h σ records n good plain fresh has (heard has.flow has.listed has.control)

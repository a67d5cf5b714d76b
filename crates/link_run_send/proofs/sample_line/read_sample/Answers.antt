use Rattle.std.proofs.Common.{rules, w32, FitsSigned, ◌∙◌}
use Rattle.std.proofs.lemmas.Int.{to_z-of_z}
use Rattle.link_run_send.proofs.SampleNumbers.{sample_is, no_sample_is}
use Rattle.link_run_send.proofs.sample_line.read_sample.Goals as goal

pub returns-in_err-i : goal.returns-in_err-i
returns-in_err-i c = c.from_residual.ensures ∙ no_sample_is c.args.line.now c.in_err-i.ensures.none

pub returns : goal.returns
returns c =
    let i_fits : FitsSigned w32 c.in_ok-i.i = search rules in
    let q_fits : FitsSigned w32 c.in_ok-i.q = search rules in
    rw (to_z-of_z w32 c.in_ok-i.i i_fits, to_z-of_z w32 c.in_ok-i.q q_fits) (sample_is c.args.line.now c.in_ok-i.i c.in_ok-i.q i_fits q_fits c.in_ok-i.ensures.some)

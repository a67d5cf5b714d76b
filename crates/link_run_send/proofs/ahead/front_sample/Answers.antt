use mir.Val.{of_z, to_z}
use Rattle.std.proofs.Common.{rules, All, [], ◌∷◌, w32, FitsSigned, sym}
use Rattle.std.proofs.lemmas.Int.{to_z-of_z}
use Rattle.sample_bits.specs.Samples.{IsWithin}
use Rattle.link_run_send.proofs.NextSamples.{one_within}
use Rattle.link_run_send.proofs.SampleNumbers.{sample_is}
use Rattle.link_run_send.proofs.ahead.front_sample.Goals as goal

pub returns-in-None : goal.returns-in-None
returns-in-None c =
    let pair = c.in_ok-pair.pair in
    let i_fits : FitsSigned w32 pair.first = search rules in
    let q_fits : FitsSigned w32 pair.second = search rules in
    let front = c.in_ok-pair.ensures in
    let all : All (IsWithin c.args.width) (record { i = to_z w32 (of_z w32 pair.first); q = to_z w32 (of_z w32 pair.second) } ∷ []) = c.in-None.ensures in
    let within = rw (to_z-of_z w32 pair.first i_fits, to_z-of_z w32 pair.second q_fits) at all in
    rw (to_z-of_z w32 pair.first i_fits, to_z-of_z w32 pair.second q_fits)
    (record {
      within = front.within;
      line = front.line;
      at = front.at;
      gives = sym (sample_is _ pair.first pair.second i_fits q_fits front.pair);
      fits = one_within c.args.width _ within;
    })

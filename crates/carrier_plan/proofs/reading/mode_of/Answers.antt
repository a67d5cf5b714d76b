use Rattle.std.proofs.Common.{ap, sym, ◌∙◌}
use Rattle.toml.specs.Data.{string}
use Rattle.toml.specs.View.{view}
use Rattle.toml.proofs.Views.{view-String}
use Rattle.carrier_plan.specs.Keys.{mode_of}
use Rattle.carrier_plan.proofs.Texts.{unknown_mode}
use Rattle.carrier_plan.proofs.reading.mode_of.Goals as goal

pub returns-in_default-as_str : goal.returns-in_default-as_str
returns-in_default-as_str c =
    let seen = ap view c.in-String.is ∙ view-String c.in-String.name ∙ ap string (sym c.as_str.ensures.value) in
    sym (ap (mode_of c.args.spot) seen ∙ unknown_mode c.args.spot c.as_str.result.now c.in_default-as_str.not-tunnel c.in_default-as_str.not-bytes c.in_default-as_str.not-aware)

use Rattle.std.proofs.Common.{◌∙◌, ◌+◌, ◌-◌, ◌≤◌, ◌++◌, length, take, drop, ap, arith, length-drop}
use Rattle.std.proofs.lemmas.List.{length-take}
use Rattle.link_run_entries.proofs.Laying.{take-stored}
use Rattle.link_run_entries.proofs.store.store.Goals as goal

pub returns : goal.returns
returns g c count few =
    let octets = c.args.octets.now in
    let at = c.args.at in
    let len = c.copy_from_slice.ensures.len in
    let room : at + g.row.N ≤ length octets = c.requires in
    let short : count ≤ g.row.N = few in
    let within : count ≤ length c.copy_from_slice.new.self = omega (arith, len, length-take (at + g.row.N - at) (drop at octets), length-drop at octets) in
    take-stored at count octets c.copy_from_slice.new.self _ (omega arith) within
    ∙ ap (λ t. take at octets ++ take count t) c.copy_from_slice.ensures.after

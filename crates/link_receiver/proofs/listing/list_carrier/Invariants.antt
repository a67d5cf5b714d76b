use Rattle.std.proofs.Common.{◌≡◌, ◌+◌, ◌≤◌, ◌++◌}
use Rattle.std.specs.Vec.{vec_capacity, vec_len}
use Rattle.link_receiver.specs.Runs.{entries_of_run}
use Rattle.link_receiver.proofs.listing.list_carrier.Given as goal

-- the entries of the first samples are appended
abbrev pub invariant-loop-i : goal.invariant-loop-i
invariant-loop-i l =
    (l.entries.items ≡ l.initial.entries.items ++ entries_of_run l.tick l.c l.kept.number l.kept.marks l.kept.samples.items l.i)
    × (vec_len l.entries ≡ vec_len l.initial.entries + l.i) × (vec_capacity l.initial.entries ≤ vec_capacity l.entries)

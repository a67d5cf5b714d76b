use Rattle.std.proofs.Common.{◌≡◌, ◌*◌, ◌≤◌, take}
use Rattle.std.specs.Vec.{vec_capacity, vec_len}
use Rattle.link_receiver.specs.Runs.{entries_from}
use Rattle.link_receiver.proofs.listing.list_carriers.Given as goal

-- the entries of the first carriers are there
abbrev pub invariant-loop-c : goal.invariant-loop-c
invariant-loop-c l =
    (l.entries.items ≡ entries_from l.tick 0 (take l.c l.carriers)) × (vec_len l.entries ≤ 32 * l.c) × (vec_capacity l.initial.entries ≤ vec_capacity l.entries)

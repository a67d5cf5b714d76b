use Rattle.std.proofs.Common.{◌-◌, ◌^◌}
use Rattle.ethernet_channel.specs.Bits.{low_bits, octet_bits}
use Rattle.ethernet_channel.proofs.Runs.{Goes}
use Rattle.ethernet_channel.proofs.reader.FastReader.hunt_octet.Given as goal

abbrev pub invariant-loop-place : goal.invariant-loop-place
invariant-loop-place l = Goes l.fn.self l.self l.found (octet_bits l.fn.octet) (low_bits (8 - l.place) l.rest) (2 ^ l.place)

use Rattle.std.proofs.Common.{◌-◌, List, Bool, drop}
use Rattle.hdlc_channel.specs.Bits.{octet_bits}
use Rattle.hdlc_channel.specs.Reader.{StandsFor}
use Rattle.hdlc_channel.proofs.Octets.{TakenSo}
use Rattle.hdlc_channel.proofs.slow_reader.SlowReader.push_bits.Given as goal

abbrev pub invariant-loop-place : goal.invariant-loop-place
invariant-loop-place l = (bits : List Bool) → StandsFor l.initial.self bits → TakenSo (drop l.from (octet_bits l.octet)) (l.place - l.from) l.self bits

use Rattle.std.proofs.Common.{◌≡◌, drop}
use Rattle.hdlc_channel.specs.Bits.{bits_of}
use Rattle.hdlc_channel.specs.Fcs.{register_after}
use Rattle.hdlc_channel.proofs.fcs.fcs.Given as goal

abbrev pub invariant-loop-octet : goal.invariant-loop-octet
invariant-loop-octet l = register_after l.register (bits_of (drop l.octet-index l.octets)) ≡ register_after 0xffff (bits_of l.octets)

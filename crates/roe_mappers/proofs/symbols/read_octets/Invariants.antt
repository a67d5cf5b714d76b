use Rattle.std.proofs.Common.{◌≡◌, ◌*◌, ◌≤◌, map, take}
use Rattle.line_code.specs.Decoded.{octet_of}
use Rattle.line_code.specs.Packed.{symbols_in}
use Rattle.roe_mappers.specs.Symbols.{others_in}
use Rattle.roe_mappers.proofs.symbols.read_octets.Given as goal

-- the symbols so far
abbrev pub invariant-loop-group : goal.invariant-loop-group
invariant-loop-group l = record {
  read : take (4 * l.group) l.octets ≡ map octet_of (take (4 * l.group) (symbols_in l.part));
  counted : l.others ≡ others_in (take (4 * l.group) (symbols_in l.part));
  few : l.others ≤ 4 * l.group;
}

use Rattle.std.proofs.Common.{◌≡◌, ◌*◌, length, take, map}
use Rattle.line_code.specs.Packed.{symbols_in}
use Rattle.line_code.specs.Decoded.{octet_of}
use Rattle.link_run_inspect.proofs.reception.control_word.Given as goal

abbrev pub invariant-loop-group : goal.invariant-loop-group
invariant-loop-group l = record {
  items : l.word.items ≡ map octet_of (take (4 * l.group) (symbols_in l.octets));
  few : length l.word.items ≡ 4 * l.group;
}

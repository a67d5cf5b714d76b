use Rattle.std.proofs.Common.{◌≡◌, map}
use Rattle.std.specs.List.{range_with_len}
use Rattle.control_words.specs.ControlWord.{octet_of}
use Rattle.control_words.proofs.write.control_word.Given as goal

-- the octets before y are written
abbrev pub invariant-loop-y : goal.invariant-loop-y
invariant-loop-y g l = l.word.items ≡ map (octet_of l.place.x l.place.z l.place.bfn l.a l.managed) (range_with_len 0 l.y)
